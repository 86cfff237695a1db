-- Runs of small programs that tell a mark of another task than began last.
use Rattle.std.proofs.Common.{◌≡◌, ℕ, ◌<◌, List, [], ◌∷◌, Some, None, arith, refl, subst}
use Rattle.fram_ram.specs.Memories.{has_word}
use Rattle.word_isa.specs.Decoding.{decoded}
use Rattle.word_isa.specs.Marks.{mark_at}
use Rattle.word_isa.specs.declared.mark.MarkKind.TheVariants as mark
use Rattle.word_machine.specs.Events.{event_next, stepped_next}
use Rattle.word_machine.specs.Step.{exec, fail, step}
use Rattle.task_marks.specs.Small.{begin_of_one, copying, looking, of_two, small_run}
use Rattle.task_marks.specs.Told.{AtTheirTasks, marks_in, marks_on}

other_task : (a b : ℕ) → a < b → Some a ≡ Some b → ⊥
other_task a b low is =
    let same : a ≡ b = cc is in
    absurd (omega (arith, low, same))

look_told : (values : ℕ → List ℕ) (fram : List ℕ) → small_run looking (begin_of_one ∷ of_two mark.Look 1 ∷ []) values fram 2 ≡ begin_of_one ∷ begin_of_one ∷ of_two mark.Look 1 ∷ []
unfolding decoded event_next stepped_next exec fail step mark_at marks_in marks_on
look_told values fram = refl

copy_told : (values : ℕ → List ℕ) (fram : List ℕ) → small_run copying (begin_of_one ∷ of_two mark.Copy 2 ∷ []) values fram 4 ≡ begin_of_one ∷ begin_of_one ∷ of_two mark.Copy 2 ∷ []
unfolding decoded event_next stepped_next exec fail step mark_at marks_in marks_on has_word
copy_told values fram = refl

pub wrong_look : (values : ℕ → List ℕ) (fram : List ℕ) → AtTheirTasks None (small_run looking (begin_of_one ∷ of_two mark.Look 1 ∷ []) values fram 2) → ⊥
wrong_look values fram h =
    let told = subst (AtTheirTasks None) (look_told values fram) h in
    other_task 1 2 (omega arith) told.1.1.0

pub wrong_copy : (values : ℕ → List ℕ) (fram : List ℕ) → AtTheirTasks None (small_run copying (begin_of_one ∷ of_two mark.Copy 2 ∷ []) values fram 4) → ⊥
wrong_copy values fram h =
    let told = subst (AtTheirTasks None) (copy_told values fram) h in
    other_task 1 2 (omega arith) told.1.1.0

pub early_mark : AtTheirTasks None (of_two mark.Commit 0 ∷ []) → ⊥
early_mark h = absurd (cc h.0)
