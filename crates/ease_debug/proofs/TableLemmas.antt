-- The tasks that marks name, by the code addresses of the marks.
use Rattle.std.specs.Prelude.{if◌then◌else◌, ◌==◌, ◌&&◌, slice_index, slice_get}
use Rattle.std.proofs.Common.{◌≡◌, ◌∙◌, ℕ, zero, suc, ◌+◌, ◌-◌, ◌<◌, ◌≤◌, Bool, true, false, All, List, [], ◌∷◌, length, drop, take, replicate, Option, Some, None, refl, sym, ap, subst, get_or, set, arith}
use Rattle.std.proofs.Math.Seq.{drop-cons}
use Rattle.std.proofs.lemmas.Bool.Decides.{nat_tests}
use Rattle.std.proofs.lemmas.List.{get_or-set_same, get_or-set_other}
use Rattle.ease_debug.specs.Session.{task_of}
use Rattle.ease_debug.specs.Stopping.{Names}
use Rattle.std.proofs.lemmas.Bool.{false≢true}
use Rattle.std.proofs.lemmas.Option.{slice_get_within, slice_get-get_or}
use Rattle.word_isa.specs.ImageLaws.{passes_at}
use Rattle.word_isa.specs.Marks.{mark_at, mark_passes, first_bad_mark, stands_at}
use Rattle.word_isa.specs.declared.mark.Mark.{Mark}
use Rattle.word_isa.specs.declared.mark.MarkKind.TheVariants.{Begin}

set_task : (xs : List ℕ) (k x j : ℕ) → k < length xs → slice_index (set xs k x) j ≡ (if k == j then x else slice_index xs j)
set_task xs k x j within = grind (arith, nat_tests, get_or-set_same, get_or-set_other)

first_task : (b : Bool) (m : Mark) (o : Option Mark) → task_of (if b then Some m else o) ≡ (if b then m.task else task_of o)
first_task true m o = refl
first_task false m o = refl

task_more : (m : Mark) (marks : List Mark) (at : ℕ) → task_of (mark_at (m ∷ marks) at) ≡ (if m.at == at then m.task else task_of (mark_at marks at))
unfolding mark_at
task_more m marks at = first_task (m.at == at) m (mark_at marks at)

-- one mark more, in front
pub names_more : (tasks : List ℕ) (m : Mark) (marks : List Mark) → m.at < length tasks → Names tasks marks → Names (set tasks m.at m.task) (m ∷ marks)
names_more tasks m marks within names at =
    set_task tasks m.at m.task at within ∙ ap (λ t. if m.at == at then m.task else t) (names at) ∙ sym (task_more m marks at)

-- an empty table names no task
pub names_none : (tasks : List ℕ) (n : ℕ) (marks : List Mark) → tasks ≡ replicate n 0 → marks ≡ [] → Names tasks marks
unfolding mark_at
names_none tasks n marks made none at =
    ap (λ ts. slice_index ts at) made ∙ zeros n at ∙ ap (λ ms. task_of (mark_at ms at)) (sym none)
  where
    zeros : (n at : ℕ) → slice_index (replicate n 0) at ≡ 0
    zeros zero at = refl
    zeros (suc n) zero = refl
    zeros (suc n) (suc at) = zeros n at

-- what stands where there is no mark
abbrev pub no_mark : Mark
no_mark = record { at = 0; kind = Begin; site = 0; task = 0 }

opens : (marks : List Mark) (k : ℕ) → k < length marks → drop k marks ≡ get_or marks k no_mark ∷ drop (k + 1) marks
opens marks k within = let one : suc k ≡ k + 1 = omega arith in drop-cons marks k no_mark within ∙ ap (λ n. get_or marks k no_mark ∷ drop n marks) one

-- the table with the mark before those that are named
pub names_one : (tasks : List ℕ) (marks : List Mark) (k : ℕ) (m : Mark) → k < length marks → m ≡ get_or marks k no_mark → m.at < length tasks → Names tasks (drop (k + 1) marks) → Names (set tasks m.at m.task) (drop k marks)
names_one tasks marks k m within is below names =
    subst (Names (set tasks m.at m.task)) (ap (λ x. x ∷ drop (k + 1) marks) is ∙ sym (opens marks k within)) (names_more tasks m (drop (k + 1) marks) below names)

-- a mark of an image stands at a word of its code
mark_within : (version : ℕ) (code : List ℕ) (earlier : List Mark) (m : Mark) → mark_passes version code earlier m ≡ true → m.at < length code
unfolding mark_passes
mark_within version code earlier m passes = stands (slice_get code m.at) refl (and_left _ _ (and_left _ _ (and_left _ _ passes)))
  where
    and_left : (x y : Bool) → (x && y) ≡ true → x ≡ true
    and_left true y e = refl
    and_left false y e = cc

    stands : (o : Option ℕ) → slice_get code m.at ≡ o → stands_at m.kind (slice_get code m.at) ≡ true → m.at < length code
    stands None none e = absurd (false≢true (sym (ap (stands_at m.kind) none) ∙ e))
    stands (Some w) some e = slice_get_within code m.at w some

pub marks_within : (version : ℕ) (code : List ℕ) (marks : List Mark) → first_bad_mark version code marks ≡ None → All (λ (m : Mark). m.at < length code) marks
marks_within version code marks passes k d within = mark_within version code (take k marks) (get_or marks k d) (passes_at (mark_passes version code) marks k (get_or marks k d) passes (slice_get-get_or marks k d within))

-- all marks are named
pub drop_none : (done : ℕ) (marks : List Mark) → length marks ≤ done → drop (length marks - done) marks ≡ marks
drop_none done marks all = let none : length marks - done ≡ 0 = omega (arith, all) in ap (λ n. drop n marks) none

pub zeros_long : (tasks : List ℕ) (n : ℕ) → tasks ≡ replicate n 0 → length tasks ≡ n
zeros_long tasks n made = ap (λ (ts : List ℕ). length ts) made ∙ long n
  where
    long : (n : ℕ) → length {A = ℕ} (replicate n 0) ≡ n
    long zero = refl
    long (suc n) = ap suc (long n)

pub tasks_fit : (code : List ℕ) (n : ℕ) (marks : List Mark) {stored : List Mark} → marks ≡ stored → n ≡ length code → All (λ (m : Mark). m.at < length code) stored → All (λ (m : Mark). m.at < n) marks
tasks_fit code n marks same is all k d within = omega (arith, is, subst (λ ms. All (λ (m : Mark). m.at < length code) ms) (sym same) all k d within)
