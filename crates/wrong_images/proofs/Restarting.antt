-- An image that begins its task again and again is not sound: behind the first begin the rules expect a commit (`legal`).
use Rattle.std.proofs.Common.{◌≡◌, ℕ, List, [], ◌∷◌, refl, subst}
use Rattle.devices.specs.Journal.{Place, begins}
use Rattle.devices.specs.Reading.{values_in}
use Rattle.devices.specs.declared.event.RunEnd.TheVariants as ended
use Rattle.power_trace.specs.Report.{place_in}
use Rattle.sound_images.specs.Sound.{IsSound}
use Rattle.task_ast.specs.declared.core_form.CoreExit.TheBlock.{hidden-the_row-CoreExit-0, shape-the_row-CoreExit-0}
use Rattle.task_attempts.specs.Boots.{boot_log, boots_from, rules_of}
use Rattle.task_attempts.specs.Sound.{IsLegal}
use Rattle.task_marks.specs.Small.{begin_of_one}
use Rattle.word_isa.specs.Decoding.{decoded}
use Rattle.word_isa.specs.Marks.{mark_at}
use Rattle.word_isa.specs.declared.image.Image.{Image}
use Rattle.word_isa.specs.declared.parts.Scheme.{Scheme}
use Rattle.word_machine.specs.Events.{event_next, stepped_next}
use Rattle.word_machine.specs.Runs.{boots, last_ending, numbered, steps_done, total_steps}
use Rattle.word_machine.specs.Step.{exec, fail, step}
use Rattle.wrong_images.proofs.Halting.{journal_by}
use Rattle.wrong_images.proofs.Idling.{stopping}
use Rattle.wrong_images.proofs.Worlds.{lasting, some_within}
use denote.Hole.Carrier.{hidden}

-- LDI r1 1, JMP 0
abbrev pub restarting : List ℕ
restarting = 0x0210_0001 ∷ 0x1400_0000 ∷ []

-- it begins task 1 in every second step
pub restarts : (place_of : ℕ → Place) (fram : List ℕ)
    → journal_by restarting (begin_of_one ∷ []) 20 place_of fram ≡ record {
      boots = record {
        begun_at = 0;
        events = (1, begins 1) ∷ (3, begins 1) ∷ (5, begins 1) ∷ (7, begins 1) ∷ (9, begins 1) ∷ (11, begins 1) ∷ (13, begins 1) ∷ (15, begins 1) ∷ (17, begins 1) ∷ (19, begins 1) ∷ [];
      } ∷ [];
      steps = 20;
      ending = ended.Power;
    }
unfolding decoded event_next stepped_next mark_at boots last_ending numbered steps_done total_steps exec fail step values_in
restarts place_of fram = refl

pub restarting_isn't_sound : (scheme : Scheme) (i : Image) → i.code ≡ restarting → i.marks ≡ begin_of_one ∷ [] → IsSound stopping scheme i → ⊥
unfolding hidden-the_row-CoreExit-0 shape-the_row-CoreExit-0 hidden stopping boots_from boot_log
restarting_isn't_sound scheme i code marks sound =
    let rules = rules_of stopping (lasting 20) in
    let by_code = subst (λ code. IsLegal rules (journal_by code i.marks 20 (place_in i) i.fram)) code (sound.runs (lasting 20) some_within).keeps.legal in
    let by_marks = subst (λ marks. IsLegal rules (journal_by restarting marks 20 (place_in i) i.fram)) marks by_code in
    let h = subst (λ j. IsLegal rules j) (restarts (place_in i) i.fram) by_marks in
    absurd (cc h.expected)
