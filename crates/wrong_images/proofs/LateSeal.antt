-- An image that idles for twelve steps between an issue and its seal is sound for no program: the seal comes too late (`sealed`).
use Rattle.std.proofs.Common.{◌≡◌, ℕ, zero, suc, ◌≤◌, List, [], ◌∷◌, arith, refl, subst}
use Rattle.devices.specs.Journal.{Place, begins, issues, seals}
use Rattle.devices.specs.Reading.{reading, values_in}
use Rattle.devices.specs.declared.event.RunEnd.TheVariants as ended
use Rattle.fram_ram.specs.Memories.{has_word}
use Rattle.power_trace.specs.Report.{place_in}
use Rattle.sound_images.specs.Sound.{IsSound}
use Rattle.task_ast.specs.declared.core_form.Core.{Core}
use Rattle.task_attempts.specs.Sound.{AllSealed, ends_from}
use Rattle.task_marks.specs.Small.{begin_of_one}
use Rattle.word_isa.specs.Decoding.{decoded}
use Rattle.word_isa.specs.Marks.{mark_at}
use Rattle.word_isa.specs.declared.image.Image.{Image}
use Rattle.word_isa.specs.declared.mark.Mark.{Mark}
use Rattle.word_isa.specs.declared.mark.MarkKind.{MarkKind}
use Rattle.word_isa.specs.declared.mark.MarkKind.TheVariants as mark
use Rattle.word_isa.specs.declared.parts.Scheme.{Scheme}
use Rattle.word_machine.specs.Events.{event_next, stepped_next}
use Rattle.word_machine.specs.Runs.{boots, last_ending, numbered, steps_done, total_steps}
use Rattle.word_machine.specs.Step.{exec, fail, step}
use Rattle.wrong_images.proofs.Halting.{journal_by}
use Rattle.wrong_images.proofs.Worlds.{lasting, some_within}

-- MOV r3 r3, so often
abbrev idle_before : ℕ → List ℕ → List ℕ
idle_before zero rest = rest
idle_before (suc n) rest = 0x0433_0000 ∷ idle_before n rest

-- LDI r1 1, IO r1 r2 0, twelve times MOV r3 r3, ST r1 r2 0, HALT
abbrev pub waiting : List ℕ
waiting = 0x0210_0001 ∷ 0x1612_0000 ∷ idle_before 12 (0x1312_0000 ∷ 0x0100_0000 ∷ [])

abbrev of_one : MarkKind → (at : ℕ) → Mark
of_one kind at = record { at = at; kind = kind; site = 1; task = 1 }

abbrev pub its_marks : List Mark
its_marks = begin_of_one ∷ of_one mark.Issue 1 ∷ of_one mark.Seal 14 ∷ []

-- it issues in its second step, and seals thirteen steps later
pub seals_late : (place_of : ℕ → Place) (fram : List ℕ)
    → journal_by waiting its_marks 20 place_of fram ≡ record {
      boots = record { begun_at = 0; events = (1, begins 1) ∷ (2, issues 1 0 [] 0) ∷ (15, seals 1) ∷ [] } ∷ [];
      steps = 16;
      ending = ended.Halted;
    }
unfolding decoded event_next stepped_next mark_at has_word reading boots last_ending numbered steps_done total_steps exec fail step values_in
seals_late place_of fram = refl

pub late_seal_isn't_sound : (c : Core) (scheme : Scheme) (i : Image) → i.code ≡ waiting → i.marks ≡ its_marks → IsSound c scheme i → ⊥
late_seal_isn't_sound c scheme i code marks sound =
    let sealed = (sound.runs (lasting 20) some_within).keeps.sealed in
    let by_code = subst (λ code. let j = journal_by code i.marks 20 (place_in i) i.fram in AllSealed c j.boots (ends_from j.boots j.steps)) code sealed in
    let by_marks = subst (λ marks. let j = journal_by waiting marks 20 (place_in i) i.fram in AllSealed c j.boots (ends_from j.boots j.steps)) marks by_code in
    let h = subst (λ j. AllSealed c j.boots (ends_from j.boots j.steps)) (seals_late (place_in i) i.fram) by_marks in
    let far : 15 ≤ 14 = h.0.1.0.1 in
    omega (arith, far)
