-- An image of one HALT is sound for no program: it halts where the first task is next (`ends`).
use Rattle.std.proofs.Common.{◌≡◌, ℕ, List, [], ◌∷◌, refl, subst}
use Rattle.devices.specs.Journal.{Journal, Place}
use Rattle.devices.specs.Reading.{values_in}
use Rattle.devices.specs.declared.event.RunEnd.TheVariants as ended
use Rattle.power_trace.specs.Report.{place_in}
use Rattle.sound_images.specs.Sound.{IsSound}
use Rattle.task_ast.specs.declared.core_form.Core.{Core}
use Rattle.task_attempts.specs.Sound.{AllEndWell}
use Rattle.word_isa.specs.Decoding.{decoded}
use Rattle.word_isa.specs.declared.image.Image.{Image}
use Rattle.word_isa.specs.declared.mark.Mark.{Mark}
use Rattle.word_isa.specs.declared.parts.Scheme.{Scheme}
use Rattle.word_machine.specs.Events.{event_next, stepped_next}
use Rattle.word_machine.specs.Runs.{boots, journal, last_ending, numbered, steps_done, total_steps}
use Rattle.word_machine.specs.State.{program_of, start}
use Rattle.word_machine.specs.Step.{exec, fail, step}
use Rattle.wrong_images.proofs.Worlds.{brief_within, lasting}

-- HALT
abbrev pub halt : List ℕ
halt = 16777216 ∷ []

abbrev pub journal_by : (code : List ℕ) → (marks : List Mark) → (steps : ℕ) → (ℕ → Place) → (fram : List ℕ) → Journal
journal_by code marks steps place_of fram = journal place_of (program_of code marks (values_in (lasting steps).feeds)) (lasting steps).power (start fram)

-- it halts in its first step
pub halts : (place_of : ℕ → Place) (fram : List ℕ)
    → journal_by halt [] 2 place_of fram ≡ record { boots = record { begun_at = 0; events = [] } ∷ []; steps = 1; ending = ended.Halted }
unfolding decoded event_next stepped_next boots last_ending numbered steps_done total_steps exec fail step values_in
halts place_of fram = refl

-- so a task is next where it halts
pub halting_isn't_sound : (c : Core) (scheme : Scheme) (i : Image) → i.code ≡ halt → i.marks ≡ [] → IsSound c scheme i → ⊥
halting_isn't_sound c scheme i code marks sound =
    let ends = (sound.runs (lasting 2) brief_within).keeps.ends in
    let by_code = subst (λ code. let j = journal_by code i.marks 2 (place_in i) i.fram in AllEndWell 1 j.steps j.boots j.ending) code ends in
    let by_marks = subst (λ marks. let j = journal_by halt marks 2 (place_in i) i.fram in AllEndWell 1 j.steps j.boots j.ending) marks by_code in
    subst (λ j. AllEndWell 1 j.steps j.boots j.ending) (halts (place_in i) i.fram) by_marks
