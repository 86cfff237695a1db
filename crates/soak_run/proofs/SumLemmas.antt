-- What is counted, the word and the end make the summary of the journal.
use Rattle.std.specs.Prelude.{codes}
use Rattle.std.proofs.Common.{◌≡◌, ◌∙◌, ℕ, List, sym, ap}
use Rattle.devices.specs.Reading.{values_in}
use Rattle.devices.specs.declared.event.RunEnd.{RunEnd}
use Rattle.devices.specs.declared.world.PowerRow.{PowerRow}
use Rattle.devices.specs.declared.world.World.{World}
use Rattle.power_trace.specs.Report.{place_in}
use Rattle.power_trace.specs.Run.{program_in, journal_on}
use Rattle.soak_run.proofs.CountLemmas.{rows_count}
use Rattle.soak_run.specs.Counts.{nothing, with_boots, counts_of}
use Rattle.soak_run.specs.Ends.{last_state, end_on, word_named}
use Rattle.soak_run.specs.Steps.{with_rows}
use Rattle.soak_run.specs.Summary.{summary_text, summary_on}
use Rattle.soak_run.specs.declared.counts.Counts.{Counts}
use Rattle.word_isa.specs.declared.image.Image.{Image}
use Rattle.word_machine.specs.Runs.{boots, end_of, last_ending}
use Rattle.word_machine.specs.State.{Program, State, start}

-- a run of these power rows from this state is that of an image on a world
pub record Runs (image : Image) (world : World) (p : Program) (rows : List PowerRow) (s : State) : Type 0 where
  pub program : p ≡ program_in image (values_in world.feeds)
  pub all : rows ≡ world.power
  pub first : s ≡ start image.fram

pub ending_is : (image : Image) (world : World) (p : Program) (rows : List PowerRow) (s : State) (end : RunEnd) → Runs image world p rows s
    → end ≡ end_of (last_ending p rows s) → end ≡ (journal_on image world).ending
ending_is image world p rows s end runs ended = ended ∙ (λ i. end_of (last_ending (runs.program i) (runs.all i) (runs.first i)))

counts_are : (image : Image) (world : World) (p : Program) (rows : List PowerRow) (s : State) (c : Counts) → Runs image world p rows s
    → c ≡ with_rows p rows s nothing → c ≡ counts_of (journal_on image world)
counts_are image world p rows s c runs counted =
    counted ∙ sym (rows_count (place_in image) p rows 0 s nothing)
    ∙ (λ i. with_boots (boots (place_in image) (runs.program i) (runs.all i) 0 (runs.first i)) nothing)

pub summary_is : (image : Image) (world : World) (p : Program) (rows : List PowerRow) (s last : State) (c : Counts) (n : ℕ) (end : RunEnd) → Runs image world p rows s
    → c ≡ with_rows p rows s nothing → last ≡ last_state p rows s → n ≡ word_named (codes "n") image last.store → end ≡ end_of (last_ending p rows s)
    → summary_text c n end ≡ summary_on image world
summary_is image world p rows s last c n end runs counted stood told ended =
    let counts : c ≡ counts_of (journal_on image world) = counts_are image world p rows s c runs counted in
    let there : last ≡ end_on image world = stood ∙ (λ i. last_state (runs.program i) (runs.all i) (runs.first i)) in
    let word : n ≡ word_named (codes "n") image (end_on image world).store = told ∙ ap (λ (t : State). word_named (codes "n") image t.store) there in
    let over : end ≡ (journal_on image world).ending = ending_is image world p rows s end runs ended in
    λ i. summary_text (counts i) (word i) (over i)
