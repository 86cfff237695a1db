-- What steps and power rows add to counts, one after another.
use Rattle.std.specs.Prelude.{ℕ, zero, suc, ◌+◌, ◌≤◌, List, [], ◌∷◌, Some, None, if◌then◌else◌}
use Rattle.devices.specs.declared.event.Event.{Event}
use Rattle.devices.specs.declared.event.Event.TheVariants.{Begin, Look, Kept, Dropped, Issued, Sealed, Copied, Commit}
use Rattle.devices.specs.declared.world.PowerRow.{PowerRow}
use Rattle.soak_run.specs.Counts.{with_boot}
use Rattle.soak_run.specs.declared.counts.Counts.{Counts}
use Rattle.word_machine.specs.Events.{stepped_next}
use Rattle.word_machine.specs.Runs.{is_running, fail_behind}
use Rattle.word_machine.specs.State.{Program, State}
use Rattle.word_machine.specs.Step.{step, exec}
use Rattle.word_machine.specs.declared.stepped.Stepped.{Stepped}
use Rattle.word_machine.specs.declared.stepped.Stepped.TheVariants as stepped

-- an event of a step
abbrev pub with_shown : Event → Counts → Counts
with_shown (Begin task) c = c
with_shown (Look site time) c = c
with_shown (Kept site value) c = record c { kept = c.kept + 1 }
with_shown (Dropped site) c = c
with_shown (Issued site peripheral args reading) c = record c { issued = c.issued + 1 }
with_shown (Sealed site) c = c
with_shown (Copied site from to words) c = record c { copies = c.copies + 1 }
with_shown (Commit next) c = record c { commits = c.commits + 1 }

-- what a step answers
abbrev pub with_told : Stepped → Counts → Counts
with_told (stepped.Ran None) c = c
with_told (stepped.Ran (Some e)) c = with_shown e c
with_told stepped.Halted c = c
with_told (stepped.Trapped code) c = c

-- so many steps; an ended machine adds nothing
unfoldable pub with_steps : Program → (n : ℕ) → State → Counts → Counts
with_steps p zero s c = c
with_steps p (suc n) s c = with_steps p n (step p s) (if is_running s.ending then with_told (stepped_next p s) c else c)

-- power rows, up to the one in which the machine ends
unfoldable pub with_rows : Program → List PowerRow → State → Counts → Counts
with_rows p [] s c = c
with_rows p (row ∷ rows) s c =
    let after = exec p row.on s in
    let told = with_steps p row.on s (with_boot c) in
    if is_running after.ending then with_rows p rows (fail_behind row after) told else told

-- none of what events count is more than so many
pub record AreWithin (most : ℕ) (c : Counts) : Type 0 where
  pub commits : c.commits ≤ most
  pub issued : c.issued ≤ most
  pub kept : c.kept ≤ most
  pub copies : c.copies ≤ most
