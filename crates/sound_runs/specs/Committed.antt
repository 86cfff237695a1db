-- The states that a machine has behind its commits, and those that the plan's run has there.
use Rattle.std.specs.Prelude.{List, [], ◌∷◌, ◌++◌, ◌≡◌, ℕ, zero, suc, ⊤, Option, Some, None, if◌then◌else◌}
use Rattle.devices.specs.declared.event.Event.{Event}
use Rattle.devices.specs.declared.event.Event.TheVariants.{Begin, Look, Kept, Dropped, Issued, Sealed, Copied, Commit}
use Rattle.devices.specs.declared.world.PowerRow.{PowerRow}
use Rattle.task_attempts.specs.State.{Rules}
use Rattle.walk_run.specs.declared.walked.State as walked
use Rattle.word_isa.specs.declared.parts.Scheme.{Scheme}
use Rattle.word_machine.specs.Events.{event_next}
use Rattle.word_machine.specs.Runs.{fail_behind, is_running}
use Rattle.word_machine.specs.State as machine
use Rattle.word_machine.specs.State.{Program}
use Rattle.word_machine.specs.Step.{exec, step}
use Rattle.run_plan.specs.Cells.{State}
use Rattle.run_plan.specs.Runs.{committed_words}
use Rattle.code_cuts.specs.Lasting.{Lasts}

-- ---- on the machine

-- the next task that an event commits to, with the machine's state behind its step
abbrev pub commit_in : Option Event → machine.State → List (ℕ × machine.State)
commit_in None e = []
commit_in (Some (Begin task)) e = []
commit_in (Some (Look site time)) e = []
commit_in (Some (Kept site value)) e = []
commit_in (Some (Dropped site)) e = []
commit_in (Some (Issued site peripheral args reading)) e = []
commit_in (Some (Sealed site)) e = []
commit_in (Some (Copied site from to words)) e = []
commit_in (Some (Commit next)) e = (next, e) ∷ []

-- those of so many steps
unfoldable pub commits_in : Program → ℕ → machine.State → List (ℕ × machine.State)
commits_in p zero e = []
commits_in p (suc n) e = commit_in (event_next p e) (step p e) ++ commits_in p n (step p e)

-- those of all boots
unfoldable pub committed_on : Program → List PowerRow → machine.State → List (ℕ × machine.State)
committed_on p [] e = []
committed_on p (row ∷ rows) e =
    commits_in p row.on e ++ (if is_running (exec p row.on e).ending then committed_on p rows (fail_behind row (exec p row.on e)) else [])

-- ---- and in the plan's run

-- FRAM and the counts of issues stand for a state of the plan whose next task and committed words are these
pub record IsCommitted (p : Program) (rules : Rules) (scheme : Scheme) (next : ℕ) (e : machine.State) (w : walked.State) : Type 0 where
  pub told : w.next ≡ next
  pub state : State
  pub lasts : Lasts p rules scheme e state
  pub words : committed_words scheme rules.core state ≡ w.words

-- so it is of each, in order
abbrev pub AreCommitted : Program → Rules → Scheme → List (ℕ × machine.State) → List walked.State → Type 0
AreCommitted p rules scheme [] [] = ⊤
AreCommitted p rules scheme [] (w ∷ ws) = ⊥
AreCommitted p rules scheme (x ∷ xs) [] = ⊥
AreCommitted p rules scheme (x ∷ xs) (w ∷ ws) = IsCommitted p rules scheme x.0 x.1 w × AreCommitted p rules scheme xs ws
