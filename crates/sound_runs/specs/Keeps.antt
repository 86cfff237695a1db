-- What a journal keeps of the rules without its steps and times, and what is committed behind it.
use Rattle.std.specs.Prelude.{List, ◌≡◌, ℕ, length}
use Rattle.std.specs.List.{AllByRecursion}
use Rattle.devices.specs.Journal.{Journal, Place}
use Rattle.devices.specs.declared.world.PowerRow.{PowerRow}
use Rattle.task_attempts.specs.Boots.{boots, expect}
use Rattle.task_attempts.specs.Journals.{all_events, cuts_of, looks_of}
use Rattle.task_attempts.specs.Sound.{AreWalked, RecordsAgree, TrapIsWalked}
use Rattle.task_attempts.specs.State.{Rules}
use Rattle.walk_run.specs.declared.walked.State as walked
use Rattle.word_machine.specs.Runs.{journal}
use Rattle.word_machine.specs.State.{Program}
use Rattle.word_machine.specs.Straight.{Spot, live}
use Rattle.run_plan.specs.Cells.{State}
use Rattle.run_plan.specs.Runs.{Planned, boots_run, plan_run}
use Rattle.run_plan.specs.Sound.{shown}
use Rattle.sound_runs.specs.Committed.{AreCommitted, committed_on}

-- the machine's boots show what boots of the plan show that have so many small steps
pub record ShowsRun (p : Program) (place_of : ℕ → Place) (x : Planned) (rows : List PowerRow) (m : Spot) (s : State) : Type 0 where
  pub numbers : List ℕ
  pub events : all_events (journal place_of p rows (live m)) ≡ shown (boots_run x numbers s)

-- A journal keeps what the rules say of its events, of what is committed, of its trap and of the records that it follows.
pub record KeepsEvents (rules : Rules) (j : Journal) (states : List walked.State) : Type 0 where
  pub expected : all_events j ≡ expect rules (cuts_of j) (looks_of j)
  pub walked : AreWalked rules.core (all_events j) states
  pub trap : TrapIsWalked rules.core (all_events j) (length states)
  pub agree : AllByRecursion RecordsAgree (boots rules (cuts_of j) (looks_of j))

-- so does a machine's, with the states that it has behind its commits
pub record IsSoundOn (p : Program) (place_of : ℕ → Place) (x : Planned) (rows : List PowerRow) (m : Spot) : Type 0 where
  pub numbers : List ℕ
  pub states : List walked.State
  pub events : all_events (journal place_of p rows (live m)) ≡ shown (plan_run x numbers (looks_of (journal place_of p rows (live m))))
  pub keeps : KeepsEvents x.rules (journal place_of p rows (live m)) states
  pub committed : AreCommitted p x.rules x.plan.scheme (committed_on p rows (live m)) states
