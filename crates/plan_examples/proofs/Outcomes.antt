-- What is compared of a plan's run and of the rules of attempts: the events of each boot, and the states behind commits.
use Rattle.std.specs.Prelude.{ℕ, List, map, flat_map}
use Rattle.walk_run.specs.declared.walked.State.{State}
use Rattle.devices.specs.Journal.{JournalEvent}
use Rattle.word_isa.specs.declared.parts.Scheme.{Scheme}
use Rattle.task_attempts.specs.State.{Rules}
use Rattle.run_plan.specs.PlanOf.{plan_of}
use Rattle.run_plan.specs.Runs.{Planned, plan_run, event_weights, commit_states}
use Rattle.run_plan.specs.Sound.{shown}

-- what a run of the plan of a program goes by
abbrev pub planned : Rules → Scheme → Planned
planned rules scheme = record { rules = rules; plan = plan_of rules.core scheme }

-- the events of each boot, and the states behind commits
pub record Outcome : Type 0 where
  pub events : List (List JournalEvent)
  pub states : List State

-- those of a plan's run
abbrev pub plan_outcome : Rules → Scheme → (numbers times : List ℕ) → Outcome
plan_outcome rules scheme numbers times =
    let p = planned rules scheme in
    let run = plan_run p numbers times in
    record { events = shown run; states = flat_map (commit_states p) run }

-- the weights begun up to each event
abbrev pub plan_weights : Rules → Scheme → (numbers times : List ℕ) → List (List ℕ)
plan_weights rules scheme numbers times = map event_weights (plan_run (planned rules scheme) numbers times)
