-- Stubs: where a commit leads, to the next task's attempt or to the end.
use Rattle.std.specs.Prelude.{[], ℕ, suc, Option, Some, None, length, ◌≤◌}
use Rattle.devices.specs.Journal.{Place}
use Rattle.task_ast.specs.declared.core_form.CoreTask.{CoreTask}
use Rattle.task_attempts.specs.Boots.{task_of}
use Rattle.word_isa.specs.declared.instr.Instr.TheVariants.{Halt}
use Rattle.word_machine.specs.State.{Program}
use Rattle.word_machine.specs.Straight.{Stand}
use Rattle.line_laws.specs.Standing.{Lie}
use Rattle.run_plan.specs.Runs.{Onward, Planned, acts_run, at_task, doing, nothing}
use Rattle.word_code.specs.Acts.{jump}
use Rattle.word_code.specs.Frames.{stub_at}
use Rattle.code_cuts.specs.Lasting.{Lasts}
use Rattle.code_runs.specs.Attempts.{LeadsFirst}
use Rattle.code_runs.specs.Claims.{Common}
use Rattle.code_runs.specs.Following.{LeadsAgain}

-- The attempts of a task of a number lead on from an address: where each commit leads to the next attempt, cut anywhere.
abbrev pub AttemptLeads : Program → (ℕ → Place) → Planned → (number : ℕ) → CoreTask → (top : ℕ) → Type 0
AttemptLeads p place_of x number t top =
    (most : ℕ) (again : Onward) → LeadsAgain p place_of (doing x number t) (Lasts p x.rules x.plan.scheme) (Common p place_of x.rules x.plan.scheme) most again
    → LeadsFirst p place_of (doing x number t) (Lasts p x.rules x.plan.scheme) (Common p place_of x.rules x.plan.scheme number) (suc most) top (acts_run (doing x number t) again (at_task x.plan.tasks number []) nothing)

-- a task's stub jumps to where its attempts lead on
pub record TaskRuns (p : Program) (place_of : ℕ → Place) (x : Planned) (number : ℕ) (t : CoreTask) : Type 0 where
  pub top : ℕ
  pub stub : Lie p (stub_at (length x.rules.core.tasks) number) (jump top)
  pub leads : AttemptLeads p place_of x number t top

-- where there is no task, the machine halts
abbrev pub StubRuns : Program → (ℕ → Place) → Planned → (number : ℕ) → Option CoreTask → Type 0
StubRuns p place_of x number None = Stand p (stub_at (length x.rules.core.tasks) number) Halt
StubRuns p place_of x number (Some t) = TaskRuns p place_of x number t

-- the stubs of all tasks, and of the end
abbrev pub AllStubsRun : Program → (ℕ → Place) → Planned → Type 0
AllStubsRun p place_of x = (number : ℕ) → number ≤ length x.rules.core.tasks → StubRuns p place_of x number (task_of x.rules.core number)
