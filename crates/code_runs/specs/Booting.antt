-- Where a boot's code lies, which restores a task's regions and comes to its attempt.
use Rattle.std.specs.Prelude.{List, ◌≡◌, ◌≤◌, ℕ, ◌+◌, length, map, Option, Some, None, ⊤}
use Rattle.devices.specs.Journal.{Place}
use Rattle.devices.specs.declared.event.Event.TheVariants as event
use Rattle.region_split.specs.Regions.{regions}
use Rattle.task_ast.specs.declared.core_form.CoreTask.{CoreTask}
use Rattle.task_attempts.specs.Boots.{task_of}
use Rattle.word_isa.specs.declared.instr.Instr.TheVariants.{Halt}
use Rattle.word_machine.specs.Events.{event_next}
use Rattle.word_machine.specs.State as machine
use Rattle.word_machine.specs.State.{Program}
use Rattle.word_machine.specs.Step.{exec}
use Rattle.word_machine.specs.Straight.{Stand}
use Rattle.word_machine.specs.declared.ending.Ending.TheVariants.{Running, Halted}
use Rattle.line_laws.specs.Standing.{Lie}
use Rattle.run_plan.specs.declared.act.Act.TheVariants as act
use Rattle.run_plan.specs.Runs.{Planned, doing}
use Rattle.word_code.specs.Acts.{jump}
use Rattle.word_code.specs.Frames.{halt_at, stride}
use Rattle.word_code.specs.Heads.{boot_at, head_code}
use Rattle.word_code.specs.Sizes.{acts_size}
use Rattle.act_refines.specs.Does.{frame_of}
use Rattle.code_cuts.specs.Lasting.{Lasts}
use Rattle.code_runs.specs.Attempts.{RegionsRun}
use Rattle.code_runs.specs.Claims.{Common}
use Rattle.code_runs.specs.Stubs.{TaskRuns}

-- a task's boot stub jumps to what restores its regions, behind which its attempt stands
pub record BootRuns (p : Program) (place_of : ℕ → Place) (x : Planned) (number : ℕ) (t : CoreTask) : Type 0 where
  pub rs : List ℕ
  pub top : ℕ
  pub planned : x.plan.boot ≡ map act.Restore rs
  pub long : length (doing x number t).firsts ≡ regions t
  pub stub : Lie p (boot_at (length x.rules.core.tasks) number) (jump top)
  pub attempt : TaskRuns p place_of x number t
  pub behind : attempt.top ≡ top + acts_size (frame_of (doing x number t) number) (map act.Restore rs)
  pub runs : RegionsRun p place_of (doing x number t) number (Lasts p x.rules x.plan.scheme) (Common p place_of x.rules x.plan.scheme number) rs top attempt.top

abbrev pub BootIfThere : Program → (ℕ → Place) → Planned → (number : ℕ) → Option CoreTask → Type 0
BootIfThere p place_of x number None = ⊤
BootIfThere p place_of x number (Some t) = BootRuns p place_of x number t

-- the head, and the boot of each task; the halt stands where the head goes where no task is next
pub record AllBootsRun (p : Program) (place_of : ℕ → Place) (x : Planned) : Type 0 where
  pub head : Lie p 0 (head_code (stride x.plan.scheme) (length x.rules.core.tasks))
  pub halt : Stand p (halt_at (length x.rules.core.tasks)) Halt
  pub boots : (number : ℕ) → number ≤ length x.rules.core.tasks → BootIfThere p place_of x number (task_of x.rules.core number)

-- a machine that shows the commit behind which no task is next halts soon
abbrev pub StopsSoon : Program → Type 0
StopsSoon p = (e : machine.State) → e.ending ≡ Running → event_next p e ≡ Some (event.Commit 0) → (exec p 33 e).ending ≡ Halted
