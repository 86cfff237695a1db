-- A part of a task by itself: where it ends, or where and why the run ends within it.
use Rattle.std.specs.Prelude.{ℕ, List, Result, Ok, Err}
use Rattle.task_ast.specs.declared.core_form.CoreStmt.{CoreStmt}
use Rattle.task_ast.specs.declared.core_form.CoreExit.{CoreExit}
use Rattle.task_ast.specs.declared.core_form.CoreTask.{CoreTask}
use Rattle.task_ast.specs.declared.core_form.Core.{Core}
use Rattle.walk_run.specs.declared.walked.EarlyEnd.{EarlyEnd}
use Rattle.walk_run.specs.declared.trap.Trap.{Trap}
use Rattle.walk_run.specs.Store.{Store}
use Rattle.walk_run.specs.Plain.{Ran, done, trapped}
use Rattle.walk_run.specs.Walk.{Onward, statement_walk, body_walk, exit_walk, task_walk}

-- What a part gives, with the store and the readings that it leaves; or why the run ends within it, with the store there.
pub data Outcome (A : Type 0) : Type 0 where
  ended : A → Store → (readings : List ℕ) → Outcome A
  halted : EarlyEnd → Store → Outcome A

-- the outcome of a statement, and of statements one after another
abbrev pub statement_outcome : CoreStmt → Store → List ℕ → Outcome (Unit {0})
statement_outcome s = statement_walk halted s (ended tt)

abbrev pub body_outcome : List CoreStmt → Store → List ℕ → Outcome (Unit {0})
body_outcome body = body_walk halted body (ended tt)

-- the outcome of an exit and of a task, each of which gives the next task
abbrev pub exit_outcome : CoreExit → Store → List ℕ → Outcome ℕ
exit_outcome e = exit_walk halted e ended

abbrev pub task_outcome : Core → CoreTask → Store → List ℕ → Outcome ℕ
task_outcome c t = task_walk halted c t ended

-- what a call gives, with the store and the readings that it leaves
abbrev pub outcome_of : {A : Type 0} → Result A EarlyEnd → Store → List ℕ → Outcome A
outcome_of (Ok x) store readings = ended x store readings
outcome_of (Err why) store readings = halted why store

-- what a call over the store alone gives, with the store that it leaves
abbrev pub ran_of : Result (Unit {0}) Trap → Store → Ran
ran_of (Ok _) store = done store
ran_of (Err trap) store = trapped trap store

-- goes on from an outcome
abbrev pub from_outcome : {A W : Type 0} → (EarlyEnd → Store → W) → Outcome A → (A → Onward W) → W
from_outcome halt (ended x store readings) go = go x store readings
from_outcome halt (halted why store) go = halt why store
