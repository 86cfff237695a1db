-- When what the walk knows of the tasks is right.
use Rattle.std.specs.Prelude.{◌≡◌, ⊤, ℕ, List, Option, Some, None, slice_get}
use Rattle.task_ast.specs.declared.core_form.CoreTask.{CoreTask}
use Rattle.task_ast.specs.declared.core_form.Core.{Core}
use Rattle.io_depend.specs.Told.{Tells}
use Rattle.audit_check.specs.declared.around.Around.{Around}

-- It is of this task of this program, and its table tells which sites depend on which.
pub record IsOfTask (c : Core) (t : CoreTask) (a : Around) : Type 0 where
  pub core : a.core.now ≡ c
  pub task : a.task.now ≡ t
  pub told : Tells c t a.depends.now

-- So it is of a task that is there; of one that isn't, nothing is there.
abbrev pub IsAround : Core → Option CoreTask → Option Around → Type 0
IsAround c None None = ⊤
IsAround c None (Some a) = ⊥
IsAround c (Some t) None = ⊥
IsAround c (Some t) (Some a) = IsOfTask c t a

-- They are those of the tasks of a program, in order.
abbrev pub AreAround : Core → List Around → Type 0
AreAround c tasks = (n : ℕ) → IsAround c (slice_get c.tasks n) (slice_get tasks n)
