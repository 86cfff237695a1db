-- Tables of dependents, and what the walk goes by, for some tasks in order.
use Rattle.std.specs.Prelude.{⊤, List, [], ◌∷◌}
use Rattle.task_ast.specs.declared.core_form.CoreTask.{CoreTask}
use Rattle.task_ast.specs.declared.core_form.Core.{Core}
use Rattle.io_depend.specs.Told.{Told, Tells}
use Rattle.audit_check.specs.declared.around.Around.{Around}
use Rattle.audit_laws.specs.Right.{IsOfTask}

-- a table of each task
abbrev pub AreTables : Core → List CoreTask → List Told → Type 0
AreTables c [] [] = ⊤
AreTables c [] (d ∷ ds) = ⊥
AreTables c (t ∷ ts) [] = ⊥
AreTables c (t ∷ ts) (d ∷ ds) = Tells c t d × AreTables c ts ds

-- what the walk goes by in each task
abbrev pub AreOfTasks : Core → List CoreTask → List Around → Type 0
AreOfTasks c [] [] = ⊤
AreOfTasks c [] (a ∷ tasks) = ⊥
AreOfTasks c (t ∷ ts) [] = ⊥
AreOfTasks c (t ∷ ts) (a ∷ tasks) = IsOfTask c t a × AreOfTasks c ts tasks
