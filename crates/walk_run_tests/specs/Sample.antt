-- A small program with a pointer, a call, a copy and a constant, in its checked form.
use Rattle.std.specs.Prelude.{ℕ, List, [], ◌∷◌, codes, Some}
use Rattle.task_ast.specs.declared.tree.Ann.TheVariants.{Single}
use Rattle.task_ast.specs.declared.tree.Kind.{Kind}
use Rattle.task_ast.specs.declared.tree.Kind.TheVariants.{Nv, Const}
use Rattle.task_ast.specs.declared.tree.Op2.TheVariants.{Add, Lt}
use Rattle.task_ast.specs.declared.core_form.CoreExpr.TheVariants as expr
use Rattle.task_ast.specs.declared.core_form.CoreTarget.TheVariants as target
use Rattle.task_ast.specs.declared.core_form.CoreEnd.TheVariants as end
use Rattle.task_ast.specs.declared.core_form.CoreStmt.TheVariants.{Assign, Point, Io, Copy}
use Rattle.task_ast.specs.declared.core_form.CoreExit.TheVariants.{Next, Stop, Choose}
use Rattle.task_ast.specs.declared.core_form.Array.{Array}
use Rattle.task_ast.specs.declared.core_form.CoreStmt.{CoreStmt}
use Rattle.task_ast.specs.declared.core_form.CoreTask.{CoreTask}
use Rattle.task_ast.specs.declared.core_form.Site.TheVariants as site
use Rattle.task_ast.specs.declared.core_form.Core.{Core}

-- an array of a kind, with its words
abbrev pub array : Kind → (name first : List ℕ) → Array
array kind name first = record { name = name; kind = kind; first = first }

-- p = &a[1]; s = p[1] + k; p[0] = IO(r, SINGLE, s); DMA(a, &a[1], 2);
abbrev pub body : List CoreStmt
body =
    Point 0 0 (expr.Number 1)
    ∷ Assign (target.Cell 2 (expr.Number 0)) (expr.Two Add (expr.Through 0 (expr.Number 1)) (expr.Cell 1 (expr.Number 0)))
    ∷ Io 1 (Some (target.Through 0 (expr.Number 0))) 0 (expr.Cell 2 (expr.Number 0) ∷ [])
    ∷ Copy 2 (end.Cell 0 (expr.Number 0)) (end.Cell 0 (expr.Number 1)) (expr.Number 2)
    ∷ []

-- the task t, which ends by if (s < 9) NEXT(t); else STOP;
abbrev pub sample_task : CoreTask
sample_task = record {
  name = codes "t";
  body = body;
  exit = Choose (expr.Two Lt (expr.Cell 2 (expr.Number 0)) (expr.Number 9)) (Next 1) Stop;
  sites = site.Io Single ∷ site.Copy 3 ∷ [];
}

-- peripheral r 0; nv word a[3] = {1, 2, 3}; const nv word k = 5; nv word s; word *p; and the task
abbrev pub sample : Core
sample = record {
  arrays = array Nv (codes "a") (1 ∷ 2 ∷ 3 ∷ []) ∷ array Const (codes "k") (5 ∷ []) ∷ array Nv (codes "s") (0 ∷ []) ∷ [];
  pointers = codes "p" ∷ [];
  peripherals = record { name = codes "r"; number = 0 } ∷ [];
  tasks = sample_task ∷ [];
}
