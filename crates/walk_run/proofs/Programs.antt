-- Small programs in their checked form, for examples.
use Rattle.std.specs.Prelude.{ℕ, List, [], ◌∷◌, Some, None, codes}
use Rattle.task_ast.specs.declared.tree.Kind.{Kind}
use Rattle.task_ast.specs.declared.tree.Kind.TheVariants.{Nv, Vol}
use Rattle.task_ast.specs.declared.tree.Op2.TheVariants.{Add, Div, Lt}
use Rattle.task_ast.specs.declared.core_form.Array.{Array}
use Rattle.task_ast.specs.declared.core_form.CoreExpr.{CoreExpr}
use Rattle.task_ast.specs.declared.core_form.CoreExpr.TheVariants.{Number, Cell, Through, Two}
use Rattle.task_ast.specs.declared.core_form.CoreTarget.TheVariants as target
use Rattle.task_ast.specs.declared.core_form.CoreEnd.{CoreEnd}
use Rattle.task_ast.specs.declared.core_form.CoreEnd.TheVariants as end
use Rattle.task_ast.specs.declared.core_form.CoreStmt.{CoreStmt}
use Rattle.task_ast.specs.declared.core_form.CoreStmt.TheVariants.{Assign, Point, If, Loop, Io, Block, Copy}
use Rattle.task_ast.specs.declared.core_form.CoreExit.{CoreExit}
use Rattle.task_ast.specs.declared.core_form.CoreExit.TheVariants.{Next, Stop, Choose}
use Rattle.task_ast.specs.declared.core_form.CoreTask.{CoreTask}
use Rattle.task_ast.specs.declared.core_form.Core.{Core}

-- an array of a kind, with its words
abbrev pub array : Kind → List ℕ → (first : List ℕ) → Array
array kind name first = record { name = name; kind = kind; first = first }

-- a scalar that is read, and one that is assigned
abbrev pub read : ℕ → CoreExpr
read a = Cell a (Number 0)

abbrev pub set : ℕ → CoreExpr → CoreStmt
set a e = Assign (target.Cell a (Number 0)) e

-- the end of a copy at a place of an array
abbrev pub at : (array index : ℕ) → CoreEnd
at a i = end.Cell a (Number i)

-- a task; what stands at its sites doesn't count in a run
abbrev pub task : List CoreStmt → CoreExit → CoreTask
task body exit = record { name = codes "t"; body = body; exit = exit; sites = [] }

-- a program with the pointer p and the peripheral `temp`
abbrev pub program : List Array → List CoreTask → Core
program arrays tasks = record { arrays = arrays; pointers = codes "p" ∷ []; peripherals = record { name = codes "temp"; number = 0 } ∷ []; tasks = tasks }

-- a program of one task that stops
abbrev pub one_task : List Array → List CoreStmt → Core
one_task arrays body = program arrays (task body Stop ∷ [])

-- nv word x = 4294967295; task t { x = x + 1; STOP; }
unfoldable pub wrapping : Core
wrapping = one_task (array Nv (codes "x") (4294967295 ∷ []) ∷ []) (set 0 (Two Add (read 0) (Number 1)) ∷ [])

-- nv word n = 3; nv word m = 10; task a { m = m + n; NEXT(b); } task b { n = n + (m + 1); NEXT(a); }
unfoldable pub handing_over : Core
handing_over =
    program (array Nv (codes "n") (3 ∷ []) ∷ array Nv (codes "m") (10 ∷ []) ∷ [])
    (task (set 1 (Two Add (read 1) (read 0)) ∷ []) (Next 2)
    ∷ task (set 0 (Two Add (read 0) (Two Add (read 1) (Number 1))) ∷ []) (Next 1) ∷ [])

-- nv word a[2] = {1, 2}; nv word i; task t { i = 2; NEXT(u); } task u { a[i] = 9; STOP; }
unfoldable pub indexing : Core
indexing =
    program (array Nv (codes "a") (1 ∷ 2 ∷ []) ∷ array Nv (codes "i") (0 ∷ []) ∷ [])
    (task (set 1 (Number 2) ∷ []) (Next 2) ∷ task (Assign (target.Cell 0 (read 1)) (Number 9) ∷ []) Stop ∷ [])

-- word v = 5; nv word n; nv word s;
-- task a { n = n + v; for (v = 0; v < 3; v++) { s = s + v; } if (s < 6) NEXT(a); else STOP; }
unfoldable pub turning : Core
turning =
    program (array Vol (codes "v") (5 ∷ []) ∷ array Nv (codes "n") (0 ∷ []) ∷ array Nv (codes "s") (0 ∷ []) ∷ [])
    (task (set 1 (Two Add (read 1) (read 0)) ∷ Loop 0 3 (set 2 (Two Add (read 2) (read 0)) ∷ []) ∷ [])
    (Choose (Two Lt (read 2) (Number 6)) (Next 1) Stop) ∷ [])

-- nv word n; task a { if (n) { n = 7 / 0; } else { n = 4; } NEXT(a); }
unfoldable pub choosing : Core
choosing =
    program (array Nv (codes "n") (0 ∷ []) ∷ [])
    (task (If (read 0) (set 0 (Two Div (Number 7) (Number 0)) ∷ []) (set 0 (Number 4) ∷ []) ∷ []) (Next 1) ∷ [])

-- nv word a[3] = {1, 2, 3}; nv word s; word *p; task t { p = &a[1]; s = p[INDEX]; p[0] = 9; STOP; }
unfoldable pub through : (index : ℕ) → Core
through index =
    one_task (array Nv (codes "a") (1 ∷ 2 ∷ 3 ∷ []) ∷ array Nv (codes "s") (0 ∷ []) ∷ [])
    (Point 0 0 (Number 1) ∷ set 1 (Through 0 (Number index)) ∷ Assign (target.Through 0 (Number 0)) (Number 9) ∷ [])

-- the same without p = &a[1], and with another index
unfoldable pub through_nothing : (index : CoreExpr) → Core
through_nothing index =
    one_task (array Nv (codes "a") (1 ∷ 2 ∷ 3 ∷ []) ∷ array Nv (codes "s") (0 ∷ []) ∷ [])
    (set 1 (Through 0 index) ∷ Assign (target.Through 0 (Number 0)) (Number 9) ∷ [])

-- nv word s; nv word a[2] = {7, 8}; word *p; task t { p = &a[1]; s = s + 1; NEXT(u); } task u { s = p[0]; STOP; }
unfoldable pub pointing_once : Core
pointing_once =
    program (array Nv (codes "s") (0 ∷ []) ∷ array Nv (codes "a") (7 ∷ 8 ∷ []) ∷ [])
    (task (Point 0 1 (Number 1) ∷ set 0 (Two Add (read 0) (Number 1)) ∷ []) (Next 2) ∷ task (set 0 (Through 0 (Number 0)) ∷ []) Stop ∷ [])

-- nv word a[6] = {1, 2, 3, 4, 5, 6}; task t { DMA(TO, FROM, WORDS); STOP; }
unfoldable pub copying : (to from : CoreEnd) → (words : CoreExpr) → Core
copying to from words =
    one_task (array Nv (codes "a") (1 ∷ 2 ∷ 3 ∷ 4 ∷ 5 ∷ 6 ∷ []) ∷ array Nv (codes "b") (7 ∷ 8 ∷ []) ∷ []) (Copy 1 to from words ∷ [])

-- peripheral temp 0; nv word n = 7; word v; task a { v = IO(temp, SINGLE, n); n = n + v; STOP; }
unfoldable pub reading : Core
reading =
    one_task (array Nv (codes "n") (7 ∷ []) ∷ array Vol (codes "v") (0 ∷ []) ∷ [])
    (Io 1 (Some (target.Cell 1 (Number 0))) 0 (read 0 ∷ []) ∷ set 0 (Two Add (read 0) (read 1)) ∷ [])

-- peripheral temp 0; nv word n; task a { IO_BLOCK(SINGLE) { IO(temp, SINGLE); n = IO(temp, SINGLE, ARGUMENT); } NEXT(a); }
unfoldable pub blocked : (argument : CoreExpr) → Core
blocked argument =
    program (array Nv (codes "n") (0 ∷ []) ∷ [])
    (task (Block 1 (Io 2 None 0 [] ∷ Io 3 (Some (target.Cell 0 (Number 0))) 0 (argument ∷ []) ∷ []) ∷ []) (Next 1) ∷ [])
