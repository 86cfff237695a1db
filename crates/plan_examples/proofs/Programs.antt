-- Small programs in their checked form.
use Rattle.std.specs.Prelude.{ℕ, List, [], ◌∷◌, Option, Some, None, codes}
use Rattle.task_ast.specs.declared.tree.Kind.TheVariants.{Nv, Vol}
use Rattle.task_ast.specs.declared.tree.Ann.TheVariants.{Single, Always}
use Rattle.task_ast.specs.declared.tree.Op2.TheVariants.{Add, Eq, Lt}
use Rattle.task_ast.specs.declared.core_form.Array.{Array}
use Rattle.task_ast.specs.declared.core_form.CoreExpr.{CoreExpr}
use Rattle.task_ast.specs.declared.core_form.CoreExpr.TheVariants.{Number, Cell, Two}
use Rattle.task_ast.specs.declared.core_form.CoreTarget.{CoreTarget}
use Rattle.task_ast.specs.declared.core_form.CoreTarget.TheVariants as target
use Rattle.task_ast.specs.declared.core_form.CoreEnd.{CoreEnd}
use Rattle.task_ast.specs.declared.core_form.CoreEnd.TheVariants as end
use Rattle.task_ast.specs.declared.core_form.CoreStmt.{CoreStmt}
use Rattle.task_ast.specs.declared.core_form.CoreStmt.TheVariants.{Assign, Point, If, Io, Block, Copy}
use Rattle.task_ast.specs.declared.core_form.CoreExit.{CoreExit}
use Rattle.task_ast.specs.declared.core_form.CoreExit.TheVariants.{Next, Stop, Choose}
use Rattle.task_ast.specs.declared.core_form.Site.{Site}
use Rattle.task_ast.specs.declared.core_form.Site.TheVariants as site
use Rattle.task_ast.specs.declared.core_form.Core.{Core}
use Rattle.task_attempts.specs.State.{Rules}

-- arrays with their first words; examples don't look at names
abbrev pub nv : List ℕ → Array
nv first = record { name = codes "n"; kind = Nv; first = first }

abbrev pub vol : List ℕ → Array
vol first = record { name = codes "v"; kind = Vol; first = first }

-- one word 0
abbrev pub zero_word : List ℕ
zero_word = 0 ∷ []

-- an element that is read, one that is assigned, a scalar that takes a reading, an end of a copy
abbrev pub read : (array index : ℕ) → CoreExpr
read a i = Cell a (Number i)

abbrev pub set : (array index : ℕ) → CoreExpr → CoreStmt
set a i e = Assign (target.Cell a (Number i)) e

abbrev pub onto : ℕ → Option CoreTarget
onto a = Some (target.Cell a (Number 0))

abbrev pub at : (array index : ℕ) → CoreEnd
at a i = end.Cell a (Number i)

-- a program of one task, with two peripherals
abbrev pub one_task : List Array → List CoreStmt → CoreExit → List Site → Core
one_task arrays body exit sites = record {
  arrays = arrays;
  pointers = [];
  peripherals = record { name = codes "temp"; number = 0 } ∷ record { name = codes "radio"; number = 1 } ∷ [];
  tasks = record { name = codes "t"; body = body; exit = exit; sites = sites } ∷ [];
}

-- what runs go by that read these words from peripheral 0
abbrev pub reading : List ℕ → Core → Rules
reading values c = record { core = c; world = record { power = []; feeds = record { number = 0; values = values } ∷ []; retained = [] } }

-- nv word n = 7; word v; task a { v = IO(temp, SINGLE, n); n = n + v; STOP; }
unfoldable pub sending : Core
sending = one_task (nv (7 ∷ []) ∷ vol zero_word ∷ []) (Io 1 (onto 1) 0 (read 0 0 ∷ []) ∷ set 0 0 (Two Add (read 0 0) (read 1 0)) ∷ []) Stop (site.Io Single ∷ [])

-- word v; task a { v = IO(temp, ALWAYS); IO(radio, SINGLE, v); STOP; }
unfoldable pub sense_and_send : Core
sense_and_send = one_task (vol zero_word ∷ []) (Io 1 (onto 0) 0 [] ∷ Io 2 None 1 (read 0 0 ∷ []) ∷ []) Stop (site.Io Always ∷ site.Io Single ∷ [])

-- nv word n; word v; task a { IO_BLOCK(SINGLE) { v = IO(temp, ALWAYS); } n = v; STOP; }
unfoldable pub blocked : Core
blocked = one_task (nv zero_word ∷ vol zero_word ∷ []) (Block 1 (Io 2 (onto 1) 0 [] ∷ []) ∷ set 0 0 (read 1 0) ∷ []) Stop (site.Block Single ∷ site.Io Always ∷ [])

-- nv word a[6] = {1, 2, 3, 4, 5, 6}; task t { DMA(a, &a[1], 5); STOP; }
unfoldable pub shifting : Core
shifting = one_task (nv (1 ∷ 2 ∷ 3 ∷ 4 ∷ 5 ∷ 6 ∷ []) ∷ []) (Copy 1 (at 0 0) (at 0 1) (Number 5) ∷ []) Stop (site.Copy 6 ∷ [])

-- nv word n; nv word a[2] = {5, 6}; nv word c[2]; word b[2]; word *p;
-- task t { if (n == 0) { p = &b[0]; } else { p = &c[0]; } DMA(p, a, 2); n = n + 1; if (n < 2) NEXT(t); else STOP; }
abbrev pub choosing : CoreStmt
choosing = If (Two Eq (read 0 0) (Number 0)) (Point 0 3 (Number 0) ∷ []) (Point 0 2 (Number 0) ∷ [])

abbrev pub counting : CoreStmt
counting = set 0 0 (Two Add (read 0 0) (Number 1))

unfoldable pub pointing : Core
pointing = record (one_task (nv zero_word ∷ nv (5 ∷ 6 ∷ []) ∷ nv (0 ∷ 0 ∷ []) ∷ vol (0 ∷ 0 ∷ []) ∷ [])
    (choosing ∷ Copy 1 (end.Pointer 0) (at 1 0) (Number 2) ∷ counting ∷ []) (Choose (Two Lt (read 0 0) (Number 2)) (Next 1) Stop) (site.Copy 2 ∷ []))
    { pointers = codes "p" ∷ [] }

-- nv word a[3] = {1, 2, 3}; nv word n; task t { a[0] = a[1] + a[2]; a[1] = a[0]; n = n + 1; STOP; }
abbrev pub three_sets : List CoreStmt
three_sets = set 0 0 (Two Add (read 0 1) (read 0 2)) ∷ set 0 1 (read 0 0) ∷ set 1 0 (Two Add (read 1 0) (Number 1)) ∷ []

unfoldable pub summing : Core
summing = one_task (nv (1 ∷ 2 ∷ 3 ∷ []) ∷ nv zero_word ∷ []) three_sets Stop []
