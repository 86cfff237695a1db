-- Small programs in their checked form, for examples.
use Rattle.std.specs.Prelude.{ℕ, List, [], ◌∷◌, Option, Some, None, codes, replicate}
use Rattle.task_ast.specs.declared.tree.Kind.TheVariants.{Nv, Const, Vol}
use Rattle.task_ast.specs.declared.tree.Ann.{Ann}
use Rattle.task_ast.specs.declared.tree.Ann.TheVariants.{Single, Timely, Always}
use Rattle.task_ast.specs.declared.tree.Op2.TheVariants.{Add, Eq, Lt}
use Rattle.task_ast.specs.declared.core_form.Array.{Array}
use Rattle.task_ast.specs.declared.core_form.CoreExpr.{CoreExpr}
use Rattle.task_ast.specs.declared.core_form.CoreExpr.TheVariants.{Number, Cell, Through, Two}
use Rattle.task_ast.specs.declared.core_form.CoreTarget.{CoreTarget}
use Rattle.task_ast.specs.declared.core_form.CoreTarget.TheVariants as target
use Rattle.task_ast.specs.declared.core_form.CoreEnd.{CoreEnd}
use Rattle.task_ast.specs.declared.core_form.CoreEnd.TheVariants as end
use Rattle.task_ast.specs.declared.core_form.CoreStmt.{CoreStmt}
use Rattle.task_ast.specs.declared.core_form.CoreStmt.TheVariants.{Assign, Point, If, Loop, Io, Block, Copy}
use Rattle.task_ast.specs.declared.core_form.CoreExit.{CoreExit}
use Rattle.task_ast.specs.declared.core_form.CoreExit.TheVariants.{Next, Stop, Choose}
use Rattle.task_ast.specs.declared.core_form.Site.{Site}
use Rattle.task_ast.specs.declared.core_form.Site.TheVariants as site
use Rattle.task_ast.specs.declared.core_form.CoreTask.{CoreTask}
use Rattle.task_ast.specs.declared.core_form.Core.{Core}
use Rattle.task_attempts.specs.State.{Rules}

-- ---- parts

-- arrays with their first words; examples don't look at names
abbrev pub nv : List ℕ → Array
nv first = record { name = codes "n"; kind = Nv; first = first }

abbrev pub constant : List ℕ → Array
constant first = record { name = codes "c"; kind = Const; first = first }

abbrev pub vol : List ℕ → Array
vol first = record { name = codes "v"; kind = Vol; first = first }

-- one word 0
abbrev pub zero_word : List ℕ
zero_word = 0 ∷ []

-- a scalar that is read, one that is assigned, and one that takes a reading
abbrev pub read : ℕ → CoreExpr
read a = Cell a (Number 0)

abbrev pub set : ℕ → CoreExpr → CoreStmt
set a e = Assign (target.Cell a (Number 0)) e

abbrev pub onto : ℕ → Option CoreTarget
onto a = Some (target.Cell a (Number 0))

-- the end of a copy at a place of an array
abbrev pub at : (array index : ℕ) → CoreEnd
at a i = end.Cell a (Number i)

abbrev pub task : List CoreStmt → CoreExit → List Site → CoreTask
task body exit sites = record { name = codes "t"; body = body; exit = exit; sites = sites }

-- a program with a pointer p and three peripherals: temp 0, radio 1, log 2
abbrev pub program : List Array → List CoreTask → Core
program arrays tasks = record {
  arrays = arrays;
  pointers = [];
  peripherals = record { name = codes "temp"; number = 0 } ∷ record { name = codes "radio"; number = 1 } ∷ record { name = codes "log"; number = 2 } ∷ [];
  tasks = tasks;
}

-- a program of one task that stops
abbrev pub one_task : List Array → List CoreStmt → List Site → Core
one_task arrays body sites = program arrays (task body Stop sites ∷ [])

-- what runs go by that read these words from peripherals 0 and 1
abbrev pub reading : (temp radio : List ℕ) → Core → Rules
reading temp radio c = record {
  core = c;
  world = record { power = []; feeds = record { number = 0; values = temp } ∷ record { number = 1; values = radio } ∷ []; retained = [] };
}

-- ---- calls

-- nv word n = 7; word v; task a { v = IO(temp, SINGLE, n); n = n + v; STOP; }
unfoldable pub sending : Core
sending = one_task (nv (7 ∷ []) ∷ vol zero_word ∷ []) (Io 1 (onto 1) 0 (read 0 ∷ []) ∷ set 0 (Two Add (read 0) (read 1)) ∷ []) (site.Io Single ∷ [])

-- word v; nv word n; task a { v = IO(temp, TIMELY(1000)); n = v; STOP; }
unfoldable pub sensing : Core
sensing = one_task (vol zero_word ∷ nv zero_word ∷ []) (Io 1 (onto 0) 0 [] ∷ set 1 (read 0) ∷ []) (site.Io (Timely 1000) ∷ [])

-- word v; task a { v = IO(temp, ANN); IO(radio, SINGLE, v); STOP; }
unfoldable pub sense_and_send : Ann → Core
sense_and_send ann = one_task (vol zero_word ∷ []) (Io 1 (onto 0) 0 [] ∷ Io 2 None 1 (read 0 ∷ []) ∷ []) (site.Io ann ∷ site.Io Single ∷ [])

-- word v; task a { v = IO(temp, TIMELY(1000)); IO(radio, SINGLE, v); IO(log, SINGLE, v); STOP; }
unfoldable pub sense_send_and_log : Core
sense_send_and_log =
    one_task (vol zero_word ∷ []) (Io 1 (onto 0) 0 [] ∷ Io 2 None 1 (read 0 ∷ []) ∷ Io 3 None 2 (read 0 ∷ []) ∷ [])
    (site.Io (Timely 1000) ∷ site.Io Single ∷ site.Io Single ∷ [])

-- ---- blocks

-- nv word n; word v; task a { IO_BLOCK(OUTER) { v = IO(temp, INNER); } n = v; STOP; }
unfoldable pub blocked : (outer inner : Ann) → Core
blocked outer inner =
    one_task (nv zero_word ∷ vol zero_word ∷ []) (Block 1 (Io 2 (onto 1) 0 [] ∷ []) ∷ set 0 (read 1) ∷ []) (site.Block outer ∷ site.Io inner ∷ [])

-- word v; word u; task a { IO_BLOCK(TIMELY(1000)) { v = IO(temp, SINGLE); u = IO(radio, SINGLE); } STOP; }
unfoldable pub pair : Core
pair =
    one_task (vol zero_word ∷ vol zero_word ∷ []) (Block 1 (Io 2 (onto 0) 0 [] ∷ Io 3 (onto 1) 1 [] ∷ []) ∷ [])
    (site.Block (Timely 1000) ∷ site.Io Single ∷ site.Io Single ∷ [])

-- ---- copies

-- nv word a[6] = {1, 2, 3, 4, 5, 6}; task t { DMA(&a[TO], &a[FROM], 5); STOP; }
unfoldable pub shifting : (to from : ℕ) → Core
shifting to from = one_task (nv (1 ∷ 2 ∷ 3 ∷ 4 ∷ 5 ∷ 6 ∷ []) ∷ []) (Copy 1 (at 0 to) (at 0 from) (Number 5) ∷ []) (site.Copy 6 ∷ [])

-- nv word n; nv word a[2] = {5, 6}; nv word c[2]; word b[2]; word *p;
-- task t { if (n == 0) { p = &b[0]; } else { p = &c[0]; } DMA(p, a, 2); n = n + 1; if (n < 2) NEXT(t); else STOP; }
unfoldable pub pointing : Core
pointing = record (program
    (nv zero_word ∷ nv (5 ∷ 6 ∷ []) ∷ nv (0 ∷ 0 ∷ []) ∷ vol (0 ∷ 0 ∷ []) ∷ [])
    (task (If (Two Eq (read 0) (Number 0)) (Point 0 3 (Number 0) ∷ []) (Point 0 2 (Number 0) ∷ [])
    ∷ Copy 1 (end.Pointer 0) (at 1 0) (Number 2) ∷ set 0 (Two Add (read 0) (Number 1)) ∷ [])
    (Choose (Two Lt (read 0) (Number 2)) (Next 1) Stop) (site.Copy 2 ∷ []) ∷ []))
    { pointers = codes "p" ∷ [] }

-- nv word a[2048]; word b[2048]; task t { DMA(a, b, WORDS); STOP; }
unfoldable pub filling : (words : ℕ) → Core
filling words = one_task (nv (replicate 2048 0) ∷ vol (replicate 2048 0) ∷ []) (Copy 1 (at 0 0) (at 1 0) (Number words) ∷ []) (site.Copy 2048 ∷ [])

-- nv word a[2]; word *p; task t { DMA(p, a, 1); STOP; }
unfoldable pub pointing_nowhere : Core
pointing_nowhere = record (one_task (nv (0 ∷ 0 ∷ []) ∷ []) (Copy 1 (end.Pointer 0) (at 0 0) (Number 1) ∷ []) (site.Copy 0 ∷ [])) { pointers = codes "p" ∷ [] }

-- nv word x; nv word y[2]; nv word z[3]; word b[3] = {7, 8, 9}; task t { DMA(x, b, 1); DMA(y, b, 2); DMA(z, b, 3); STOP; }
unfoldable pub three_regions : Core
three_regions =
    one_task (nv zero_word ∷ nv (0 ∷ 0 ∷ []) ∷ nv (0 ∷ 0 ∷ 0 ∷ []) ∷ vol (7 ∷ 8 ∷ 9 ∷ []) ∷ [])
    (Copy 1 (at 0 0) (at 3 0) (Number 1) ∷ Copy 2 (at 1 0) (at 3 0) (Number 2) ∷ Copy 3 (at 2 0) (at 3 0) (Number 3) ∷ [])
    (site.Copy 1 ∷ site.Copy 2 ∷ site.Copy 3 ∷ [])

-- ---- indexes through a pointer

-- nv word a[3] = {7, 8, 9}; word v; word *p;
-- task t { p = &a[1]; v = IO(temp, SINGLE); p[1] = p[0] + v; p[v] = IO(temp, SINGLE, p[1]); STOP; }
unfoldable pub through : Core
through = record (one_task (nv (7 ∷ 8 ∷ 9 ∷ []) ∷ vol zero_word ∷ [])
    (Point 0 0 (Number 1) ∷ Io 1 (onto 1) 0 [] ∷ Assign (target.Through 0 (Number 1)) (Two Add (Through 0 (Number 0)) (read 1))
    ∷ Io 2 (Some (target.Through 0 (read 1))) 0 (Through 0 (Number 1) ∷ []) ∷ [])
    (site.Io Single ∷ site.Io Single ∷ []))
    { pointers = codes "p" ∷ [] }

-- ---- a call, a block, a copy and a pure loop

-- nv word sum; nv word out[2]; word v; word b[2] = {5, 6}; word i;
-- task t { v = IO(temp, SINGLE); IO_BLOCK(SINGLE) { IO(radio, ALWAYS, v); } DMA(out, b, 2);
--   for (i = 0; i < 2; i++) { sum = sum + v; } STOP; }
unfoldable pub mixed : Core
mixed =
    one_task (nv zero_word ∷ nv (0 ∷ 0 ∷ []) ∷ vol zero_word ∷ vol (5 ∷ 6 ∷ []) ∷ vol zero_word ∷ [])
    (Io 1 (onto 2) 0 [] ∷ Block 2 (Io 3 None 1 (read 2 ∷ []) ∷ []) ∷ Copy 4 (at 1 0) (at 3 0) (Number 2)
    ∷ Loop 4 2 (set 0 (Two Add (read 0) (read 2)) ∷ []) ∷ [])
    (site.Io Single ∷ site.Block Single ∷ site.Io Always ∷ site.Copy 2 ∷ [])
