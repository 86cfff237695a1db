-- Small tasks in their checked form, for examples.
use Rattle.std.specs.Prelude.{ℕ, zero, suc, ◌+◌, List, [], ◌∷◌, ◌++◌, map, Some, None, codes}
use Rattle.std.specs.List.{range_with_len}
use Rattle.task_ast.specs.declared.tree.Ann.TheVariants.{Single}
use Rattle.task_ast.specs.declared.core_form.Site.TheVariants as site
use Rattle.task_ast.specs.declared.core_form.CoreExpr.{CoreExpr}
use Rattle.task_ast.specs.declared.core_form.CoreExpr.TheVariants.{Number, Cell, Through}
use Rattle.task_ast.specs.declared.core_form.CoreTarget.{CoreTarget}
use Rattle.task_ast.specs.declared.core_form.CoreTarget.TheVariants as target
use Rattle.task_ast.specs.declared.core_form.CoreEnd.TheVariants as end
use Rattle.task_ast.specs.declared.core_form.CoreStmt.{CoreStmt}
use Rattle.task_ast.specs.declared.core_form.CoreStmt.TheVariants.{Assign, Point, If, Loop, Io, Block, Copy}
use Rattle.task_ast.specs.declared.core_form.CoreExit.TheVariants.{Stop}
use Rattle.task_ast.specs.declared.core_form.CoreTask.{CoreTask}

-- a scalar that is read, and one that is assigned
abbrev pub read : ℕ → CoreExpr
read a = Cell a (Number 0)

abbrev pub scalar : ℕ → CoreTarget
scalar a = target.Cell a (Number 0)

abbrev pub set : ℕ → CoreExpr → CoreStmt
set a e = Assign (scalar a) e

-- a reading into a scalar, and a call that is given one word
abbrev pub into : (k array : ℕ) → CoreStmt
into k array = Io k (Some (scalar array)) 0 []

abbrev pub send : (k : ℕ) → CoreExpr → CoreStmt
send k e = Io k None 1 (e ∷ [])

-- a task with so many sites; which kinds they have doesn't count here
abbrev pub task : (sites : ℕ) → List CoreStmt → CoreTask
task sites body = record { name = codes "t"; body = body; exit = Stop; sites = map (λ k. site.Io Single) (range_with_len 1 sites) }

-- v = IO(temp, ALWAYS); IO(radio, SINGLE, v);
unfoldable pub sense_and_send : CoreTask
sense_and_send = task 2 (into 1 0 ∷ send 2 (read 0) ∷ [])

-- v = IO(temp, TIMELY(1000)); IO(radio, SINGLE, v); IO(log, SINGLE, v);
unfoldable pub sense_send_and_log : CoreTask
sense_send_and_log = task 3 (into 1 0 ∷ send 2 (read 0) ∷ send 3 (read 0) ∷ [])

-- IO_BLOCK(TIMELY(1000)) { v = IO(temp, SINGLE); u = IO(hum, SINGLE); }
unfoldable pub two_in_a_block : CoreTask
two_in_a_block = task 3 (Block 1 (into 2 0 ∷ into 3 1 ∷ []) ∷ [])

-- b[i] = IO(temp, TIMELY(1000)); behind each i = j;
abbrev pub one_sample : ℕ → List CoreStmt
one_sample j = set 1 (Number j) ∷ Io (j + 1) (Some (target.Cell 2 (read 1))) 0 [] ∷ []

abbrev pub samples : (j left : ℕ) → List CoreStmt
samples j zero = []
samples j (suc left) = one_sample j ++ samples (j + 1) left

-- for (i = 0; i < 8; i++) { b[i] = IO(temp, TIMELY(1000)); } DMA(samples, b, 8);
unfoldable pub eight_samples : CoreTask
eight_samples = task 9 (samples 0 8 ++ (set 1 (Number 8) ∷ Copy 9 (end.Cell 0 (Number 0)) (end.Cell 2 (Number 0)) (Number 8) ∷ []))

-- v = IO(temp); if (v) { IO(radio, 1); } else { IO(radio, 2); } IO(radio, 3);
unfoldable pub a_condition : CoreTask
a_condition = task 4 (into 1 0 ∷ If (read 0) (send 2 (Number 1) ∷ []) (send 3 (Number 2) ∷ []) ∷ send 4 (Number 3) ∷ [])

-- the same, with u set under the condition and sent behind it
unfoldable pub set_under_a_condition : CoreTask
set_under_a_condition = task 3 (into 1 0 ∷ If (read 0) [] (set 1 (Number 2) ∷ []) ∷ send 2 (read 1) ∷ send 3 (read 2) ∷ [])

-- v = IO(temp); for (i = 0; i < 3; i++) { a = b; b = v; } IO(radio, a); IO(radio, i); IO(radio, c);
unfoldable pub around_a_loop : CoreTask
around_a_loop = task 4 (into 1 0 ∷ Loop 4 3 (set 1 (read 2) ∷ set 2 (read 0) ∷ []) ∷ send 2 (read 1) ∷ send 3 (read 4) ∷ send 4 (read 3) ∷ [])

-- v = IO(temp); IO_BLOCK(SINGLE) { u = IO(hum, v); IO(radio, u); } IO_BLOCK(SINGLE) { IO(log, 1); }
unfoldable pub blocks : CoreTask
blocks = task 6 (into 1 0 ∷ Block 2 (Io 3 (Some (scalar 1)) 0 (read 0 ∷ []) ∷ send 4 (read 1) ∷ []) ∷ Block 5 (send 6 (Number 1) ∷ []) ∷ [])

-- v = IO(temp); p = &a[v]; DMA(b, p, 2); IO(radio, b[0]); IO(radio, a[0]);
unfoldable pub through_a_copy : CoreTask
through_a_copy = task 4 (into 1 0 ∷ Point 0 1 (read 0) ∷ Copy 2 (end.Cell 2 (Number 0)) (end.Pointer 0) (Number 2) ∷ send 3 (Cell 2 (Number 0)) ∷ send 4 (Cell 1 (Number 0)) ∷ [])

-- v = IO(temp); DMA(b, a, v); IO(radio, b[0]);
unfoldable pub a_copied_length : CoreTask
a_copied_length = task 3 (into 1 0 ∷ Copy 2 (end.Cell 2 (Number 0)) (end.Cell 1 (Number 0)) (read 0) ∷ send 3 (Cell 2 (Number 0)) ∷ [])

-- v = IO(temp); p = &a[0]; p[1] = v; IO(radio, a[0]); IO(radio, p[0]); IO(radio, b[0]);
unfoldable pub written_through : CoreTask
written_through =
    task 4 (into 1 0 ∷ Point 0 1 (Number 0) ∷ Assign (target.Through 0 (Number 1)) (read 0)
    ∷ send 2 (Cell 1 (Number 0)) ∷ send 3 (Through 0 (Number 0)) ∷ send 4 (Cell 2 (Number 0)) ∷ [])

-- v = IO(temp); p = &a[v]; IO(radio, p[0]); IO(radio, a[0]); p[0] = 1; IO(radio, a[0]);
unfoldable pub pointed_by_a_reading : CoreTask
pointed_by_a_reading =
    task 4 (into 1 0 ∷ Point 0 1 (read 0) ∷ send 2 (Through 0 (Number 0)) ∷ send 3 (Cell 1 (Number 0))
    ∷ Assign (target.Through 0 (Number 0)) (Number 1) ∷ send 4 (Cell 1 (Number 0)) ∷ [])
