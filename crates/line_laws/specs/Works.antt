-- What the laws on lines of code say (docs/CODE.md, "What is proved").
use Rattle.std.specs.Prelude.{ℕ, ◌+◌, ◌-◌, ◌++◌}
use Rattle.std.proofs.Common.{◌≡◌}
use Rattle.task_ast.specs.declared.core_form.CoreExpr.{CoreExpr}
use Rattle.task_ast.specs.declared.core_form.CoreTarget.{CoreTarget}
use Rattle.task_ast.specs.declared.core_form.CoreStmt.{CoreStmt, Row_of-CoreStmt}
use Rattle.task_ast.specs.Pointing.{addresses, row_addresses}
use Rattle.task_ast.specs.WellFormed.{Scope, IsOver}
use Rattle.walk_run.specs.Plain.{plain_done, row_done}
use Rattle.walk_run.specs.PlainSteps.{expr_steps, target_steps, plain_steps, row_steps}
use Rattle.walk_run.specs.PlainWrites.{plain_writes, row_writes}
use Rattle.walk_run.specs.Store.{Store}
use Rattle.walk_run.specs.Value.{value_of, cell_place, target_place}
use Rattle.io_flow.specs.Written.{AllWithin, Covers}
use Rattle.word_machine.specs.State.{Program}
use Rattle.word_machine.specs.Straight.{Spot}
use Rattle.line_code.specs.Areas.{area_at}
use Rattle.line_code.specs.Sizes.{expr_size, target_size, statement_size, row_size}
use Rattle.line_code.specs.Expressions.{expr_code, target_code, place_code}
use Rattle.line_code.specs.Statements.{statement_code, row_code}
use Rattle.line_code.specs.Fitting.{IsShort}
use Rattle.line_laws.specs.Gives.{Gives, word_goal}
use Rattle.line_laws.specs.Goals.{place_goal, run_goal}
use Rattle.line_laws.specs.Relation.{Layout, Related, IsApart}
use Rattle.line_laws.specs.Standing.{Lie}
use Rattle.line_laws.specs.Suits.{IsOverTarget, Suits, RowSuits}

-- the code of an expression gives its value within its steps, from any depth and address, over each store that is related
abbrev pub Works : Program → Scope → Layout → Store → CoreExpr → Type 0
Works p scope l store e = (d at : ℕ) (s : Spot) → s.pc ≡ at → Lie p at (expr_code l.areas e d at) → Related l scope.pointers s store → IsOver scope e → IsShort d e
    → Gives p d (expr_steps e) s (word_goal d (at + expr_size e) (value_of e store))

-- the code of a place of an array gives its address and room, in 8 steps behind the index
abbrev pub CellWorks : Program → Scope → Layout → Store → (array : ℕ) → CoreExpr → Type 0
CellWorks p scope l store array i = (d at : ℕ) (s : Spot) → s.pc ≡ at → Lie p at (expr_code l.areas i d at ++ place_code (area_at l.areas array)) → Related l scope.pointers s store → IsOver scope i → IsShort d i
    → Gives p d (expr_steps i + 8) s (place_goal l d (at + expr_size i + 9) (cell_place store array (value_of i store)))

-- and of a target
abbrev pub TargetWorks : Program → Scope → Layout → Store → CoreTarget → Type 0
TargetWorks p scope l store x = (at : ℕ) (s : Spot) → s.pc ≡ at → Lie p at (target_code l.areas x at) → Related l scope.pointers s store → IsOverTarget scope x
    → Gives p 0 (target_steps x + 8) s (place_goal l 0 (at + target_size x) (target_place x store))

-- The code of a statement without sites: it shows its writes of FRAM in order, and comes behind itself with the store that the
-- statement leaves, or to the statement's trap; within its steps but for one, which is left for an act's last jump.
abbrev pub StmtWorks : Program → Scope → Layout → CoreStmt → Type 0
StmtWorks p scope l s = (at : ℕ) (t : Spot) (store : Store) → t.pc ≡ at → Lie p at (statement_code l.areas s at) → IsApart l → Related l scope.pointers t store → Suits l scope s
    → Covers scope.points (λ q. addresses q s) → AllWithin scope.points store
    → Gives p 0 (plain_steps s store - 1) t (run_goal l scope.pointers (at + statement_size s) (plain_writes s store) (plain_done s store))

-- so do those of a row
abbrev pub RowWorks : Program → Scope → Layout → {n : _} → Row_of-CoreStmt n → Type 0
RowWorks p scope l row = (at : ℕ) (t : Spot) (store : Store) → t.pc ≡ at → Lie p at (row_code l.areas row at) → IsApart l → Related l scope.pointers t store → RowSuits l scope row
    → Covers scope.points (λ q. row_addresses q row) → AllWithin scope.points store
    → Gives p 0 (row_steps row store) t (run_goal l scope.pointers (at + row_size row) (row_writes row store) (row_done row store))
