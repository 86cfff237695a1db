-- The lines of expressions, statements and exits by their nodes.
use Rattle.std.specs.Prelude.{◌≡◌, ℕ, ◌+◌, ◌*◌, ◌≤◌, Bool, true, false, if◌then◌else◌, List, [], ◌∷◌, Option, Some, None, length, sum_by, refl}
use Rattle.std.proofs.Common.{arith}
use Rattle.std.proofs.lemmas.List.Sums.{sum_by-cons}
use Rattle.task_ast.specs.declared.tree.Op1.{Op1}
use Rattle.task_ast.specs.declared.tree.Op1.TheVariants as one
use Rattle.task_ast.specs.declared.tree.Op2.{Op2}
use Rattle.task_ast.specs.declared.tree.Op2.TheVariants as two
use Rattle.task_ast.specs.declared.core_form.CoreExpr.{CoreExpr, end_of-CoreExpr, more_of-CoreExpr}
use Rattle.task_ast.specs.declared.core_form.CoreExpr.TheVariants as expr
use Rattle.task_ast.specs.declared.core_form.CoreTarget.{CoreTarget}
use Rattle.task_ast.specs.declared.core_form.CoreTarget.TheVariants as target
use Rattle.task_ast.specs.declared.core_form.CoreEnd.{CoreEnd}
use Rattle.task_ast.specs.declared.core_form.CoreEnd.TheVariants as end
use Rattle.task_ast.specs.declared.core_form.CoreStmt.{CoreStmt, Row_of-CoreStmt, end_of-CoreStmt, more_of-CoreStmt}
use Rattle.task_ast.specs.declared.core_form.CoreStmt.TheVariants as stmt
use Rattle.task_ast.specs.CoreNodes.{is_zero, expr_nodes, index_nodes, target_nodes, reading_nodes, end_nodes, stmt_nodes, row_nodes}
use Rattle.line_code.specs.Sizes.{one_size, two_size, expr_size, target_size, statement_size, row_size}
use Rattle.word_code.specs.Values.{aim_size, args_size, end_size}

one_few : (op : Op1) → one_size op ≤ 4
one_few one.Not = omega arith
one_few one.Inv = omega arith
one_few one.Neg = omega arith

two_few : (op : Op2) → two_size op ≤ 6
two_few two.Add = omega arith
two_few two.Sub = omega arith
two_few two.Mul = omega arith
two_few two.Div = omega arith
two_few two.Rem = omega arith
two_few two.And = omega arith
two_few two.Or = omega arith
two_few two.Xor = omega arith
two_few two.Shl = omega arith
two_few two.Shr = omega arith
two_few two.Eq = omega arith
two_few two.Ne = omega arith
two_few two.Lt = omega arith
two_few two.Le = omega arith
two_few two.Gt = omega arith
two_few two.Ge = omega arith
two_few two.Both = omega arith
two_few two.Either = omega arith

-- the index of a scalar
zero_few : (i : CoreExpr) → is_zero i ≡ true → expr_size i ≤ 2
zero_few (expr.Number n) e = omega arith
zero_few (expr.Cell' array u i) e = cc
zero_few (expr.Through' pointer u i) e = cc
zero_few (expr.One' op u i) e = cc
zero_few (expr.Two' op u a v b) e = cc

-- a place by its index: so many lines behind it
by_zero : (b : Bool) (size nodes more : ℕ) → (b ≡ true → size ≤ 2) → size ≤ 14 * nodes → more ≤ 12 → size + more ≤ 14 * (1 + (if b then 0 else nodes))
by_zero true size nodes more small few low = omega (arith, small refl, low)
by_zero false size nodes more small few low = omega (arith, few, low)

cell_nodes : (b : Bool) (nodes : ℕ) → (if b then 1 else 1 + nodes) ≡ 1 + (if b then 0 else nodes)
cell_nodes true nodes = refl
cell_nodes false nodes = refl

-- an expression: 14 a node
pub expr_few : (e : CoreExpr) → expr_size e ≤ 14 * expr_nodes e
expr_few (expr.Number n) = omega arith
expr_few (expr.Cell' array u (more_of-CoreExpr i end_of-CoreExpr)) =
    omega (arith, by_zero (is_zero i) (expr_size i) (expr_nodes i) 10 (zero_few i) (expr_few i) (omega arith), cell_nodes (is_zero i) (expr_nodes i))
expr_few (expr.Through' pointer u (more_of-CoreExpr i end_of-CoreExpr)) = omega (arith, expr_few i)
expr_few (expr.One' op u (more_of-CoreExpr e end_of-CoreExpr)) = omega (arith, expr_few e, one_few op)
expr_few (expr.Two' op u (more_of-CoreExpr a end_of-CoreExpr) v (more_of-CoreExpr b end_of-CoreExpr)) = omega (arith, expr_few a, expr_few b, two_few op)

-- the place of a target, an end of a copy
place_few : (i : CoreExpr) (more : ℕ) → more ≤ 12 → expr_size i + more ≤ 14 * (1 + index_nodes i)
place_few i more low = by_zero (is_zero i) (expr_size i) (expr_nodes i) more (zero_few i) (expr_few i) low

target_few : (x : CoreTarget) → target_size x ≤ 14 * target_nodes x
target_few (target.Cell array i) = place_few i 9 (omega arith)
target_few (target.Through pointer i) = omega (arith, expr_few i)

pub end_few : (x : CoreEnd) → end_size x ≤ 14 * end_nodes x
end_few (end.Cell array i) = place_few i 11 (omega arith)
end_few (end.Pointer pointer) = omega arith

-- where a reading goes, and the arguments of a call
pub aim_few : (x : Option CoreTarget) → aim_size x ≤ 14 * reading_nodes x + 1
aim_few None = omega arith
aim_few (Some x) = omega (arith, target_few x)

expr_some : (e : CoreExpr) → 1 ≤ expr_nodes e
expr_some (expr.Number n) = omega arith
expr_some (expr.Cell' array u (more_of-CoreExpr i end_of-CoreExpr)) = omega (arith, cell_nodes (is_zero i) (expr_nodes i))
expr_some (expr.Through' pointer u (more_of-CoreExpr i end_of-CoreExpr)) = omega arith
expr_some (expr.One' op u (more_of-CoreExpr e end_of-CoreExpr)) = omega arith
expr_some (expr.Two' op u (more_of-CoreExpr a end_of-CoreExpr) v (more_of-CoreExpr b end_of-CoreExpr)) = omega arith

pub args_few : (es : List CoreExpr) → args_size es ≤ 15 * sum_by expr_nodes es
args_few [] = omega arith
args_few (e ∷ es) = omega (arith, sum_by-cons expr_nodes e es, expr_few e, expr_some e, args_few es)

mutual
  -- a statement without sites, and the jump behind it
  pub plain_few : (s : CoreStmt) → statement_size s + 1 ≤ 14 * stmt_nodes s
  plain_few (stmt.Assign x e) = omega (arith, target_few x, expr_few e)
  plain_few (stmt.Point p array i) = omega (arith, place_few i 11 (omega arith))
  plain_few (stmt.If' c m yes_row n no_row) = omega (arith, expr_few c, rows_few yes_row, rows_few no_row)
  plain_few (stmt.Loop' i turns m row) = omega (arith, rows_few row)
  plain_few (stmt.Io k x p args) = omega arith
  plain_few (stmt.Block' k m row) = omega arith
  plain_few (stmt.Copy k to from n) = omega arith

  rows_few : {n : _} (row : Row_of-CoreStmt n) → row_size row ≤ 14 * row_nodes row
  rows_few end_of-CoreStmt = omega arith
  rows_few (more_of-CoreStmt s rest) = omega (arith, plain_few s, rows_few rest)

-- there are as many nodes as arguments
pub args_some : (es : List CoreExpr) → length es ≤ sum_by expr_nodes es
args_some [] = omega arith
args_some (e ∷ es) = omega (arith, sum_by-cons expr_nodes e es, expr_some e, args_some es)
