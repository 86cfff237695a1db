-- Code has as many lines as its size says.
use Rattle.std.proofs.Common.{◌≡◌, ℕ, ◌+◌, List, [], ◌∷◌, ◌++◌, length, refl, arith, length-append}
use Rattle.task_ast.specs.declared.tree.Op1.{Op1}
use Rattle.task_ast.specs.declared.tree.Op1.TheVariants as one
use Rattle.task_ast.specs.declared.tree.Op2.{Op2}
use Rattle.task_ast.specs.declared.tree.Op2.TheVariants as two
use Rattle.task_ast.specs.declared.core_form.CoreExpr.{CoreExpr, end_of-CoreExpr, more_of-CoreExpr}
use Rattle.task_ast.specs.declared.core_form.CoreExpr.TheVariants as expr
use Rattle.line_code.specs.declared.areas.Placed.{Placed}
use Rattle.line_code.specs.declared.line.Line.{Line}
use Rattle.line_code.specs.Areas.{area_at, pointer_at}
use Rattle.line_code.specs.Lines.{bares}
use Rattle.word_isa.specs.declared.instr.Instr.TheVariants.{Adi, Eq, Jmp, Jz, Ld, Mov, St}
use Rattle.line_code.specs.Sizes.{one_size, two_size, expr_size, target_size, statement_size, row_size}
use Rattle.line_code.specs.Expressions.{place_code, pointer_code, one_code, op_code, sides_code, both_code, either_code, two_code, expr_code, target_code}
use Rattle.line_code.specs.Statements.{unless_code, if_code, loop_code, statement_code, row_code}
use Rattle.task_ast.specs.declared.core_form.CoreTarget.{CoreTarget}
use Rattle.task_ast.specs.declared.core_form.CoreTarget.TheVariants as target
use Rattle.task_ast.specs.declared.core_form.CoreStmt.{CoreStmt, Row_of-CoreStmt, end_of-CoreStmt, more_of-CoreStmt}
use Rattle.task_ast.specs.declared.core_form.CoreStmt.TheVariants as stmt

pub one_long : (op : Op1) → length (one_code op) ≡ one_size op
one_long one.Not = refl
one_long one.Inv = refl
one_long one.Neg = refl

sides_long : (op : Op2) (d v w : ℕ) (left right : List Line) → length left ≡ v → length right ≡ w → length (sides_code op d left right) ≡ v + w + (3 + length (op_code op))
sides_long op d v w left right a b =
    let tail : List Line = bares (Mov 2 1 ∷ Ld 1 15 d ∷ []) ++ op_code op in
    omega (arith, a, b, length-append left (bares (St 1 15 d ∷ []) ++ (right ++ tail)), length-append right tail)

both_long : (end v w : ℕ) (left right : List Line) → length left ≡ v → length right ≡ w → length (both_code end left right) ≡ v + w + 5
both_long end v w left right a b =
    let tail : List Line = bares (Eq 1 0 ∷ Eq 1 0 ∷ []) in
    omega (arith, a, b, length-append left (bares (Eq 1 0 ∷ Jz 1 1 ∷ Jmp end ∷ []) ++ (right ++ tail)), length-append right tail)

either_long : (end v w : ℕ) (left right : List Line) → length left ≡ v → length right ≡ w → length (either_code end left right) ≡ v + w + 4
either_long end v w left right a b =
    let tail : List Line = bares (Eq 1 0 ∷ Eq 1 0 ∷ []) in
    omega (arith, a, b, length-append left (bares (Jz 1 1 ∷ Jmp end ∷ []) ++ (right ++ tail)), length-append right tail)

two_long : (op : Op2) (d at m n : ℕ) (left right : ℕ → ℕ → List Line) → ((d at : ℕ) → length (left d at) ≡ m) → ((d at : ℕ) → length (right d at) ≡ n) → length (two_code op d at m n left right) ≡ m + n + two_size op
two_long two.Both d at m n left right a b = both_long (at + m + n + 4) m n (left d at) (right d (at + m + 3)) (a d at) (b d (at + m + 3))
two_long two.Either d at m n left right a b = either_long (at + m + n + 2) m n (left d at) (right d (at + m + 2)) (a d at) (b d (at + m + 2))
two_long op d at m n left right a b = sides_long op d m n (left d at) (right (d + 1) (at + m + 1)) (a d at) (b (d + 1) (at + m + 1))

pub expr_long : (areas : List Placed) (e : CoreExpr) (d at : ℕ) → length (expr_code areas e d at) ≡ expr_size e
expr_long areas (expr.Number n) d at = refl
expr_long areas (expr.Cell' array u (more_of-CoreExpr i end_of-CoreExpr)) d at =
    omega (arith, length-append (expr_code areas i d at) (place_code (area_at areas array) ++ bares (Ld 1 1 0 ∷ [])), expr_long areas i d at)
expr_long areas (expr.Through' pointer u (more_of-CoreExpr i end_of-CoreExpr)) d at =
    omega (arith, length-append (expr_code areas i d at) (pointer_code (pointer_at pointer) ++ bares (Ld 1 1 0 ∷ [])), expr_long areas i d at)
expr_long areas (expr.One' op u (more_of-CoreExpr e end_of-CoreExpr)) d at =
    omega (arith, length-append (expr_code areas e d at) (one_code op), expr_long areas e d at, one_long op)
expr_long areas (expr.Two' op u (more_of-CoreExpr a end_of-CoreExpr) v (more_of-CoreExpr b end_of-CoreExpr)) d at =
    two_long op d at (expr_size a) (expr_size b) (expr_code areas a) (expr_code areas b) (λ d at. expr_long areas a d at) (λ d at. expr_long areas b d at)

-- statements: the code of an `if` and of a loop by that of their bodies
if_long : (other end u v w : ℕ) (c a b : List Line) → length c ≡ u → length a ≡ v → length b ≡ w → length (if_code other end c a b) ≡ u + v + w + 4
if_long other end u v w c a b x y z =
    let last : List Line = bares (Jmp end ∷ []) ++ b in
    omega (arith, x, y, z, length-append c (unless_code other ++ (a ++ last)), length-append a last)

loop_long : (i : Placed) (turns top end v : ℕ) (body : List Line) → length body ≡ v → length (loop_code i turns top end body) ≡ v + 12
loop_long i turns top end v body x = omega (arith, x, length-append body (bares (Ld 1 i.base i.offset ∷ Adi 1 1 ∷ St 1 i.base i.offset ∷ Jmp top ∷ [])))

pub target_long : (areas : List Placed) (x : CoreTarget) (at : ℕ) → length (target_code areas x at) ≡ target_size x
target_long areas (target.Cell array i) at = omega (arith, length-append (expr_code areas i 0 at) (place_code (area_at areas array)), expr_long areas i 0 at)
target_long areas (target.Through pointer i) at = omega (arith, length-append (expr_code areas i 0 at) (pointer_code (pointer_at pointer)), expr_long areas i 0 at)

mutual
  pub statement_long : (areas : List Placed) (s : CoreStmt) (at : ℕ) → length (statement_code areas s at) ≡ statement_size s
  statement_long areas (stmt.Assign x e) at =
      let from : ℕ = at + target_size x + 1 in
      let tail : List Line = bares (Ld 2 15 0 ∷ St 1 2 0 ∷ []) in
      omega (arith, length-append (target_code areas x at) (bares (St 1 15 0 ∷ []) ++ (expr_code areas e 1 from ++ tail)), target_long areas x at, length-append (expr_code areas e 1 from) tail, expr_long areas e 1 from)
  statement_long areas (stmt.Point p array i) at =
      omega (arith, length-append (expr_code areas i 0 at) (place_code (area_at areas array) ++ bares (St 1 15 (pointer_at p) ∷ St 2 15 (pointer_at p + 1) ∷ [])), expr_long areas i 0 at)
  statement_long areas (stmt.If' c m yes_row n no_row) at =
      let yes_at : ℕ = at + expr_size c + 3 in
      let no_at : ℕ = yes_at + row_size yes_row + 1 in
      if_long no_at (no_at + row_size no_row) (expr_size c) (row_size yes_row) (row_size no_row) (expr_code areas c 0 at) (row_code areas yes_row yes_at) (row_code areas no_row no_at)
      (expr_long areas c 0 at) (row_long areas yes_row yes_at) (row_long areas no_row no_at)
  statement_long areas (stmt.Loop' i turns m row) at = loop_long (area_at areas i) turns (at + 2) (at + 8 + row_size row + 4) (row_size row) (row_code areas row (at + 8)) (row_long areas row (at + 8))
  statement_long areas (stmt.Io site x p args) at = refl
  statement_long areas (stmt.Block' site m row) at = refl
  statement_long areas (stmt.Copy site to from n) at = refl

  pub row_long : (areas : List Placed) {n : _} (row : Row_of-CoreStmt n) (at : ℕ) → length (row_code areas row at) ≡ row_size row
  row_long areas end_of-CoreStmt at = refl
  row_long areas (more_of-CoreStmt s rest) at = omega (arith, length-append (statement_code areas s at) (row_code areas rest (at + statement_size s)), statement_long areas s at, row_long areas rest (at + statement_size s))
