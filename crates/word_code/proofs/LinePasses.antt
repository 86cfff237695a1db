-- The code of expressions and of statements without sites passes, and has no marks.
use Rattle.std.specs.Prelude.{ℕ, ◌+◌, ◌<◌, ◌≤◌, List, [], ◌∷◌, IsTrue, refl}
use Rattle.std.proofs.Common.{arith, rules}
use Rattle.task_ast.specs.declared.tree.Op1.{Op1}
use Rattle.task_ast.specs.declared.tree.Op1.TheVariants as one
use Rattle.task_ast.specs.declared.tree.Op2.{Op2}
use Rattle.task_ast.specs.declared.tree.Op2.TheVariants as two
use Rattle.task_ast.specs.declared.core_form.CoreExpr.{CoreExpr, end_of-CoreExpr, more_of-CoreExpr}
use Rattle.task_ast.specs.declared.core_form.CoreExpr.TheVariants as expr
use Rattle.task_ast.specs.declared.core_form.CoreTarget.{CoreTarget}
use Rattle.task_ast.specs.declared.core_form.CoreTarget.TheVariants as target
use Rattle.task_ast.specs.declared.core_form.CoreStmt.{CoreStmt, Row_of-CoreStmt, end_of-CoreStmt, more_of-CoreStmt}
use Rattle.task_ast.specs.declared.core_form.CoreStmt.TheVariants as stmt
use Rattle.line_code.specs.declared.areas.Placed.{Placed}
use Rattle.line_code.specs.declared.line.Line.{Line}
use Rattle.word_isa.specs.declared.instr.Instr.TheVariants.{Ldi, Mov, Eq, Ltu, Adi, Ld, St, Jmp, Jz}
use Rattle.line_code.specs.Areas.{area_at, pointer_at}
use Rattle.line_code.specs.Lines.{bares}
use Rattle.line_code.specs.Sizes.{two_size, expr_size, target_size, statement_size, row_size}
use Rattle.line_code.specs.Expressions.{number_code, place_code, room_code, pointer_code, one_code, op_code, sides_code, both_code, either_code, two_code, expr_code, target_code}
use Rattle.line_code.specs.Statements.{assign_code, point_code, unless_code, if_code, loop_code, statement_code, row_code}
use Rattle.word_code.specs.Passing.{is_register}
use Rattle.word_code.proofs.Fine.{Fine, fine_front}

-- an array's register
abbrev pub IsBased : Placed → Type 0
IsBased p = IsTrue (is_register p.base)

number_fine : (n : ℕ) → Fine 0 (number_code n)
number_fine n = record { pass = search rules; signs = refl }

pub place_fine : (p : Placed) → IsBased p → Fine 0 (place_code p)
place_fine p based = record { pass = search rules; signs = refl }

pub room_fine : (cell : ℕ) → Fine 0 (room_code cell)
room_fine cell = record { pass = search rules; signs = refl }

pointer_fine : (cell : ℕ) → Fine 0 (pointer_code cell)
pointer_fine cell = record { pass = search rules; signs = refl }

one_fine : (op : Op1) → Fine 0 (one_code op)
one_fine one.Not = record { pass = search rules; signs = refl }
one_fine one.Inv = record { pass = search rules; signs = refl }
one_fine one.Neg = record { pass = search rules; signs = refl }

op_fine : (op : Op2) → Fine 0 (op_code op)
op_fine two.Add = record { pass = search rules; signs = refl }
op_fine two.Sub = record { pass = search rules; signs = refl }
op_fine two.Mul = record { pass = search rules; signs = refl }
op_fine two.Div = record { pass = search rules; signs = refl }
op_fine two.Rem = record { pass = search rules; signs = refl }
op_fine two.And = record { pass = search rules; signs = refl }
op_fine two.Or = record { pass = search rules; signs = refl }
op_fine two.Xor = record { pass = search rules; signs = refl }
op_fine two.Shl = record { pass = search rules; signs = refl }
op_fine two.Shr = record { pass = search rules; signs = refl }
op_fine two.Eq = record { pass = search rules; signs = refl }
op_fine two.Ne = record { pass = search rules; signs = refl }
op_fine two.Lt = record { pass = search rules; signs = refl }
op_fine two.Le = record { pass = search rules; signs = refl }
op_fine two.Gt = record { pass = search rules; signs = refl }
op_fine two.Ge = record { pass = search rules; signs = refl }
op_fine two.Both = record { pass = search rules; signs = refl }
op_fine two.Either = record { pass = search rules; signs = refl }

store_fine : (cell : ℕ) → Fine 0 (bares (St 1 15 cell ∷ []))
store_fine cell = record { pass = search rules; signs = refl }

back_fine : (cell : ℕ) → Fine 0 (bares (Mov 2 1 ∷ Ld 1 15 cell ∷ []))
back_fine cell = record { pass = search rules; signs = refl }

bit_fine : Fine 0 (bares (Eq 1 0 ∷ Eq 1 0 ∷ []))
bit_fine = record { pass = search rules; signs = refl }

sides_fine : (op : Op2) (d : ℕ) (left right : List Line) → Fine 0 left → Fine 0 right → Fine 0 (sides_code op d left right)
sides_fine op d left right one two = fine_front one (fine_front (store_fine d) (fine_front two (fine_front (back_fine d) (op_fine op))))

both_fine : (end : ℕ) (left right : List Line) → end ≤ 4194304 → Fine 0 left → Fine 0 right → Fine 0 (both_code end left right)
both_fine end left right low one two =
    let there : end < 16777216 = omega (arith, low) in
    let test : Fine 0 (bares (Eq 1 0 ∷ Jz 1 1 ∷ Jmp end ∷ [])) = record { pass = search rules; signs = refl } in
    fine_front one (fine_front test (fine_front two bit_fine))

either_fine : (end : ℕ) (left right : List Line) → end ≤ 4194304 → Fine 0 left → Fine 0 right → Fine 0 (either_code end left right)
either_fine end left right low one two =
    let there : end < 16777216 = omega (arith, low) in
    let test : Fine 0 (bares (Jz 1 1 ∷ Jmp end ∷ [])) = record { pass = search rules; signs = refl } in
    fine_front one (fine_front test (fine_front two bit_fine))

-- an operator between sides of so many lines
two_fine : (op : Op2) (d at m n : ℕ) (left right : ℕ → ℕ → List Line) → at + (m + n + two_size op) ≤ 4194304
    → ((d' at' : ℕ) → at' + m ≤ 4194304 → Fine 0 (left d' at')) → ((d' at' : ℕ) → at' + n ≤ 4194304 → Fine 0 (right d' at')) → Fine 0 (two_code op d at m n left right)
two_fine two.Add d at m n left right low on_left on_right = sides_fine two.Add d (left d at) (right (d + 1) (at + m + 1)) (on_left d at (omega (arith, low))) (on_right (d + 1) (at + m + 1) (omega (arith, low)))
two_fine two.Sub d at m n left right low on_left on_right = sides_fine two.Sub d (left d at) (right (d + 1) (at + m + 1)) (on_left d at (omega (arith, low))) (on_right (d + 1) (at + m + 1) (omega (arith, low)))
two_fine two.Mul d at m n left right low on_left on_right = sides_fine two.Mul d (left d at) (right (d + 1) (at + m + 1)) (on_left d at (omega (arith, low))) (on_right (d + 1) (at + m + 1) (omega (arith, low)))
two_fine two.Div d at m n left right low on_left on_right = sides_fine two.Div d (left d at) (right (d + 1) (at + m + 1)) (on_left d at (omega (arith, low))) (on_right (d + 1) (at + m + 1) (omega (arith, low)))
two_fine two.Rem d at m n left right low on_left on_right = sides_fine two.Rem d (left d at) (right (d + 1) (at + m + 1)) (on_left d at (omega (arith, low))) (on_right (d + 1) (at + m + 1) (omega (arith, low)))
two_fine two.And d at m n left right low on_left on_right = sides_fine two.And d (left d at) (right (d + 1) (at + m + 1)) (on_left d at (omega (arith, low))) (on_right (d + 1) (at + m + 1) (omega (arith, low)))
two_fine two.Or d at m n left right low on_left on_right = sides_fine two.Or d (left d at) (right (d + 1) (at + m + 1)) (on_left d at (omega (arith, low))) (on_right (d + 1) (at + m + 1) (omega (arith, low)))
two_fine two.Xor d at m n left right low on_left on_right = sides_fine two.Xor d (left d at) (right (d + 1) (at + m + 1)) (on_left d at (omega (arith, low))) (on_right (d + 1) (at + m + 1) (omega (arith, low)))
two_fine two.Shl d at m n left right low on_left on_right = sides_fine two.Shl d (left d at) (right (d + 1) (at + m + 1)) (on_left d at (omega (arith, low))) (on_right (d + 1) (at + m + 1) (omega (arith, low)))
two_fine two.Shr d at m n left right low on_left on_right = sides_fine two.Shr d (left d at) (right (d + 1) (at + m + 1)) (on_left d at (omega (arith, low))) (on_right (d + 1) (at + m + 1) (omega (arith, low)))
two_fine two.Eq d at m n left right low on_left on_right = sides_fine two.Eq d (left d at) (right (d + 1) (at + m + 1)) (on_left d at (omega (arith, low))) (on_right (d + 1) (at + m + 1) (omega (arith, low)))
two_fine two.Ne d at m n left right low on_left on_right = sides_fine two.Ne d (left d at) (right (d + 1) (at + m + 1)) (on_left d at (omega (arith, low))) (on_right (d + 1) (at + m + 1) (omega (arith, low)))
two_fine two.Lt d at m n left right low on_left on_right = sides_fine two.Lt d (left d at) (right (d + 1) (at + m + 1)) (on_left d at (omega (arith, low))) (on_right (d + 1) (at + m + 1) (omega (arith, low)))
two_fine two.Le d at m n left right low on_left on_right = sides_fine two.Le d (left d at) (right (d + 1) (at + m + 1)) (on_left d at (omega (arith, low))) (on_right (d + 1) (at + m + 1) (omega (arith, low)))
two_fine two.Gt d at m n left right low on_left on_right = sides_fine two.Gt d (left d at) (right (d + 1) (at + m + 1)) (on_left d at (omega (arith, low))) (on_right (d + 1) (at + m + 1) (omega (arith, low)))
two_fine two.Ge d at m n left right low on_left on_right = sides_fine two.Ge d (left d at) (right (d + 1) (at + m + 1)) (on_left d at (omega (arith, low))) (on_right (d + 1) (at + m + 1) (omega (arith, low)))
two_fine two.Both d at m n left right low on_left on_right =
    both_fine (at + m + n + 4) (left d at) (right d (at + m + 3)) (omega (arith, low)) (on_left d at (omega (arith, low))) (on_right d (at + m + 3) (omega (arith, low)))
two_fine two.Either d at m n left right low on_left on_right =
    either_fine (at + m + n + 2) (left d at) (right d (at + m + 2)) (omega (arith, low)) (on_left d at (omega (arith, low))) (on_right d (at + m + 2) (omega (arith, low)))

read_fine : Fine 0 (bares (Ld 1 1 0 ∷ []))
read_fine = record { pass = search rules; signs = refl }

module _ (areas : List Placed) (based : (a : ℕ) → IsBased (area_at areas a)) where
  pub expr_fine : (e : CoreExpr) (d at : ℕ) → at + expr_size e ≤ 4194304 → Fine 0 (expr_code areas e d at)
  expr_fine (expr.Number n) d at low = number_fine n
  expr_fine (expr.Cell' array u (more_of-CoreExpr i end_of-CoreExpr)) d at low = fine_front (expr_fine i d at (omega (arith, low))) (fine_front (place_fine (area_at areas array) (based array)) read_fine)
  expr_fine (expr.Through' pointer u (more_of-CoreExpr i end_of-CoreExpr)) d at low = fine_front (expr_fine i d at (omega (arith, low))) (fine_front (pointer_fine (pointer_at pointer)) read_fine)
  expr_fine (expr.One' op u (more_of-CoreExpr e end_of-CoreExpr)) d at low = fine_front (expr_fine e d at (omega (arith, low))) (one_fine op)
  expr_fine (expr.Two' op u (more_of-CoreExpr a end_of-CoreExpr) v (more_of-CoreExpr b end_of-CoreExpr)) d at low =
      two_fine op d at (expr_size a) (expr_size b) (expr_code areas a) (expr_code areas b) (omega (arith, low)) (expr_fine a) (expr_fine b)

  pub target_fine : (x : CoreTarget) (at : ℕ) → at + target_size x ≤ 4194304 → Fine 0 (target_code areas x at)
  target_fine (target.Cell array i) at low = fine_front (expr_fine i 0 at (omega (arith, low))) (place_fine (area_at areas array) (based array))
  target_fine (target.Through p i) at low = fine_front (expr_fine i 0 at (omega (arith, low))) (pointer_fine (pointer_at p))

  unless_fine : (to : ℕ) → to ≤ 4194304 → Fine 0 (unless_code to)
  unless_fine to low =
      let there : to < 16777216 = omega (arith, low) in
      record { pass = search rules; signs = refl }

  jump_fine : (to : ℕ) → to ≤ 4194304 → Fine 0 (bares (Jmp to ∷ []))
  jump_fine to low =
      let there : to < 16777216 = omega (arith, low) in
      record { pass = search rules; signs = refl }

  assign_fine : (x : CoreTarget) (e : CoreExpr) (at : ℕ) → at + (target_size x + expr_size e + 3) ≤ 4194304 → Fine 0 (assign_code areas x e at)
  assign_fine x e at low =
      let last : Fine 0 (bares (Ld 2 15 0 ∷ St 1 2 0 ∷ [])) = record { pass = search rules; signs = refl } in
      fine_front (target_fine x at (omega (arith, low))) (fine_front (store_fine 0) (fine_front (expr_fine e 1 (at + target_size x + 1) (omega (arith, low))) last))

  point_fine : (p array : ℕ) (i : CoreExpr) (at : ℕ) → at + (expr_size i + 11) ≤ 4194304 → Fine 0 (point_code areas p array i at)
  point_fine p array i at low =
      let last : Fine 0 (bares (St 1 15 (pointer_at p) ∷ St 2 15 (pointer_at p + 1) ∷ [])) = record { pass = search rules; signs = refl } in
      fine_front (expr_fine i 0 at (omega (arith, low))) (fine_front (place_fine (area_at areas array) (based array)) last)

  if_fine : (other end : ℕ) (condition yes_part no_part : List Line) → other ≤ 4194304 → end ≤ 4194304 → Fine 0 condition → Fine 0 yes_part → Fine 0 no_part → Fine 0 (if_code other end condition yes_part no_part)
  if_fine other end condition yes_part no_part low high test one two =
      fine_front test (fine_front (unless_fine other low) (fine_front one (fine_front (jump_fine end high) two)))

  loop_fine : (i : Placed) (turns top end : ℕ) (body : List Line) → IsBased i → top ≤ 4194304 → end ≤ 4194304 → Fine 0 body → Fine 0 (loop_code i turns top end body)
  loop_fine i turns top end body at_base low high fine =
      let back : top < 16777216 = omega (arith, low) in
      let head : Fine 0 (bares (Ldi 1 0 ∷ St 1 i.base i.offset ∷ Ld 1 i.base i.offset ∷ Ldi 2 turns ∷ Ltu 1 2 ∷ [])) = record { pass = search rules; signs = refl } in
      let last : Fine 0 (bares (Ld 1 i.base i.offset ∷ Adi 1 1 ∷ St 1 i.base i.offset ∷ Jmp top ∷ [])) = record { pass = search rules; signs = refl } in
      fine_front head (fine_front (unless_fine end high) (fine_front fine last))

  mutual
    pub statement_fine : (s : CoreStmt) (at : ℕ) → at + statement_size s ≤ 4194304 → Fine 0 (statement_code areas s at)
    statement_fine (stmt.Assign x e) at low = assign_fine x e at low
    statement_fine (stmt.Point p array i) at low = point_fine p array i at low
    statement_fine (stmt.If' c m yes_row n no_row) at low =
        let yes_at = at + expr_size c + 3 in
        let no_at = yes_at + row_size yes_row + 1 in
        if_fine no_at (no_at + row_size no_row) (expr_code areas c 0 at) (row_code areas yes_row yes_at) (row_code areas no_row no_at) (omega (arith, low)) (omega (arith, low))
        (expr_fine c 0 at (omega (arith, low))) (row_fine yes_row yes_at (omega (arith, low))) (row_fine no_row no_at (omega (arith, low)))
    statement_fine (stmt.Loop' i turns m row) at low =
        loop_fine (area_at areas i) turns (at + 2) (at + 8 + row_size row + 4) (row_code areas row (at + 8)) (based i) (omega (arith, low)) (omega (arith, low)) (row_fine row (at + 8) (omega (arith, low)))
    statement_fine (stmt.Io k x p args) at low = record { pass = tt; signs = refl }
    statement_fine (stmt.Block' k m row) at low = record { pass = tt; signs = refl }
    statement_fine (stmt.Copy k to from n) at low = record { pass = tt; signs = refl }

    row_fine : {n : _} (row : Row_of-CoreStmt n) (at : ℕ) → at + row_size row ≤ 4194304 → Fine 0 (row_code areas row at)
    row_fine end_of-CoreStmt at low = record { pass = tt; signs = refl }
    row_fine (more_of-CoreStmt s rest) at low = fine_front (statement_fine s at (omega (arith, low))) (row_fine rest (at + statement_size s) (omega (arith, low)))
