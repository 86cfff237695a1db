-- The code of expressions and of statements without sites is narrow, and as long as its size.
use Rattle.std.specs.Prelude.{◌≡◌, ℕ, ◌+◌, ◌*◌, ◌/◌, ◌%◌, ◌^◌, ◌<◌, ◌≤◌, Bool, true, false, nat_lt, List, [], ◌∷◌, length, IsTrue, if◌then◌else◌, refl}
use Rattle.std.proofs.Common.{arith, rules}
use Rattle.task_ast.specs.CoreNodes.{is_zero}
use Rattle.task_ast.specs.WellFormed.{core_depth}
use Rattle.task_ast.specs.declared.tree.Op1.{Op1}
use Rattle.task_ast.specs.declared.tree.Op1.TheVariants as one
use Rattle.task_ast.specs.declared.tree.Op2.{Op2}
use Rattle.task_ast.specs.declared.tree.Op2.TheVariants as two
use Rattle.task_ast.specs.declared.core_form.CoreExpr.{CoreExpr, end_of-CoreExpr, more_of-CoreExpr}
use Rattle.task_ast.specs.declared.core_form.CoreExpr.TheVariants as expr
use Rattle.task_ast.specs.declared.core_form.CoreTarget.{CoreTarget}
use Rattle.task_ast.specs.declared.core_form.CoreTarget.TheVariants as target
use Rattle.task_ast.specs.declared.core_form.CoreStmt.{CoreStmt, Row_of-CoreStmt, end_of-CoreStmt, more_of-CoreStmt}
use Rattle.task_ast.specs.declared.core_form.CoreStmt.TheVariants as stmt
use Rattle.line_code.specs.declared.areas.Placed.{Placed}
use Rattle.line_code.specs.declared.line.Line.{Line}
use Rattle.word_isa.specs.declared.instr.Instr.TheVariants.{Ldi, Mov, Eq, Ltu, Adi, Ld, St, Jmp, Jz}
use Rattle.line_code.specs.Areas.{area_at, pointer_at}
use Rattle.line_code.specs.Fitting.{HasFields, IsShort, IsShortTarget, IsShortStmt, AreShortStmts}
use Rattle.line_code.specs.Lines.{bares}
use Rattle.line_code.specs.Sizes.{one_size, two_size, expr_size, target_size, statement_size, row_size}
use Rattle.line_code.specs.Expressions.{number_code, place_code, room_code, pointer_code, one_code, op_code, sides_code, both_code, either_code, two_code, expr_code, target_code}
use Rattle.line_code.specs.Statements.{assign_code, point_code, unless_code, if_code, loop_code, statement_code, row_code}
use Rattle.code_places.proofs.Good.{Good, small, join, good_as, nothing}

-- an array lies low
abbrev pub LiesLow : Placed → Type 0
LiesLow p = p.offset + p.room ≤ 9026

-- an index is no deeper than its cell
zero_depth : (i : CoreExpr) → is_zero i ≡ true → core_depth i ≡ 1
zero_depth (expr.Number n) is = refl
zero_depth (expr.Cell' array u i) is = cc
zero_depth (expr.Through' pointer u i) is = cc
zero_depth (expr.One' op u e) is = cc
zero_depth (expr.Two' op u a v b) is = cc

index_depth : (i : CoreExpr) (z : Bool) → is_zero i ≡ z → core_depth i ≤ (if z then 1 else 1 + core_depth i)
index_depth i true is = omega (arith, zero_depth i is)
index_depth i false is = omega arith

module _ (way : List Line) where
  number_good : (n : ℕ) → n < 2 ^ 32 → Good way 2 (number_code n)
  number_good n low =
      let first : IsTrue (nat_lt (n % 65536) 65536) = small (n % 65536) (omega arith) in
      let second : IsTrue (nat_lt (n / 65536) 65536) = small (n / 65536) (omega (arith, low)) in
      record { long = refl; narrow = (first, (second, tt)); followed = search rules }

  pub place_good : (p : Placed) → LiesLow p → Good way 9 (place_code p)
  place_good p low =
      let room : IsTrue (nat_lt p.room 65536) = small p.room (omega (arith, low)) in
      let offset : IsTrue (nat_lt p.offset 65536) = small p.offset (omega (arith, low)) in
      record { long = refl; narrow = search rules; followed = search rules }

  pub room_good : (cell : ℕ) → cell < 4096 → Good way 5 (room_code cell)
  room_good cell low =
      let next : IsTrue (nat_lt (cell + 1) 65536) = small (cell + 1) (omega (arith, low)) in
      record { long = refl; narrow = search rules; followed = search rules }

  pointer_good : (cell : ℕ) → cell < 4096 → Good way 13 (pointer_code cell)
  pointer_good cell low =
      let here : IsTrue (nat_lt cell 65536) = small cell (omega (arith, low)) in
      let next : IsTrue (nat_lt (cell + 1) 65536) = small (cell + 1) (omega (arith, low)) in
      record { long = refl; narrow = search rules; followed = search rules }

  one_good : (op : Op1) → Good way (one_size op) (one_code op)
  one_good one.Not = record { long = refl; narrow = search rules; followed = search rules }
  one_good one.Inv = record { long = refl; narrow = search rules; followed = search rules }
  one_good one.Neg = record { long = refl; narrow = search rules; followed = search rules }

  op_good : (op : Op2) → Good way (length (op_code op)) (op_code op)
  op_good two.Add = record { long = refl; narrow = search rules; followed = search rules }
  op_good two.Sub = record { long = refl; narrow = search rules; followed = search rules }
  op_good two.Mul = record { long = refl; narrow = search rules; followed = search rules }
  op_good two.Div = record { long = refl; narrow = search rules; followed = search rules }
  op_good two.Rem = record { long = refl; narrow = search rules; followed = search rules }
  op_good two.And = record { long = refl; narrow = search rules; followed = search rules }
  op_good two.Or = record { long = refl; narrow = search rules; followed = search rules }
  op_good two.Xor = record { long = refl; narrow = search rules; followed = search rules }
  op_good two.Shl = record { long = refl; narrow = search rules; followed = search rules }
  op_good two.Shr = record { long = refl; narrow = search rules; followed = search rules }
  op_good two.Eq = record { long = refl; narrow = search rules; followed = search rules }
  op_good two.Ne = record { long = refl; narrow = search rules; followed = search rules }
  op_good two.Lt = record { long = refl; narrow = search rules; followed = search rules }
  op_good two.Le = record { long = refl; narrow = search rules; followed = search rules }
  op_good two.Gt = record { long = refl; narrow = search rules; followed = search rules }
  op_good two.Ge = record { long = refl; narrow = search rules; followed = search rules }
  op_good two.Both = nothing
  op_good two.Either = nothing

  pub store_good : (cell : ℕ) → cell < 4096 → Good way 1 (bares (St 1 15 cell ∷ []))
  store_good cell low =
      let here : IsTrue (nat_lt cell 65536) = small cell (omega (arith, low)) in
      record { long = refl; narrow = (here, tt); followed = search rules }

  back_good : (cell : ℕ) → cell < 4096 → Good way 2 (bares (Mov 2 1 ∷ Ld 1 15 cell ∷ []))
  back_good cell low =
      let here : IsTrue (nat_lt cell 65536) = small cell (omega (arith, low)) in
      record { long = refl; narrow = (tt, (here, tt)); followed = search rules }

  bit_good : Good way 2 (bares (Eq 1 0 ∷ Eq 1 0 ∷ []))
  bit_good = record { long = refl; narrow = search rules; followed = search rules }

  sides_good : (op : Op2) (d v w : ℕ) (left right : List Line) → d < 4096 → Good way v left → Good way w right → Good way (v + w + (3 + length (op_code op))) (sides_code op d left right)
  sides_good op d v w left right low one two =
      good_as (v + w + (3 + length (op_code op))) (join one (join (store_good d low) (join two (join (back_good d low) (op_good op))))) (omega arith)

  both_good : (end v w : ℕ) (left right : List Line) → Good way v left → Good way w right → Good way (v + w + 5) (both_code end left right)
  both_good end v w left right one two =
      let test : Good way 3 (bares (Eq 1 0 ∷ Jz 1 1 ∷ Jmp end ∷ [])) = record { long = refl; narrow = search rules; followed = search rules } in
      good_as (v + w + 5) (join one (join test (join two bit_good))) (omega arith)

  either_good : (end v w : ℕ) (left right : List Line) → Good way v left → Good way w right → Good way (v + w + 4) (either_code end left right)
  either_good end v w left right one two =
      let test : Good way 2 (bares (Jz 1 1 ∷ Jmp end ∷ [])) = record { long = refl; narrow = search rules; followed = search rules } in
      good_as (v + w + 4) (join one (join test (join two bit_good))) (omega arith)

  -- an operator between sides of so many lines
  two_good : (op : Op2) (d at m n : ℕ) (left right : ℕ → ℕ → List Line) → d < 4096 → ((a : ℕ) → Good way m (left d a)) → ((a : ℕ) → Good way n (right d a)) → ((a : ℕ) → Good way n (right (d + 1) a))
      → Good way (m + n + two_size op) (two_code op d at m n left right)
  two_good two.Both d at m n left right low on_left on_right deeper = both_good (at + m + n + 4) m n (left d at) (right d (at + m + 3)) (on_left at) (on_right (at + m + 3))
  two_good two.Either d at m n left right low on_left on_right deeper = either_good (at + m + n + 2) m n (left d at) (right d (at + m + 2)) (on_left at) (on_right (at + m + 2))
  two_good op d at m n left right low on_left on_right deeper = sides_good op d m n (left d at) (right (d + 1) (at + m + 1)) low (on_left at) (deeper (at + m + 1))

  read_good : Good way 1 (bares (Ld 1 1 0 ∷ []))
  read_good = record { long = refl; narrow = search rules; followed = search rules }

  module _ (areas : List Placed) (low : (a : ℕ) → LiesLow (area_at areas a)) where
    expr_at : (e : CoreExpr) (d at : ℕ) → d + core_depth e ≤ 32 → HasFields e → Good way (expr_size e) (expr_code areas e d at)
    expr_at (expr.Number n) d at cells fields = number_good n fields
    expr_at (expr.Cell' array u (more_of-CoreExpr i end_of-CoreExpr)) d at cells fields =
        good_as (expr_size i + 10) (join (expr_at i d at (omega (arith, cells, index_depth i (is_zero i) refl)) fields) (join (place_good (area_at areas array) (low array)) read_good)) (omega arith)
    expr_at (expr.Through' pointer u (more_of-CoreExpr i end_of-CoreExpr)) d at cells fields =
        good_as (expr_size i + 14) (join (expr_at i d at (omega (arith, cells)) fields.1) (join (pointer_good (pointer_at pointer) (omega (arith, fields.0))) read_good)) (omega arith)
    expr_at (expr.One' op u (more_of-CoreExpr e end_of-CoreExpr)) d at cells fields = join (expr_at e d at (omega (arith, cells)) fields) (one_good op)
    expr_at (expr.Two' op u (more_of-CoreExpr a end_of-CoreExpr) v (more_of-CoreExpr b end_of-CoreExpr)) d at cells fields =
        two_good op d at (expr_size a) (expr_size b) (expr_code areas a) (expr_code areas b) (omega (arith, cells))
        (λ x. expr_at a d x (omega (arith, cells)) fields.0) (λ x. expr_at b d x (omega (arith, cells)) fields.1) (λ x. expr_at b (d + 1) x (omega (arith, cells)) fields.1)

    pub expr_good : (e : CoreExpr) (d at : ℕ) → IsShort d e → Good way (expr_size e) (expr_code areas e d at)
    expr_good e d at short = expr_at e d at short.cells short.fields

    pub target_good : (x : CoreTarget) (at : ℕ) → IsShortTarget x → Good way (target_size x) (target_code areas x at)
    target_good (target.Cell array i) at short = join (expr_good i 0 at short) (place_good (area_at areas array) (low array))
    target_good (target.Through p i) at short = join (expr_good i 0 at short.1) (pointer_good (pointer_at p) (omega (arith, short.0)))

    unless_good : (to : ℕ) → Good way 3 (unless_code to)
    unless_good to = record { long = refl; narrow = search rules; followed = search rules }

    jump_good : (to : ℕ) → Good way 1 (bares (Jmp to ∷ []))
    jump_good to = record { long = refl; narrow = search rules; followed = search rules }

    assign_good : (x : CoreTarget) (e : CoreExpr) (at : ℕ) → IsShortTarget x → IsShort 1 e → Good way (target_size x + expr_size e + 3) (assign_code areas x e at)
    assign_good x e at one two =
        let last : Good way 2 (bares (Ld 2 15 0 ∷ St 1 2 0 ∷ [])) = record { long = refl; narrow = search rules; followed = search rules } in
        good_as (target_size x + expr_size e + 3) (join (target_good x at one) (join (store_good 0 (omega arith)) (join (expr_good e 1 (at + target_size x + 1) two) last))) (omega arith)

    point_good : (p array : ℕ) (i : CoreExpr) (at : ℕ) → p < 256 → IsShort 0 i → Good way (expr_size i + 11) (point_code areas p array i at)
    point_good p array i at few short =
        let here : IsTrue (nat_lt (320 + 2 * p) 65536) = small (320 + 2 * p) (omega (arith, few)) in
        let next : IsTrue (nat_lt (320 + 2 * p + 1) 65536) = small (320 + 2 * p + 1) (omega (arith, few)) in
        let last : Good way 2 (bares (St 1 15 (pointer_at p) ∷ St 2 15 (pointer_at p + 1) ∷ [])) = record { long = refl; narrow = (here, (next, tt)); followed = search rules } in
        good_as (expr_size i + 11) (join (expr_good i 0 at short) (join (place_good (area_at areas array) (low array)) last)) (omega arith)

    if_good : (other end u v w : ℕ) (condition yes_part no_part : List Line) → Good way u condition → Good way v yes_part → Good way w no_part → Good way (u + v + w + 4) (if_code other end condition yes_part no_part)
    if_good other end u v w condition yes_part no_part test one two =
        good_as (u + v + w + 4) (join test (join (unless_good other) (join one (join (jump_good end) two)))) (omega arith)

    loop_good : (i : Placed) (turns top end v : ℕ) (body : List Line) → LiesLow i → turns < 65536 → Good way v body → Good way (v + 12) (loop_code i turns top end body)
    loop_good i turns top end v body at_low few good =
        let offset : IsTrue (nat_lt i.offset 65536) = small i.offset (omega (arith, at_low)) in
        let count : IsTrue (nat_lt turns 65536) = small turns few in
        let head : Good way 5 (bares (Ldi 1 0 ∷ St 1 i.base i.offset ∷ Ld 1 i.base i.offset ∷ Ldi 2 turns ∷ Ltu 1 2 ∷ [])) = record { long = refl; narrow = search rules; followed = search rules } in
        let last : Good way 4 (bares (Ld 1 i.base i.offset ∷ Adi 1 1 ∷ St 1 i.base i.offset ∷ Jmp top ∷ [])) = record { long = refl; narrow = search rules; followed = search rules } in
        good_as (v + 12) (join head (join (unless_good end) (join good last))) (omega arith)

    mutual
      pub statement_good : (s : CoreStmt) (at : ℕ) → IsShortStmt s → Good way (statement_size s) (statement_code areas s at)
      statement_good (stmt.Assign x e) at short = assign_good x e at short.0 short.1
      statement_good (stmt.Point p array i) at short = point_good p array i at short.0 short.1
      statement_good (stmt.If' c m yes_row n no_row) at short =
          let yes_at = at + expr_size c + 3 in
          let no_at = yes_at + row_size yes_row + 1 in
          if_good no_at (no_at + row_size no_row) (expr_size c) (row_size yes_row) (row_size no_row) (expr_code areas c 0 at) (row_code areas yes_row yes_at) (row_code areas no_row no_at)
          (expr_good c 0 at short.0) (row_good yes_row yes_at short.1) (row_good no_row no_at short.2)
      statement_good (stmt.Loop' i turns m row) at short =
          loop_good (area_at areas i) turns (at + 2) (at + 8 + row_size row + 4) (row_size row) (row_code areas row (at + 8)) (low i) short.0 (row_good row (at + 8) short.1)
      statement_good (stmt.Io k x p args) at short = nothing
      statement_good (stmt.Block' k m row) at short = nothing
      statement_good (stmt.Copy k to from n) at short = nothing

      row_good : {n : _} (row : Row_of-CoreStmt n) (at : ℕ) → AreShortStmts row → Good way (row_size row) (row_code areas row at)
      row_good end_of-CoreStmt at short = nothing
      row_good (more_of-CoreStmt s rest) at short = join (statement_good s at short.0) (row_good rest (at + statement_size s) short.1)
