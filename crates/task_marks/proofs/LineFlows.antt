-- The code of expressions and of statements without sites has no marks, and its jumps stay in it.
use Rattle.std.specs.Prelude.{ℕ, ◌+◌, ◌≤◌, List, [], ◌∷◌, Option, None, refl}
use Rattle.std.proofs.Common.{arith}
use Rattle.task_ast.specs.declared.tree.Op1.{Op1}
use Rattle.task_ast.specs.declared.tree.Op1.TheVariants as one
use Rattle.task_ast.specs.declared.tree.Op2.{Op2}
use Rattle.task_ast.specs.declared.tree.Op2.TheVariants as two
use Rattle.task_ast.specs.declared.core_form.CoreExpr.{CoreExpr, end_of-CoreExpr, more_of-CoreExpr}
use Rattle.task_ast.specs.declared.core_form.CoreExpr.TheVariants as expr
use Rattle.task_ast.specs.declared.core_form.CoreTarget.{CoreTarget}
use Rattle.task_ast.specs.declared.core_form.CoreTarget.TheVariants as target
use Rattle.task_ast.specs.declared.core_form.CoreStmt.{CoreStmt, Row_of-CoreStmt, end_of-CoreStmt, more_of-CoreStmt}
use Rattle.task_ast.specs.declared.core_form.CoreStmt.TheVariants as stmt
use Rattle.word_isa.specs.declared.instr.Instr.{Instr}
use Rattle.word_isa.specs.declared.instr.Instr.TheVariants.{Ldi, Mov, Eq, Ltu, Adi, Ld, St, Jmp, Jz}
use Rattle.line_code.specs.declared.areas.Placed.{Placed}
use Rattle.line_code.specs.declared.line.Line.{Line}
use Rattle.line_code.specs.declared.line.Sign.{Sign}
use Rattle.line_code.specs.Areas.{area_at, pointer_at}
use Rattle.line_code.specs.Lines.{bares}
use Rattle.line_code.specs.Sizes.{two_size, expr_size, target_size, statement_size, row_size}
use Rattle.line_code.specs.Expressions.{place_code, room_code, pointer_code, one_code, op_code, sides_code, both_code, either_code, two_code, expr_code, target_code}
use Rattle.line_code.specs.Statements.{assign_code, point_code, unless_code, if_code, loop_code, statement_code, row_code}
use Rattle.task_marks.proofs.Flows.{Flows, join, nothing, straight}

pub two_low : (op : Op2) → 4 ≤ two_size op
two_low two.Both = omega arith
two_low two.Either = omega arith
two_low op = omega arith

module _ (Ok : Option Sign → Instr → Type 0) (May : ℕ → Type 0) (plain : (i : Instr) → Ok None i) where
  one_flows : (op : Op1) → Flows Ok May (one_code op)
  one_flows one.Not = straight plain refl
  one_flows one.Inv = straight plain refl
  one_flows one.Neg = straight plain refl

  op_flows : (op : Op2) → Flows Ok May (op_code op)
  op_flows two.Add = straight plain refl
  op_flows two.Sub = straight plain refl
  op_flows two.Mul = straight plain refl
  op_flows two.Div = straight plain refl
  op_flows two.Rem = straight plain refl
  op_flows two.And = straight plain refl
  op_flows two.Or = straight plain refl
  op_flows two.Xor = straight plain refl
  op_flows two.Shl = straight plain refl
  op_flows two.Shr = straight plain refl
  op_flows two.Eq = straight plain refl
  op_flows two.Ne = straight plain refl
  op_flows two.Lt = straight plain refl
  op_flows two.Le = straight plain refl
  op_flows two.Gt = straight plain refl
  op_flows two.Ge = straight plain refl
  op_flows two.Both = nothing
  op_flows two.Either = nothing

  pub place_flows : (p : Placed) → Flows Ok May (place_code p)
  place_flows p = straight plain refl

  pub room_flows : (cell : ℕ) → Flows Ok May (room_code cell)
  room_flows cell = straight plain refl

  sides_flows : (op : Op2) (d : ℕ) (left right : List Line) → Flows Ok May left → Flows Ok May right → Flows Ok May (sides_code op d left right)
  sides_flows op d left right one two =
      let keep : Flows Ok May (bares (St 1 15 d ∷ [])) = straight plain refl in
      let back : Flows Ok May (bares (Mov 2 1 ∷ Ld 1 15 d ∷ [])) = straight plain refl in
      join one (join keep (join two (join back (op_flows op))))

  -- a jump, and one that a test passes by
  pub jump_flows : (to : ℕ) → May to → Flows Ok May (bares (Jmp to ∷ []))
  jump_flows to may = record { flow = (plain (Jmp to), may, tt) }

  pub skip_flows : (to : ℕ) → May to → Flows Ok May (bares (Jz 1 1 ∷ Jmp to ∷ []))
  skip_flows to may = record { flow = (plain (Jz 1 1), refl, (plain (Jmp to), may, tt)) }

  pub unless_flows : (to : ℕ) → May to → Flows Ok May (unless_code to)
  unless_flows to may = record { flow = (plain (Eq 1 0), tt, (plain (Jz 1 1), refl, (plain (Jmp to), may, tt))) }

  bit_flows : Flows Ok May (bares (Eq 1 0 ∷ Eq 1 0 ∷ []))
  bit_flows = straight plain refl

  both_flows : (end : ℕ) (left right : List Line) → May end → Flows Ok May left → Flows Ok May right → Flows Ok May (both_code end left right)
  both_flows end left right may one two = join one (join (unless_flows end may) (join two bit_flows))

  either_flows : (end : ℕ) (left right : List Line) → May end → Flows Ok May left → Flows Ok May right → Flows Ok May (either_code end left right)
  either_flows end left right may one two = join one (join (skip_flows end may) (join two bit_flows))

  module _ (lo hi : ℕ) (within : (t : ℕ) → lo ≤ t → t ≤ hi → May t) where
    -- an operator between sides of so many lines
    two_flows : (op : Op2) (d at m n : ℕ) (left right : ℕ → ℕ → List Line) → lo ≤ at → at + (m + n + two_size op) ≤ hi
        → ((d' a : ℕ) → lo ≤ a → a + m ≤ hi → Flows Ok May (left d' a)) → ((d' a : ℕ) → lo ≤ a → a + n ≤ hi → Flows Ok May (right d' a)) → Flows Ok May (two_code op d at m n left right)
    two_flows two.Both d at m n left right low high on_left on_right =
        both_flows (at + m + n + 4) (left d at) (right d (at + m + 3)) (within (at + m + n + 4) (omega (arith, low)) (omega (arith, high)))
        (on_left d at low (omega (arith, high))) (on_right d (at + m + 3) (omega (arith, low)) (omega (arith, high)))
    two_flows two.Either d at m n left right low high on_left on_right =
        either_flows (at + m + n + 2) (left d at) (right d (at + m + 2)) (within (at + m + n + 2) (omega (arith, low)) (omega (arith, high)))
        (on_left d at low (omega (arith, high))) (on_right d (at + m + 2) (omega (arith, low)) (omega (arith, high)))
    two_flows op d at m n left right low high on_left on_right =
        sides_flows op d (left d at) (right (d + 1) (at + m + 1)) (on_left d at low (omega (arith, high)))
        (on_right (d + 1) (at + m + 1) (omega (arith, low)) (omega (arith, high, two_low op)))

    module _ (areas : List Placed) where
      pub expr_flows : (e : CoreExpr) (d at : ℕ) → lo ≤ at → at + expr_size e ≤ hi → Flows Ok May (expr_code areas e d at)
      expr_flows (expr.Number n) d at low high = straight plain refl
      expr_flows (expr.Cell' array u (more_of-CoreExpr i end_of-CoreExpr)) d at low high =
          let read : Flows Ok May (bares (Ld 1 1 0 ∷ [])) = straight plain refl in
          join (expr_flows i d at low (omega (arith, high))) (join (place_flows (area_at areas array)) read)
      expr_flows (expr.Through' pointer u (more_of-CoreExpr i end_of-CoreExpr)) d at low high =
          let pointed : Flows Ok May (pointer_code (pointer_at pointer)) = straight plain refl in
          let read : Flows Ok May (bares (Ld 1 1 0 ∷ [])) = straight plain refl in
          join (expr_flows i d at low (omega (arith, high))) (join pointed read)
      expr_flows (expr.One' op u (more_of-CoreExpr e end_of-CoreExpr)) d at low high = join (expr_flows e d at low (omega (arith, high))) (one_flows op)
      expr_flows (expr.Two' op u (more_of-CoreExpr a end_of-CoreExpr) v (more_of-CoreExpr b end_of-CoreExpr)) d at low high =
          two_flows op d at (expr_size a) (expr_size b) (expr_code areas a) (expr_code areas b) low (omega (arith, high)) (expr_flows a) (expr_flows b)

      pub target_flows : (x : CoreTarget) (at : ℕ) → lo ≤ at → at + target_size x ≤ hi → Flows Ok May (target_code areas x at)
      target_flows (target.Cell array i) at low high = join (expr_flows i 0 at low (omega (arith, high))) (place_flows (area_at areas array))
      target_flows (target.Through p i) at low high =
          let pointed : Flows Ok May (pointer_code (pointer_at p)) = straight plain refl in
          join (expr_flows i 0 at low (omega (arith, high))) pointed

      assign_flows : (x : CoreTarget) (e : CoreExpr) (at : ℕ) → lo ≤ at → at + (target_size x + expr_size e + 3) ≤ hi → Flows Ok May (assign_code areas x e at)
      assign_flows x e at low high =
          let keep : Flows Ok May (bares (St 1 15 0 ∷ [])) = straight plain refl in
          let last : Flows Ok May (bares (Ld 2 15 0 ∷ St 1 2 0 ∷ [])) = straight plain refl in
          join (target_flows x at low (omega (arith, high))) (join keep (join (expr_flows e 1 (at + target_size x + 1) (omega (arith, low)) (omega (arith, high))) last))

      point_flows : (p array : ℕ) (i : CoreExpr) (at : ℕ) → lo ≤ at → at + (expr_size i + 11) ≤ hi → Flows Ok May (point_code areas p array i at)
      point_flows p array i at low high =
          let last : Flows Ok May (bares (St 1 15 (pointer_at p) ∷ St 2 15 (pointer_at p + 1) ∷ [])) = straight plain refl in
          join (expr_flows i 0 at low (omega (arith, high))) (join (place_flows (area_at areas array)) last)

      if_flows : (other end : ℕ) (condition yes_part no_part : List Line) → May other → May end → Flows Ok May condition → Flows Ok May yes_part → Flows Ok May no_part → Flows Ok May (if_code other end condition yes_part no_part)
      if_flows other end condition yes_part no_part may may_end test one two =
          join test (join (unless_flows other may) (join one (join (jump_flows end may_end) two)))

      loop_flows : (i : Placed) (turns top end : ℕ) (body : List Line) → May top → May end → Flows Ok May body → Flows Ok May (loop_code i turns top end body)
      loop_flows i turns top end body may may_end flows =
          let head : Flows Ok May (bares (Ldi 1 0 ∷ St 1 i.base i.offset ∷ Ld 1 i.base i.offset ∷ Ldi 2 turns ∷ Ltu 1 2 ∷ [])) = straight plain refl in
          let more : Flows Ok May (bares (Ld 1 i.base i.offset ∷ Adi 1 1 ∷ St 1 i.base i.offset ∷ [])) = straight plain refl in
          join head (join (unless_flows end may_end) (join flows (join more (jump_flows top may))))

      mutual
        pub statement_flows : (s : CoreStmt) (at : ℕ) → lo ≤ at → at + statement_size s ≤ hi → Flows Ok May (statement_code areas s at)
        statement_flows (stmt.Assign x e) at low high = assign_flows x e at low high
        statement_flows (stmt.Point p array i) at low high = point_flows p array i at low high
        statement_flows (stmt.If' c m yes_row n no_row) at low high =
            let yes_at : ℕ = at + expr_size c + 3 in
            let no_at : ℕ = yes_at + row_size yes_row + 1 in
            if_flows no_at (no_at + row_size no_row) (expr_code areas c 0 at) (row_code areas yes_row yes_at) (row_code areas no_row no_at)
            (within no_at (omega (arith, low)) (omega (arith, high))) (within (no_at + row_size no_row) (omega (arith, low)) (omega (arith, high)))
            (expr_flows c 0 at low (omega (arith, high))) (row_flows yes_row yes_at (omega (arith, low)) (omega (arith, high))) (row_flows no_row no_at (omega (arith, low)) (omega (arith, high)))
        statement_flows (stmt.Loop' i turns m row) at low high =
            loop_flows (area_at areas i) turns (at + 2) (at + 8 + row_size row + 4) (row_code areas row (at + 8))
            (within (at + 2) (omega (arith, low)) (omega (arith, high))) (within (at + 8 + row_size row + 4) (omega (arith, low)) (omega (arith, high)))
            (row_flows row (at + 8) (omega (arith, low)) (omega (arith, high)))
        statement_flows (stmt.Io k x p args) at low high = nothing
        statement_flows (stmt.Block' k m row) at low high = nothing
        statement_flows (stmt.Copy k to from n) at low high = nothing

        row_flows : {n : _} (row : Row_of-CoreStmt n) (at : ℕ) → lo ≤ at → at + row_size row ≤ hi → Flows Ok May (row_code areas row at)
        row_flows end_of-CoreStmt at low high = nothing
        row_flows (more_of-CoreStmt s rest) at low high =
            join (statement_flows s at low (omega (arith, high))) (row_flows rest (at + statement_size s) (omega (arith, low)) (omega (arith, high)))
