-- The code of expressions, statements without sites and valued sites is calm: it stays within itself.
use Rattle.std.specs.Prelude.{◌&&◌, nat_le, Option, Some, None}
use Rattle.std.proofs.Common.{◌≡◌, ◌∙◌, ℕ, ◌+◌, ◌≤◌, inl, Bool, true, false, List, [], ◌∷◌, ◌++◌, length, refl, subst, arith, length-append}
use Rattle.std.proofs.lemmas.Bool.Decides.{nat_tests}
use Rattle.task_ast.specs.declared.core_form.CoreEnd.{CoreEnd}
use Rattle.task_ast.specs.declared.core_form.CoreEnd.TheVariants as end
use Rattle.task_ast.specs.declared.core_form.CoreExpr.{CoreExpr, end_of-CoreExpr, more_of-CoreExpr}
use Rattle.task_ast.specs.declared.core_form.CoreExpr.TheVariants as expr
use Rattle.task_ast.specs.declared.core_form.CoreStmt.{CoreStmt, Row_of-CoreStmt, end_of-CoreStmt, more_of-CoreStmt}
use Rattle.task_ast.specs.declared.core_form.CoreStmt.TheVariants as stmt
use Rattle.task_ast.specs.declared.core_form.CoreTarget.{CoreTarget}
use Rattle.task_ast.specs.declared.core_form.CoreTarget.TheVariants as target
use Rattle.task_ast.specs.declared.tree.Op1.{Op1}
use Rattle.task_ast.specs.declared.tree.Op1.TheVariants as one
use Rattle.task_ast.specs.declared.tree.Op2.{Op2}
use Rattle.task_ast.specs.declared.tree.Op2.TheVariants as two
use Rattle.word_isa.specs.declared.instr.Instr.{Instr}
use Rattle.word_isa.specs.declared.instr.Instr.TheVariants.{Halt, Ldi, Lui, Mov, Add, Sub, Mul, Div, Rem, And, Or, Xor, Shl, Shr, Eq, Ltu, Adi, Ld, St, Jmp, Jz, Io, Time, Dma, Trap}
use Rattle.line_code.specs.declared.areas.Placed.{Placed}
use Rattle.line_code.specs.declared.line.Line.{Line}
use Rattle.line_code.specs.Areas.{area_at, pointer_at}
use Rattle.line_code.specs.Expressions.{both_code, either_code, expr_code, one_code, op_code, place_code, pointer_code, room_code, sides_code, target_code, two_code}
use Rattle.line_code.specs.Lines.{bares}
use Rattle.line_code.specs.Sizes.{expr_size, one_size, row_size, statement_size, target_size, two_size}
use Rattle.line_code.specs.Statements.{assign_code, if_code, loop_code, point_code, row_code, statement_code, unless_code}
use Rattle.word_code.specs.Values.{aim_code, aim_size, args_code, args_size, end_code, end_size}
use Rattle.seal_steps.proofs.Flow.{AllOk, Goes, IsCalm, is_free}

-- ---- lines that go straight on, or over lines that are there

abbrev pub steady : Instr → (behind : ℕ) → Bool
steady Halt n = false
steady (Ldi a m) n = is_free a
steady (Lui a m) n = is_free a
steady (Mov a b) n = is_free a
steady (Add a b) n = is_free a
steady (Sub a b) n = is_free a
steady (Mul a b) n = is_free a
steady (Div a b) n = is_free a
steady (Rem a b) n = is_free a
steady (And a b) n = is_free a
steady (Or a b) n = is_free a
steady (Xor a b) n = is_free a
steady (Shl a b) n = is_free a
steady (Shr a b) n = is_free a
steady (Eq a b) n = is_free a
steady (Ltu a b) n = is_free a
steady (Adi a m) n = is_free a
steady (Ld a b m) n = is_free a
steady (St a b m) n = true
steady (Jmp t) n = false
steady (Jz a m) n = nat_le m n
steady (Io a b m) n = false
steady (Time a) n = is_free a
steady (Dma a b m) n = false
steady (Trap m) n = true

abbrev pub all_steady : List Line → Bool
all_steady [] = true
all_steady (l ∷ ls) = steady l.instr (length ls) && all_steady ls

pub record Straight (n : ℕ) (lines : List Line) : Type 0 where
  pub long : length lines ≡ n
  pub steady : all_steady lines ≡ true

first_true : (a b : Bool) → (a && b) ≡ true → a ≡ true
first_true true b is = refl
first_true false b is = absurd (cc is)

second_true : (a b : Bool) → (a && b) ≡ true → b ≡ true
second_true true b is = is
second_true false b is = absurd (cc is)

pub both_true : (a b : Bool) → a ≡ true → b ≡ true → (a && b) ≡ true
both_true true b one two = two
both_true false b one two = absurd (cc one)

no_less : (m n k : ℕ) → n ≤ k → nat_le m n ≡ true → nat_le m k ≡ true
no_less m n k more is = grind (arith, nat_tests)

steadier : (i : Instr) (n k : ℕ) → n ≤ k → steady i n ≡ true → steady i k ≡ true
steadier (Jz a m) n k more is = no_less m n k more is
steadier Halt n k more is = is
steadier (Ldi a m) n k more is = is
steadier (Lui a m) n k more is = is
steadier (Jmp t) n k more is = is
steadier (Adi a m) n k more is = is
steadier (Ld a b m) n k more is = is
steadier (St a b m) n k more is = is
steadier (Io a b m) n k more is = is
steadier (Time a) n k more is = is
steadier (Dma a b m) n k more is = is
steadier (Trap m) n k more is = is
steadier _ n k more is = is

steady_joined : (xs ys : List Line) → all_steady xs ≡ true → all_steady ys ≡ true → all_steady (xs ++ ys) ≡ true
steady_joined [] ys one two = two
steady_joined (x ∷ xs) ys one two =
    both_true (steady x.instr (length (xs ++ ys))) (all_steady (xs ++ ys))
    (steadier x.instr (length xs) (length (xs ++ ys)) (omega (arith, length-append xs ys)) (first_true (steady x.instr (length xs)) (all_steady xs) one))
    (steady_joined xs ys (second_true (steady x.instr (length xs)) (all_steady xs) one) two)

pub also : {m n : ℕ} {xs ys : List Line} → Straight m xs → Straight n ys → Straight (m + n) (xs ++ ys)
also {m} {n} {xs} {ys} one two = record { long = omega (arith, length-append xs ys, one.long, two.long); steady = steady_joined xs ys one.steady two.steady }

pub straight_as : {m : ℕ} {xs : List Line} (n : ℕ) → Straight m xs → m ≡ n → Straight n xs
straight_as {m} {xs} n one same = record { long = one.long ∙ same; steady = one.steady }

-- ---- calm lines

module _ (lo hi : ℕ) (out : ℕ → Type 0) where
  pub record Calm (at n : ℕ) (lines : List Line) : Type 0 where
    pub long : length lines ≡ n
    pub calm : AllOk (IsCalm lo hi out) at lines

  over_lines : (at m n : ℕ) → lo ≤ at → at + 1 + n ≤ hi → nat_le m n ≡ true → Goes lo hi out (at + 1 + m)
  over_lines at m n from till is = let less : m ≤ n = grind (arith, nat_tests) in inl (omega arith, omega (arith, less, till))

  steady_calm : (i : Instr) (at n : ℕ) → lo ≤ at → at + 1 + n ≤ hi → steady i n ≡ true → IsCalm lo hi out at i
  steady_calm Halt at n from till is = absurd (cc is)
  steady_calm (Jmp t) at n from till is = absurd (cc is)
  steady_calm (Jz a m) at n from till is = over_lines at m n from till is
  steady_calm (Io a b m) at n from till is = absurd (cc is)
  steady_calm (Dma a b m) at n from till is = absurd (cc is)
  steady_calm (St a b m) at n from till is = tt
  steady_calm (Trap m) at n from till is = tt
  steady_calm _ at n from till is = is

  all_calm : (lines : List Line) (at : ℕ) → lo ≤ at → at + length lines ≤ hi → all_steady lines ≡ true → AllOk (IsCalm lo hi out) at lines
  all_calm [] at from till is = tt
  all_calm (l ∷ ls) at from till is = (
    steady_calm l.instr at (length ls) from (omega (arith, till)) (first_true (steady l.instr (length ls)) (all_steady ls) is),
    all_calm ls (at + 1) (omega (arith, from)) (omega (arith, till)) (second_true (steady l.instr (length ls)) (all_steady ls) is),
  )

  pub straight : {n : ℕ} {lines : List Line} (at : ℕ) → lo ≤ at → at + n ≤ hi → Straight n lines → Calm at n lines
  straight {n} {lines} at from till h = record { long = h.long; calm = all_calm lines at from (omega (arith, till, h.long)) h.steady }

  calm_joined : (xs ys : List Line) (at next : ℕ) → next ≡ at + length xs → AllOk (IsCalm lo hi out) at xs → AllOk (IsCalm lo hi out) next ys → AllOk (IsCalm lo hi out) at (xs ++ ys)
  calm_joined [] ys at next is one two = let same : next ≡ at = omega (arith, is) in subst (λ (k : ℕ). AllOk (IsCalm lo hi out) k ys) same two
  calm_joined (x ∷ xs) ys at next is one two = (one.0, calm_joined xs ys (at + 1) next (omega (arith, is)) one.1 two)

  pub join : {m n at : ℕ} {xs ys : List Line} → Calm at m xs → (next : ℕ) → next ≡ at + m → Calm next n ys → Calm at (m + n) (xs ++ ys)
  join {m} {n} {at} {xs} {ys} one next is two = record {
    long = omega (arith, length-append xs ys, one.long, two.long);
    calm = calm_joined xs ys at next (omega (arith, is, one.long)) one.calm two.calm;
  }

  pub calm_as : {m at : ℕ} {xs : List Line} (n : ℕ) → Calm at m xs → m ≡ n → Calm at n xs
  calm_as {m} {at} {xs} n one same = record { long = one.long ∙ same; calm = one.calm }

  pub nothing : (at : ℕ) → Calm at 0 []
  nothing at = record { long = refl; calm = tt }

  -- ---- expressions

  one_straight : (op : Op1) → Straight (one_size op) (one_code op)
  one_straight one.Not = record { long = refl; steady = refl }
  one_straight one.Inv = record { long = refl; steady = refl }
  one_straight one.Neg = record { long = refl; steady = refl }

  op_steady : (op : Op2) → all_steady (op_code op) ≡ true
  op_steady two.Both = refl
  op_steady two.Either = refl
  op_steady two.Ne = refl
  op_steady two.Le = refl
  op_steady two.Gt = refl
  op_steady two.Ge = refl
  op_steady _ = refl

  op_straight : (op : Op2) → Straight (length (op_code op)) (op_code op)
  op_straight op = record { long = refl; steady = op_steady op }

  pub place_straight : (p : Placed) → Straight 9 (place_code p)
  place_straight p = record { long = refl; steady = refl }

  pub room_straight : (cell : ℕ) → Straight 5 (room_code cell)
  room_straight cell = record { long = refl; steady = refl }

  pointer_straight : (cell : ℕ) → Straight 13 (pointer_code cell)
  pointer_straight cell = record { long = refl; steady = refl }

  sides_calm : (op : Op2) (d at v w : ℕ) (left right : List Line) → lo ≤ at → at + (v + w + (3 + length (op_code op))) ≤ hi → Calm at v left → Calm (at + v + 1) w right
      → Calm at (v + w + (3 + length (op_code op))) (sides_code op d left right)
  sides_calm op d at v w left right from till a b =
      let store : Straight 1 (bares (St 1 15 d ∷ [])) = record { long = refl; steady = refl } in
      let back : Straight 2 (bares (Mov 2 1 ∷ Ld 1 15 d ∷ [])) = record { long = refl; steady = refl } in
      calm_as (v + w + (3 + length (op_code op)))
      (join a (at + v) refl (join (straight (at + v) (omega (arith, from)) (omega (arith, till)) store) (at + v + 1) refl
      (join b (at + v + 1 + w) refl (straight (at + v + 1 + w) (omega (arith, from)) (omega (arith, till)) (also back (op_straight op)))))) (omega arith)

  bit_straight : Straight 2 (bares (Eq 1 0 ∷ Eq 1 0 ∷ []))
  bit_straight = record { long = refl; steady = refl }

  both_calm : (end at v w : ℕ) (left right : List Line) → lo ≤ at → at + (v + w + 5) ≤ hi → at ≤ end → end ≤ at + (v + w + 5) → Calm at v left → Calm (at + v + 3) w right → Calm at (v + w + 5) (both_code end left right)
  both_calm end at v w left right from till low high a b =
      let test : Calm (at + v) 3 (bares (Eq 1 0 ∷ Jz 1 1 ∷ Jmp end ∷ [])) = record { long = refl; calm = (refl, (inl (omega (arith, from), omega (arith, till)), (inl (omega (arith, from, low), omega (arith, high, till)), tt))) } in
      calm_as (v + w + 5)
      (join a (at + v) refl (join test (at + v + 3) refl (join b (at + v + 3 + w) refl (straight (at + v + 3 + w) (omega (arith, from)) (omega (arith, till)) bit_straight)))) (omega arith)

  either_calm : (end at v w : ℕ) (left right : List Line) → lo ≤ at → at + (v + w + 4) ≤ hi → at ≤ end → end ≤ at + (v + w + 4) → Calm at v left → Calm (at + v + 2) w right → Calm at (v + w + 4) (either_code end left right)
  either_calm end at v w left right from till low high a b =
      let test : Calm (at + v) 2 (bares (Jz 1 1 ∷ Jmp end ∷ [])) = record { long = refl; calm = (inl (omega (arith, from), omega (arith, till)), (inl (omega (arith, from, low), omega (arith, high, till)), tt)) } in
      calm_as (v + w + 4)
      (join a (at + v) refl (join test (at + v + 2) refl (join b (at + v + 2 + w) refl (straight (at + v + 2 + w) (omega (arith, from)) (omega (arith, till)) bit_straight)))) (omega arith)

  -- an operator between sides of so many lines, each calm wherever it has room
  abbrev pub CalmCode : (n : ℕ) → (ℕ → List Line) → Type 0
  CalmCode n code = (at : ℕ) → lo ≤ at → at + n ≤ hi → Calm at n (code at)

  two_calm : (op : Op2) (d at m n : ℕ) (left right : ℕ → ℕ → List Line) → lo ≤ at → at + (m + n + two_size op) ≤ hi → CalmCode m (left d) → CalmCode n (right d) → CalmCode n (right (d + 1))
      → Calm at (m + n + two_size op) (two_code op d at m n left right)
  two_calm two.Both d at m n left right from till a b c =
      both_calm (at + m + n + 4) at m n (left d at) (right d (at + m + 3)) from till (omega arith) (omega arith) (a at from (omega (arith, till))) (b (at + m + 3) (omega (arith, from)) (omega (arith, till)))
  two_calm two.Either d at m n left right from till a b c =
      either_calm (at + m + n + 2) at m n (left d at) (right d (at + m + 2)) from till (omega arith) (omega arith) (a at from (omega (arith, till))) (b (at + m + 2) (omega (arith, from)) (omega (arith, till)))
  two_calm op d at m n left right from till a b c =
      sides_calm op d at m n (left d at) (right (d + 1) (at + m + 1)) from till (a at from (omega (arith, till))) (c (at + m + 1) (omega (arith, from)) (omega (arith, till)))

  read_straight : Straight 1 (bares (Ld 1 1 0 ∷ []))
  read_straight = record { long = refl; steady = refl }

  module _ (areas : List Placed) where
    pub expr_calm : (e : CoreExpr) (d at : ℕ) → lo ≤ at → at + expr_size e ≤ hi → Calm at (expr_size e) (expr_code areas e d at)
    expr_calm (expr.Number n) d at from till = straight at from till (record { long = refl; steady = refl })
    expr_calm (expr.Cell' array u (more_of-CoreExpr i end_of-CoreExpr)) d at from till =
        calm_as (expr_size i + 10) (join (expr_calm i d at from (omega (arith, till))) (at + expr_size i) refl
        (straight (at + expr_size i) (omega (arith, from)) (omega (arith, till)) (also (place_straight (area_at areas array)) read_straight))) (omega arith)
    expr_calm (expr.Through' pointer u (more_of-CoreExpr i end_of-CoreExpr)) d at from till =
        calm_as (expr_size i + 14) (join (expr_calm i d at from (omega (arith, till))) (at + expr_size i) refl
        (straight (at + expr_size i) (omega (arith, from)) (omega (arith, till)) (also (pointer_straight (pointer_at pointer)) read_straight))) (omega arith)
    expr_calm (expr.One' op u (more_of-CoreExpr e end_of-CoreExpr)) d at from till =
        join (expr_calm e d at from (omega (arith, till))) (at + expr_size e) refl (straight (at + expr_size e) (omega (arith, from)) (omega (arith, till)) (one_straight op))
    expr_calm (expr.Two' op u (more_of-CoreExpr a end_of-CoreExpr) v (more_of-CoreExpr b end_of-CoreExpr)) d at from till =
        two_calm op d at (expr_size a) (expr_size b) (expr_code areas a) (expr_code areas b) from till (λ x f t. expr_calm a d x f t) (λ x f t. expr_calm b d x f t) (λ x f t. expr_calm b (d + 1) x f t)

    pub target_calm : (x : CoreTarget) (at : ℕ) → lo ≤ at → at + target_size x ≤ hi → Calm at (target_size x) (target_code areas x at)
    target_calm (target.Cell array i) at from till =
        join (expr_calm i 0 at from (omega (arith, till))) (at + expr_size i) refl (straight (at + expr_size i) (omega (arith, from)) (omega (arith, till)) (place_straight (area_at areas array)))
    target_calm (target.Through q i) at from till =
        join (expr_calm i 0 at from (omega (arith, till))) (at + expr_size i) refl (straight (at + expr_size i) (omega (arith, from)) (omega (arith, till)) (pointer_straight (pointer_at q)))

    -- ---- statements

    assign_calm : (x : CoreTarget) (e : CoreExpr) (at : ℕ) → lo ≤ at → at + (target_size x + expr_size e + 3) ≤ hi → Calm at (target_size x + expr_size e + 3) (assign_code areas x e at)
    assign_calm x e at from till =
        let store : Straight 1 (bares (St 1 15 0 ∷ [])) = record { long = refl; steady = refl } in
        let last : Straight 2 (bares (Ld 2 15 0 ∷ St 1 2 0 ∷ [])) = record { long = refl; steady = refl } in
        let mid : ℕ = at + target_size x in
        calm_as (target_size x + expr_size e + 3)
        (join (target_calm x at from (omega (arith, till))) mid refl (join (straight mid (omega (arith, from)) (omega (arith, till)) store) (mid + 1) refl
        (join (expr_calm e 1 (mid + 1) (omega (arith, from)) (omega (arith, till))) (mid + 1 + expr_size e) refl (straight (mid + 1 + expr_size e) (omega (arith, from)) (omega (arith, till)) last)))) (omega arith)

    point_calm : (q array : ℕ) (i : CoreExpr) (at : ℕ) → lo ≤ at → at + (expr_size i + 11) ≤ hi → Calm at (expr_size i + 11) (point_code areas q array i at)
    point_calm q array i at from till =
        let last : Straight 2 (bares (St 1 15 (pointer_at q) ∷ St 2 15 (pointer_at q + 1) ∷ [])) = record { long = refl; steady = refl } in
        calm_as (expr_size i + 11)
        (join (expr_calm i 0 at from (omega (arith, till))) (at + expr_size i) refl (straight (at + expr_size i) (omega (arith, from)) (omega (arith, till)) (also (place_straight (area_at areas array)) last))) (omega arith)

    unless_calm : (to at : ℕ) → lo ≤ at → at + 3 ≤ hi → lo ≤ to → to ≤ hi → Calm at 3 (unless_code to)
    unless_calm to at from till low high = record { long = refl; calm = (refl, (inl (omega (arith, from), omega (arith, till)), (inl (low, high), tt))) }

    jump_calm : (to at : ℕ) → lo ≤ to → to ≤ hi → Calm at 1 (bares (Jmp to ∷ []))
    jump_calm to at low high = record { long = refl; calm = (inl (low, high), tt) }

    if_calm : (at u v w : ℕ) (condition yes_part no_part : List Line) → lo ≤ at → at + (u + v + w + 4) ≤ hi → Calm at u condition → Calm (at + u + 3) v yes_part → Calm (at + u + 3 + v + 1) w no_part
        → Calm at (u + v + w + 4) (if_code (at + u + 3 + v + 1) (at + u + 3 + v + 1 + w) condition yes_part no_part)
    if_calm at u v w condition yes_part no_part from till a b c =
        calm_as (u + v + w + 4)
        (join a (at + u) refl (join (unless_calm (at + u + 3 + v + 1) (at + u) (omega (arith, from)) (omega (arith, till)) (omega (arith, from)) (omega (arith, till))) (at + u + 3) refl
        (join b (at + u + 3 + v) refl (join (jump_calm (at + u + 3 + v + 1 + w) (at + u + 3 + v) (omega (arith, from)) (omega (arith, till))) (at + u + 3 + v + 1) refl c)))) (omega arith)

    loop_calm : (i : Placed) (turns at v : ℕ) (body : List Line) → lo ≤ at → at + (v + 12) ≤ hi → Calm (at + 8) v body → Calm at (v + 12) (loop_code i turns (at + 2) (at + 8 + v + 4) body)
    loop_calm i turns at v body from till inside =
        let head : Straight 5 (bares (Ldi 1 0 ∷ St 1 i.base i.offset ∷ Ld 1 i.base i.offset ∷ Ldi 2 turns ∷ Ltu 1 2 ∷ [])) = record { long = refl; steady = refl } in
        let last : Calm (at + 8 + v) 4 (bares (Ld 1 i.base i.offset ∷ Adi 1 1 ∷ St 1 i.base i.offset ∷ Jmp (at + 2) ∷ [])) =
        record { long = refl; calm = (refl, (refl, (tt, (inl (omega (arith, from), omega (arith, till)), tt)))) } in
        calm_as (v + 12)
        (join (straight at from (omega (arith, till)) head) (at + 5) refl (join (unless_calm (at + 8 + v + 4) (at + 5) (omega (arith, from)) (omega (arith, till)) (omega (arith, from)) (omega (arith, till))) (at + 8) (omega arith)
        (join inside (at + 8 + v) refl last))) (omega arith)

    mutual
      pub statement_calm : (s : CoreStmt) (at : ℕ) → lo ≤ at → at + statement_size s ≤ hi → Calm at (statement_size s) (statement_code areas s at)
      statement_calm (stmt.Assign x e) at from till = assign_calm x e at from till
      statement_calm (stmt.Point q array i) at from till = point_calm q array i at from till
      statement_calm (stmt.If' c m yes_row n no_row) at from till =
          let yes_at = at + expr_size c + 3 in
          let no_at = yes_at + row_size yes_row + 1 in
          if_calm at (expr_size c) (row_size yes_row) (row_size no_row) (expr_code areas c 0 at) (row_code areas yes_row yes_at) (row_code areas no_row no_at) from till
          (expr_calm c 0 at from (omega (arith, till))) (row_calm yes_row yes_at (omega (arith, from)) (omega (arith, till))) (row_calm no_row no_at (omega (arith, from)) (omega (arith, till)))
      statement_calm (stmt.Loop' i turns m row) at from till =
          loop_calm (area_at areas i) turns at (row_size row) (row_code areas row (at + 8)) from till (row_calm row (at + 8) (omega (arith, from)) (omega (arith, till)))
      statement_calm (stmt.Io k x q args) at from till = nothing at
      statement_calm (stmt.Block' k m row) at from till = nothing at
      statement_calm (stmt.Copy k to source n) at from till = nothing at

      row_calm : {n : _} (row : Row_of-CoreStmt n) (at : ℕ) → lo ≤ at → at + row_size row ≤ hi → Calm at (row_size row) (row_code areas row at)
      row_calm end_of-CoreStmt at from till = nothing at
      row_calm (more_of-CoreStmt s rest) at from till =
          join (statement_calm s at from (omega (arith, till))) (at + statement_size s) refl (row_calm rest (at + statement_size s) (omega (arith, from)) (omega (arith, till)))

    -- ---- what is valued

    cell_straight : (cell : ℕ) → Straight 1 (bares (St 1 15 cell ∷ []))
    cell_straight cell = record { long = refl; steady = refl }

    pub aim_calm : (x : Option CoreTarget) (at : ℕ) → lo ≤ at → at + aim_size x ≤ hi → Calm at (aim_size x) (aim_code areas x at)
    aim_calm None at from till = nothing at
    aim_calm (Some x) at from till =
        join (target_calm x at from (omega (arith, till))) (at + target_size x) refl (straight (at + target_size x) (omega (arith, from)) (omega (arith, till)) (cell_straight 32))

    pub args_calm : (es : List CoreExpr) (cell at : ℕ) → lo ≤ at → at + args_size es ≤ hi → Calm at (args_size es) (args_code areas es cell at)
    args_calm [] cell at from till = nothing at
    args_calm (e ∷ es) cell at from till =
        calm_as (expr_size e + 1 + args_size es)
        (join (expr_calm e 0 at from (omega (arith, till))) (at + expr_size e) refl (join (straight (at + expr_size e) (omega (arith, from)) (omega (arith, till)) (cell_straight cell)) (at + expr_size e + 1) refl
        (args_calm es (cell + 1) (at + expr_size e + 1) (omega (arith, from)) (omega (arith, till))))) (omega arith)

    pub end_calm : (x : CoreEnd) (cell at : ℕ) → lo ≤ at → at + end_size x ≤ hi → Calm at (end_size x) (end_code areas x cell at)
    end_calm (end.Cell array i) cell at from till =
        let last : Straight 2 (bares (St 1 15 cell ∷ St 2 15 (cell + 1) ∷ [])) = record { long = refl; steady = refl } in
        calm_as (expr_size i + 11)
        (join (expr_calm i 0 at from (omega (arith, till))) (at + expr_size i) refl (straight (at + expr_size i) (omega (arith, from)) (omega (arith, till)) (also (place_straight (area_at areas array)) last))) (omega arith)
    end_calm (end.Pointer q) cell at from till = straight at from till (record { long = refl; steady = refl })
