-- The code of expressions (docs/CODE.md, "Expressions"): the word in register 1, by way of registers 2 and 3 and of the
-- cells for words in between from a depth on.
use Rattle.std.specs.Prelude.{ℕ, ◌+◌, ◌/◌, ◌%◌, List, [], ◌∷◌, ◌++◌}
use Rattle.task_ast.specs.declared.tree.Op1.{Op1}
use Rattle.task_ast.specs.declared.tree.Op1.TheVariants as one
use Rattle.task_ast.specs.declared.tree.Op2.{Op2}
use Rattle.task_ast.specs.declared.tree.Op2.TheVariants as two
use Rattle.task_ast.specs.declared.core_form.CoreExpr.{CoreExpr, end_of-CoreExpr, more_of-CoreExpr}
use Rattle.task_ast.specs.declared.core_form.CoreExpr.TheVariants as expr
use Rattle.task_ast.specs.declared.core_form.CoreTarget.{CoreTarget}
use Rattle.task_ast.specs.declared.core_form.CoreTarget.TheVariants as target
use Rattle.word_isa.specs.declared.instr.Instr.TheVariants.{Ldi, Lui, Mov, Add, Sub, Mul, Div, Rem, And, Or, Xor, Shl, Shr, Eq, Ltu, Adi, Ld, St, Jmp, Jz, Trap}
use Rattle.line_code.specs.declared.areas.Placed.{Placed}
use Rattle.line_code.specs.declared.line.Line.{Line}
use Rattle.line_code.specs.Areas.{area_at, pointer_at}
use Rattle.line_code.specs.Lines.{bares}
use Rattle.line_code.specs.Sizes.{expr_size}

-- a number
abbrev pub number_code : ℕ → List Line
number_code n = bares (Ldi 1 (n % 65536) ∷ Lui 1 (n / 65536) ∷ [])

-- trap 1 unless the index in register 1 is below the room in register 2
abbrev pub bound_code : List Line
bound_code = bares (Mov 3 1 ∷ Ltu 3 2 ∷ Eq 3 0 ∷ Jz 3 1 ∷ Trap 1 ∷ [])

-- the place at the index in register 1: its address in register 1, and the room from there on in register 2
abbrev pub place_code : Placed → List Line
place_code p = bares (Ldi 2 p.room ∷ []) ++ (bound_code ++ bares (Sub 2 1 ∷ Add 1 p.base ∷ Adi 1 p.offset ∷ []))

-- a pointer's room in register 2; trap 3 where it points to nothing
abbrev pub room_code : (cell : ℕ) → List Line
room_code cell = bares (Ld 2 15 (cell + 1) ∷ Mov 3 2 ∷ Eq 3 0 ∷ Jz 3 1 ∷ Trap 3 ∷ [])

-- the same through a pointer, whose address and room are in cells
abbrev pub pointer_code : (cell : ℕ) → List Line
pointer_code cell = room_code cell ++ (bound_code ++ bares (Sub 2 1 ∷ Ld 3 15 cell ∷ Add 1 3 ∷ []))

-- a prefix operator on register 1
abbrev pub one_code : Op1 → List Line
one_code one.Not = bares (Eq 1 0 ∷ [])
one_code one.Inv = bares (Ldi 2 65535 ∷ Lui 2 65535 ∷ Sub 2 1 ∷ Mov 1 2 ∷ [])
one_code one.Neg = bares (Mov 2 1 ∷ Ldi 1 0 ∷ Sub 1 2 ∷ [])

-- a binary operator on registers 1 and 2
abbrev pub op_code : Op2 → List Line
op_code two.Add = bares (Add 1 2 ∷ [])
op_code two.Sub = bares (Sub 1 2 ∷ [])
op_code two.Mul = bares (Mul 1 2 ∷ [])
op_code two.Div = bares (Div 1 2 ∷ [])
op_code two.Rem = bares (Rem 1 2 ∷ [])
op_code two.And = bares (And 1 2 ∷ [])
op_code two.Or = bares (Or 1 2 ∷ [])
op_code two.Xor = bares (Xor 1 2 ∷ [])
op_code two.Shl = bares (Shl 1 2 ∷ [])
op_code two.Shr = bares (Shr 1 2 ∷ [])
op_code two.Eq = bares (Eq 1 2 ∷ [])
op_code two.Ne = bares (Eq 1 2 ∷ Eq 1 0 ∷ [])
op_code two.Lt = bares (Ltu 1 2 ∷ [])
op_code two.Le = bares (Ltu 2 1 ∷ Mov 1 2 ∷ Eq 1 0 ∷ [])
op_code two.Gt = bares (Ltu 2 1 ∷ Mov 1 2 ∷ [])
op_code two.Ge = bares (Ltu 1 2 ∷ Eq 1 0 ∷ [])
op_code two.Both = []
op_code two.Either = []

-- both sides, the left one's word in a cell meanwhile
abbrev pub sides_code : Op2 → (d : ℕ) → (left right : List Line) → List Line
sides_code op d left right = left ++ (bares (St 1 15 d ∷ []) ++ (right ++ (bares (Mov 2 1 ∷ Ld 1 15 d ∷ []) ++ op_code op)))

-- the right side of `&&` unless the left one is 0, and of `||` where it is; their word is 0 or 1
abbrev pub both_code : (end : ℕ) → (left right : List Line) → List Line
both_code end left right = left ++ (bares (Eq 1 0 ∷ Jz 1 1 ∷ Jmp end ∷ []) ++ (right ++ bares (Eq 1 0 ∷ Eq 1 0 ∷ [])))

abbrev pub either_code : (end : ℕ) → (left right : List Line) → List Line
either_code end left right = left ++ (bares (Jz 1 1 ∷ Jmp end ∷ []) ++ (right ++ bares (Eq 1 0 ∷ Eq 1 0 ∷ [])))

-- a binary operator at an address, by its sides' sizes and by their code from a depth and an address on
abbrev pub two_code : Op2 → (d at m n : ℕ) → (left right : ℕ → ℕ → List Line) → List Line
two_code two.Both d at m n left right = both_code (at + m + n + 4) (left d at) (right d (at + m + 3))
two_code two.Either d at m n left right = either_code (at + m + n + 2) (left d at) (right d (at + m + 2))
two_code op d at m n left right = sides_code op d (left d at) (right (d + 1) (at + m + 1))

-- the code of an expression, from a depth and an address on
abbrev pub expr_code : List Placed → CoreExpr → (d at : ℕ) → List Line
expr_code areas (expr.Number n) d at = number_code n
expr_code areas (expr.Cell' array u (more_of-CoreExpr index end_of-CoreExpr)) d at = expr_code areas index d at ++ (place_code (area_at areas array) ++ bares (Ld 1 1 0 ∷ []))
expr_code areas (expr.Through' pointer u (more_of-CoreExpr index end_of-CoreExpr)) d at = expr_code areas index d at ++ (pointer_code (pointer_at pointer) ++ bares (Ld 1 1 0 ∷ []))
expr_code areas (expr.One' op u (more_of-CoreExpr e end_of-CoreExpr)) d at = expr_code areas e d at ++ one_code op
expr_code areas (expr.Two' op u (more_of-CoreExpr a end_of-CoreExpr) v (more_of-CoreExpr b end_of-CoreExpr)) d at =
    two_code op d at (expr_size a) (expr_size b) (expr_code areas a) (expr_code areas b)

-- the place of a target: its address in register 1
abbrev pub target_code : List Placed → CoreTarget → (at : ℕ) → List Line
target_code areas (target.Cell array index) at = expr_code areas index 0 at ++ place_code (area_at areas array)
target_code areas (target.Through pointer index) at = expr_code areas index 0 at ++ pointer_code (pointer_at pointer)
