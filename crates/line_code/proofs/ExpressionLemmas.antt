-- What an expression's code is put together of.
use Rattle.std.specs.Prelude.{◌≡◌, ℕ, ◌+◌, ◌<◌, min, List, [], ◌∷◌, ◌++◌, length, refl}
use Rattle.std.proofs.Common.{ap, sym, ◌∙◌, arith}
use Rattle.task_ast.specs.declared.tree.Op1.{Op1}
use Rattle.task_ast.specs.declared.tree.Op1.TheVariants as one
use Rattle.task_ast.specs.declared.tree.Op2.{Op2}
use Rattle.task_ast.specs.declared.tree.Op2.TheVariants as two
use Rattle.task_ast.specs.declared.core_form.CoreExpr.{CoreExpr}
use Rattle.task_ast.specs.declared.core_form.CoreExpr.TheVariants as expr
use Rattle.word_isa.specs.declared.instr.Instr.TheVariants.{Ld}
use Rattle.line_code.specs.declared.areas.Placed.{Placed}
use Rattle.line_code.specs.declared.line.Line.{Line}
use Rattle.line_code.specs.Areas.{area_at, pointer_at}
use Rattle.line_code.specs.Lines.{bares}
use Rattle.line_code.specs.Sizes.{expr_size, one_size, two_size}
use Rattle.line_code.specs.Expressions.{place_code, pointer_code, one_code, op_code, sides_code, both_code, either_code, two_code, expr_code}
use Rattle.line_code.specs.ExpressionLaws.{code_at_cell, code_at_through, code_at_one, code_at_two}
use Rattle.line_code.specs.PartLaws.{two_parts, three_parts}

-- a part's size, with more lines
pub size_more : (e i got : CoreExpr) (n x y : ℕ) → expr_size e ≡ expr_size i + n → got ≡ i → x ≡ min (expr_size got) 4294967295 → y ≡ min (x + n) 4294967295
    → y ≡ min (expr_size e) 4294967295
size_more e i got n x y is at part more = omega (arith, is, ap expr_size at, part, more)

pub size_one : (e i got : CoreExpr) (n k x y : ℕ) → expr_size e ≡ expr_size i + n → got ≡ i → x ≡ min (expr_size got) 4294967295 → k ≡ n → y ≡ min (x + k) 4294967295
    → y ≡ min (expr_size e) 4294967295
size_one e i got n k x y is at part same more = omega (arith, is, ap expr_size at, part, same, more)

pub size_sides : (e a b got other : CoreExpr) (n k x y z w : ℕ) → expr_size e ≡ expr_size a + expr_size b + n → got ≡ a → other ≡ b
    → x ≡ min (expr_size got) 4294967295 → y ≡ min (expr_size other) 4294967295 → z ≡ min (x + y) 4294967295 → k ≡ n → w ≡ min (z + k) 4294967295
    → w ≡ min (expr_size e) 4294967295
size_sides e a b got other n k x y z w is at then left right sides same more = omega (arith, is, ap expr_size at, ap expr_size then, left, right, sides, same, more)

-- an indexed array: its index, its place, and the word there
pub cell_lines : (areas : List Placed) (e : CoreExpr) (array : ℕ) (i got : CoreExpr) (d : ℕ) (area : Placed) (o m p n : List Line)
    → e ≡ expr.Cell array i → got ≡ i → area ≡ area_at areas array → m ≡ o ++ expr_code areas got d (length o) → p ≡ m ++ place_code area → n ≡ p ++ bares (Ld 1 1 0 ∷ [])
    → n ≡ o ++ expr_code areas e d (length o)
cell_lines areas e array i got d area o m p n is at there one two three =
    three_parts o m p n _ _ _ one two three
    ∙ (λ j. o ++ (expr_code areas (at j) d (length o) ++ (place_code (there j) ++ bares (Ld 1 1 0 ∷ []))))
    ∙ ap (λ (x : List Line). o ++ x) (sym (code_at_cell areas e array i d (length o) is))

-- an index through a pointer
pub through_lines : (areas : List Placed) (e : CoreExpr) (pointer : ℕ) (i got : CoreExpr) (d cell : ℕ) (o m p n : List Line)
    → e ≡ expr.Through pointer i → got ≡ i → cell ≡ pointer_at pointer → m ≡ o ++ expr_code areas got d (length o) → p ≡ m ++ pointer_code cell → n ≡ p ++ bares (Ld 1 1 0 ∷ [])
    → n ≡ o ++ expr_code areas e d (length o)
through_lines areas e pointer i got d cell o m p n is at there one two three =
    three_parts o m p n _ _ _ one two three
    ∙ (λ j. o ++ (expr_code areas (at j) d (length o) ++ (pointer_code (there j) ++ bares (Ld 1 1 0 ∷ []))))
    ∙ ap (λ (x : List Line). o ++ x) (sym (code_at_through areas e pointer i d (length o) is))

-- a prefix operator
pub one_lines : (areas : List Placed) (e : CoreExpr) (op : Op1) (i got : CoreExpr) (d : ℕ) (o m n : List Line)
    → e ≡ expr.One op i → got ≡ i → m ≡ o ++ expr_code areas got d (length o) → n ≡ m ++ one_code op → n ≡ o ++ expr_code areas e d (length o)
one_lines areas e op i got d o m n is at one two =
    two_parts o m n _ _ one two
    ∙ (λ j. o ++ (expr_code areas (at j) d (length o) ++ one_code op))
    ∙ ap (λ (x : List Line). o ++ x) (sym (code_at_one areas e op i d (length o) is))

-- a binary operator, by its sides
pub two_lines : (areas : List Placed) (e : CoreExpr) (op : Op2) (a b got other : CoreExpr) (d at : ℕ) → e ≡ expr.Two op a b → got ≡ a → other ≡ b
    → two_code op d at (expr_size got) (expr_size other) (expr_code areas got) (expr_code areas other) ≡ expr_code areas e d at
two_lines areas e op a b got other d at is left right =
    (λ j. two_code op d at (expr_size (left j)) (expr_size (right j)) (expr_code areas (left j)) (expr_code areas (right j))) ∙ sym (code_at_two areas e op a b d at is)

pub both_lines : (areas : List Placed) (e : CoreExpr) (op : Op2) (a b got other : CoreExpr) (d : ℕ) (o n : List Line) → e ≡ expr.Two op a b → op ≡ two.Both → got ≡ a → other ≡ b
    → n ≡ o ++ both_code (length o + expr_size got + expr_size other + 4) (expr_code areas got d (length o)) (expr_code areas other d (length o + expr_size got + 3))
    → n ≡ o ++ expr_code areas e d (length o)
both_lines areas e op a b got other d o n is both left right lines =
    lines ∙ ap (λ (x : List Line). o ++ x) (two_lines areas e two.Both a b got other d (length o) (is ∙ ap (λ x. expr.Two x a b) both) left right)

pub either_lines : (areas : List Placed) (e : CoreExpr) (op : Op2) (a b got other : CoreExpr) (d : ℕ) (o n : List Line) → e ≡ expr.Two op a b → op ≡ two.Either → got ≡ a → other ≡ b
    → n ≡ o ++ either_code (length o + expr_size got + expr_size other + 2) (expr_code areas got d (length o)) (expr_code areas other d (length o + expr_size got + 2))
    → n ≡ o ++ expr_code areas e d (length o)
either_lines areas e op a b got other d o n is either left right lines =
    lines ∙ ap (λ (x : List Line). o ++ x) (two_lines areas e two.Either a b got other d (length o) (is ∙ ap (λ x. expr.Two x a b) either) left right)

-- an operator that always takes both sides
pub strict_code : (op : Op2) (d at m n : ℕ) (left right : ℕ → ℕ → List Line) → (op ≡ two.Both → ⊥) → (op ≡ two.Either → ⊥)
    → two_code op d at m n left right ≡ sides_code op d (left d at) (right (d + 1) (at + m + 1))
strict_code two.Add d at m n left right u v = refl
strict_code two.Sub d at m n left right u v = refl
strict_code two.Mul d at m n left right u v = refl
strict_code two.Div d at m n left right u v = refl
strict_code two.Rem d at m n left right u v = refl
strict_code two.And d at m n left right u v = refl
strict_code two.Or d at m n left right u v = refl
strict_code two.Xor d at m n left right u v = refl
strict_code two.Shl d at m n left right u v = refl
strict_code two.Shr d at m n left right u v = refl
strict_code two.Eq d at m n left right u v = refl
strict_code two.Ne d at m n left right u v = refl
strict_code two.Lt d at m n left right u v = refl
strict_code two.Le d at m n left right u v = refl
strict_code two.Gt d at m n left right u v = refl
strict_code two.Ge d at m n left right u v = refl
strict_code two.Both d at m n left right u v = absurd (u refl)
strict_code two.Either d at m n left right u v = absurd (v refl)

pub strict_size : (op : Op2) → (op ≡ two.Both → ⊥) → (op ≡ two.Either → ⊥) → two_size op ≡ 3 + length (op_code op)
strict_size two.Add u v = refl
strict_size two.Sub u v = refl
strict_size two.Mul u v = refl
strict_size two.Div u v = refl
strict_size two.Rem u v = refl
strict_size two.And u v = refl
strict_size two.Or u v = refl
strict_size two.Xor u v = refl
strict_size two.Shl u v = refl
strict_size two.Shr u v = refl
strict_size two.Eq u v = refl
strict_size two.Ne u v = refl
strict_size two.Lt u v = refl
strict_size two.Le u v = refl
strict_size two.Gt u v = refl
strict_size two.Ge u v = refl
strict_size two.Both u v = absurd (u refl)
strict_size two.Either u v = absurd (v refl)

pub one_positive : (op : Op1) → 0 < one_size op
one_positive one.Not = omega arith
one_positive one.Inv = omega arith
one_positive one.Neg = omega arith

pub sides_lines : (areas : List Placed) (e : CoreExpr) (op : Op2) (a b got other : CoreExpr) (d : ℕ) (o n : List Line) → e ≡ expr.Two op a b → (op ≡ two.Both → ⊥) → (op ≡ two.Either → ⊥)
    → got ≡ a → other ≡ b
    → n ≡ o ++ sides_code op d (expr_code areas got d (length o)) (expr_code areas other (d + 1) (length o + expr_size got + 1))
    → n ≡ o ++ expr_code areas e d (length o)
sides_lines areas e op a b got other d o n is u v left right lines =
    lines ∙ ap (λ (x : List Line). o ++ x) (sym (strict_code op d (length o) (expr_size got) (expr_size other) (expr_code areas got) (expr_code areas other) u v)
    ∙ two_lines areas e op a b got other d (length o) is left right)
