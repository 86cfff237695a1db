-- The size and the code of an expression, by its parts.
use Rattle.std.specs.Prelude.{◌≡◌, ℕ, ◌+◌, ◌<◌, ◌≤◌, Bool, true, false, List, ◌++◌, [], ◌∷◌, if◌then◌else◌, refl}
use Rattle.std.proofs.Common.{ap, subst, arith}
use Rattle.task_ast.specs.CoreNodes.{is_zero}
use Rattle.task_ast.specs.declared.tree.Op1.{Op1}
use Rattle.task_ast.specs.declared.tree.Op2.{Op2}
use Rattle.task_ast.specs.declared.core_form.CoreExpr.{CoreExpr}
use Rattle.task_ast.specs.declared.core_form.CoreExpr.TheVariants as expr
use Rattle.task_ast.specs.declared.core_form.CoreExpr.TheBlock.{hidden-the_row-CoreExpr-0, shape-the_row-CoreExpr-0}
use Rattle.task_ast.specs.WellFormed.{core_depth}
use Rattle.word_isa.specs.declared.instr.Instr.TheVariants.{Ld}
use Rattle.line_code.specs.declared.areas.Placed.{Placed}
use Rattle.line_code.specs.Areas.{area_at, pointer_at}
use Rattle.line_code.specs.Lines.{bares}
use Rattle.line_code.specs.Sizes.{expr_size, one_size, two_size}
use Rattle.line_code.specs.Expressions.{number_code, place_code, pointer_code, one_code, two_code, expr_code}
use Rattle.line_code.specs.Fitting.{IsShort}
use denote.Hole.Carrier.{hidden}

pub size_at_number : (e : CoreExpr) (n : ℕ) → e ≡ expr.Number n → expr_size e ≡ 2
size_at_number e n is = ap expr_size is

pub size_at_cell : (e : CoreExpr) (array : ℕ) (i : CoreExpr) → e ≡ expr.Cell array i → expr_size e ≡ expr_size i + 10
unfolding hidden-the_row-CoreExpr-0 shape-the_row-CoreExpr-0 hidden
size_at_cell e array i is = ap expr_size is

pub size_at_through : (e : CoreExpr) (pointer : ℕ) (i : CoreExpr) → e ≡ expr.Through pointer i → expr_size e ≡ expr_size i + 14
unfolding hidden-the_row-CoreExpr-0 shape-the_row-CoreExpr-0 hidden
size_at_through e pointer i is = ap expr_size is

pub size_at_one : (e : CoreExpr) (op : Op1) (i : CoreExpr) → e ≡ expr.One op i → expr_size e ≡ expr_size i + one_size op
unfolding hidden-the_row-CoreExpr-0 shape-the_row-CoreExpr-0 hidden
size_at_one e op i is = ap expr_size is

pub size_at_two : (e : CoreExpr) (op : Op2) (a b : CoreExpr) → e ≡ expr.Two op a b → expr_size e ≡ expr_size a + expr_size b + two_size op
unfolding hidden-the_row-CoreExpr-0 shape-the_row-CoreExpr-0 hidden
size_at_two e op a b is = ap expr_size is

pub code_at_number : (areas : List Placed) (e : CoreExpr) (n d at : ℕ) → e ≡ expr.Number n → expr_code areas e d at ≡ number_code n
code_at_number areas e n d at is = ap (λ x. expr_code areas x d at) is

pub code_at_cell : (areas : List Placed) (e : CoreExpr) (array : ℕ) (i : CoreExpr) (d at : ℕ) → e ≡ expr.Cell array i
    → expr_code areas e d at ≡ expr_code areas i d at ++ (place_code (area_at areas array) ++ bares (Ld 1 1 0 ∷ []))
unfolding hidden-the_row-CoreExpr-0 shape-the_row-CoreExpr-0 hidden
code_at_cell areas e array i d at is = ap (λ x. expr_code areas x d at) is

pub code_at_through : (areas : List Placed) (e : CoreExpr) (pointer : ℕ) (i : CoreExpr) (d at : ℕ) → e ≡ expr.Through pointer i
    → expr_code areas e d at ≡ expr_code areas i d at ++ (pointer_code (pointer_at pointer) ++ bares (Ld 1 1 0 ∷ []))
unfolding hidden-the_row-CoreExpr-0 shape-the_row-CoreExpr-0 hidden
code_at_through areas e pointer i d at is = ap (λ x. expr_code areas x d at) is

pub code_at_one : (areas : List Placed) (e : CoreExpr) (op : Op1) (i : CoreExpr) (d at : ℕ) → e ≡ expr.One op i → expr_code areas e d at ≡ expr_code areas i d at ++ one_code op
unfolding hidden-the_row-CoreExpr-0 shape-the_row-CoreExpr-0 hidden
code_at_one areas e op i d at is = ap (λ x. expr_code areas x d at) is

pub code_at_two : (areas : List Placed) (e : CoreExpr) (op : Op2) (a b : CoreExpr) (d at : ℕ) → e ≡ expr.Two op a b
    → expr_code areas e d at ≡ two_code op d at (expr_size a) (expr_size b) (expr_code areas a) (expr_code areas b)
unfolding hidden-the_row-CoreExpr-0 shape-the_row-CoreExpr-0 hidden
code_at_two areas e op a b d at is = ap (λ x. expr_code areas x d at) is

-- the number 0 is 1 deep
zero_depth : (i : CoreExpr) → is_zero i ≡ true → core_depth i ≡ 1
zero_depth (expr.Number n) is = refl
zero_depth (expr.Cell' array u i) is = cc
zero_depth (expr.Through' pointer u i) is = cc
zero_depth (expr.One' op u e) is = cc
zero_depth (expr.Two' op u a v b) is = cc

-- an index is no deeper than its cell
index_depth : (i : CoreExpr) (z : Bool) → is_zero i ≡ z → core_depth i ≤ (if z then 1 else 1 + core_depth i)
index_depth i true is = omega (arith, zero_depth i is)
index_depth i false is = omega arith

-- the parts of a short expression
pub short_cell : (d : ℕ) (e : CoreExpr) (array : ℕ) (i : CoreExpr) → e ≡ expr.Cell array i → IsShort d e → IsShort d i
unfolding hidden-the_row-CoreExpr-0 shape-the_row-CoreExpr-0 hidden
short_cell d e array i is h =
    let whole : IsShort d (expr.Cell array i) = subst (IsShort d) is h in
    record { cells = omega (arith, whole.cells, index_depth i (is_zero i) refl); fields = whole.fields }

pub short_through : (d : ℕ) (e : CoreExpr) (pointer : ℕ) (i : CoreExpr) → e ≡ expr.Through pointer i → IsShort d e → (pointer < 256) × IsShort d i
unfolding hidden-the_row-CoreExpr-0 shape-the_row-CoreExpr-0 hidden
short_through d e pointer i is h =
    let whole : IsShort d (expr.Through pointer i) = subst (IsShort d) is h in
    (whole.fields.0, record { cells = omega (arith, whole.cells); fields = whole.fields.1 })

pub short_one : (d : ℕ) (e : CoreExpr) (op : Op1) (i : CoreExpr) → e ≡ expr.One op i → IsShort d e → IsShort d i
unfolding hidden-the_row-CoreExpr-0 shape-the_row-CoreExpr-0 hidden
short_one d e op i is h =
    let whole : IsShort d (expr.One op i) = subst (IsShort d) is h in
    record { cells = omega (arith, whole.cells); fields = whole.fields }

-- the sides of a short operator
pub record AreShort (d : ℕ) (a b : CoreExpr) : Type 0 where
  pub left : IsShort d a
  pub right : IsShort d b
  pub deeper : IsShort (d + 1) b

pub short_two : (d : ℕ) (e : CoreExpr) (op : Op2) (a b : CoreExpr) → e ≡ expr.Two op a b → IsShort d e → AreShort d a b
unfolding hidden-the_row-CoreExpr-0 shape-the_row-CoreExpr-0 hidden
short_two d e op a b is h =
    let whole : IsShort d (expr.Two op a b) = subst (IsShort d) is h in
    record {
      left = record { cells = omega (arith, whole.cells); fields = whole.fields.0 };
      right = record { cells = omega (arith, whole.cells); fields = whole.fields.1 };
      deeper = record { cells = omega (arith, whole.cells); fields = whole.fields.1 };
    }
