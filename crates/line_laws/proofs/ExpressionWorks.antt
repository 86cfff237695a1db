-- The code of an expression gives its value, within its steps.
use Rattle.std.specs.Prelude.{◌∷◌, ◌++◌}
use Rattle.std.proofs.Common.{◌≡◌, ℕ, ◌+◌, ◌<◌, true, [], length, Result, Ok, Err, refl, arith}
use Rattle.ease_base.specs.Found.{with_found}
use Rattle.task_ast.specs.declared.tree.Op2.{Op2}
use Rattle.task_ast.specs.declared.tree.Op2.TheVariants as two
use Rattle.task_ast.specs.declared.core_form.CoreExpr.{CoreExpr, end_of-CoreExpr, more_of-CoreExpr}
use Rattle.task_ast.specs.declared.core_form.CoreExpr.TheVariants as expr
use Rattle.task_ast.specs.declared.core_form.CoreExpr.TheBlock.{hidden-the_row-CoreExpr-0, shape-the_row-CoreExpr-0}
use Rattle.task_ast.specs.WellFormed.{Scope, IsOver}
use Rattle.walk_run.specs.declared.trap.Trap.{Trap}
use Rattle.word_isa.specs.declared.instr.Instr.TheVariants.{Eq, Jmp, Jz, Ld, Mov, St}
use Rattle.walk_run.specs.Operators.{two_words, two_values}
use Rattle.walk_run.specs.PlainSteps.{expr_steps}
use Rattle.walk_run.specs.Store.{Store}
use Rattle.walk_run.specs.Value.{value_of}
use Rattle.word_machine.specs.State.{Program}
use Rattle.word_machine.specs.Straight.{Spot}
use Rattle.line_code.specs.Sizes.{expr_size, two_size}
use Rattle.line_code.specs.Lines.{bares}
use Rattle.line_code.specs.Expressions.{op_code, two_code, sides_code, expr_code}
use Rattle.line_code.specs.ExpressionLaws.{AreShort, short_cell, short_through, short_one, short_two}
use Rattle.line_laws.specs.Gives.{Gives, word_goal}
use Rattle.line_laws.specs.Relation.{Layout, Related}
use Rattle.line_laws.specs.Standing.{Lie, lie_front, lie_behind}
use Rattle.line_laws.specs.Works.{Works}
use Rattle.line_laws.specs.CodeSizes.{one_long, expr_long}
use Rattle.line_laws.proofs.Parts.{is_strict, number_gives}
use Rattle.line_laws.proofs.Templates.{cell_gives, prefix_gives, sides_gives}
use Rattle.line_laws.proofs.Pointers.{through_gives}
use Rattle.line_laws.proofs.Jumps.{both_gives, either_gives}
use denote.Hole.Carrier.{hidden}

-- an operator that values both sides has the value that both sides' words give
strict_values : (op : Op2) (x y : Result ℕ Trap) → is_strict op ≡ true → two_values op x y ≡ with_found x (λ word. with_found y (two_words op word))
strict_values two.Both (Ok a) y h = cc
strict_values two.Either (Ok a) y h = cc
strict_values _ (Ok a) y h = refl
strict_values _ (Err c) y h = refl

strict_size : (op : Op2) → is_strict op ≡ true → 3 + length (op_code op) ≡ two_size op
strict_size two.Both h = cc
strict_size two.Either h = cc
strict_size _ h = refl

-- an operator that values both sides, from its sides
strict_works : (op : Op2) (p : Program) (scope : Scope) (l : Layout) (store : Store) (a b : CoreExpr) → is_strict op ≡ true → Works p scope l store a → Works p scope l store b
    → (d at : ℕ) (s : Spot) → s.pc ≡ at → Lie p at (sides_code op d (expr_code l.areas a d at) (expr_code l.areas b (d + 1) (at + expr_size a + 1))) → Related l scope.pointers s store → IsOver scope a → IsOver scope b → d < 32 → AreShort d a b
    → Gives p d (12 + (expr_steps a + expr_steps b)) s (word_goal d (at + (expr_size a + expr_size b + two_size op)) (two_values op (value_of a store) (value_of b store)))
strict_works op p scope l store a b strict f g d at s here stands related h k room short =
    let from : ℕ = at + expr_size a + 1 in
    let left = expr_code l.areas a d at in
    let right = expr_code l.areas b (d + 1) from in
    let tail = bares (Mov 2 1 ∷ Ld 1 15 d ∷ []) ++ op_code op in
    rw (← strict_size op strict, strict_values op (value_of a store) (value_of b store) strict)
    (sides_gives op p d (expr_steps a) (expr_steps b) at (expr_size a) (expr_size b) s l scope.pointers store left right (value_of a store) (value_of b store)
    strict room (expr_long l.areas a d at) (expr_long l.areas b (d + 1) from) here stands related
    (f d at s here (lie_front p at left _ stands) related h short.left)
    (λ t at_t related_t. g (d + 1) from t at_t (lie_front p from right tail (lie_behind p at left (bares (St 1 15 d ∷ []) ++ (right ++ tail)) (at + expr_size a) stands (omega (arith, expr_long l.areas a d at))).1) related_t k short.deeper))

-- a binary operator, from its sides
two_works : (op : Op2) (p : Program) (scope : Scope) (l : Layout) (store : Store) (a b : CoreExpr) → Works p scope l store a → Works p scope l store b
    → (d at : ℕ) (s : Spot) → s.pc ≡ at → Lie p at (two_code op d at (expr_size a) (expr_size b) (expr_code l.areas a) (expr_code l.areas b)) → Related l scope.pointers s store → IsOver scope a → IsOver scope b → d < 32 → AreShort d a b
    → Gives p d (12 + (expr_steps a + expr_steps b)) s (word_goal d (at + (expr_size a + expr_size b + two_size op)) (two_values op (value_of a store) (value_of b store)))
two_works two.Both p scope l store a b f g d at s here stands related h k room short =
    let from : ℕ = at + expr_size a + 3 in
    let end : ℕ = at + expr_size a + expr_size b + 4 in
    let left = expr_code l.areas a d at in
    let right = expr_code l.areas b d from in
    let tail = bares (Eq 1 0 ∷ Eq 1 0 ∷ []) in
    both_gives p d (expr_steps a) (expr_steps b) at (expr_size a) (expr_size b) s l scope.pointers store left right (value_of a store) (value_of b store)
    (expr_long l.areas a d at) (expr_long l.areas b d from) here stands related (f d at s here (lie_front p at left _ stands) related h short.left)
    (λ t at_t related_t. g d from t at_t (lie_front p from right tail
    (lie_behind p (at + expr_size a) (bares (Eq 1 0 ∷ Jz 1 1 ∷ Jmp end ∷ [])) (right ++ tail) from
    (lie_behind p at left (bares (Eq 1 0 ∷ Jz 1 1 ∷ Jmp end ∷ []) ++ (right ++ tail)) (at + expr_size a) stands (omega (arith, expr_long l.areas a d at))) (omega arith))) related_t k short.right)
two_works two.Either p scope l store a b f g d at s here stands related h k room short =
    let from : ℕ = at + expr_size a + 2 in
    let end : ℕ = at + expr_size a + expr_size b + 2 in
    let left = expr_code l.areas a d at in
    let right = expr_code l.areas b d from in
    let tail = bares (Eq 1 0 ∷ Eq 1 0 ∷ []) in
    either_gives p d (expr_steps a) (expr_steps b) at (expr_size a) (expr_size b) s l scope.pointers store left right (value_of a store) (value_of b store)
    (expr_long l.areas a d at) (expr_long l.areas b d from) here stands related (f d at s here (lie_front p at left _ stands) related h short.left)
    (λ t at_t related_t. g d from t at_t (lie_front p from right tail
    (lie_behind p (at + expr_size a) (bares (Jz 1 1 ∷ Jmp end ∷ [])) (right ++ tail) from
    (lie_behind p at left (bares (Jz 1 1 ∷ Jmp end ∷ []) ++ (right ++ tail)) (at + expr_size a) stands (omega (arith, expr_long l.areas a d at))) (omega arith))) related_t k short.right)
two_works op p scope l store a b f g d at s here stands related h k room short = strict_works op p scope l store a b refl f g d at s here stands related h k room short

pub expr_works : (p : Program) (scope : Scope) (l : Layout) (store : Store) (e : CoreExpr) → Works p scope l store e
unfolding hidden-the_row-CoreExpr-0 shape-the_row-CoreExpr-0 hidden
expr_works p scope l store (expr.Number n) d at s here stands related over short =
    rw (← here) (number_gives p d n s (rw here stands) over)
expr_works p scope l store (expr.Cell' array u (more_of-CoreExpr i end_of-CoreExpr)) d at s here stands related over short =
    cell_gives p d (expr_steps i) at (expr_size i) s l scope.pointers store array (expr_code l.areas i d at) (value_of i store) (expr_long l.areas i d at) here stands related
    (expr_works p scope l store i d at s here (lie_front p at (expr_code l.areas i d at) _ stands) related over.1 (short_cell d (expr.Cell array i) array i refl short))
expr_works p scope l store (expr.Through' pointer u (more_of-CoreExpr i end_of-CoreExpr)) d at s here stands related over short =
    through_gives p d (expr_steps i) at (expr_size i) s l scope.pointers store pointer (expr_code l.areas i d at) (value_of i store) (expr_long l.areas i d at) over.0 here stands related
    (expr_works p scope l store i d at s here (lie_front p at (expr_code l.areas i d at) _ stands) related over.1 (short_through d (expr.Through pointer i) pointer i refl short).1)
expr_works p scope l store (expr.One' op u (more_of-CoreExpr e end_of-CoreExpr)) d at s here stands related over short =
    rw (← one_long op) (prefix_gives op p d (expr_steps e) at (expr_size e) s l scope.pointers store (expr_code l.areas e d at) (value_of e store) (expr_long l.areas e d at) here stands related
    (expr_works p scope l store e d at s here (lie_front p at (expr_code l.areas e d at) _ stands) related over (short_one d (expr.One op e) op e refl short)))
expr_works p scope l store (expr.Two' op u (more_of-CoreExpr a end_of-CoreExpr) v (more_of-CoreExpr b end_of-CoreExpr)) d at s here stands related over short =
    two_works op p scope l store a b (expr_works p scope l store a) (expr_works p scope l store b) d at s here stands related over.0 over.1 (omega (arith, short.cells)) (short_two d (expr.Two op a b) op a b refl short)
