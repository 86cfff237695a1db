-- Whether a statement has sites by its parts, and how many copies there are.
use Rattle.std.proofs.Common.{◌≡◌, ℕ, Bool, true, false, ◌||◌, List, [], ◌∷◌, ◌++◌, refl, ap, sym, ◌∙◌}
use Rattle.task_ast.specs.declared.core_form.CoreExpr.{CoreExpr}
use Rattle.task_ast.specs.declared.core_form.CoreStmt.{CoreStmt}
use Rattle.task_ast.specs.declared.core_form.CoreStmt.TheVariants.{If, Loop}
use Rattle.task_ast.specs.CoreSites.{site_numbers, all_numbers, numbers_if, numbers_loop}
use Rattle.run_plan.specs.declared.act.Act.{Act}
use Rattle.run_plan.specs.declared.act.Act.TheVariants as act
use Rattle.run_plan.specs.PlanOf.{Around, unless_plain, statement_acts, body_acts}
use Rattle.run_plan.specs.PlanRows.{acts_if}
use Rattle.run_plan.specs.Told.{some}

-- of two lists
pub some_joined : (xs ys : List ℕ) → some (xs ++ ys) ≡ (some xs || some ys)
some_joined [] ys = refl
some_joined (x ∷ xs) ys = refl

at_if : (s : CoreStmt) (c : CoreExpr) (ys ns : List CoreStmt) → s ≡ If c ys ns → some (site_numbers s) ≡ (some (all_numbers ys) || some (all_numbers ns))
at_if s c ys ns is = ap (λ x. some (site_numbers x)) is ∙ ap some (numbers_if c ys ns) ∙ some_joined (all_numbers ys) (all_numbers ns)

-- of an `if` whose first body has a site
pub has_first : (s : CoreStmt) (c : CoreExpr) (ys ns ys' : List CoreStmt) (b : Bool) → s ≡ If c ys ns → ys' ≡ ys → b ≡ some (all_numbers ys') → b ≡ true → b ≡ some (site_numbers s)
has_first s c ys ns ys' b is same h holds =
    holds ∙ sym (at_if s c ys ns is ∙ ap (λ b. b || some (all_numbers ns)) (ap (λ xs. some (all_numbers xs)) (sym same) ∙ sym h ∙ holds))

-- and of one whose first body has none
pub has_second : (s : CoreStmt) (c : CoreExpr) (ys ns ys' ns' : List CoreStmt) (a b : Bool) → s ≡ If c ys ns → ys' ≡ ys → ns' ≡ ns → a ≡ some (all_numbers ys') → a ≡ false → b ≡ some (all_numbers ns')
    → b ≡ some (site_numbers s)
has_second s c ys ns ys' ns' a b is same same' at_a none h =
    h ∙ ap (λ xs. some (all_numbers xs)) same' ∙ sym (at_if s c ys ns is ∙ ap (λ b. b || some (all_numbers ns)) (ap (λ xs. some (all_numbers xs)) (sym same) ∙ sym at_a ∙ none))

-- of a loop
pub has_loop : (s : CoreStmt) (i turns : ℕ) (body body' : List CoreStmt) (b : Bool) → s ≡ Loop i turns body → body' ≡ body → b ≡ some (all_numbers body') → b ≡ some (site_numbers s)
has_loop s i turns body body' b is same h = h ∙ ap (λ xs. some (all_numbers xs)) same ∙ sym (ap (λ x. some (site_numbers x)) is ∙ ap some (numbers_loop i turns body))

-- of statements, whose first has none
pub has_rest : (s : CoreStmt) (rest : List CoreStmt) → some (site_numbers s) ≡ false → some (all_numbers (s ∷ rest)) ≡ some (all_numbers rest)
has_rest s rest none = some_joined (site_numbers s) (all_numbers rest) ∙ ap (λ b. b || some (all_numbers rest)) none

pub has_here : (s : CoreStmt) (rest : List CoreStmt) → some (site_numbers s) ≡ true → some (all_numbers (s ∷ rest)) ≡ true
has_here s rest one = some_joined (site_numbers s) (all_numbers rest) ∙ ap (λ b. b || some (all_numbers rest)) one

-- a statement without sites is one act, another is its test
plain_none : (ks : List ℕ) (s : CoreStmt) (test : Act) → some ks ≡ false → unless_plain ks s test ≡ act.Plain s
plain_none [] s test none = refl
plain_none (k ∷ ks) s test none = absurd (cc none)

test_some : (ks : List ℕ) (s : CoreStmt) (test : Act) → some ks ≡ true → unless_plain ks s test ≡ test
test_some [] s test one = absurd (cc one)
test_some (k ∷ ks) s test one = refl

pub plain_if : (a : Around) (s : CoreStmt) (c : CoreExpr) (ys ns : List CoreStmt) → s ≡ If c ys ns → some (site_numbers s) ≡ false → statement_acts a s ≡ act.Plain s ∷ []
plain_if a s c ys ns is none =
    ap (statement_acts a) is ∙ acts_if a c ys ns
    ∙ ap (λ x. x ∷ []) (plain_none (all_numbers ys ++ all_numbers ns) (If c ys ns) _ (sym (ap some (numbers_if c ys ns)) ∙ sym (ap (λ x. some (site_numbers x)) is) ∙ none) ∙ ap act.Plain (sym is))

pub test_if : (a : Around) (s : CoreStmt) (c : CoreExpr) (ys ns : List CoreStmt) → s ≡ If c ys ns → some (site_numbers s) ≡ true → statement_acts a s ≡ act.Test c (body_acts a ys) (body_acts a ns) ∷ []
test_if a s c ys ns is one =
    ap (statement_acts a) is ∙ acts_if a c ys ns
    ∙ ap (λ x. x ∷ []) (test_some (all_numbers ys ++ all_numbers ns) (If c ys ns) _ (sym (ap some (numbers_if c ys ns)) ∙ sym (ap (λ x. some (site_numbers x)) is) ∙ one))
