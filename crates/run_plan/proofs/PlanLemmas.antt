-- The acts of statements by their parts, as the plan is written.
use Rattle.std.proofs.Common.{◌≡◌, ℕ, Bool, true, List, [], ◌∷◌, ◌++◌, Result, Ok, Err, OnOk, ap, sym, ◌∙◌}
use Rattle.std.proofs.lemmas.List.{append_assoc}
use Rattle.task_ast.specs.declared.core_form.CoreExpr.{CoreExpr}
use Rattle.task_ast.specs.declared.core_form.CoreStmt.{CoreStmt}
use Rattle.task_ast.specs.declared.core_form.CoreStmt.TheVariants.{If, Block}
use Rattle.task_ast.specs.declared.core_form.CoreExit.{CoreExit}
use Rattle.task_ast.specs.declared.core_form.CoreExit.TheVariants.{Choose}
use Rattle.task_ast.specs.CoreSites.{site_numbers}
use Rattle.run_plan.specs.declared.act.Act.{Act}
use Rattle.run_plan.specs.declared.act.Act.TheVariants as act
use Rattle.run_plan.specs.PlanOf.{Around, block_end_acts, statement_acts, body_acts, exit_act}
use Rattle.run_plan.specs.PlanRows.{acts_block, acts_choose}
use Rattle.run_plan.specs.Told.{some}
use Rattle.run_plan.proofs.SiteLemmas.{test_if}

-- what follows where a call succeeds
pub on_ok : {T E P Q : Type 0} (r : Result T E) → (P → Q) → OnOk r P → OnOk r Q
on_ok (Ok v) f h = f h
on_ok (Err e) f h = h

-- a choice of exits
pub choose_made : (e : CoreExit) (c c' : CoreExpr) (a b a' b' : CoreExit) (x y : Act) (xs ys : List Act) → e ≡ Choose c a b → a' ≡ a → b' ≡ b → c' ≡ c → x ≡ exit_act a' → xs ≡ x ∷ [] → y ≡ exit_act b' → ys ≡ y ∷ []
    → act.Test c' xs ys ≡ exit_act e
choose_made e c c' a b a' b' x y xs ys is at_a at_b at_c at_x at_xs at_y at_ys =
    (λ i. act.Test (at_c i) ((at_xs ∙ ap (λ x. x ∷ []) (at_x ∙ ap exit_act at_a)) i) ((at_ys ∙ ap (λ y. y ∷ []) (at_y ∙ ap exit_act at_b)) i)) ∙ sym (acts_choose e c a b is)

-- an `if` with sites
pub if_made : (a : Around) (s : CoreStmt) (c c' : CoreExpr) (ys ns ys' ns' : List CoreStmt) (xs zs xs' zs' : List Act) (b : Bool) (before after : List Act) → s ≡ If c ys ns → b ≡ some (site_numbers s) → b ≡ true
    → ys' ≡ ys → ns' ≡ ns → c' ≡ c → xs ≡ [] → xs' ≡ xs ++ body_acts a ys' → zs ≡ [] → zs' ≡ zs ++ body_acts a ns' → after ≡ before ++ act.Test c' xs' zs' ∷ [] → after ≡ before ++ statement_acts a s
if_made a s c c' ys ns ys' ns' xs zs xs' zs' b before after is has holds at_ys at_ns at_c new_xs at_xs new_zs at_zs made =
    made ∙ ap (λ (acts : List Act). before ++ acts)
    ((λ i. act.Test (at_c i) ((at_xs ∙ (λ j. new_xs j ++ body_acts a (at_ys j))) i) ((at_zs ∙ (λ j. new_zs j ++ body_acts a (at_ns j))) i) ∷ []) ∙ sym (test_if a s c ys ns is (sym has ∙ holds)))

-- a block
pub block_made : (a : Around) (s : CoreStmt) (k : ℕ) (body body' : List CoreStmt) (before one two three after : List Act) → s ≡ Block k body → body' ≡ body
    → one ≡ before ++ act.Look k ∷ [] → two ≡ one ++ act.Enter k ∷ [] → three ≡ two ++ body_acts a body' → after ≡ three ++ act.Leave k (block_end_acts k) ∷ [] → after ≡ before ++ statement_acts a s
block_made a s k body body' before one two three after is same at_one at_two at_three made =
    made
    ∙ (λ i. (at_three ∙ (λ j. (at_two ∙ ap (λ (acts : List Act). acts ++ act.Enter k ∷ []) at_one) j ++ body_acts a (same j))) i ++ act.Leave k (block_end_acts k) ∷ [])
    ∙ ap (λ (acts : List Act). acts ++ body_acts a body ++ act.Leave k (block_end_acts k) ∷ []) (append_assoc before (act.Look k ∷ []) (act.Enter k ∷ []))
    ∙ ap (λ (acts : List Act). acts ++ act.Leave k (block_end_acts k) ∷ []) (append_assoc before (act.Look k ∷ act.Enter k ∷ []) (body_acts a body))
    ∙ append_assoc before (act.Look k ∷ act.Enter k ∷ body_acts a body) (act.Leave k (block_end_acts k) ∷ [])
    ∙ ap (λ (acts : List Act). before ++ acts) (sym (acts_block a k body) ∙ ap (statement_acts a) (sym is))
