-- The acts of an `if` and of a block by their bodies, of one body behind another, and of a choice of exits.
use Rattle.std.specs.Prelude.{◌≡◌, ℕ, List, [], ◌∷◌, ◌++◌}
use Rattle.std.proofs.Common.{refl, sym, ap, ◌∙◌}
use Rattle.std.proofs.lemmas.List.{append_assoc}
use Rattle.task_ast.specs.declared.core_form.CoreExpr.{CoreExpr}
use Rattle.task_ast.specs.declared.core_form.CoreStmt.{CoreStmt, Row_of-CoreStmt, end_of-CoreStmt, more_of-CoreStmt, items-the_row-CoreStmt}
use Rattle.task_ast.specs.declared.core_form.CoreStmt.TheVariants as stmt
use Rattle.task_ast.specs.declared.core_form.CoreExit.{CoreExit}
use Rattle.task_ast.specs.declared.core_form.CoreExit.TheVariants as exit
use Rattle.task_ast.specs.declared.core_form.CoreExit.TheBlock.{hidden-the_row-CoreExit-0, shape-the_row-CoreExit-0}
use Rattle.task_ast.specs.CoreSites.{all_numbers, body_numbers}
use Rattle.task_ast.specs.Rows.{core_row_of, core_row_shows}
use Rattle.run_plan.specs.declared.act.Act.{Act}
use Rattle.run_plan.specs.declared.act.Act.TheVariants as act
use Rattle.run_plan.specs.PlanOf.{Around, unless_plain, block_acts, statement_acts, row_acts, body_acts, exit_act}
use denote.Hole.Carrier.{hidden}

-- a row's acts are those of the statements that it shows
rows_do : (a : Around) (n : _) (row : Row_of-CoreStmt n) → row_acts a row ≡ body_acts a (items-the_row-CoreStmt n row)
rows_do a n end_of-CoreStmt = refl
rows_do a n (more_of-CoreStmt s rest) = ap (λ (acts : List Act). statement_acts a s ++ acts) (rows_do a _ rest)

pub bodies_do : (a : Around) (body : List CoreStmt) → row_acts a (core_row_of body).1 ≡ body_acts a body
bodies_do a body = rows_do a (core_row_of body).0 (core_row_of body).1 ∙ ap (body_acts a) (core_row_shows body)

-- an `if`
pub acts_if : (a : Around) (c : CoreExpr) (yes_part no_part : List CoreStmt) → statement_acts a (stmt.If c yes_part no_part)
    ≡ unless_plain (all_numbers yes_part ++ all_numbers no_part) (stmt.If c yes_part no_part) (act.Test c (body_acts a yes_part) (body_acts a no_part)) ∷ []
acts_if a c yes_part no_part =
    λ i. unless_plain (body_numbers yes_part i ++ body_numbers no_part i) (stmt.If c yes_part no_part) (act.Test c (bodies_do a yes_part i) (bodies_do a no_part i)) ∷ []

-- a block
pub acts_block : (a : Around) (k : ℕ) (body : List CoreStmt) → statement_acts a (stmt.Block k body) ≡ block_acts k (body_acts a body)
acts_block a k body = ap (block_acts k) (bodies_do a body)

-- a choice of exits
pub acts_choose : (e : CoreExit) (c : CoreExpr) (a b : CoreExit) → e ≡ exit.Choose c a b → exit_act e ≡ act.Test c (exit_act a ∷ []) (exit_act b ∷ [])
unfolding hidden-the_row-CoreExit-0 shape-the_row-CoreExit-0 hidden
acts_choose e c a b is = ap exit_act is

-- one body and then another
pub acts_joined : (a : Around) (some more : List CoreStmt) → body_acts a (some ++ more) ≡ body_acts a some ++ body_acts a more
acts_joined a [] more = refl
acts_joined a (s ∷ rest) more = ap (λ (acts : List Act). statement_acts a s ++ acts) (acts_joined a rest more) ∙ sym (append_assoc (statement_acts a s) (body_acts a rest) (body_acts a more))
