-- Induction over acts.
use Rattle.std.specs.Prelude.{ℕ, List}
use Rattle.std.specs.List.{AllByRecursion}
use Rattle.std.proofs.Common.{subst, sym, ap, ◌∙◌}
use Rattle.task_ast.specs.declared.core_form.CoreExpr.{CoreExpr}
use Rattle.task_ast.specs.declared.core_form.CoreStmt.{CoreStmt}
use Rattle.run_plan.specs.declared.act.Leg.{Leg}
use Rattle.run_plan.specs.declared.act.Act.{Act, Row_of-Act, end_of-Act, more_of-Act, items-the_row-Act, items_shown-the_row-Act-0, roll-Act, roll-out-Act}
use Rattle.run_plan.specs.declared.act.Act.TheVariants as act
use Rattle.run_plan.specs.declared.act.Act.TheBlock.{shown-the_row-Act-0}

-- a claim holds of each variant where it holds of each act inside
pub record HoldsByParts (P : Act → Type 0) : Type 0 where
  pub restores : (region : ℕ) → P (act.Restore region)
  pub begins : (task : ℕ) → P (act.Begin task)
  pub saves : (region : ℕ) → P (act.Save region)
  pub locks : (region : ℕ) → P (act.Lock region)
  pub plain : (s : CoreStmt) → P (act.Plain s)
  pub test : (c : CoreExpr) (when_yes when_no : List Act) → AllByRecursion P when_yes → AllByRecursion P when_no → P (act.Test c when_yes when_no)
  pub values : (site : ℕ) → P (act.Value site)
  pub looks : (site : ℕ) → P (act.Look site)
  pub choose : (site : ℕ) (issue_acts keep_acts : List Act) → AllByRecursion P issue_acts → AllByRecursion P keep_acts → P (act.Choose site issue_acts keep_acts)
  pub drops : (site : ℕ) → P (act.Drop site)
  pub issues : (site : ℕ) → P (act.Issue site)
  pub seals : (site : ℕ) → P (act.Seal site)
  pub takes : (site : ℕ) → P (act.Take site)
  pub writes : (site : ℕ) → P (act.Write site)
  pub enters : (site : ℕ) → P (act.Enter site)
  pub leaves : (site : ℕ) (acts : List Act) → AllByRecursion P acts → P (act.Leave site acts)
  pub by_class : (site : ℕ) (single_acts private_acts rest_acts : List Act) → AllByRecursion P single_acts → AllByRecursion P private_acts → AllByRecursion P rest_acts
      → P (act.ByClass site single_acts private_acts rest_acts)
  pub transfers : (site : ℕ) (leg : Leg) → P (act.Transfer site leg)
  pub keeps_words : (site : ℕ) → P (act.KeepWords site)
  pub puts_words : (site : ℕ) → P (act.PutWords site)
  pub commits : (next : ℕ) → P (act.Commit next)

-- what holds of each act of a row holds of each of the list that it shows
all_items : (P : Act → Type 0) (m : _) (row : Row_of-Act _) → AllByRecursion P (items-the_row-Act _ row) → AllByRecursion P (shown-the_row-Act-0 m row)
all_items P m row all = subst (AllByRecursion P) (sym (items_shown-the_row-Act-0 m row)) all

mutual
  -- what holds of each variant by its parts holds of every act
  pub for_every : (P : Act → Type 0) → HoldsByParts P → (a : Act) → P a
  for_every P h (act.Restore r) = h.restores r
  for_every P h (act.Begin t) = h.begins t
  for_every P h (act.Save r) = h.saves r
  for_every P h (act.Lock r) = h.locks r
  for_every P h (act.Plain s) = h.plain s
  for_every P h (act.Test' c m yes_row n no_row) =
      subst P (sym (act.rolls-Test c _ _) ∙ ap roll-Act (sym (act.outs-Test' c m yes_row n no_row)) ∙ roll-out-Act (act.Test' c m yes_row n no_row))
      (h.test c (shown-the_row-Act-0 m yes_row) (shown-the_row-Act-0 n no_row) (all_items P m yes_row (all_shown P h yes_row)) (all_items P n no_row (all_shown P h no_row)))
  for_every P h (act.Value k) = h.values k
  for_every P h (act.Look k) = h.looks k
  for_every P h (act.Choose' k m issue_row n keep_row) =
      subst P (sym (act.rolls-Choose k _ _) ∙ ap roll-Act (sym (act.outs-Choose' k m issue_row n keep_row)) ∙ roll-out-Act (act.Choose' k m issue_row n keep_row))
      (h.choose k (shown-the_row-Act-0 m issue_row) (shown-the_row-Act-0 n keep_row) (all_items P m issue_row (all_shown P h issue_row)) (all_items P n keep_row (all_shown P h keep_row)))
  for_every P h (act.Drop k) = h.drops k
  for_every P h (act.Issue k) = h.issues k
  for_every P h (act.Seal k) = h.seals k
  for_every P h (act.Take k) = h.takes k
  for_every P h (act.Write k) = h.writes k
  for_every P h (act.Enter k) = h.enters k
  for_every P h (act.Leave' k m row) =
      subst P (sym (act.rolls-Leave k _) ∙ ap roll-Act (sym (act.outs-Leave' k m row)) ∙ roll-out-Act (act.Leave' k m row))
      (h.leaves k (shown-the_row-Act-0 m row) (all_items P m row (all_shown P h row)))
  for_every P h (act.ByClass' k l single_row m private_row n rest_row) =
      subst P (sym (act.rolls-ByClass k _ _ _) ∙ ap roll-Act (sym (act.outs-ByClass' k l single_row m private_row n rest_row)) ∙ roll-out-Act (act.ByClass' k l single_row m private_row n rest_row))
      (h.by_class k (shown-the_row-Act-0 l single_row) (shown-the_row-Act-0 m private_row) (shown-the_row-Act-0 n rest_row)
      (all_items P l single_row (all_shown P h single_row)) (all_items P m private_row (all_shown P h private_row)) (all_items P n rest_row (all_shown P h rest_row)))
  for_every P h (act.Transfer k leg) = h.transfers k leg
  for_every P h (act.KeepWords k) = h.keeps_words k
  for_every P h (act.PutWords k) = h.puts_words k
  for_every P h (act.Commit t) = h.commits t

  -- and of each act of a row
  all_shown : (P : Act → Type 0) → HoldsByParts P → {n : _} (row : Row_of-Act n) → AllByRecursion P (items-the_row-Act n row)
  all_shown P h end_of-Act = tt
  all_shown P h (more_of-Act a rest) = (for_every P h a, all_shown P h rest)
