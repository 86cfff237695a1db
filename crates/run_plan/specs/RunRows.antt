-- The small steps of acts with lists of their own, by these lists; and of acts behind others.
use Rattle.std.specs.Prelude.{◌≡◌, ℕ, List, [], ◌∷◌, ◌++◌}
use Rattle.std.proofs.Common.{refl, ap, ◌∙◌}
use Rattle.task_ast.specs.declared.core_form.CoreExpr.{CoreExpr}
use Rattle.run_plan.specs.declared.act.Act.{Act, Row_of-Act, end_of-Act, more_of-Act, items-the_row-Act}
use Rattle.run_plan.specs.declared.act.Act.TheVariants as act
use Rattle.run_plan.specs.Rows.{act_row_of, act_row_shows}
use Rattle.run_plan.specs.Small.{Doing}
use Rattle.run_plan.specs.Runs.{Onward, act_steps, by_way, act_run, row_run, acts_run}

-- a row's small steps are those of the acts that it shows
rows_run : (d : Doing) (again : Onward) (n : _) (row : Row_of-Act n) (go : Onward) → row_run d again row go ≡ acts_run d again (items-the_row-Act n row) go
rows_run d again n end_of-Act go = refl
rows_run d again n (more_of-Act a rest) go = ap (act_run d again a) (rows_run d again _ rest go)

pub lists_run : (d : Doing) (again : Onward) (acts : List Act) (go : Onward) → row_run d again (act_row_of acts).1 go ≡ acts_run d again acts go
lists_run d again acts go = rows_run d again (act_row_of acts).0 (act_row_of acts).1 go ∙ ap (λ a. acts_run d again a go) (act_row_shows acts)

-- a test
pub run_test : (d : Doing) (again : Onward) (c : CoreExpr) (when_yes when_no : List Act) (go : Onward)
    → act_run d again (act.Test c when_yes when_no) go ≡ act_steps d (act.Test c when_yes when_no) (by_way (acts_run d again when_yes go) (acts_run d again when_no go) go go)
run_test d again c when_yes when_no go = λ i. act_steps d (act.Test c when_yes when_no) (by_way (lists_run d again when_yes go i) (lists_run d again when_no go i) go go)

-- a choice
pub run_choose : (d : Doing) (again : Onward) (k : ℕ) (issue_acts keep_acts : List Act) (go : Onward)
    → act_run d again (act.Choose k issue_acts keep_acts) go ≡ act_steps d (act.Choose k issue_acts keep_acts) (by_way (acts_run d again issue_acts go) (acts_run d again keep_acts go) go go)
run_choose d again k issue_acts keep_acts go = λ i. act_steps d (act.Choose k issue_acts keep_acts) (by_way (lists_run d again issue_acts go i) (lists_run d again keep_acts go i) go go)

-- a block's end
pub run_leave : (d : Doing) (again : Onward) (k : ℕ) (acts : List Act) (go : Onward)
    → act_run d again (act.Leave k acts) go ≡ act_steps d (act.Leave k acts) (by_way (acts_run d again acts go) go go go)
run_leave d again k acts go = λ i. act_steps d (act.Leave k acts) (by_way (lists_run d again acts go i) go go go)

-- the acts of a class
pub run_by_class : (d : Doing) (again : Onward) (k : ℕ) (single_acts private_acts rest_acts : List Act) (go : Onward)
    → act_run d again (act.ByClass k single_acts private_acts rest_acts) go
    ≡ act_steps d (act.ByClass k single_acts private_acts rest_acts) (by_way (acts_run d again single_acts go) (acts_run d again private_acts go) (acts_run d again rest_acts go) go)
run_by_class d again k single_acts private_acts rest_acts go =
    λ i. act_steps d (act.ByClass k single_acts private_acts rest_acts) (by_way (lists_run d again single_acts go i) (lists_run d again private_acts go i) (lists_run d again rest_acts go i) go)

-- acts behind others
pub run_joined : (d : Doing) (again : Onward) (some more : List Act) (go : Onward) → acts_run d again (some ++ more) go ≡ acts_run d again some (acts_run d again more go)
run_joined d again [] more go = refl
run_joined d again (a ∷ some) more go = ap (act_run d again a) (run_joined d again some more go)
