-- How many machine steps an act may take, by the state where it begins (docs/PLAN.md, "Weights").
use Rattle.std.specs.Prelude.{ℕ, ◌+◌, ◌*◌, cond, List, [], ◌∷◌, length, sum_by, slice_index_or, slice_get, Option, Some, None}
use Rattle.task_ast.specs.declared.core_form.CoreExpr.{CoreExpr}
use Rattle.task_ast.specs.declared.core_form.CoreTarget.{CoreTarget}
use Rattle.task_ast.specs.declared.core_form.CoreStmt.{CoreStmt}
use Rattle.task_ast.specs.declared.core_form.CoreStmt.TheVariants as stmt
use Rattle.task_ast.specs.declared.core_form.Core.{Core}
use Rattle.task_ast.specs.declared.core_form.Site.{Site}
use Rattle.task_ast.specs.declared.core_form.Site.TheVariants as site
use Rattle.task_ast.specs.CoreSites.{room}
use Rattle.walk_run.specs.Store.{Store}
use Rattle.walk_run.specs.Value.{value_of, end_place}
use Rattle.walk_run.specs.PlainSteps.{expr_steps, target_steps, end_steps, condition_steps, plain_steps, found_steps}
use Rattle.region_split.specs.Regions.{is_nonvolatile}
use Rattle.word_isa.specs.declared.parts.Scheme.{Scheme}
use Rattle.word_isa.specs.declared.parts.Scheme.TheVariants.{Undo, Bank}
use Rattle.task_attempts.specs.Calls.{site_at}
use Rattle.task_attempts.specs.Costs.{is_volatile, words_where}
use Rattle.run_plan.specs.declared.act.Leg.{Leg}
use Rattle.run_plan.specs.declared.act.Leg.TheVariants.{Across, ToKept, FromKept}
use Rattle.run_plan.specs.declared.act.Act.{Act}
use Rattle.run_plan.specs.declared.act.Act.TheVariants as act
use Rattle.run_plan.specs.Cells.{CopyValued, State}
use Rattle.run_plan.specs.Small.{Doing, core_of, lock_holds}
use Rattle.run_plan.specs.Finding.{statement_of}
use Rattle.run_plan.specs.Deeds.{target_found}

-- the words that a region may write first
abbrev pub region_words : Doing → (region : ℕ) → ℕ
region_words d r = sum_by (λ a. room (slice_get (core_of d).arrays a)) (slice_index_or d.firsts r [])

-- the nonvolatile words that a beginning brings level
abbrev pub level_words : Scheme → Core → ℕ
level_words Undo c = 0
level_words Bank c = words_where is_nonvolatile c

-- what a beginning sets: volatile words, pointers, and what it brings level
abbrev pub begin_words : Doing → ℕ
begin_words d = let c = core_of d in words_where is_volatile c + (length c.pointers + level_words d.scheme c)

-- words that are valued from left to right, up to a trap
abbrev pub values_steps : List CoreExpr → Store → ℕ
values_steps [] store = 0
values_steps (e ∷ es) store = expr_steps e + found_steps (value_of e store) (λ word. values_steps es store)

-- a call's target, if it has one
abbrev pub target_weight : Option CoreTarget → ℕ
target_weight None = 0
target_weight (Some t) = target_steps t

-- the expressions of a site, as far as they are valued
abbrev pub value_weight : Option CoreStmt → Store → ℕ
value_weight (Some (stmt.Assign x e)) store = 0
value_weight (Some (stmt.Point p array i)) store = 0
value_weight (Some (stmt.If' c m yes_row n no_row)) store = 0
value_weight (Some (stmt.Loop' i turns m row)) store = 0
value_weight (Some (stmt.Io k target p args)) store = 20 + (target_weight target + found_steps (target_found target store) (λ at. values_steps args store))
value_weight (Some (stmt.Block' k m row)) store = 0
value_weight (Some (stmt.Copy k to from words)) store =
    42 + (end_steps to + found_steps (end_place to store) (λ t. end_steps from + found_steps (end_place from store) (λ f. expr_steps words)))
value_weight None store = 0

-- a call's choice works out its mode and its time, a copy's looks at its flag
abbrev pub choose_weight : Option Site → ℕ
choose_weight (Some (site.Io ann)) = 30
choose_weight (Some (site.Block ann)) = 30
choose_weight (Some (site.Copy n)) = 4
choose_weight None = 4

-- a seal writes up to five cells
abbrev pub seal_weight : Option Site → ℕ
seal_weight (Some (site.Io ann)) = 8
seal_weight (Some (site.Block ann)) = 8
seal_weight (Some (site.Copy n)) = 12
seal_weight None = 8

-- the length of a copy as it was valued
abbrev pub length_valued : Option CopyValued → ℕ
length_valued None = 0
length_valued (Some v) = v.length

-- the words that a leg moves
abbrev pub leg_words : Leg → (site : ℕ) → State → ℕ
leg_words Across k s = length_valued s.frame.copy
leg_words ToKept k s = length_valued s.frame.copy
leg_words FromKept k s = s.cells.length k

-- an act's weight
abbrev pub weight : Doing → Act → State → ℕ
weight d (act.Restore r) s = 16 + 12 * cond (lock_holds s r) (region_words d r) 0
weight d (act.Begin t) s = 40 + 12 * begin_words d
weight d (act.Save r) s = 6 + 12 * cond (lock_holds s r) 0 (region_words d r)
weight d (act.Lock r) s = 2
weight d (act.Plain x) s = plain_steps x s.store
weight d (act.Test' c m yes_row n no_row) s = condition_steps c
weight d (act.Value k) s = value_weight (statement_of d k) s.store
weight d (act.Look k) s = 6
weight d (act.Choose' k m issue_row n keep_row) s = choose_weight (site_at d.setting.task.sites k)
weight d (act.Drop k) s = 4
weight d (act.Issue k) s = 12
weight d (act.Seal k) s = seal_weight (site_at d.setting.task.sites k)
weight d (act.Take k) s = 6
weight d (act.Write k) s = 6
weight d (act.Enter k) s = 40
weight d (act.Leave' k m row) s = 24
weight d (act.ByClass' k l single_row m private_row n rest_row) s = 16
weight d (act.Transfer k leg) s = 6 + 2 * leg_words leg k s
weight d (act.KeepWords k) s = 8 + 12 * length_valued s.frame.copy
weight d (act.PutWords k) s = 8 + 12 * s.cells.length k
weight d (act.Commit next) s = 32
