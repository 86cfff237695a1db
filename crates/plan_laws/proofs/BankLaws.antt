-- Under `bank` no plan saves anything; so under either scheme saving stands in its place.
use Rattle.std.proofs.Common.{◌≡◌, ℕ, ◌+◌, Bool, true, ◌&&◌, List, [], ◌∷◌, ◌++◌, map, refl, sym, ap, ◌∙◌}
use Rattle.std.specs.List.{AllByRecursion}
use Rattle.task_ast.specs.declared.core_form.CoreExpr.{CoreExpr}
use Rattle.task_ast.specs.declared.core_form.CoreStmt.{CoreStmt, Row_of-CoreStmt, end_of-CoreStmt, more_of-CoreStmt}
use Rattle.task_ast.specs.declared.core_form.CoreStmt.TheVariants as stmt
use Rattle.task_ast.specs.declared.core_form.CoreExit.{CoreExit, end_of-CoreExit, more_of-CoreExit}
use Rattle.task_ast.specs.declared.core_form.CoreExit.TheVariants as exit
use Rattle.task_ast.specs.declared.core_form.CoreTask.{CoreTask}
use Rattle.task_ast.specs.declared.core_form.Core.{Core}
use Rattle.task_ast.specs.CoreSites.{row_numbers}
use Rattle.task_ast.specs.WellFormed.{IsCoreTask, IsWellFormed}
use Rattle.word_isa.specs.declared.parts.Scheme.{Scheme}
use Rattle.word_isa.specs.declared.parts.Scheme.TheVariants.{Undo, Bank}
use Rattle.run_plan.specs.declared.act.Leg.TheVariants.{Across, ToKept, FromKept}
use Rattle.run_plan.specs.declared.act.Act.{Act}
use Rattle.run_plan.specs.declared.act.Act.TheVariants as act
use Rattle.run_plan.specs.PlanOf.{Around, issue_acts, call_acts, block_end_acts, block_acts, anew_acts, again_acts, unless_plain, statement_acts, row_acts, body_acts, exit_act, around, task_acts, tasks_acts, plan_of}
use Rattle.run_plan.specs.Sound.{in_order, all_in_order, saves_nothing, tasks_save}
use Rattle.plan_laws.proofs.SavingOrder.{ordered, all_ordered_is, order_test, order_choose, order_leave, order_by_class, ordered_joined}
use Rattle.plan_laws.proofs.SavingLaws.{undo_saves}

-- acts that save nothing in front of acts that don't
record Quiet (acts : List Act) : Type 0 where
  go : (rest : List Act) → saves_nothing rest ≡ true → saves_nothing (ordered acts rest) ≡ true

quiet : Quiet []
quiet = record { go = λ rest h. h }

quiet_joined : (xs ys : List Act) → Quiet xs → Quiet ys → Quiet (xs ++ ys)
quiet_joined xs ys one two = record { go = λ rest h. ap saves_nothing (ordered_joined xs ys rest) ∙ one.go (ordered ys rest) (two.go rest h) }

-- an act with lists
quiet_lists : (a bare : Act) (inner acts : List Act) → ((rest : List Act) → in_order a rest ≡ bare ∷ ordered inner rest) → ((behind : List Act) → saves_nothing (bare ∷ behind) ≡ saves_nothing behind) → Quiet inner → Quiet acts → Quiet (a ∷ acts)
quiet_lists a bare inner acts opens skips within more = record {
  go = λ rest h. ap saves_nothing (opens (ordered acts rest)) ∙ skips (ordered inner (ordered acts rest)) ∙ within.go (ordered acts rest) (more.go rest h);
}

-- an act without lists
quiet_act : (a : Act) (acts : List Act) → ((rest : List Act) → in_order a rest ≡ a ∷ rest) → ((behind : List Act) → saves_nothing (a ∷ behind) ≡ saves_nothing behind) → Quiet acts → Quiet (a ∷ acts)
quiet_act a acts alone skips more = quiet_lists a a [] acts alone skips quiet more

quiet_drops : (ks : List ℕ) → Quiet (map act.Drop ks)
quiet_drops [] = quiet
quiet_drops (k ∷ ks) = quiet_act (act.Drop k) (map act.Drop ks) (λ rest. refl) (λ behind. refl) (quiet_drops ks)

quiet_test : (e : CoreExpr) (ys ns : List Act) → Quiet ys → Quiet ns → Quiet (act.Test e ys ns ∷ [])
quiet_test e ys ns one two =
    quiet_lists (act.Test e ys ns) (act.Test e [] []) (ys ++ ns) [] (λ rest. order_test e ys ns rest ∙ ap (λ acts. act.Test e [] [] ∷ acts) (sym (ordered_joined ys ns rest))) (λ behind. refl) (quiet_joined ys ns one two) quiet

quiet_choose : (k : ℕ) (ys ns acts : List Act) → Quiet ys → Quiet ns → Quiet acts → Quiet (act.Choose k ys ns ∷ acts)
quiet_choose k ys ns acts one two more =
    quiet_lists (act.Choose k ys ns) (act.Choose k [] []) (ys ++ ns) acts (λ rest. order_choose k ys ns rest ∙ ap (λ acts. act.Choose k [] [] ∷ acts) (sym (ordered_joined ys ns rest))) (λ behind. refl) (quiet_joined ys ns one two) more

quiet_by_class : (k : ℕ) (xs ys zs : List Act) → Quiet xs → Quiet ys → Quiet zs → Quiet (act.ByClass k xs ys zs ∷ [])
quiet_by_class k xs ys zs one two three =
    quiet_lists (act.ByClass k xs ys zs) (act.ByClass k [] [] []) (xs ++ (ys ++ zs)) []
    (λ rest. order_by_class k xs ys zs rest ∙ ap (λ acts. act.ByClass k [] [] [] ∷ acts) (sym (ordered_joined xs (ys ++ zs) rest ∙ ap (ordered xs) (ordered_joined ys zs rest))))
    (λ behind. refl) (quiet_joined xs (ys ++ zs) one (quiet_joined ys zs two three)) quiet

quiet_one : (a : Act) → ((rest : List Act) → in_order a rest ≡ a ∷ rest) → ((behind : List Act) → saves_nothing (a ∷ behind) ≡ saves_nothing behind) → Quiet (a ∷ [])
quiet_one a alone skips = quiet_act a [] alone skips quiet

quiet_call : (a : Around) (k : ℕ) → Quiet (call_acts a k)
quiet_call a k =
    let end = quiet_act (act.Issue k) (act.Seal k ∷ []) (λ rest. refl) (λ behind. refl) (quiet_one (act.Seal k) (λ rest. refl) (λ behind. refl)) in
    let issue = quiet_act (act.Drop k) (map act.Drop (a.dependents k) ++ act.Issue k ∷ act.Seal k ∷ []) (λ rest. refl) (λ behind. refl) (quiet_joined (map act.Drop (a.dependents k)) (act.Issue k ∷ act.Seal k ∷ []) (quiet_drops (a.dependents k)) end) in
    let choose = quiet_choose k (issue_acts a k) (act.Take k ∷ []) (act.Write k ∷ []) issue (quiet_one (act.Take k) (λ rest. refl) (λ behind. refl)) (quiet_one (act.Write k) (λ rest. refl) (λ behind. refl)) in
    quiet_act (act.Value k) _ (λ rest. refl) (λ behind. refl) (quiet_act (act.Look k) _ (λ rest. refl) (λ behind. refl) choose)

quiet_block : (k : ℕ) (body : List Act) → Quiet body → Quiet (block_acts k body)
quiet_block k body inside =
    let end = quiet_act (act.Drop k) (act.Seal k ∷ []) (λ rest. refl) (λ behind. refl) (quiet_one (act.Seal k) (λ rest. refl) (λ behind. refl)) in
    let leave = quiet_lists (act.Leave k (block_end_acts k)) (act.Leave k []) (block_end_acts k) [] (λ rest. order_leave k (block_end_acts k) rest) (λ behind. refl) end quiet in
    quiet_act (act.Look k) _ (λ rest. refl) (λ behind. refl) (quiet_act (act.Enter k) _ (λ rest. refl) (λ behind. refl) (quiet_joined body (act.Leave k (block_end_acts k) ∷ []) inside leave))

quiet_copy : (k : ℕ) → Quiet (act.Value k ∷ act.Choose k (anew_acts k) (again_acts k) ∷ [])
quiet_copy k =
    let seal = quiet_one (act.Seal k) (λ rest. refl) (λ behind. refl) in
    let across = quiet_one (act.Transfer k Across) (λ rest. refl) (λ behind. refl) in
    let back = quiet_one (act.Transfer k FromKept) (λ rest. refl) (λ behind. refl) in
    let single = quiet_act (act.Transfer k Across) _ (λ rest. refl) (λ behind. refl) (quiet_act (act.KeepWords k) _ (λ rest. refl) (λ behind. refl) seal) in
    let private = quiet_act (act.Transfer k ToKept) _ (λ rest. refl) (λ behind. refl) (quiet_act (act.Seal k) _ (λ rest. refl) (λ behind. refl) back) in
    let anew = quiet_by_class k (act.Transfer k Across ∷ act.KeepWords k ∷ act.Seal k ∷ []) (act.Transfer k ToKept ∷ act.Seal k ∷ act.Transfer k FromKept ∷ []) (act.Transfer k Across ∷ []) single private across in
    let again = quiet_by_class k (act.PutWords k ∷ []) (act.Transfer k FromKept ∷ []) [] (quiet_one (act.PutWords k) (λ rest. refl) (λ behind. refl)) back quiet in
    quiet_act (act.Value k) _ (λ rest. refl) (λ behind. refl) (quiet_choose k (anew_acts k) (again_acts k) [] anew again quiet)

quiet_plain : (s : CoreStmt) → Quiet (act.Plain s ∷ [])
quiet_plain s = quiet_one (act.Plain s) (λ rest. refl) (λ behind. refl)

quiet_or : (ks : List ℕ) (s : CoreStmt) (test : Act) → Quiet (test ∷ []) → Quiet (unless_plain ks s test ∷ [])
quiet_or [] s test more = quiet_plain s
quiet_or (k ∷ ks) s test more = more

module _ (t : CoreTask) where
  mutual
    quiet_stmt : (s : CoreStmt) → Quiet (statement_acts (around Bank t) s)
    quiet_stmt (stmt.Assign x e) = quiet_plain (stmt.Assign x e)
    quiet_stmt (stmt.Point p array i) = quiet_plain (stmt.Point p array i)
    quiet_stmt (stmt.If' e m yes_row n no_row) =
        quiet_or (row_numbers yes_row ++ row_numbers no_row) (stmt.If' e m yes_row n no_row) _ (quiet_test e (row_acts (around Bank t) yes_row) (row_acts (around Bank t) no_row) (quiet_row yes_row) (quiet_row no_row))
    quiet_stmt (stmt.Loop' i turns m row) = quiet_plain (stmt.Loop' i turns m row)
    quiet_stmt (stmt.Io k x p args) = quiet_call (around Bank t) k
    quiet_stmt (stmt.Block' k m row) = quiet_block k (row_acts (around Bank t) row) (quiet_row row)
    quiet_stmt (stmt.Copy k to from n) = quiet_copy k

    quiet_row : {n : _} (row : Row_of-CoreStmt n) → Quiet (row_acts (around Bank t) row)
    quiet_row end_of-CoreStmt = quiet
    quiet_row (more_of-CoreStmt s rest) = quiet_joined (statement_acts (around Bank t) s) (row_acts (around Bank t) rest) (quiet_stmt s) (quiet_row rest)

  quiet_body : (body : List CoreStmt) → Quiet (body_acts (around Bank t) body)
  quiet_body [] = quiet
  quiet_body (s ∷ rest) = quiet_joined (statement_acts (around Bank t) s) (body_acts (around Bank t) rest) (quiet_stmt s) (quiet_body rest)

  quiet_exit : (e : CoreExit) → Quiet (exit_act e ∷ [])
  quiet_exit (exit.Next n) = quiet_one (act.Commit n) (λ rest. refl) (λ behind. refl)
  quiet_exit exit.Stop = quiet_one (act.Commit 0) (λ rest. refl) (λ behind. refl)
  quiet_exit (exit.Choose' e u (more_of-CoreExit x end_of-CoreExit) v (more_of-CoreExit y end_of-CoreExit)) = quiet_test e (exit_act x ∷ []) (exit_act y ∷ []) (quiet_exit x) (quiet_exit y)

  quiet_task : (number : ℕ) → Quiet (task_acts Bank number t)
  quiet_task number =
      quiet_joined (act.Begin number ∷ body_acts (around Bank t) t.body) (exit_act t.exit ∷ []) (quiet_act (act.Begin number) (body_acts (around Bank t) t.body) (λ rest. refl) (λ behind. refl) (quiet_body t.body)) (quiet_exit t.exit)

  bank_saves : (number : ℕ) → saves_nothing (all_in_order (task_acts Bank number t)) ≡ true
  bank_saves number = ap saves_nothing (all_ordered_is (task_acts Bank number t)) ∙ (quiet_task number).go [] refl

both_true : (a b : Bool) → a ≡ true → b ≡ true → (a && b) ≡ true
both_true a b x y = λ i. x i && y i

-- under either scheme
tasks_saved : (c : Core) (scheme : Scheme) (number : ℕ) (ts : List CoreTask) → AllByRecursion (IsCoreTask c) ts → tasks_save scheme ts (tasks_acts scheme number ts) ≡ true
tasks_saved c scheme number [] w = refl
tasks_saved c Undo number (t ∷ ts) w = both_true _ _ (undo_saves c t number w.0) (tasks_saved c Undo (number + 1) ts w.1)
tasks_saved c Bank number (t ∷ ts) w = both_true _ _ (bank_saves t number) (tasks_saved c Bank (number + 1) ts w.1)

pub plan_saves : (c : Core) (scheme : Scheme) → IsWellFormed c → tasks_save scheme c.tasks (plan_of c scheme).tasks ≡ true
plan_saves c scheme w = tasks_saved c scheme 1 c.tasks w.tasks
