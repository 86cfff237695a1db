-- In a plan each act is followed by what must come behind it.
use Rattle.std.specs.Prelude.{⊤}
use Rattle.std.proofs.Common.{◌≡◌, inl, inr, ℕ, zero, suc, ◌+◌, ◌<◌, List, [], ◌∷◌, ◌++◌, length, map, refl, sym, subst, arith}
use Rattle.std.specs.List.{AllByRecursion, range_with_len}
use Rattle.std.proofs.lemmas.List.{append_assoc, append-nil}
use Rattle.task_ast.specs.declared.core_form.CoreStmt.{CoreStmt, Row_of-CoreStmt, end_of-CoreStmt, more_of-CoreStmt}
use Rattle.task_ast.specs.declared.core_form.CoreStmt.TheVariants as stmt
use Rattle.task_ast.specs.declared.core_form.CoreExit.{CoreExit, end_of-CoreExit, more_of-CoreExit}
use Rattle.task_ast.specs.declared.core_form.CoreExit.TheVariants as exit
use Rattle.task_ast.specs.declared.core_form.CoreTask.{CoreTask}
use Rattle.task_ast.specs.declared.core_form.Core.{Core}
use Rattle.task_ast.specs.CoreSites.{site_numbers, row_numbers, all_numbers}
use Rattle.task_ast.specs.WellFormed.{IsCoreTask, IsWellFormed}
use Rattle.word_isa.specs.declared.parts.Scheme.{Scheme}
use Rattle.word_isa.specs.declared.parts.Scheme.TheVariants.{Undo, Bank}
use Rattle.run_plan.specs.declared.act.Leg.TheVariants.{Across, ToKept, FromKept}
use Rattle.run_plan.specs.declared.act.Act.{Act}
use Rattle.run_plan.specs.declared.act.Act.TheVariants as act
use Rattle.run_plan.specs.PlanOf.{Around, save_acts, issue_acts, call_acts, block_end_acts, anew_acts, again_acts, unless_plain, statement_acts, row_acts, body_acts, exit_act, around, task_acts, tasks_acts, most_regions, restore_acts, plan_of}
use Rattle.run_plan.specs.Order.{IsNoSeal, NoSealBehind, IsFollowed, IsOrdered, AllOrdered, Nothing, IsInOrder}
use Rattle.run_plan.specs.ActRows.{test_no_seal, choose_no_seal, leave_no_seal, by_class_no_seal, test_ordered, choose_ordered, leave_ordered, by_class_ordered}
use Rattle.plan_laws.proofs.Lists.{all_joined}

told : {P Q : Type 0} → P ≡ Q → Q → P
told same q = subst (λ (T : Type 0). T) (sym same) q

-- ---- sites that differ

-- a site isn't among these
abbrev IsOther : (site : ℕ) → List ℕ → Type 0
IsOther k ks = AllByRecursion (λ j. j ≡ k → ⊥) ks

abbrev AllDiffer : List ℕ → Type 0
AllDiffer [] = ⊤
AllDiffer (k ∷ ks) = IsOther k ks × AllDiffer ks

-- none of the first is among the second
abbrev AreOthers : List ℕ → List ℕ → Type 0
AreOthers ks js = AllByRecursion (λ k. IsOther k js) ks

other_parts : (k : ℕ) (xs ys : List ℕ) → IsOther k (xs ++ ys) → IsOther k xs × IsOther k ys
other_parts k [] ys other = (tt, other)
other_parts k (x ∷ xs) ys other =
    let parts = other_parts k xs ys other.1 in
    ((other.0, parts.0), parts.1)

differ_parts : (xs ys : List ℕ) → AllDiffer (xs ++ ys) → AllDiffer xs × AllDiffer ys × AreOthers xs ys
differ_parts [] ys differ = (tt, differ, tt)
differ_parts (x ∷ xs) ys differ =
    let parts = differ_parts xs ys differ.1 in
    let other = other_parts x xs ys differ.0 in
    ((other.0, parts.0), parts.1, (other.1, parts.2))

above_differ : (k m n : ℕ) → k < m → IsOther k (range_with_len m n)
above_differ k m zero above = tt
above_differ k m (suc n) above = ((λ (same : m ≡ k). omega (arith, above, same)), above_differ k (m + 1) n (omega (arith, above)))

range_differs : (m n : ℕ) → AllDiffer (range_with_len m n)
range_differs m zero = tt
range_differs m (suc n) = (above_differ m (m + 1) n (omega arith), range_differs (m + 1) n)

-- ---- acts without a seal of a site

no_drop_seals : (k : ℕ) (ks : List ℕ) → AllByRecursion (IsNoSeal k) (map act.Drop ks)
no_drop_seals k [] = tt
no_drop_seals k (j ∷ ks) = (tt, no_drop_seals k ks)

no_save_seals : (k : ℕ) (s : Scheme) (r : ℕ) → AllByRecursion (IsNoSeal k) (save_acts s r)
no_save_seals k Undo r = (tt, (tt, tt))
no_save_seals k Bank r = tt

no_call_seals : (a : Around) (k j : ℕ) → (j ≡ k → ⊥) → AllByRecursion (IsNoSeal k) (call_acts a j)
no_call_seals a k j other =
    let issue = all_joined (IsNoSeal k) (act.Drop j ∷ map act.Drop (a.dependents j)) (act.Issue j ∷ act.Seal j ∷ []) (tt, no_drop_seals k (a.dependents j)) (tt, (other, tt)) in
    (tt, (tt, (told (choose_no_seal k j (issue_acts a j) (act.Take j ∷ [])) (issue, (tt, tt)), (tt, tt))))

no_end_seals : (k j : ℕ) → (j ≡ k → ⊥) → IsNoSeal k (act.Leave j (block_end_acts j))
no_end_seals k j other = told (leave_no_seal k j (block_end_acts j)) (tt, (other, tt))

no_copy_seals : (s : Scheme) (r k j : ℕ) → (j ≡ k → ⊥) → AllByRecursion (IsNoSeal k) (act.Value j ∷ save_acts s r ++ act.Choose j (anew_acts j) (again_acts j) ∷ [])
no_copy_seals s r k j other =
    let anew = told (by_class_no_seal k j (act.Transfer j Across ∷ act.KeepWords j ∷ act.Seal j ∷ []) (act.Transfer j ToKept ∷ act.Seal j ∷ act.Transfer j FromKept ∷ []) (act.Transfer j Across ∷ []))
    ((tt, (tt, (other, tt))), (tt, (other, (tt, tt))), (tt, tt)) in
    let again = told (by_class_no_seal k j (act.PutWords j ∷ []) (act.Transfer j FromKept ∷ []) []) ((tt, tt), (tt, tt), tt) in
    all_joined (IsNoSeal k) (act.Value j ∷ save_acts s r) (act.Choose j (anew_acts j) (again_acts j) ∷ []) (tt, no_save_seals k s r)
    (told (choose_no_seal k j (anew_acts j) (again_acts j)) ((anew, tt), (again, tt)), tt)

no_seal_by_sites : (k : ℕ) (ks : List ℕ) (s : CoreStmt) (test : Act) → IsNoSeal k test → IsNoSeal k (unless_plain ks s test)
no_seal_by_sites k [] s test none = tt
no_seal_by_sites k (j ∷ ks) s test none = none

module _ (a : Around) (k : ℕ) where
  mutual
    -- a statement seals its own sites alone
    stmt_seals : (s : CoreStmt) → IsOther k (site_numbers s) → AllByRecursion (IsNoSeal k) (statement_acts a s)
    stmt_seals (stmt.Assign x e) other = (tt, tt)
    stmt_seals (stmt.Point p array i) other = (tt, tt)
    stmt_seals (stmt.If' e m yes_row n no_row) other =
        let parts = other_parts k (row_numbers yes_row) (row_numbers no_row) other in (
          no_seal_by_sites k (row_numbers yes_row ++ row_numbers no_row) (stmt.If' e m yes_row n no_row) _
              (told (test_no_seal k e (row_acts a yes_row) (row_acts a no_row)) (row_seals yes_row parts.0, row_seals no_row parts.1)),
          tt,
        )
    stmt_seals (stmt.Loop' i turns m row) other = (tt, tt)
    stmt_seals (stmt.Io j x p args) other = no_call_seals a k j other.0
    stmt_seals (stmt.Block' j m row) other =
        all_joined (IsNoSeal k) (act.Look j ∷ act.Enter j ∷ row_acts a row) (act.Leave j (block_end_acts j) ∷ []) (tt, (tt, row_seals row other.1)) (no_end_seals k j other.0, tt)
    stmt_seals (stmt.Copy j to from n) other = no_copy_seals a.scheme (a.region j) k j other.0

    row_seals : {n : _} (row : Row_of-CoreStmt n) → IsOther k (row_numbers row) → AllByRecursion (IsNoSeal k) (row_acts a row)
    row_seals end_of-CoreStmt other = tt
    row_seals (more_of-CoreStmt s rest) other =
        let parts = other_parts k (site_numbers s) (row_numbers rest) other in
        all_joined (IsNoSeal k) (statement_acts a s) (row_acts a rest) (stmt_seals s parts.0) (row_seals rest parts.1)

  body_seals : (body : List CoreStmt) → IsOther k (all_numbers body) → AllByRecursion (IsNoSeal k) (body_acts a body)
  body_seals [] other = tt
  body_seals (s ∷ rest) other =
      let parts = other_parts k (site_numbers s) (all_numbers rest) other in
      all_joined (IsNoSeal k) (statement_acts a s) (body_acts a rest) (stmt_seals s parts.0) (body_seals rest parts.1)

-- ---- acts in order, with more behind them

-- none of these sites is sealed behind
abbrev AreDone : List ℕ → List Act → (ℕ → Type 0) → Type 0
AreDone ks more behind = AllByRecursion (NoSealBehind more behind) ks

done_parts : (P : ℕ → Type 0) (xs ys : List ℕ) → AllByRecursion P (xs ++ ys) → AllByRecursion P xs × AllByRecursion P ys
done_parts P [] ys all = (tt, all)
done_parts P (x ∷ xs) ys all =
    let parts = done_parts P xs ys all.1 in
    ((all.0, parts.0), parts.1)

-- what isn't sealed by acts nor behind them
done_before : (behind : ℕ → Type 0) (ks js : List ℕ) (acts more : List Act) → ((k : ℕ) → IsOther k js → AllByRecursion (IsNoSeal k) acts) → AreOthers ks js → AreDone ks more behind → AreDone ks (acts ++ more) behind
done_before behind [] js acts more seals others done = tt
done_before behind (k ∷ ks) js acts more seals others done =
    ((all_joined (IsNoSeal k) acts more (seals k others.0) done.0.0, done.0.1), done_before behind ks js acts more seals others.1 done.1)

drops_ordered : (behind : ℕ → Type 0) (ks : List ℕ) (more : List Act) → AllOrdered behind more → AllOrdered behind (map act.Drop ks ++ more)
drops_ordered behind [] more ordered = ordered
drops_ordered behind (k ∷ ks) more ordered = (tt, tt, drops_ordered behind ks more ordered)

call_ordered : (behind : ℕ → Type 0) (a : Around) (k : ℕ) (more : List Act) → AllOrdered behind more → AllOrdered behind (call_acts a k ++ more)
call_ordered behind a k more ordered =
    let within = NoSealBehind (act.Write k ∷ more) behind in
    let issue : AllOrdered within (issue_acts a k) = (tt, tt, drops_ordered within (a.dependents k) (act.Issue k ∷ act.Seal k ∷ []) (tt, refl, (tt, tt, tt))) in
    (tt, tt, (tt, tt, (told (choose_ordered within k (issue_acts a k) (act.Take k ∷ [])) (issue, (tt, tt, tt)), tt, (tt, tt, ordered))))

choice_ordered : (behind : ℕ → Type 0) (k : ℕ) → behind k → IsOrdered behind (act.Choose k (anew_acts k) (again_acts k))
choice_ordered behind k done =
    let within = NoSealBehind [] behind in
    let anew = told (by_class_ordered within k (act.Transfer k Across ∷ act.KeepWords k ∷ act.Seal k ∷ []) (act.Transfer k ToKept ∷ act.Seal k ∷ act.Transfer k FromKept ∷ []) (act.Transfer k Across ∷ []))
    ((tt, inl (refl, refl), (tt, tt, (tt, tt, tt))), (tt, inl refl, (tt, tt, (tt, inr (tt, (tt, done)), tt))), (tt, inr (tt, (tt, done)), tt)) in
    let again = told (by_class_ordered within k (act.PutWords k ∷ []) (act.Transfer k FromKept ∷ []) []) ((tt, tt, tt), (tt, inr (tt, (tt, done)), tt), tt) in
    told (choose_ordered behind k (anew_acts k) (again_acts k)) ((anew, tt, tt), (again, tt, tt))

copy_ordered : (behind : ℕ → Type 0) (s : Scheme) (r k : ℕ) (more : List Act) → NoSealBehind more behind k → AllOrdered behind more
    → AllOrdered behind ((act.Value k ∷ save_acts s r ++ act.Choose k (anew_acts k) (again_acts k) ∷ []) ++ more)
copy_ordered behind Undo r k more done ordered = (tt, tt, (tt, tt, (tt, tt, (choice_ordered (NoSealBehind more behind) k done, tt, ordered))))
copy_ordered behind Bank r k more done ordered = (tt, tt, (choice_ordered (NoSealBehind more behind) k done, tt, ordered))

by_sites_ordered : (behind : ℕ → Type 0) (ks : List ℕ) (s : CoreStmt) (test : Act) → IsOrdered behind test → IsOrdered behind (unless_plain ks s test)
by_sites_ordered behind [] s test ordered = tt
by_sites_ordered behind (k ∷ ks) s test ordered = ordered

by_sites_followed : (behind : ℕ → Type 0) (ks : List ℕ) (s : CoreStmt) (e : _) (ys ns more : List Act) → IsFollowed behind (unless_plain ks s (act.Test e ys ns)) more
by_sites_followed behind [] s e ys ns more = tt
by_sites_followed behind (k ∷ ks) s e ys ns more = tt

-- with nothing behind them in their list
alone : (behind : ℕ → Type 0) (acts : List Act) → AllOrdered behind (acts ++ []) → AllOrdered behind acts
alone behind acts ordered = subst (AllOrdered behind) (append-nil acts) ordered

unsealed : (behind : ℕ → Type 0) (ks : List ℕ) → AllByRecursion behind ks → AreDone ks [] behind
unsealed behind [] all = tt
unsealed behind (k ∷ ks) all = ((tt, all.0), unsealed behind ks all.1)

-- behind a block's body comes its end, which seals the block
end_behind : (k : ℕ) (ks : List ℕ) (more : List Act) (behind : ℕ → Type 0) → IsOther k ks → AreDone ks more behind → AreDone ks (act.Leave k (block_end_acts k) ∷ more) behind
end_behind k [] more behind other done = tt
end_behind k (j ∷ ks) more behind other done =
    (((no_end_seals j k (λ (same : k ≡ j). other.0 (sym same)), done.0.0), done.0.1), end_behind k ks more behind other.1 done.1)

module _ (a : Around) where
  mutual
    stmt_ordered : (behind : ℕ → Type 0) (s : CoreStmt) (more : List Act) → AllDiffer (site_numbers s) → AreDone (site_numbers s) more behind → AllOrdered behind more → AllOrdered behind (statement_acts a s ++ more)
    stmt_ordered behind (stmt.Assign x e) more differ done ordered = (tt, tt, ordered)
    stmt_ordered behind (stmt.Point p array i) more differ done ordered = (tt, tt, ordered)
    stmt_ordered behind (stmt.If' e m yes_row n no_row) more differ done ordered =
        let parts = differ_parts (row_numbers yes_row) (row_numbers no_row) differ in
        let both = done_parts (NoSealBehind more behind) (row_numbers yes_row) (row_numbers no_row) done in
        let within = NoSealBehind more behind in
        let first = alone within (row_acts a yes_row) (row_ordered within yes_row [] parts.0 (unsealed within (row_numbers yes_row) both.0) tt) in
        let second = alone within (row_acts a no_row) (row_ordered within no_row [] parts.1 (unsealed within (row_numbers no_row) both.1) tt) in (
          by_sites_ordered within (row_numbers yes_row ++ row_numbers no_row) (stmt.If' e m yes_row n no_row) _ (told (test_ordered within e (row_acts a yes_row) (row_acts a no_row)) (first, second)),
          by_sites_followed behind (row_numbers yes_row ++ row_numbers no_row) (stmt.If' e m yes_row n no_row) e (row_acts a yes_row) (row_acts a no_row) more,
          ordered,
        )
    stmt_ordered behind (stmt.Loop' i turns m row) more differ done ordered = (tt, tt, ordered)
    stmt_ordered behind (stmt.Io k x p args) more differ done ordered = call_ordered behind a k more ordered
    stmt_ordered behind (stmt.Block' k m row) more differ done ordered =
        let end = act.Leave k (block_end_acts k) in
        let left : AllOrdered behind (end ∷ more) = (told (leave_ordered (NoSealBehind more behind) k (block_end_acts k)) (tt, tt, (tt, tt, tt)), tt, ordered) in
        let body = row_ordered behind row (end ∷ more) differ.1 (end_behind k (row_numbers row) more behind differ.0 done.1) left in
        (tt, tt, (tt, tt, subst (AllOrdered behind) (sym (append_assoc (row_acts a row) (end ∷ []) more)) body))
    stmt_ordered behind (stmt.Copy k to from n) more differ done ordered = copy_ordered behind a.scheme (a.region k) k more done.0 ordered

    row_ordered : (behind : ℕ → Type 0) {n : _} (row : Row_of-CoreStmt n) (more : List Act) → AllDiffer (row_numbers row) → AreDone (row_numbers row) more behind → AllOrdered behind more → AllOrdered behind (row_acts a row ++ more)
    row_ordered behind end_of-CoreStmt more differ done ordered = ordered
    row_ordered behind (more_of-CoreStmt s rest) more differ done ordered =
        let parts = differ_parts (site_numbers s) (row_numbers rest) differ in
        let both = done_parts (NoSealBehind more behind) (site_numbers s) (row_numbers rest) done in
        let last = row_ordered behind rest more parts.1 both.1 ordered in
        let first = stmt_ordered behind s (row_acts a rest ++ more) parts.0 (done_before behind (site_numbers s) (row_numbers rest) (row_acts a rest) more (λ k other. row_seals a k rest other) parts.2 both.0) last in
        subst (AllOrdered behind) (sym (append_assoc (statement_acts a s) (row_acts a rest) more)) first

  body_ordered : (behind : ℕ → Type 0) (body : List CoreStmt) (more : List Act) → AllDiffer (all_numbers body) → AreDone (all_numbers body) more behind → AllOrdered behind more → AllOrdered behind (body_acts a body ++ more)
  body_ordered behind [] more differ done ordered = ordered
  body_ordered behind (s ∷ rest) more differ done ordered =
      let parts = differ_parts (site_numbers s) (all_numbers rest) differ in
      let both = done_parts (NoSealBehind more behind) (site_numbers s) (all_numbers rest) done in
      let last = body_ordered behind rest more parts.1 both.1 ordered in
      let first = stmt_ordered behind s (body_acts a rest ++ more) parts.0 (done_before behind (site_numbers s) (all_numbers rest) (body_acts a rest) more (λ k other. body_seals a k rest other) parts.2 both.0) last in
      subst (AllOrdered behind) (sym (append_assoc (statement_acts a s) (body_acts a rest) more)) first

-- ---- a task

no_exit_seals : (k : ℕ) (e : CoreExit) → IsNoSeal k (exit_act e)
no_exit_seals k (exit.Next n) = tt
no_exit_seals k exit.Stop = tt
no_exit_seals k (exit.Choose' e u (more_of-CoreExit a end_of-CoreExit) v (more_of-CoreExit b end_of-CoreExit)) =
    told (test_no_seal k e (exit_act a ∷ []) (exit_act b ∷ [])) ((no_exit_seals k a, tt), (no_exit_seals k b, tt))

exit_ordered : (behind : ℕ → Type 0) (e : CoreExit) → AllOrdered behind (exit_act e ∷ [])
exit_ordered behind (exit.Next n) = (tt, tt, tt)
exit_ordered behind exit.Stop = (tt, tt, tt)
exit_ordered behind (exit.Choose' e u (more_of-CoreExit a end_of-CoreExit) v (more_of-CoreExit b end_of-CoreExit)) =
    let within = NoSealBehind [] behind in
    (told (test_ordered within e (exit_act a ∷ []) (exit_act b ∷ [])) (exit_ordered within a, exit_ordered within b), tt, tt)

-- behind a task's statements comes its exit, which seals nothing
exit_behind : (ks : List ℕ) (e : CoreExit) → AreDone ks (exit_act e ∷ []) Nothing
exit_behind [] e = tt
exit_behind (k ∷ ks) e = (((no_exit_seals k e, tt), tt), exit_behind ks e)

saved_ordered : (scheme : Scheme) (number : ℕ) (acts : List Act) → AllOrdered Nothing acts → AllOrdered Nothing (act.Begin number ∷ (save_acts scheme 0 ++ acts))
saved_ordered Undo number acts ordered = (tt, tt, (tt, tt, (tt, tt, ordered)))
saved_ordered Bank number acts ordered = (tt, tt, ordered)

task_ordered : (scheme : Scheme) (number : ℕ) (c : Core) (t : CoreTask) → IsCoreTask c t → AllOrdered Nothing (task_acts scheme number t)
task_ordered scheme number c t w =
    let differ : AllDiffer (all_numbers t.body) = subst AllDiffer (sym w.sites.numbers) (range_differs 1 (length t.sites)) in
    let acts = body_acts (around scheme t) t.body in
    let body = body_ordered (around scheme t) Nothing t.body (exit_act t.exit ∷ []) differ (exit_behind (all_numbers t.body) t.exit) (exit_ordered Nothing t.exit) in
    subst (λ (rest : List Act). AllOrdered Nothing (act.Begin number ∷ rest)) (sym (append_assoc (save_acts scheme 0) acts (exit_act t.exit ∷ [])))
    (saved_ordered scheme number (acts ++ exit_act t.exit ∷ []) body)

tasks_ordered : (scheme : Scheme) (number : ℕ) (c : Core) (ts : List CoreTask) → AllByRecursion (IsCoreTask c) ts → AllByRecursion (AllOrdered Nothing) (tasks_acts scheme number ts)
tasks_ordered scheme number c [] w = tt
tasks_ordered scheme number c (t ∷ ts) w = (task_ordered scheme number c t w.0, tasks_ordered scheme (number + 1) c ts w.1)

restores_ordered : (rs : List ℕ) → AllOrdered Nothing (map act.Restore rs)
restores_ordered [] = tt
restores_ordered (r ∷ rs) = (tt, tt, restores_ordered rs)

boot_ordered : (scheme : Scheme) (count : ℕ) → AllOrdered Nothing (restore_acts scheme count)
boot_ordered Undo count = restores_ordered (range_with_len 0 count)
boot_ordered Bank count = tt

-- the whole plan
pub plan_ordered : (c : Core) (scheme : Scheme) → IsWellFormed c → IsInOrder (plan_of c scheme)
plan_ordered c scheme w = record { boot = boot_ordered scheme (most_regions c.tasks); tasks = tasks_ordered scheme 1 c c.tasks w.tasks }

-- ---- what isn't in order

pub late_seal : AllOrdered Nothing (act.Transfer 1 Across ∷ act.Drop 2 ∷ act.Seal 1 ∷ []) → ⊥
late_seal h = elim h.1 [ inl soon ↦ soon | inr never ↦ never.0.1.0 refl ]

pub seal_outside : AllOrdered Nothing (act.Choose 1 (act.Transfer 1 Across ∷ []) [] ∷ act.Seal 1 ∷ []) → ⊥
seal_outside h =
    let within = NoSealBehind (act.Seal 1 ∷ []) Nothing in
    let inside = subst (λ (T : Type 0). T) (choose_ordered within 1 (act.Transfer 1 Across ∷ []) []) h.0 in
    elim inside.0.1 [ inl soon ↦ soon | inr never ↦ never.1.0.0 refl ]
