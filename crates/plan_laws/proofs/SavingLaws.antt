-- In every plan saving stands in its place.
use Rattle.std.proofs.Common.{◌≡◌, ℕ, zero, suc, ◌+◌, ◌-◌, ◌≤◌, nat_le, Bool, true, false, ◌==◌, List, [], ◌∷◌, ◌++◌, length, take, filter, cond, map, Some, refl, sym, ap, subst, ◌∙◌, arith}
use Rattle.std.specs.List.{AllByRecursion, range_with_len}
use Rattle.std.proofs.lemmas.Bool.{eq-eqb, le-leb}
use Rattle.std.proofs.lemmas.List.{length-append}
use Rattle.std.proofs.lemmas.List.FromFn.{length-range_with_len}
use Rattle.task_ast.specs.declared.core_form.CoreExpr.{CoreExpr}
use Rattle.task_ast.specs.declared.core_form.CoreStmt.{CoreStmt, Row_of-CoreStmt, end_of-CoreStmt, more_of-CoreStmt}
use Rattle.task_ast.specs.declared.core_form.CoreStmt.TheVariants as stmt
use Rattle.task_ast.specs.declared.core_form.CoreExit.{CoreExit, end_of-CoreExit, more_of-CoreExit}
use Rattle.task_ast.specs.declared.core_form.CoreExit.TheVariants as exit
use Rattle.task_ast.specs.declared.core_form.CoreTask.{CoreTask}
use Rattle.task_ast.specs.declared.core_form.Core.{Core}
use Rattle.task_ast.specs.declared.core_form.Site.{Site}
use Rattle.task_ast.specs.CoreSites.{Standing, a_call, a_block, a_copy, site_numbers, row_numbers, all_numbers, standings, row_standings, all_standings}
use Rattle.task_ast.specs.Pointing.{pointing}
use Rattle.task_ast.specs.WellFormed.{IsCoreStmt, AreCoreStmts, IsCoreTask, scope_of}
use Rattle.region_split.specs.Regions.{is_copy, copies, region_of, regions}
use Rattle.word_isa.specs.declared.parts.Scheme.TheVariants.{Undo}
use Rattle.run_plan.specs.declared.act.Leg.TheVariants.{Across, ToKept, FromKept}
use Rattle.run_plan.specs.declared.act.Act.{Act}
use Rattle.run_plan.specs.declared.act.Act.TheVariants as act
use Rattle.run_plan.specs.PlanOf.{Around, issue_acts, call_acts, block_end_acts, block_acts, anew_acts, again_acts, copy_acts, unless_plain, statement_acts, row_acts, body_acts, exit_act, around, task_acts}
use Rattle.run_plan.specs.Kinds.{stands_at}
use Rattle.run_plan.specs.Sound.{in_order, all_in_order, stands, more_saved, saved_in_place}
use Rattle.plan_laws.specs.PlacedSites.{Placed, placed_parts, same_long, row_long, task_placed, one_if_copy, copies_at, Next, front_next, back_next, first_next}
use Rattle.plan_laws.proofs.SavingOrder.{ordered, all_ordered_is, order_test, order_choose, order_leave, order_by_class, ordered_joined, Steps, no_step, steps_joined, one_step, with_lists, save_step}

-- more sites have no fewer copies
one_more : (b : Bool) (x : Site) (xs ys : List Site) → length xs ≤ length ys → length (cond b (x ∷ xs) xs) ≤ length (cond b (x ∷ ys) ys)
one_more true x xs ys few = omega (arith, few)
one_more false x xs ys few = few

copies_rise : (k n : ℕ) (sites : List Site) → copies (take k sites) ≤ copies (take (k + n) sites)
copies_rise zero n sites = omega arith
copies_rise (suc k) n [] = omega arith
copies_rise (suc k) n (s ∷ sites) =
    let e : suc k + n ≡ suc (k + n) = omega arith in
    subst (λ m. copies (take (suc k) (s ∷ sites)) ≤ copies (take m (s ∷ sites))) (sym e) (one_more (is_copy s) s (filter is_copy (take k sites)) (filter is_copy (take (k + n) sites)) (copies_rise k n sites))

take_all : {X : Type 0} (xs : List X) → take (length xs) xs ≡ xs
take_all [] = refl
take_all (x ∷ xs) = ap (λ ys. x ∷ ys) (take_all xs)

module _ (c : Core) (t : CoreTask) where
  abbrev a : Around
  a = around Undo t

  -- the regions saved before the site behind so many
  abbrev saved : ℕ → ℕ
  saved p = copies (take p t.sites) + 1

  low : (m : ℕ) → 1 ≤ m → nat_le 1 m ≡ true
  low m l = le-leb 1 m l

  -- an act of a call or a block at site p + 1, where no more is saved behind it than before
  at_site : (p : ℕ) (x : Standing) → stands_at t (p + 1) ≡ Some x → one_if_copy x ≡ 0 → nat_le (region_of t (p + 1) + 1) (saved p) ≡ true
  at_site p x is none = le-leb (region_of t (p + 1) + 1) (saved p) (omega (arith, copies_at t p x is, none))

  -- and behind more sites
  later : (p n : ℕ) → stands_at t (p + 1) ≡ Some a_block → nat_le (region_of t (p + 1) + 1) (saved (p + 1 + n)) ≡ true
  later p n is = le-leb (region_of t (p + 1) + 1) (saved (p + 1 + n)) (omega (arith, copies_rise (p + 1) n t.sites))

  valued : (p : ℕ) → (saved p == region_of t (p + 1 - 1) + 1) ≡ true
  valued p = let e : p ≡ p + 1 - 1 = omega arith in eq-eqb (saved p) (region_of t (p + 1 - 1) + 1) (ap (λ k. copies (take k t.sites) + 1) e)

  drops : (ks : List ℕ) (acts : List Act) (p n : ℕ) → Steps t acts (saved p) n → Steps t (map act.Drop ks ++ acts) (saved p) n
  drops [] acts p n more = more
  drops (k ∷ ks) acts p n more = one_step t (act.Drop k) (map act.Drop ks ++ acts) (saved p) n (λ rest. refl) (λ behind. low (saved p) (omega arith)) refl (drops ks acts p n more)

  to_next : (p : ℕ) (x : Standing) → stands_at t (p + 1) ≡ Some x → one_if_copy x ≡ 0 → (acts : List Act) → Steps t acts (saved p) (saved p) → Steps t acts (saved p) (saved (p + 1))
  to_next p x is none acts steps = subst (Steps t acts (saved p)) (let same : saved p ≡ saved (p + 1) = omega (arith, copies_at t p x is, none) in same) steps

  call_steps : (p : ℕ) → stands_at t (p + 1) ≡ Some a_call → Steps t (call_acts a (p + 1)) (saved p) (saved (p + 1))
  call_steps p is =
      let k = p + 1 in
      let m = saved p in
      let here = at_site p a_call is refl in
      let end = one_step t (act.Issue k) (act.Seal k ∷ []) m m (λ rest. refl) (λ behind. here) refl (one_step t (act.Seal k) [] m m (λ rest. refl) (λ behind. here) refl (no_step t m)) in
      let issue = one_step t (act.Drop k) (map act.Drop (a.dependents k) ++ act.Issue k ∷ act.Seal k ∷ []) m m (λ rest. refl) (λ behind. low m (omega arith)) refl (drops (a.dependents k) (act.Issue k ∷ act.Seal k ∷ []) p m end) in
      let keep = one_step t (act.Take k) [] m m (λ rest. refl) (λ behind. here) refl (no_step t m) in
      let write = one_step t (act.Write k) [] m m (λ rest. refl) (λ behind. here) refl (no_step t m) in
      let choose = with_lists t (act.Choose k (issue_acts a k) (act.Take k ∷ [])) (act.Choose k [] []) (issue_acts a k ++ act.Take k ∷ []) (act.Write k ∷ []) m m m
      (λ rest. order_choose k (issue_acts a k) (act.Take k ∷ []) rest ∙ ap (λ acts. act.Choose k [] [] ∷ acts) (sym (ordered_joined (issue_acts a k) (act.Take k ∷ []) rest)))
      (λ behind. here) refl (steps_joined t (issue_acts a k) (act.Take k ∷ []) m m m issue keep) write in
      let look = one_step t (act.Look k) _ m m (λ rest. refl) (λ behind. here) refl choose in
      to_next p a_call is refl (call_acts a k) (one_step t (act.Value k) _ m m (λ rest. refl) (λ behind. valued p) refl look)

  copy_steps : (p n : ℕ) → stands_at t (p + 1) ≡ Some (a_copy n) → Steps t (copy_acts a (p + 1)) (saved p) (saved (p + 1))
  copy_steps p n is =
      let k = p + 1 in
      let m = saved p in
      let more = copies_at t p (a_copy n) is in
      let region : region_of t k ≡ m = more in
      let o : ℕ = m + 1 in
      let here = le-leb (region_of t k + 1) o (omega (arith, region)) in
      let alone : (x : Act) → ((rest : List Act) → in_order x rest ≡ x ∷ rest) → ((behind : List Act) → stands t x behind o ≡ true) → more_saved x o ≡ o → (acts : List Act) → Steps t acts o o → Steps t (x ∷ acts) o o
      = λ x opens there same acts steps. one_step t x acts o o opens there same steps in
      let none = no_step t o in
      let seal = alone (act.Seal k) (λ rest. refl) (λ behind. here) refl [] none in
      let across = alone (act.Transfer k Across) (λ rest. refl) (λ behind. here) refl [] none in
      let back = alone (act.Transfer k FromKept) (λ rest. refl) (λ behind. here) refl [] none in
      let single = alone (act.Transfer k Across) (λ rest. refl) (λ behind. here) refl _ (alone (act.KeepWords k) (λ rest. refl) (λ behind. here) refl _ seal) in
      let private = alone (act.Transfer k ToKept) (λ rest. refl) (λ behind. here) refl _ (alone (act.Seal k) (λ rest. refl) (λ behind. here) refl _ back) in
      let put = alone (act.PutWords k) (λ rest. refl) (λ behind. here) refl [] none in
      let by_class : (xs ys zs : List Act) → Steps t xs o o → Steps t ys o o → Steps t zs o o → Steps t (act.ByClass k xs ys zs ∷ []) o o
      = λ xs ys zs one two three. with_lists t (act.ByClass k xs ys zs) (act.ByClass k [] [] []) (xs ++ (ys ++ zs)) [] o o o
      (λ rest. order_by_class k xs ys zs rest ∙ ap (λ acts. act.ByClass k [] [] [] ∷ acts) (sym (ordered_joined xs (ys ++ zs) rest ∙ ap (ordered xs) (ordered_joined ys zs rest))))
      (λ behind. here) refl (steps_joined t xs (ys ++ zs) o o o one (steps_joined t ys zs o o o two three)) none in
      let anew = by_class (act.Transfer k Across ∷ act.KeepWords k ∷ act.Seal k ∷ []) (act.Transfer k ToKept ∷ act.Seal k ∷ act.Transfer k FromKept ∷ []) (act.Transfer k Across ∷ []) single private across in
      let again = by_class (act.PutWords k ∷ []) (act.Transfer k FromKept ∷ []) [] put back none in
      let choose = with_lists t (act.Choose k (anew_acts k) (again_acts k)) (act.Choose k [] []) (anew_acts k ++ again_acts k) [] o o o
      (λ rest. order_choose k (anew_acts k) (again_acts k) rest ∙ ap (λ acts. act.Choose k [] [] ∷ acts) (sym (ordered_joined (anew_acts k) (again_acts k) rest)))
      (λ behind. here) refl (steps_joined t (anew_acts k) (again_acts k) o o o anew again) none in
      let saving = save_step t (act.Choose k (anew_acts k) (again_acts k) ∷ []) m o choose in
      let region_saving = subst (λ r. Steps t (act.Save r ∷ act.Lock r ∷ act.Choose k (anew_acts k) (again_acts k) ∷ []) m o) (sym region) saving in
      subst (Steps t (copy_acts a k) m) (let same : o ≡ saved (p + 1) = omega (arith, more) in same)
      (one_step t (act.Value k) _ m o (λ rest. refl) (λ behind. valued p) refl region_saving)

  -- a place behind so many more sites
  behind_two : (ks ls : List ℕ) (p : ℕ) (acts : List Act) (m : ℕ) → Steps t acts m (saved (p + length ks + length ls)) → Steps t acts m (saved (p + length (ks ++ ls)))
  behind_two ks ls p acts m steps = subst (λ q. Steps t acts m (saved q)) (let same : p + length ks + length ls ≡ p + length (ks ++ ls) = omega (arith, length-append ks ls) in same) steps

  plain_step : (s : CoreStmt) (p : ℕ) → Steps t (act.Plain s ∷ []) (saved p) (saved p)
  plain_step s p = one_step t (act.Plain s) [] (saved p) (saved p) (λ rest. refl) (λ behind. low (saved p) (omega arith)) refl (no_step t (saved p))

  -- where there are no sites the place stays
  stays : (ks : List ℕ) (p : ℕ) (acts : List Act) → ks ≡ [] → Steps t acts (saved p) (saved p) → Steps t acts (saved p) (saved (p + length ks))
  stays ks p acts none steps = subst (λ q. Steps t acts (saved p) (saved q)) (let same : p ≡ p + length ks = omega (arith, ap length none) in same) steps

  test_steps : (s : CoreStmt) (e : CoreExpr) (ys ns : List Act) (p q r : ℕ) (ks : List ℕ) → r ≡ p + length ks → Steps t ys (saved p) (saved q) → Steps t ns (saved q) (saved r) → Steps t (unless_plain ks s (act.Test e ys ns) ∷ []) (saved p) (saved (p + length ks))
  test_steps s e ys ns p q r [] is one two = stays [] p (act.Plain s ∷ []) refl (plain_step s p)
  test_steps s e ys ns p q r (k ∷ ks) is one two =
      with_lists t (act.Test e ys ns) (act.Test e [] []) (ys ++ ns) [] (saved p) (saved (p + length (k ∷ ks))) (saved (p + length (k ∷ ks)))
      (λ rest. order_test e ys ns rest ∙ ap (λ acts. act.Test e [] [] ∷ acts) (sym (ordered_joined ys ns rest))) (λ behind. low (saved p) (omega arith)) refl
      (steps_joined t ys ns (saved p) (saved q) (saved (p + length (k ∷ ks))) one (subst (λ q'. Steps t ns (saved q) (saved q')) is two)) (no_step t (saved (p + length (k ∷ ks))))

  -- a block around acts that save so much
  block_steps : (k p : ℕ) (body : List Act) (n : ℕ) → k ≡ p + 1 → stands_at t (p + 1) ≡ Some a_block → Steps t body (saved (p + 1)) (saved (p + 1 + n)) → Steps t (block_acts k body) (saved p) (saved (p + suc n))
  block_steps k p body n is block inside =
      let m = saved p in
      let o = saved (p + 1 + n) in
      let here = at_site p a_block block refl in
      let same : m ≡ saved (p + 1) = omega (arith, copies_at t p a_block block) in
      let last : o ≡ saved (p + suc n) = (let e : p + 1 + n ≡ p + suc n = omega arith in ap saved e) in
      let bare = one_step t (act.Drop (p + 1)) (act.Seal (p + 1) ∷ []) o o (λ rest. refl) (λ behind. low o (omega arith)) refl
      (one_step t (act.Seal (p + 1)) [] o o (λ rest. refl) (λ behind. later p n block) refl (no_step t o)) in
      let leave = with_lists t (act.Leave (p + 1) (block_end_acts (p + 1))) (act.Leave (p + 1) []) (block_end_acts (p + 1)) [] o o o (λ rest. order_leave (p + 1) (block_end_acts (p + 1)) rest) (λ behind. low o (omega arith)) refl bare (no_step t o) in
      let all = steps_joined t body (act.Leave (p + 1) (block_end_acts (p + 1)) ∷ []) m o o (subst (λ q. Steps t body q o) (sym same) inside) leave in
      let acts = one_step t (act.Look (p + 1)) _ m o (λ rest. refl) (λ behind. here) refl (one_step t (act.Enter (p + 1)) _ m o (λ rest. refl) (λ behind. here) refl all) in
      subst (λ j. Steps t (block_acts j body) m (saved (p + suc n))) (sym is) (subst (Steps t (block_acts (p + 1) body) m) last acts)

  mutual
    stmt_steps : (s : CoreStmt) (level : ℕ) (branched : Bool) → IsCoreStmt (scope_of c t) level branched [] s → (p : ℕ) → Next p (site_numbers s) → Placed t (site_numbers s) (standings c.arrays (pointing t) s)
        → Steps t (statement_acts a s) (saved p) (saved (p + length (site_numbers s)))
    stmt_steps (stmt.Assign x e) level branched w p next there = stays [] p _ refl (plain_step (stmt.Assign x e) p)
    stmt_steps (stmt.Point q array i) level branched w p next there = stays [] p _ refl (plain_step (stmt.Point q array i) p)
    stmt_steps (stmt.If' e m yes_row n no_row) level branched w p next there =
        let parts = placed_parts t (row_numbers yes_row) (row_numbers no_row) (row_standings c.arrays (pointing t) yes_row) (row_standings c.arrays (pointing t) no_row) (row_long c.arrays (pointing t) yes_row) there in
        let ys = row_steps yes_row _ _ w.2 p (front_next (row_numbers yes_row) (row_numbers no_row) p next) parts.0 in
        let ns = row_steps no_row _ _ w.3 (p + length (row_numbers yes_row)) (back_next (row_numbers yes_row) (row_numbers no_row) p next) parts.1 in
        test_steps (stmt.If' e m yes_row n no_row) e (row_acts a yes_row) (row_acts a no_row) p (p + length (row_numbers yes_row)) (p + length (row_numbers yes_row) + length (row_numbers no_row)) (row_numbers yes_row ++ row_numbers no_row)
        (omega (arith, length-append (row_numbers yes_row) (row_numbers no_row))) ys ns
    stmt_steps (stmt.Loop' i turns m row) level branched w p next there = stays (row_numbers row) p _ w.4 (plain_step (stmt.Loop' i turns m row) p)
    stmt_steps (stmt.Io k x q args) level branched w p next there =
        let is = first_next k [] p next in
        subst (λ j. Steps t (call_acts a j) (saved p) (saved (p + 1))) (sym is) (call_steps p (ap (stands_at t) (sym is) ∙ there.0.1))
    stmt_steps (stmt.Block' k m row) level branched w p next there =
        let is = first_next k (row_numbers row) p next in
        let body_next = back_next (k ∷ []) (row_numbers row) p next in
        let body = row_steps row _ _ w.1 (p + 1) body_next there.1 in
        block_steps k p (row_acts a row) (length (row_numbers row)) is (ap (stands_at t) (sym is) ∙ there.0.1) body
    stmt_steps (stmt.Copy k to from n) level branched w p next there =
        let is = first_next k [] p next in
        subst (λ j. Steps t (copy_acts a j) (saved p) (saved (p + 1))) (sym is) (copy_steps p _ (ap (stands_at t) (sym is) ∙ there.0.1))

    row_steps : {n : _} (row : Row_of-CoreStmt n) (level : ℕ) (branched : Bool) → AreCoreStmts (scope_of c t) level branched [] row → (p : ℕ) → Next p (row_numbers row) → Placed t (row_numbers row) (row_standings c.arrays (pointing t) row)
        → Steps t (row_acts a row) (saved p) (saved (p + length (row_numbers row)))
    row_steps end_of-CoreStmt level branched w p next there = stays [] p [] refl (no_step t (saved p))
    row_steps (more_of-CoreStmt s rest) level branched w p next there =
        let parts = placed_parts t (site_numbers s) (row_numbers rest) (standings c.arrays (pointing t) s) (row_standings c.arrays (pointing t) rest) (same_long c.arrays (pointing t) s) there in
        let one = stmt_steps s level branched w.0 p (front_next (site_numbers s) (row_numbers rest) p next) parts.0 in
        let more = row_steps rest level branched w.1 (p + length (site_numbers s)) (back_next (site_numbers s) (row_numbers rest) p next) parts.1 in
        behind_two (site_numbers s) (row_numbers rest) p _ (saved p) (steps_joined t (statement_acts a s) (row_acts a rest) (saved p) (saved (p + length (site_numbers s))) (saved (p + length (site_numbers s) + length (row_numbers rest))) one more)

  body_steps : (body : List CoreStmt) (level : ℕ) (branched : Bool) → AllByRecursion (IsCoreStmt (scope_of c t) level branched []) body → (p : ℕ) → Next p (all_numbers body) → Placed t (all_numbers body) (all_standings c.arrays (pointing t) body)
      → Steps t (body_acts a body) (saved p) (saved (p + length (all_numbers body)))
  body_steps [] level branched w p next there = stays [] p [] refl (no_step t (saved p))
  body_steps (s ∷ rest) level branched w p next there =
      let parts = placed_parts t (site_numbers s) (all_numbers rest) (standings c.arrays (pointing t) s) (all_standings c.arrays (pointing t) rest) (same_long c.arrays (pointing t) s) there in
      let one = stmt_steps s level branched w.0 p (front_next (site_numbers s) (all_numbers rest) p next) parts.0 in
      let more = body_steps rest level branched w.1 (p + length (site_numbers s)) (back_next (site_numbers s) (all_numbers rest) p next) parts.1 in
      behind_two (site_numbers s) (all_numbers rest) p _ (saved p) (steps_joined t (statement_acts a s) (body_acts a rest) (saved p) (saved (p + length (site_numbers s))) (saved (p + length (site_numbers s) + length (all_numbers rest))) one more)

  exit_steps : (e : CoreExit) (m : ℕ) → 1 ≤ m → Steps t (exit_act e ∷ []) m m
  exit_steps (exit.Next n) m l = one_step t (act.Commit n) [] m m (λ rest. refl) (λ behind. low m l) refl (no_step t m)
  exit_steps exit.Stop m l = one_step t (act.Commit 0) [] m m (λ rest. refl) (λ behind. low m l) refl (no_step t m)
  exit_steps (exit.Choose' e u (more_of-CoreExit x end_of-CoreExit) v (more_of-CoreExit y end_of-CoreExit)) m l =
      with_lists t (act.Test e (exit_act x ∷ []) (exit_act y ∷ [])) (act.Test e [] []) (exit_act x ∷ exit_act y ∷ []) [] m m m
      (λ rest. order_test e (exit_act x ∷ []) (exit_act y ∷ []) rest) (λ behind. low m l) refl
      (steps_joined t (exit_act x ∷ []) (exit_act y ∷ []) m m m (exit_steps x m l) (exit_steps y m l)) (no_step t m)

  begin_steps : (number : ℕ) → Steps t (act.Begin number ∷ act.Save 0 ∷ act.Lock 0 ∷ []) 0 1
  begin_steps number = one_step t (act.Begin number) (act.Save 0 ∷ act.Lock 0 ∷ []) 0 1 (λ rest. refl) (λ behind. refl) refl (save_step t [] 0 1 (no_step t 1))

  task_steps : (number : ℕ) → IsCoreTask c t → Steps t (task_acts Undo number t) 0 (regions t)
  task_steps number w =
      let many : length (all_numbers t.body) ≡ length t.sites = ap length w.sites.numbers ∙ length-range_with_len 1 (length t.sites) in
      let next : Next 0 (all_numbers t.body) = w.sites.numbers ∙ ap (range_with_len 1) (sym many) in
      let body = body_steps t.body 1 false w.body 0 next (task_placed c.arrays t w.sites) in
      let first : saved 0 ≡ 1 = omega arith in
      let last : saved (0 + length (all_numbers t.body)) ≡ regions t = (let e : 0 + length (all_numbers t.body) ≡ length t.sites = omega (arith, many) in ap saved e ∙ ap (λ sites. copies sites + 1) (take_all t.sites)) in
      let inside = subst (λ m. Steps t (body_acts a t.body) m (regions t)) first (subst (Steps t (body_acts a t.body) (saved 0)) last body) in
      steps_joined t (act.Begin number ∷ act.Save 0 ∷ act.Lock 0 ∷ body_acts a t.body) (exit_act t.exit ∷ []) 0 (regions t) (regions t)
      (steps_joined t (act.Begin number ∷ act.Save 0 ∷ act.Lock 0 ∷ []) (body_acts a t.body) 0 1 (regions t) (begin_steps number) inside)
      (exit_steps t.exit (regions t) (omega arith))

  pub undo_saves : (number : ℕ) → IsCoreTask c t → saved_in_place t (all_in_order (task_acts Undo number t)) 0 ≡ true
  undo_saves number w = ap (λ acts. saved_in_place t acts 0) (all_ordered_is (task_acts Undo number t)) ∙ (task_steps number w).go [] (eq-eqb (regions t) (regions t) refl)
