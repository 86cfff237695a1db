-- The acts of statements tell what the rules say of them, if what comes behind does.
use Rattle.std.proofs.Common.{◌≡◌, ◌∙◌, ℕ, suc, ◌+◌, ◌<◌, ◌≤◌, Bool, true, false, ◌==◌, cond, List, [], ◌∷◌, ◌++◌, length, take, slice_get, slice_index_or, refl, sym, ap, subst, arith}
use Rattle.std.specs.Prelude.{Option, Some, None, sum_by}
use Rattle.std.specs.List.{AllByRecursion}
use Rattle.std.proofs.lemmas.Bool.{ne_eqb}
use Rattle.std.proofs.lemmas.List.{length-append}
use Rattle.std.proofs.lemmas.List.FromFn.{get_or-map-range_with_len}
use Rattle.task_ast.specs.declared.tree.Ann.{Ann}
use Rattle.task_ast.specs.declared.core_form.CoreStmt.{CoreStmt, Row_of-CoreStmt, end_of-CoreStmt, more_of-CoreStmt}
use Rattle.task_ast.specs.declared.core_form.CoreStmt.TheVariants as stmt
use Rattle.task_ast.specs.declared.core_form.CoreTask.{CoreTask}
use Rattle.task_ast.specs.declared.core_form.Core.{Core}
use Rattle.task_ast.specs.declared.core_form.Site.{Site}
use Rattle.task_ast.specs.declared.core_form.Site.TheVariants as site
use Rattle.task_ast.specs.CoreSites.{room, greatest, a_call, a_block, a_copy, site_numbers, row_numbers, all_numbers, standings, row_standings, all_standings}
use Rattle.task_ast.specs.Pointing.{pointing, addresses, row_addresses, all_addresses}
use Rattle.task_ast.specs.WellFormed.{IsCoreStmt, AreCoreStmts, scope_of}
use Rattle.io_depend.specs.Sets.{has}
use Rattle.region_split.specs.Regions.{Touch, touches, row_touches, all_touches, first, copies, region_of, regions}
use Rattle.region_split.specs.Owners.{all_first}
use Rattle.io_annot.specs.declared.choice.Mode.{Mode}
use Rattle.walk_run.specs.Store.{Store}
use Rattle.task_attempts.specs.State.{Rules, Setting, Here, Rest}
use Rattle.task_attempts.specs.Along.{setting_of}
use Rattle.task_attempts.specs.Values.{plain_log}
use Rattle.task_attempts.specs.Calls.{site_at}
use Rattle.task_attempts.specs.Boots.{task_of}
use Rattle.task_attempts.specs.Attempts.{statement_log, row_log, body_log}
use Rattle.run_plan.specs.declared.act.Act.{Act}
use Rattle.run_plan.specs.declared.act.Act.TheVariants as act
use Rattle.run_plan.specs.Kinds.{standing_or_none, stands_at}
use Rattle.run_plan.specs.Small.{Doing}
use Rattle.run_plan.specs.Finding.{or_else, found_in, found_in_row, found_among, statement_of}
use Rattle.run_plan.specs.PlanOf.{Around, around, unless_plain, statement_acts, row_acts, body_acts}
use Rattle.run_plan.specs.Runs.{Small, Onward, Planned, at_task, doing, act_run, acts_run}
use Rattle.run_plan.specs.RunRows.{run_joined}
use Rattle.plan_laws.specs.PlacedSites.{Placed, placed_parts, same_long, row_long, Next, front_next, back_next, first_next, copies_at, region_there}
use Rattle.plan_restore.proofs.Lists.{all_parts, is_itself, has_front, has_behind}
use Rattle.plan_restore.proofs.Puts.{NotConst}
use Rattle.plan_restore.proofs.Writing.{TouchMay}
use Rattle.site_events.specs.Follows.{Outer, Beside, Stable, Goes}
use Rattle.site_events.proofs.Acts.{Go, plain_follows, test_follows}
use Rattle.site_events.proofs.Calls.{call_follows}
use Rattle.site_events.proofs.Blocks.{block_follows}
use Rattle.site_events.proofs.Copies.{copy_follows}

-- the log of a statement without sites
abbrev pub BareLog : Rules → Type 0
BareLog rules = (t : CoreTask) (s : CoreStmt) → site_numbers s ≡ [] → (go : Rest) (here : Here) → statement_log (setting_of rules t) s go here ≡ plain_log s go here

-- ---- what stands at a site

-- a call, with its annotation
call_there : (o : Option Site) → standing_or_none o ≡ Some a_call → (ann : Ann) × (o ≡ Some (site.Io ann))
call_there None is = absurd (cc is)
call_there (Some (site.Io ann)) is = (ann, refl)
call_there (Some (site.Block ann)) is = absurd (cc is)
call_there (Some (site.Copy n)) is = absurd (cc is)

block_there : (o : Option Site) → standing_or_none o ≡ Some a_block → (ann : Ann) × (o ≡ Some (site.Block ann))
block_there None is = absurd (cc is)
block_there (Some (site.Io ann)) is = absurd (cc is)
block_there (Some (site.Block ann)) is = (ann, refl)
block_there (Some (site.Copy n)) is = absurd (cc is)

-- a copy, with its greatest length
copy_there : (n : ℕ) (o : Option Site) → standing_or_none o ≡ Some (a_copy n) → o ≡ Some (site.Copy n)
copy_there n None is = absurd (cc is)
copy_there n (Some (site.Io ann)) is = absurd (cc is)
copy_there n (Some (site.Block ann)) is = absurd (cc is)
copy_there n (Some (site.Copy m)) is = let same : m ≡ n = cc is in ap (λ x. Some (site.Copy x)) same

-- ---- the statement of a site is the one that is found

-- what is found in a part, among the sites behind a number, is what the task has there
abbrev pub IsFound : (Option CoreStmt → ℕ → Type 0) → (behind : ℕ) → (ℕ → Option CoreStmt) → Type 0
IsFound Has behind found = (j : ℕ) (x : CoreStmt) → behind < j → found j ≡ Some x → Has (Some x) j

both_none : (o u : Option CoreStmt) → o ≡ None → u ≡ None → or_else o u ≡ None
both_none None u one two = two
both_none (Some x) u one two = absurd (cc one)

not_it : (k j : ℕ) (s : CoreStmt) (other : Option CoreStmt) → (k ≡ j → ⊥) → other ≡ None → cond (k == j) (Some s) other ≡ None
not_it k j s other apart none = ap (λ b. cond b (Some s) other) (ne_eqb k j apart) ∙ none

mutual
  -- sites behind those of a statement aren't found in it
  beyond : (s : CoreStmt) (q : ℕ) → Next q (site_numbers s) → (j : ℕ) → q + length (site_numbers s) < j → found_in j s ≡ None
  beyond (stmt.Assign x e) q next j less = refl
  beyond (stmt.Point r array i) q next j less = refl
  beyond (stmt.If' e m yes_row n no_row) q next j less =
      let ks = row_numbers yes_row in
      let ls = row_numbers no_row in
      let long : length (ks ++ ls) ≡ length ks + length ls = length-append ks ls in
      both_none (found_in_row j yes_row) (found_in_row j no_row) (row_beyond yes_row q (front_next ks ls q next) j (omega (arith, less, long)))
      (row_beyond no_row (q + length ks) (back_next ks ls q next) j (omega (arith, less, long)))
  beyond (stmt.Loop' i turns m row) q next j less = refl
  beyond (stmt.Io k x r args) q next j less = let is = first_next k [] q next in not_it k j (stmt.Io k x r args) None (λ same. omega (arith, less, is, same)) refl
  beyond (stmt.Block' k m row) q next j less =
      let is = first_next k (row_numbers row) q next in
      not_it k j (stmt.Block' k m row) (found_in_row j row) (λ same. omega (arith, less, is, same)) (row_beyond row (q + 1) (back_next (k ∷ []) (row_numbers row) q next) j (omega (arith, less)))
  beyond (stmt.Copy k to from n) q next j less = let is = first_next k [] q next in not_it k j (stmt.Copy k to from n) None (λ same. omega (arith, less, is, same)) refl

  row_beyond : {n : _} (row : Row_of-CoreStmt n) (q : ℕ) → Next q (row_numbers row) → (j : ℕ) → q + length (row_numbers row) < j → found_in_row j row ≡ None
  row_beyond end_of-CoreStmt q next j less = refl
  row_beyond (more_of-CoreStmt s rest) q next j less =
      let ks = site_numbers s in
      let ls = row_numbers rest in
      let long : length (ks ++ ls) ≡ length ks + length ls = length-append ks ls in
      both_none (found_in j s) (found_in_row j rest) (beyond s q (front_next ks ls q next) j (omega (arith, less, long))) (row_beyond rest (q + length ks) (back_next ks ls q next) j (omega (arith, less, long)))

-- what is found in the first of two parts, and in the second
found_front : (Has : Option CoreStmt → ℕ → Type 0) (q : ℕ) (f g : ℕ → Option CoreStmt) → IsFound Has q (λ j. or_else (f j) (g j)) → IsFound Has q f
found_front Has q f g found j x less is = found j x less (ap (λ o. or_else o (g j)) is)

found_back : (Has : Option CoreStmt → ℕ → Type 0) (q n : ℕ) (f g : ℕ → Option CoreStmt) → ((j : ℕ) → q + n < j → f j ≡ None) → IsFound Has q (λ j. or_else (f j) (g j)) → IsFound Has (q + n) g
found_back Has q n f g none found j x less is = found j x (omega (arith, less)) (ap (λ o. or_else o (g j)) (none j less) ∙ is)

found_inside : (Has : Option CoreStmt → ℕ → Type 0) (q k : ℕ) (s : CoreStmt) (g : ℕ → Option CoreStmt) → k ≡ q + 1 → IsFound Has q (λ j. cond (k == j) (Some s) (g j)) → IsFound Has (q + 1) g
found_inside Has q k s g is_k found j x less is = found j x (omega (arith, less)) (ap (λ b. cond b (Some s) (g j)) (ne_eqb k j (λ same. omega (arith, less, is_k, same))) ∙ is)

found_itself : (Has : Option CoreStmt → ℕ → Type 0) (q k : ℕ) (s : CoreStmt) → k ≡ q + 1 → IsFound Has q (λ j. cond (k == j) (Some s) None) → Has (Some s) k
found_itself Has q k s is_k found = found k s (omega (arith, is_k)) (ap (λ b. cond b (Some s) None) (is_itself k))

-- ---- what is known of the blocks around, and of the regions reached

-- of the blocks around alone
abbrev pub Blocks : Type 1
Blocks = Option Mode → (ℕ → Option Mode) → (ℕ → Option ℕ) → Type 0

-- and besides that the copies up to some region have given their events
abbrev pub Up : Blocks → (region : ℕ) → Outer
Up B r m o b n = B m o b × (r ≤ n)

abbrev Within : Blocks → (site : ℕ) → (outside inside : Mode) → (time : ℕ) → Blocks
Within B k outside inside time m o b = (m ≡ Some inside) × (o k ≡ Some outside) × (b k ≡ Some time) × B (Some outside) o b

abbrev pub IsStable : Blocks → (most : ℕ) → Type 0
IsStable B most = (m : Option Mode) (o u : ℕ → Option Mode) (b v : ℕ → Option ℕ) → ((j : ℕ) → j ≤ most → o j ≡ u j) → ((j : ℕ) → j ≤ most → b j ≡ v j) → B m o b → B m u v

stable_up : (B : Blocks) (q r : ℕ) → IsStable B q → Stable (Up B r) q
stable_up B q r stable m o u b v n same same' h = (stable m o u b v same same' h.0, h.1)

stable_more : (B : Blocks) (q n : ℕ) → IsStable B q → IsStable B (q + n)
stable_more B q n stable m o u b v same same' h = stable m o u b v (λ j few. same j (omega (arith, few))) (λ j few. same' j (omega (arith, few))) h

stable_inside : (B : Blocks) (q k : ℕ) (outside inside : Mode) (time : ℕ) → k ≡ q + 1 → IsStable B q → IsStable (Within B k outside inside time) (q + 1)
stable_inside B q k outside inside time is stable m o u b v same same' h =
    let here : k ≤ q + 1 = omega (arith, is) in
    (h.0, sym (same k here) ∙ h.1, sym (same' k here) ∙ h.2, stable (Some outside) o u b v (λ j few. same j (omega (arith, few))) (λ j few. same' j (omega (arith, few))) h.3)

-- the copies among so many sites
abbrev pub passed : CoreTask → ℕ → ℕ
passed t q = copies (take q t.sites)

-- what a region may write first, as the plan has it
pub region_there_is : (c : Core) (t : CoreTask) (firsts : List (List ℕ)) (r : ℕ) → firsts ≡ all_first c t → r < regions t → slice_index_or firsts r [] ≡ first c t r
region_there_is c t firsts r split few = ap (λ (xs : List (List ℕ)). slice_index_or xs r []) split ∙ get_or-map-range_with_len (first c t) 0 (regions t) r r [] few (let e0 : 0 + r ≡ r = omega arith in e0)

module _ (p : Planned) (Sees : Store → Small → Type 0) (fuel number : ℕ) (t : CoreTask) (there : task_of p.rules.core number ≡ Some t) (again : Onward) (bare : BareLog p.rules) (split : at_task p.plan.firsts number [] ≡ all_first p.rules.core t) where
  abbrev c : Core
  c = p.rules.core

  abbrev d : Doing
  d = doing p number t

  abbrev a : Around
  a = around p.plan.scheme t

  abbrev setting : Setting
  setting = setting_of p.rules t

  abbrev Going : Outer → Onward → Rest → Type 0
  Going P go rest = Go p Sees fuel number t there again (Beside P) 0 go rest

  -- what the task has at a site
  abbrev Has : Option CoreStmt → ℕ → Type 0
  Has o j = statement_of d j ≡ o

  -- what a part gives to pointers, they may point to
  abbrev pub Given : (ℕ → List ℕ) → Type 0
  Given given = (q x : ℕ) → has (given q) x ≡ true → has (pointing t q) x ≡ true

  abbrev Solid : List Touch → Type 0
  Solid ts = AllByRecursion (TouchMay (NotConst c)) ts

  -- a statement without sites, as it is
  bare_follows : (P : Outer) (s : CoreStmt) → site_numbers s ≡ [] → Solid (touches (pointing t) s) → Given (λ q. addresses q s) → (go : Onward) (rest : Rest) → Going P go rest
      → Going P (act_run d again (act.Plain s) go) (statement_log setting s rest)
  bare_follows P s no_sites all given go rest follows at here related known =
      subst (λ log. Goes p Sees fuel at.state.store here.standing (act_run d again (act.Plain s) go at) log) (sym (bare t s no_sites rest here))
      (plain_follows p Sees fuel number t there again (Beside P) 0 s all given go rest follows at here related known)

  or_plain : (P : Outer) (ks : List ℕ) (s : CoreStmt) (test : Act) (go : Onward) (rest : Rest) → (ks ≡ [] → Going P (act_run d again (act.Plain s) go) rest) → Going P (act_run d again test go) rest
      → Going P (acts_run d again (unless_plain ks s test ∷ []) go) rest
  or_plain P [] s test go rest without with = without refl
  or_plain P (k ∷ ks) s test go rest without with = with

  -- ---- no copy stands under an `if`

  none_more : (q n : ℕ) → n ≡ 0 → passed t (q + n) ≡ passed t q
  none_more q n none = ap (passed t) (let e : q + n ≡ q = omega (arith, none) in e)

  mutual
    flat : (s : CoreStmt) (level : ℕ) (turning : List ℕ) → IsCoreStmt (scope_of c t) level true turning s → (q : ℕ) → Next q (site_numbers s) → Placed t (site_numbers s) (standings c.arrays (pointing t) s) → passed t (q + length (site_numbers s)) ≡ passed t q
    flat (stmt.Assign x e) level turning w q next placed = none_more q 0 refl
    flat (stmt.Point r array i) level turning w q next placed = none_more q 0 refl
    flat (stmt.If' e m yes_row n no_row) level turning w q next placed =
        let ks = row_numbers yes_row in
        let ls = row_numbers no_row in
        let parts = placed_parts t ks ls (row_standings c.arrays (pointing t) yes_row) (row_standings c.arrays (pointing t) no_row) (row_long c.arrays (pointing t) yes_row) placed in
        let long : q + length (ks ++ ls) ≡ q + length ks + length ls = omega (arith, length-append ks ls) in
        ap (passed t) long ∙ row_flat no_row _ turning w.3 (q + length ks) (back_next ks ls q next) parts.1 ∙ row_flat yes_row _ turning w.2 q (front_next ks ls q next) parts.0
    flat (stmt.Loop' i turns m row) level turning w q next placed = none_more q (length (row_numbers row)) (ap length w.4)
    flat (stmt.Io k x r args) level turning w q next placed = let e = copies_at t q a_call (ap (stands_at t) (sym (first_next k [] q next)) ∙ placed.0.1) in omega (arith, e)
    flat (stmt.Block' k m row) level turning w q next placed =
        let e = copies_at t q a_block (ap (stands_at t) (sym (first_next k (row_numbers row) q next)) ∙ placed.0.1) in
        let last : q + suc (length (row_numbers row)) ≡ q + 1 + length (row_numbers row) = omega arith in
        ap (passed t) last ∙ row_flat row _ turning w.1 (q + 1) (back_next (k ∷ []) (row_numbers row) q next) placed.1 ∙ (let z : passed t (q + 1) ≡ passed t q = omega (arith, e) in z)
    flat (stmt.Copy k to from n) level turning w q next placed = absurd (let clash : true ≡ false = w.1 in cc clash)

    row_flat : {n : _} (row : Row_of-CoreStmt n) (level : ℕ) (turning : List ℕ) → AreCoreStmts (scope_of c t) level true turning row → (q : ℕ) → Next q (row_numbers row) → Placed t (row_numbers row) (row_standings c.arrays (pointing t) row) → passed t (q + length (row_numbers row)) ≡ passed t q
    row_flat end_of-CoreStmt level turning w q next placed = none_more q 0 refl
    row_flat (more_of-CoreStmt s rows) level turning w q next placed =
        let ks = site_numbers s in
        let ls = row_numbers rows in
        let parts = placed_parts t ks ls (standings c.arrays (pointing t) s) (row_standings c.arrays (pointing t) rows) (same_long c.arrays (pointing t) s) placed in
        let long : q + length (ks ++ ls) ≡ q + length ks + length ls = omega (arith, length-append ks ls) in
        ap (passed t) long ∙ row_flat rows level turning w.1 (q + length ks) (back_next ks ls q next) parts.1 ∙ flat s level turning w.0 q (front_next ks ls q next) parts.0

  -- at another site with as many copies before it
  at_site : (B : Blocks) (m n : ℕ) (go : Onward) (rest : Rest) → m ≡ n → Going (Up B m) go rest → Going (Up B n) go rest
  at_site B m n go rest same follows = subst (λ j. Going (Up B j) go rest) same follows

  mutual
    stmt_follows : (B : Blocks) (s : CoreStmt) (level : ℕ) (branched : Bool) → IsCoreStmt (scope_of c t) level branched [] s → (q : ℕ) → Next q (site_numbers s) → Placed t (site_numbers s) (standings c.arrays (pointing t) s)
        → Solid (touches (pointing t) s) → Given (λ r. addresses r s) → IsFound Has q (λ j. found_in j s) → IsStable B q → (go : Onward) (rest : Rest) → Going (Up B (passed t (q + length (site_numbers s)))) go rest
        → Going (Up B (passed t q)) (acts_run d again (statement_acts a s) go) (statement_log setting s rest)
    stmt_follows B (stmt.Assign x e) level branched w q next placed all given found stable go rest follows =
        bare_follows (Up B (passed t q)) (stmt.Assign x e) refl all given go rest (at_site B _ _ go rest (none_more q 0 refl) follows)
    stmt_follows B (stmt.Point r array i) level branched w q next placed all given found stable go rest follows =
        bare_follows (Up B (passed t q)) (stmt.Point r array i) refl all given go rest (at_site B _ _ go rest (none_more q 0 refl) follows)
    stmt_follows B (stmt.If' e m yes_row n no_row) level branched w q next placed all given found stable go rest follows =
        let ks = row_numbers yes_row in
        let ls = row_numbers no_row in
        let parts = placed_parts t ks ls (row_standings c.arrays (pointing t) yes_row) (row_standings c.arrays (pointing t) no_row) (row_long c.arrays (pointing t) yes_row) placed in
        let solid = all_parts (TouchMay (NotConst c)) (row_touches (pointing t) yes_row) (row_touches (pointing t) no_row) all in
        let front = front_next ks ls q next in
        let back = back_next ks ls q next in
        let long : q + length (ks ++ ls) ≡ q + length ks + length ls = omega (arith, length-append ks ls) in
        let flat_yes = row_flat yes_row _ [] w.2 q front parts.0 in
        let flat_no = row_flat no_row _ [] w.3 (q + length ks) back parts.1 in
        let behind_no = at_site B _ _ go rest (ap (passed t) long) follows in
        let yes_so = row_follows B yes_row _ _ w.2 q front parts.0 solid.0 (λ r x is. given r x (has_front (row_addresses r yes_row) (row_addresses r no_row) x is))
        (found_front Has q (λ j. found_in_row j yes_row) (λ j. found_in_row j no_row) found) stable go rest (at_site B _ _ go rest flat_no behind_no) in
        let no_so = row_follows B no_row _ _ w.3 (q + length ks) back parts.1 solid.1 (λ r x is. given r x (has_behind (row_addresses r yes_row) (row_addresses r no_row) x is))
        (found_back Has q (length ks) (λ j. found_in_row j yes_row) (λ j. found_in_row j no_row) (λ j less. row_beyond yes_row q front j less) found) (stable_more B q (length ks) stable) go rest behind_no in
        let no_here = subst (λ j. Going (Up B j) (acts_run d again (row_acts a no_row) go) (row_log setting no_row rest)) flat_yes no_so in
        or_plain (Up B (passed t q)) (ks ++ ls) (stmt.If' e m yes_row n no_row) (act.Test e (row_acts a yes_row) (row_acts a no_row)) go _
        (λ no_sites. bare_follows (Up B (passed t q)) (stmt.If' e m yes_row n no_row) no_sites all given go rest (at_site B _ _ go rest (none_more q (length (ks ++ ls)) (ap length no_sites)) follows))
        (test_follows p Sees fuel number t there again (Beside (Up B (passed t q))) 0 e (row_acts a yes_row) (row_acts a no_row) go (row_log setting yes_row rest) (row_log setting no_row rest) yes_so no_here)
    stmt_follows B (stmt.Loop' i turns m row) level branched w q next placed all given found stable go rest follows =
        bare_follows (Up B (passed t q)) (stmt.Loop' i turns m row) w.4 all given go rest (at_site B _ _ go rest (none_more q (length (row_numbers row)) (ap length w.4)) follows)
    stmt_follows B (stmt.Io k x r args) level branched w q next placed all given found stable go rest follows =
        let is = first_next k [] q next in
        let call = call_there (site_at t.sites k) placed.0.1 in
        let e = copies_at t q a_call (ap (stands_at t) (sym is) ∙ placed.0.1) in
        let same : passed t (q + 1) ≡ passed t q = omega (arith, e) in
        call_follows p Sees fuel number t there again (Up B (passed t q)) k call.0 x r args go rest call.1 (found_itself Has q k (stmt.Io k x r args) is found) all (at_site B _ _ go rest same follows)
    stmt_follows B (stmt.Block' k m row) level branched w q next placed all given found stable go rest follows =
        let is = first_next k (row_numbers row) q next in
        let block = block_there (site_at t.sites k) placed.0.1 in
        let e = copies_at t q a_block (ap (stands_at t) (sym is) ∙ placed.0.1) in
        let same : passed t (q + 1) ≡ passed t q = omega (arith, e) in
        let end = passed t (q + 1 + length (row_numbers row)) in
        let last : q + suc (length (row_numbers row)) ≡ q + 1 + length (row_numbers row) = omega arith in
        block_follows p Sees fuel number t there again (Up B (passed t q)) (Up B end) k block.0 block.1 q is (stable_up B q (passed t q) stable) (row_acts a row) (row_log setting row)
        (λ outside inside time go rest behind.
        (let row_so = row_follows (Within B k outside inside time) row _ _ w.1 (q + 1) (back_next (k ∷ []) (row_numbers row) q next) placed.1 all given
        (found_inside Has q k (stmt.Block' k m row) (λ j. found_in_row j row) is found) (stable_inside B q k outside inside time is stable) go rest
        (λ at here related known. behind at here related (known.0.0, known.0.1, known.0.2, (known.0.3, known.1))) in
        (λ at here related known. row_so at here related ((known.0, known.1, known.2, known.3.0), (let few = known.3.1 in omega (arith, few, same))))))
        go rest (at_site B _ _ go rest (ap (passed t) last) follows)
    stmt_follows B (stmt.Copy k to from n) level branched w q next placed all given found stable go rest follows =
        let is = first_next k [] q next in
        let most = greatest c.arrays (pointing t) to from in
        let r = passed t q + 1 in
        let e = copies_at t q (a_copy most) (ap (stands_at t) (sym is) ∙ placed.0.1) in
        let next_is : passed t (q + 1) ≡ r = omega (arith, e) in
        let region : r ≡ region_of t k = sym next_is ∙ ap (region_of t) (sym is) in
        let few : r < regions t = subst (λ x. x < regions t) (sym region) (region_there t k) in
        let words_there = ap (λ (arrays : List ℕ). sum_by (λ x. room (slice_get c.arrays x)) arrays) (region_there_is c t d.firsts r split few) in
        copy_follows p Sees fuel number t there again k most (copy_there most (site_at t.sites k) placed.0.1) (Up B (passed t q)) (Up B (passed t (q + 1))) r
        (λ m o b x h. (h.0, (let low = h.1 in omega (arith, low, next_is)))) go rest follows to from n all.1 refl (found_itself Has q k (stmt.Copy k to from n) is found) region words_there
        (λ m o b x h. (let low = h.1 in omega (arith, low)))

    row_follows : (B : Blocks) {n : _} (row : Row_of-CoreStmt n) (level : ℕ) (branched : Bool) → AreCoreStmts (scope_of c t) level branched [] row → (q : ℕ) → Next q (row_numbers row) → Placed t (row_numbers row) (row_standings c.arrays (pointing t) row)
        → Solid (row_touches (pointing t) row) → Given (λ r. row_addresses r row) → IsFound Has q (λ j. found_in_row j row) → IsStable B q → (go : Onward) (rest : Rest) → Going (Up B (passed t (q + length (row_numbers row)))) go rest
        → Going (Up B (passed t q)) (acts_run d again (row_acts a row) go) (row_log setting row rest)
    row_follows B end_of-CoreStmt level branched w q next placed all given found stable go rest follows = at_site B _ _ go rest (none_more q 0 refl) follows
    row_follows B (more_of-CoreStmt s rows) level branched w q next placed all given found stable go rest follows =
        let ks = site_numbers s in
        let ls = row_numbers rows in
        let parts = placed_parts t ks ls (standings c.arrays (pointing t) s) (row_standings c.arrays (pointing t) rows) (same_long c.arrays (pointing t) s) placed in
        let solid = all_parts (TouchMay (NotConst c)) (touches (pointing t) s) (row_touches (pointing t) rows) all in
        let front = front_next ks ls q next in
        let back = back_next ks ls q next in
        let long : q + length (ks ++ ls) ≡ q + length ks + length ls = omega (arith, length-append ks ls) in
        let behind = row_follows B rows level branched w.1 (q + length ks) back parts.1 solid.1 (λ r x is. given r x (has_behind (addresses r s) (row_addresses r rows) x is))
        (found_back Has q (length ks) (λ j. found_in j s) (λ j. found_in_row j rows) (λ j less. beyond s q front j less) found) (stable_more B q (length ks) stable) go rest (at_site B _ _ go rest (ap (passed t) long) follows) in
        subst (λ (f : Onward). Going (Up B (passed t q)) f (row_log setting (more_of-CoreStmt s rows) rest)) (sym (run_joined d again (statement_acts a s) (row_acts a rows) go))
        (stmt_follows B s level branched w.0 q front parts.0 solid.0 (λ r x is. given r x (has_front (addresses r s) (row_addresses r rows) x is)) (found_front Has q (λ j. found_in j s) (λ j. found_in_row j rows) found) stable
        (acts_run d again (row_acts a rows) go) (row_log setting rows rest) behind)

  -- statements, one after another
  pub body_follows : (B : Blocks) (body : List CoreStmt) (level : ℕ) (branched : Bool) → AllByRecursion (IsCoreStmt (scope_of c t) level branched []) body → (q : ℕ) → Next q (all_numbers body) → Placed t (all_numbers body) (all_standings c.arrays (pointing t) body)
      → Solid (all_touches (pointing t) body) → Given (λ r. all_addresses r body) → IsFound Has q (λ j. found_among j body) → IsStable B q → (go : Onward) (rest : Rest) → Going (Up B (passed t (q + length (all_numbers body)))) go rest
      → Going (Up B (passed t q)) (acts_run d again (body_acts a body) go) (body_log setting body rest)
  body_follows B [] level branched w q next placed all given found stable go rest follows = at_site B _ _ go rest (none_more q 0 refl) follows
  body_follows B (s ∷ body) level branched w q next placed all given found stable go rest follows =
      let ks = site_numbers s in
      let ls = all_numbers body in
      let parts = placed_parts t ks ls (standings c.arrays (pointing t) s) (all_standings c.arrays (pointing t) body) (same_long c.arrays (pointing t) s) placed in
      let solid = all_parts (TouchMay (NotConst c)) (touches (pointing t) s) (all_touches (pointing t) body) all in
      let front = front_next ks ls q next in
      let back = back_next ks ls q next in
      let long : q + length (ks ++ ls) ≡ q + length ks + length ls = omega (arith, length-append ks ls) in
      let behind = body_follows B body level branched w.1 (q + length ks) back parts.1 solid.1 (λ r x is. given r x (has_behind (addresses r s) (all_addresses r body) x is))
      (found_back Has q (length ks) (λ j. found_in j s) (λ j. found_among j body) (λ j less. beyond s q front j less) found) (stable_more B q (length ks) stable) go rest (at_site B _ _ go rest (ap (passed t) long) follows) in
      subst (λ (f : Onward). Going (Up B (passed t q)) f (body_log setting (s ∷ body) rest)) (sym (run_joined d again (statement_acts a s) (body_acts a body) go))
      (stmt_follows B s level branched w.0 q front parts.0 solid.0 (λ r x is. given r x (has_front (addresses r s) (all_addresses r body) x is)) (found_front Has q (λ j. found_in j s) (λ j. found_among j body) found) stable
      (acts_run d again (body_acts a body) go) (body_log setting body rest) behind)
