-- What is told of a task gives the lines that the definition gives.
use Rattle.std.proofs.Common.{◌≡◌, ◌∙◌, ℕ, zero, suc, ◌+◌, ◌-◌, ◌<◌, ◌≤◌, Bool, cond, List, [], ◌∷◌, ◌++◌, length, filter, Contains, refl, sym, ap, subst, arith}
use Rattle.std.specs.Prelude.{codes, slice_get, slice_index_or}
use Rattle.std.specs.List.{AllByRecursion, range_with_len}
use Rattle.std.proofs.lemmas.List.FromFn.{get_or-map-range_with_len}
use Rattle.ease_base.specs.Lines.{line}
use Rattle.io_depend.specs.Depend.{flow, dependents, points}
use Rattle.io_depend.specs.RangeLaws.{has_filter}
use Rattle.io_depend.specs.Rows.{listed as row_of}
use Rattle.io_depend.specs.Sets.{has}
use Rattle.io_depend.specs.Told.{Told, Tells, IsSiteOf, tells_later}
use Rattle.site_account.specs.Account.{Facts, facts_of, spaced, listed, names, peripheral_name, site_front, mark, call_line, block_line, copy_line, stmt_lines, row_lines, body_lines}
use Rattle.site_account.specs.Told.{told_later}
use Rattle.site_account.specs.declared.places.SitePlace.{SitePlace}
use Rattle.task_ast.specs.CoreSites.{site_numbers, row_numbers, all_numbers}
use Rattle.task_ast.specs.Pointing.{end_arrays}
use Rattle.task_ast.specs.WellFormed.{IsEnd, IsCoreStmt, AreCoreStmts, IsCoreTask, IsWellFormed, scope_of}
use Rattle.task_ast.specs.declared.core_form.Core.{Core}
use Rattle.task_ast.specs.declared.core_form.CoreEnd.{CoreEnd}
use Rattle.task_ast.specs.declared.core_form.CoreEnd.TheVariants as end
use Rattle.task_ast.specs.declared.core_form.CoreStmt.{CoreStmt, Row_of-CoreStmt, end_of-CoreStmt, more_of-CoreStmt}
use Rattle.task_ast.specs.declared.core_form.CoreStmt.TheVariants as stmt
use Rattle.task_ast.specs.declared.core_form.CoreTask.{CoreTask}

-- a task of a list of which something is said
task_at : {X : Type 0} (P : X → Type 0) (xs : List X) (k : ℕ) (x : X) → k < length xs → AllByRecursion P xs → P (slice_index_or xs k x)
task_at P [] k x l all = absurd (omega arith)
task_at P (y ∷ xs) zero x l all = all.0
task_at P (y ∷ xs) (suc k) x l all = task_at P xs k x (omega arith) all.1

task_of : (c : Core) (t : CoreTask) → IsWellFormed c → Contains c.tasks t → IsCoreTask c t
task_of c t w has_it = subst (IsCoreTask c) has_it.2 (task_at (IsCoreTask c) c.tasks has_it.0 t has_it.1 w.tasks)

-- what holds of each of two lists
first_all : {X : Type 0} (P : X → Type 0) (xs ys : List X) → AllByRecursion P (xs ++ ys) → AllByRecursion P xs
first_all P [] ys all = tt
first_all P (x ∷ xs) ys all = (all.0, first_all P xs ys all.1)

second_all : {X : Type 0} (P : X → Type 0) (xs ys : List X) → AllByRecursion P (xs ++ ys) → AllByRecursion P ys
second_all P [] ys all = all
second_all P (x ∷ xs) ys all = second_all P xs ys all.1

-- filters by tests that agree in a range
one_test : (t u : Bool) (m : ℕ) (xs ys : List ℕ) → t ≡ u → xs ≡ ys → cond t (m ∷ xs) xs ≡ cond u (m ∷ ys) ys
one_test t u m xs ys test rest = λ i. cond (test i) (m ∷ rest i) (rest i)

same_between : (f g : ℕ → Bool) (m n : ℕ) → ((a : ℕ) → m ≤ a → a < m + n → f a ≡ g a) → filter f (range_with_len m n) ≡ filter g (range_with_len m n)
same_between f g m zero same = refl
same_between f g m (suc n) same =
    one_test (f m) (g m) m _ _ (same m (omega arith) (omega arith)) (same_between f g (m + 1) n (λ a low high. same a (omega (arith, low)) (omega (arith, high))))

-- a copy's line with other arrays at its ends, which it looks at alone
abbrev copy_with : Facts → (k : ℕ) → (to from : List ℕ) → List ℕ
copy_with f k to from =
    line (site_front f k ++ codes " copy to" ++ names f.arrays to ++ codes " from" ++ names f.arrays from ++ mark f k)

-- a call's line with other sites that it forces
abbrev call_with : Facts → (k peripheral : ℕ) → (forced : List ℕ) → List ℕ
call_with f k p forced = line (site_front f k ++ codes " io" ++ spaced (peripheral_name (slice_get f.peripherals p)) ++ mark f k ++ listed (codes " forces") forced)

module _ (c : Core) (t : CoreTask) (d : Told) (tells : Tells c t d) (places : List SitePlace) where
  -- the facts that are told, and those of the definition
  abbrev near_by : (count : ℕ) → Facts
  near_by count = record { arrays = c.arrays; peripherals = c.peripherals; sites = t.sites; places = places; forced = told_later d count; points = row_of d.points }

  abbrev near : Facts
  near = near_by (length t.sites)

  abbrev far : Facts
  far = facts_of c t places

  -- the numbers of a range are sites
  all_sites : (m n : ℕ) → 0 < m → m + n ≤ length t.sites + 1 → AllByRecursion (IsSiteOf t) (range_with_len m n)
  all_sites m zero low high = tt
  all_sites m (suc n) low high = ((low, omega arith), all_sites (m + 1) n (omega arith) (omega arith))

  -- the sites that a site forces
  same_forced : (k : ℕ) → IsSiteOf t k → told_later d (length t.sites) k ≡ dependents t k
  same_forced k site = same_between (tells_later d k) (has (flow t k).sites) (k + 1) (length t.sites - k) (λ a low high.
      tells.later k a site (omega (arith, low), omega (arith, low, high, site.1))
      ∙ has_filter (has (flow t k).sites) a (k + 1) (length t.sites - k) low high)

  -- the arrays of a copy's end
  same_end : (e : CoreEnd) → IsEnd (scope_of c t) e → end_arrays (row_of d.points) e ≡ end_arrays (points c t) e
  same_end (end.Cell array i) w = refl
  same_end (end.Pointer p) w =
      ap (λ rows. row_of rows p) tells.points ∙ get_or-map-range_with_len (points c t) 0 (length c.pointers) p p [] w (omega arith)

  same_call : (k p : ℕ) → IsSiteOf t k → call_line near k p ≡ call_line far k p
  unfolding call_line
  same_call k p site = ap (call_with near k p) (same_forced k site)

  same_block : (k : ℕ) (members : List ℕ) → block_line near k members ≡ block_line far k members
  unfolding block_line
  same_block k members = refl

  same_copy : (k : ℕ) (to from : CoreEnd) → IsEnd (scope_of c t) to → IsEnd (scope_of c t) from → copy_line near k to from ≡ copy_line far k to from
  unfolding copy_line
  same_copy k to from w v = λ i. copy_with near k (same_end to w i) (same_end from v i)

  mutual
    -- the lines of a statement
    same_lines : (s : CoreStmt) (level : ℕ) (branched : Bool) (turning : List ℕ) → IsCoreStmt (scope_of c t) level branched turning s → AllByRecursion (IsSiteOf t) (site_numbers s)
        → stmt_lines near s ≡ stmt_lines far s
    same_lines (stmt.Assign x e) level branched turning w all = refl
    same_lines (stmt.Point p array i) level branched turning w all = refl
    same_lines (stmt.If' e m yes_row n no_row) level branched turning w all =
        let one = same_row yes_row _ _ _ w.2 (first_all (IsSiteOf t) (row_numbers yes_row) (row_numbers no_row) all) in
        let other = same_row no_row _ _ _ w.3 (second_all (IsSiteOf t) (row_numbers yes_row) (row_numbers no_row) all) in
        λ i. one i ++ other i
    same_lines (stmt.Loop' v turns m row) level branched turning w all = same_row row _ _ _ w.5 all
    same_lines (stmt.Io k x p args) level branched turning w all = same_call k p all.0
    same_lines (stmt.Block' k m row) level branched turning w all =
        let own = same_block k (row_numbers row) in
        let rest = same_row row _ _ _ w.1 all.1 in
        λ i. own i ++ rest i
    same_lines (stmt.Copy k to from n) level branched turning w all = same_copy k to from w.2.0 w.3

    -- the lines of a row
    same_row : {n : _} (row : Row_of-CoreStmt n) (level : ℕ) (branched : Bool) (turning : List ℕ) → AreCoreStmts (scope_of c t) level branched turning row → AllByRecursion (IsSiteOf t) (row_numbers row)
        → row_lines near row ≡ row_lines far row
    same_row end_of-CoreStmt level branched turning w all = refl
    same_row (more_of-CoreStmt s rest) level branched turning w all =
        let one = same_lines s level branched turning w.0 (first_all (IsSiteOf t) (site_numbers s) (row_numbers rest) all) in
        let more = same_row rest level branched turning w.1 (second_all (IsSiteOf t) (site_numbers s) (row_numbers rest) all) in
        λ i. one i ++ more i

  -- the lines of statements
  same_body : (body : List CoreStmt) (level : ℕ) (branched : Bool) (turning : List ℕ) → AllByRecursion (IsCoreStmt (scope_of c t) level branched turning) body → AllByRecursion (IsSiteOf t) (all_numbers body)
      → body_lines near body ≡ body_lines far body
  same_body [] level branched turning w all = refl
  same_body (s ∷ rest) level branched turning w all =
      let one = same_lines s level branched turning w.0 (first_all (IsSiteOf t) (site_numbers s) (all_numbers rest) all) in
      let more = same_body rest level branched turning w.1 (second_all (IsSiteOf t) (site_numbers s) (all_numbers rest) all) in
      λ i. one i ++ more i

  -- the lines of the whole task
  pub told_is : (count : ℕ) (got : List CoreStmt) → count ≡ length t.sites → got ≡ t.body → IsWellFormed c → Contains c.tasks t → body_lines far t.body ≡ body_lines (near_by count) got
  told_is count got at_count at_body w has_it =
      let task = task_of c t w has_it in
      sym (same_body t.body _ _ _ task.body (subst (AllByRecursion (IsSiteOf t)) (sym task.sites.numbers) (all_sites 1 (length t.sites) (omega arith) (omega arith))))
      ∙ (λ i. body_lines (near_by (sym at_count i)) (sym at_body i))
