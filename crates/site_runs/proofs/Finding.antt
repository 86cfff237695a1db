-- What stands at a site of a task, and that the statement of a site is the one that is found.
use Rattle.std.specs.Prelude.{◌-◌, Option, Some, None}
use Rattle.std.proofs.Common.{◌≡◌, ◌∙◌, ℕ, zero, suc, ◌+◌, ◌<◌, ◌≤◌, ◌==◌, cond, List, [], ◌∷◌, ◌++◌, length, slice_get, refl, sym, ap, arith}
use Rattle.std.proofs.lemmas.Bool.{eq-eqb, ne_eqb}
use Rattle.std.proofs.lemmas.List.{length-append}
use Rattle.task_ast.specs.declared.tree.Ann.{Ann}
use Rattle.task_ast.specs.declared.core_form.CoreStmt.{CoreStmt, Row_of-CoreStmt, end_of-CoreStmt, more_of-CoreStmt}
use Rattle.task_ast.specs.declared.core_form.CoreStmt.TheVariants as stmt
use Rattle.task_ast.specs.declared.core_form.CoreTask.{CoreTask}
use Rattle.task_ast.specs.declared.core_form.Site.{Site}
use Rattle.task_ast.specs.declared.core_form.Site.TheVariants as site
use Rattle.task_ast.specs.CoreSites.{a_block, a_call, a_copy, row_numbers, site_numbers}
use Rattle.io_depend.specs.Told.{IsSiteOf}
use Rattle.task_attempts.specs.Calls.{site_at}
use Rattle.run_plan.specs.Finding.{found_in, found_in_row, or_else}
use Rattle.run_plan.specs.Kinds.{standing_or_none}
use Rattle.plan_laws.specs.PlacedSites.{Next, back_next, first_next, front_next}
use Rattle.cell_laws.specs.Standing.{IsSite}

-- ---- what stands at a site

-- a call, with its annotation
pub call_there : (o : Option Site) → standing_or_none o ≡ Some a_call → (ann : Ann) × (o ≡ Some (site.Io ann))
call_there None is = absurd (cc is)
call_there (Some (site.Io ann)) is = (ann, refl)
call_there (Some (site.Block ann)) is = absurd (cc is)
call_there (Some (site.Copy n)) is = absurd (cc is)

pub block_there : (o : Option Site) → standing_or_none o ≡ Some a_block → (ann : Ann) × (o ≡ Some (site.Block ann))
block_there None is = absurd (cc is)
block_there (Some (site.Io ann)) is = absurd (cc is)
block_there (Some (site.Block ann)) is = (ann, refl)
block_there (Some (site.Copy n)) is = absurd (cc is)

-- a copy, with its greatest length
pub copy_there : (n : ℕ) (o : Option Site) → standing_or_none o ≡ Some (a_copy n) → o ≡ Some (site.Copy n)
copy_there n None is = absurd (cc is)
copy_there n (Some (site.Io ann)) is = absurd (cc is)
copy_there n (Some (site.Block ann)) is = absurd (cc is)
copy_there n (Some (site.Copy m)) is = let same : m ≡ n = cc is in ap (λ x. Some (site.Copy x)) same

-- a site by its place in the list
pub by_place : (sites : List Site) (k : ℕ) (x : Site) → site_at sites k ≡ Some x → slice_get sites (k - 1) ≡ Some x
by_place sites zero x there = absurd (cc there)
by_place sites (suc k) x there = let same : suc k - 1 ≡ k = omega arith in ap (slice_get sites) same ∙ there

pub to_site : (sites : List Site) (k : ℕ) (x : Site) → IsSite k → slice_get sites (k - 1) ≡ Some x → site_at sites k ≡ Some x
to_site sites zero x is there = let from : 1 ≤ 0 = is.from in absurd (omega (arith, from))
to_site sites (suc k) x is there = let same : suc k - 1 ≡ k = omega arith in ap (slice_get sites) (sym same) ∙ there

-- the sites of a task are within the limit
pub numbered : (t : CoreTask) (k : ℕ) → length t.sites ≤ 128 → IsSiteOf t k → IsSite k
numbered t k few is = record { from = omega (arith, is.0); few = omega (arith, is.1, few) }

-- ---- the statement of a site is the one that is found

-- what is found in a part, among the sites behind a number, is what the task has there
abbrev pub IsFound : (Option CoreStmt → ℕ → Type 0) → (behind : ℕ) → (ℕ → Option CoreStmt) → Type 0
IsFound Has behind found = (j : ℕ) (x : CoreStmt) → behind < j → found j ≡ Some x → Has (Some x) j

both_none : (o u : Option CoreStmt) → o ≡ None → u ≡ None → or_else o u ≡ None
both_none None u one two = two
both_none (Some x) u one two = absurd (cc one)

not_it : (k j : ℕ) (s : CoreStmt) (other : Option CoreStmt) → (k ≡ j → ⊥) → other ≡ None → cond (k == j) (Some s) other ≡ None
not_it k j s other apart none = ap (λ b. cond b (Some s) other) (ne_eqb k j apart) ∙ none

mutual
  -- sites behind those of a statement aren't found in it
  pub beyond : (s : CoreStmt) (q : ℕ) → Next q (site_numbers s) → (j : ℕ) → q + length (site_numbers s) < j → found_in j s ≡ None
  beyond (stmt.Assign x e) q next j less = refl
  beyond (stmt.Point r array i) q next j less = refl
  beyond (stmt.If' e m yes_row n no_row) q next j less =
      let ks = row_numbers yes_row in
      let ls = row_numbers no_row in
      let long : length (ks ++ ls) ≡ length ks + length ls = length-append ks ls in
      both_none (found_in_row j yes_row) (found_in_row j no_row) (row_beyond yes_row q (front_next ks ls q next) j (omega (arith, less, long)))
      (row_beyond no_row (q + length ks) (back_next ks ls q next) j (omega (arith, less, long)))
  beyond (stmt.Loop' i turns m row) q next j less = refl
  beyond (stmt.Io k x r args) q next j less = let is = first_next k [] q next in not_it k j (stmt.Io k x r args) None (λ same. omega (arith, less, is, same)) refl
  beyond (stmt.Block' k m row) q next j less =
      let is = first_next k (row_numbers row) q next in
      not_it k j (stmt.Block' k m row) (found_in_row j row) (λ same. omega (arith, less, is, same)) (row_beyond row (q + 1) (back_next (k ∷ []) (row_numbers row) q next) j (omega (arith, less)))
  beyond (stmt.Copy k to from n) q next j less = let is = first_next k [] q next in not_it k j (stmt.Copy k to from n) None (λ same. omega (arith, less, is, same)) refl

  pub row_beyond : {n : _} (row : Row_of-CoreStmt n) (q : ℕ) → Next q (row_numbers row) → (j : ℕ) → q + length (row_numbers row) < j → found_in_row j row ≡ None
  row_beyond end_of-CoreStmt q next j less = refl
  row_beyond (more_of-CoreStmt s rest) q next j less =
      let ks = site_numbers s in
      let ls = row_numbers rest in
      let long : length (ks ++ ls) ≡ length ks + length ls = length-append ks ls in
      both_none (found_in j s) (found_in_row j rest) (beyond s q (front_next ks ls q next) j (omega (arith, less, long))) (row_beyond rest (q + length ks) (back_next ks ls q next) j (omega (arith, less, long)))

-- what is found in the first of two parts, and in the second
pub found_front : (Has : Option CoreStmt → ℕ → Type 0) (q : ℕ) (f g : ℕ → Option CoreStmt) → IsFound Has q (λ j. or_else (f j) (g j)) → IsFound Has q f
found_front Has q f g found j x less is = found j x less (ap (λ o. or_else o (g j)) is)

pub found_back : (Has : Option CoreStmt → ℕ → Type 0) (q n : ℕ) (f g : ℕ → Option CoreStmt) → ((j : ℕ) → q + n < j → f j ≡ None) → IsFound Has q (λ j. or_else (f j) (g j)) → IsFound Has (q + n) g
found_back Has q n f g none found j x less is = found j x (omega (arith, less)) (ap (λ o. or_else o (g j)) (none j less) ∙ is)

pub found_inside : (Has : Option CoreStmt → ℕ → Type 0) (q k : ℕ) (s : CoreStmt) (g : ℕ → Option CoreStmt) → k ≡ q + 1 → IsFound Has q (λ j. cond (k == j) (Some s) (g j)) → IsFound Has (q + 1) g
found_inside Has q k s g is_k found j x less is = found j x (omega (arith, less)) (ap (λ b. cond b (Some s) (g j)) (ne_eqb k j (λ same. omega (arith, less, is_k, same))) ∙ is)

pub found_itself : (Has : Option CoreStmt → ℕ → Type 0) (q k : ℕ) (s : CoreStmt) → k ≡ q + 1 → IsFound Has q (λ j. cond (k == j) (Some s) None) → Has (Some s) k
found_itself Has q k s is_k found = found k s (omega (arith, is_k)) (ap (λ b. cond b (Some s) None) (eq-eqb k k refl))
