-- What comes behind a site changes nothing of what the site depends on.
use Rattle.std.proofs.Common.{◌≡◌, ◌∙◌, ◌⊎◌, ℕ, suc, ◌+◌, ◌-◌, ◌<◌, ◌≤◌, Bool, true, false, ◌||◌, ◌==◌, List, [], ◌∷◌, ◌++◌, length, refl, sym, ap, arith}
use Rattle.std.specs.List.{list_any}
use Rattle.std.proofs.lemmas.Bool.{cases_lt, or_parts, true≢false}
use mathlib.Core.Logic.{⊎_elim}
use Rattle.task_ast.specs.declared.core_form.CoreStmt.{CoreStmt, Row_of-CoreStmt, end_of-CoreStmt, more_of-CoreStmt}
use Rattle.task_ast.specs.declared.core_form.CoreStmt.TheVariants as stmt
use Rattle.task_ast.specs.declared.core_form.CoreTask.{CoreTask}
use Rattle.task_ast.specs.CoreSites.{site_numbers, row_numbers, all_numbers}
use Rattle.task_ast.specs.Pointing.{Pointing, pointing, target_arrays, reading_arrays, end_arrays}
use Rattle.io_depend.specs.Sets.{has, joined, has_some}
use Rattle.io_depend.specs.Flow.{Carrying, carries, target_carries, reading_carries, copy_carries, row_reads, row_assigns, row_moves, into_arrays, into_pointers, into_sites, no_sites, no_carrying, passed, row_passed, all_passed}
use Rattle.io_depend.specs.Depend.{flow, depends}
use Rattle.io_depend.proofs.SetLemmas.{has_append, has_joined, or_none}
use Rattle.io_depend.specs.RangeLaws.{has_past, has_filter}

-- what is put into arrays and pointers finds no site
arrays_sites : (flows : Bool) (xs : List ℕ) (c : Carrying) → (into_arrays flows xs c).sites ≡ c.sites
arrays_sites true xs c = refl
arrays_sites false xs c = refl

pointers_sites : (flows : Bool) (xs : List ℕ) (c : Carrying) → (into_pointers flows xs c).sites ≡ c.sites
pointers_sites true xs c = refl
pointers_sites false xs c = refl

-- another site is found
other_site : (flows : Bool) (j k : ℕ) (c : Carrying) → (j == k) ≡ false → has (into_sites flows j c).sites k ≡ has c.sites k
other_site true j k c apart = ap (λ t. t || has c.sites k) apart
other_site false j k c apart = refl

both_same : (t : Bool) → (t || t) ≡ t
both_same true = refl
both_same false = refl

module _ (points : Pointing) (sources : ℕ → Bool) (k : ℕ) where
  alone : (j : ℕ) → has (j ∷ []) k ≡ false → (j == k) ≡ false
  alone j apart = sym (or_none (j == k)) ∙ apart

  mutual
    -- a site that isn't the statement's is found where it was before
    kept : (s : CoreStmt) → has (site_numbers s) k ≡ false → (around : Bool) (c : Carrying) → has (passed points sources s around c).sites k ≡ has c.sites k
    kept (stmt.Assign x e) apart around c = ap (λ xs. has xs k) (arrays_sites (around || (target_carries points c x || carries points c e)) (target_arrays points x) c)
    kept (stmt.Point p array i) apart around c = ap (λ xs. has xs k) (pointers_sites (around || carries points c i) (p ∷ []) c)
    kept (stmt.If' e m yes_row n no_row) apart around c =
        let inside = around || carries points c e in
        let both = or_parts (has (row_numbers yes_row) k) (has (row_numbers no_row) k) (sym (has_append (row_numbers yes_row) (row_numbers no_row) k) ∙ apart) in
        has_joined (row_passed points sources yes_row inside c).sites (row_passed points sources no_row inside c).sites k
        ∙ (λ i. row_kept yes_row both.0 inside c i || row_kept no_row both.1 inside c i) ∙ both_same (has c.sites k)
    kept (stmt.Loop' i turns m row) apart around c =
        let flows = around || row_reads points c row in
        ap (λ xs. has xs k) (pointers_sites flows (row_moves row) (into_arrays flows (i ∷ row_assigns points row) c) ∙ arrays_sites flows (i ∷ row_assigns points row) c)
    kept (stmt.Io j x p args) apart around c =
        let found = around || list_any (carries points c) args in
        ap (λ xs. has xs k) (arrays_sites (sources j || (around || reading_carries points c x)) (reading_arrays points x) (into_sites found j c)) ∙ other_site found j k c (alone j apart)
    kept (stmt.Block' j m row) apart around c =
        let both = or_parts (j == k) (has (row_numbers row) k) apart in
        let inside = row_passed points sources row around (no_sites c) in
        other_site (around || has_some inside.sites) j k (record inside { sites = inside.sites ++ c.sites }) both.0
        ∙ has_append inside.sites c.sites k ∙ ap (λ t. t || has c.sites k) (row_kept row both.1 around (no_sites c))
    kept (stmt.Copy j to from n) apart around c =
        let flows = around || copy_carries points c to from n in
        ap (λ xs. has xs k) (arrays_sites flows (end_arrays points to) (into_sites flows j c)) ∙ other_site flows j k c (alone j apart)

    row_kept : {n : _} (row : Row_of-CoreStmt n) → has (row_numbers row) k ≡ false → (around : Bool) (c : Carrying) → has (row_passed points sources row around c).sites k ≡ has c.sites k
    row_kept end_of-CoreStmt apart around c = refl
    row_kept (more_of-CoreStmt s rest) apart around c =
        let both = or_parts (has (site_numbers s) k) (has (row_numbers rest) k) (sym (has_append (site_numbers s) (row_numbers rest) k) ∙ apart) in
        row_kept rest both.1 around (passed points sources s around c) ∙ kept s both.0 around c

  all_kept : (body : List CoreStmt) → has (all_numbers body) k ≡ false → (around : Bool) (c : Carrying) → has (all_passed points sources body around c).sites k ≡ has c.sites k
  all_kept [] apart around c = refl
  all_kept (s ∷ rest) apart around c =
      let both = or_parts (has (site_numbers s) k) (has (all_numbers rest) k) (sym (has_append (site_numbers s) (all_numbers rest) k) ∙ apart) in
      all_kept rest both.1 around (passed points sources s around c) ∙ kept s both.0 around c

passed_append : (points : Pointing) (sources : ℕ → Bool) (xs ys : List CoreStmt) (around : Bool) (c : Carrying)
    → all_passed points sources (xs ++ ys) around c ≡ all_passed points sources ys around (all_passed points sources xs around c)
passed_append points sources [] ys around c = refl
passed_append points sources (s ∷ xs) ys around c = passed_append points sources xs ys around (passed points sources s around c)

-- a site depends on earlier ones alone
pub later : (t : CoreTask) (site k : ℕ) → depends t site k ≡ true → site < k
later t site k is = ⊎_elim (λ h. h)
    (λ h. absurd (true≢false (sym is ∙ has_past (has (flow t site).sites) k (site + 1) (length t.sites - site) (omega (arith, h)))))
    (cases_lt site k)

same_flow : (t longer : CoreTask) (more : List CoreStmt) → longer.body ≡ t.body ++ more → ((p : ℕ) → pointing longer p ≡ pointing t p) → (site k : ℕ) → has (all_numbers more) k ≡ false
    → has (flow longer site).sites k ≡ has (flow t site).sites k
same_flow t longer more is points site k apart =
    (λ i. has (all_passed (λ p. points p i) (λ j. j == site) (is i) false no_carrying).sites k)
    ∙ ap (λ c. has c.sites k) (passed_append (pointing t) (λ j. j == site) t.body more false no_carrying)
    ∙ all_kept (pointing t) (λ j. j == site) k more apart false (flow t site)

pub same_before : (t longer : CoreTask) (more : List CoreStmt) → longer.body ≡ t.body ++ more → ((p : ℕ) → pointing longer p ≡ pointing t p) → length t.sites ≤ length longer.sites
    → (site k : ℕ) → k ≤ length t.sites → has (all_numbers more) k ≡ false → depends longer site k ≡ depends t site k
same_before t longer more is points long site k within apart = ⊎_elim
    (λ h. has_filter (has (flow longer site).sites) k (site + 1) (length longer.sites - site) (omega (arith, h)) (omega (arith, h, within, long))
    ∙ same_flow t longer more is points site k apart
    ∙ sym (has_filter (has (flow t site).sites) k (site + 1) (length t.sites - site) (omega (arith, h)) (omega (arith, h, within))))
    (λ h. has_past (has (flow longer site).sites) k (site + 1) (length longer.sites - site) (omega (arith, h))
    ∙ sym (has_past (has (flow t site).sites) k (site + 1) (length t.sites - site) (omega (arith, h))))
    (cases_lt site k)
