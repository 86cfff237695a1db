-- The sites of a task's statements: what stands at each, how many copies stand before it, and which come next.
use Rattle.std.proofs.Common.{◌≡◌, ◌∙◌, ℕ, zero, suc, ◌+◌, ◌<◌, ◌≤◌, Bool, true, false, cond, List, [], ◌∷◌, ◌++◌, length, map, filter, take, slice_get, slice_index_or, refl, sym, ap, subst, arith}
use Rattle.std.specs.Prelude.{Option, Some, None}
use Rattle.std.specs.Bool.{⊤}
use Rattle.std.specs.List.{range_with_len}
use Rattle.std.proofs.lemmas.List.{length-append, append_assoc}
use Rattle.task_ast.specs.declared.core_form.Array.{Array}
use Rattle.task_ast.specs.declared.core_form.CoreStmt.{CoreStmt, Row_of-CoreStmt, end_of-CoreStmt, more_of-CoreStmt}
use Rattle.task_ast.specs.declared.core_form.CoreStmt.TheVariants as stmt
use Rattle.task_ast.specs.declared.core_form.CoreTask.{CoreTask}
use Rattle.task_ast.specs.declared.core_form.Site.{Site}
use Rattle.task_ast.specs.declared.core_form.Site.TheVariants as site
use Rattle.task_ast.specs.CoreSites.{Standing, a_call, a_block, a_copy, standing_of, site_numbers, row_numbers, all_numbers, standings, row_standings, all_standings}
use Rattle.task_ast.specs.Pointing.{Pointing, pointing}
use Rattle.task_ast.specs.WellFormed.{HasItsSites}
use Rattle.io_depend.specs.Told.{IsSiteOf}
use Rattle.region_split.specs.Regions.{is_copy, copies, region_of, regions}
use Rattle.task_attempts.specs.Calls.{site_at}
use Rattle.run_plan.specs.Kinds.{standing_or_none, stands_at}

-- sites, each with what stands there
abbrev pub Placed : CoreTask → List ℕ → List Standing → Type 0
Placed t [] [] = ⊤
Placed t [] (x ∷ xs) = ⊥
Placed t (k ∷ ks) [] = ⊥
Placed t (k ∷ ks) (x ∷ xs) = (IsSiteOf t k × (stands_at t k ≡ Some x)) × Placed t ks xs

-- of two lists
pub placed_parts : (t : CoreTask) (ks ls : List ℕ) (xs ys : List Standing) → length ks ≡ length xs → Placed t (ks ++ ls) (xs ++ ys) → Placed t ks xs × Placed t ls ys
placed_parts t [] ls [] ys same all = (tt, all)
placed_parts t [] ls (x ∷ xs) ys same all = absurd (omega (arith, same))
placed_parts t (k ∷ ks) ls [] ys same all = absurd (omega (arith, same))
placed_parts t (k ∷ ks) ls (x ∷ xs) ys same all =
    let parts = placed_parts t ks ls xs ys (omega (arith, same)) all.1 in
    ((all.0, parts.0), parts.1)

joined_long : {A B : Type 0} (ks ls : List A) (xs ys : List B) → length ks ≡ length xs → length ls ≡ length ys → length (ks ++ ls) ≡ length (xs ++ ys)
joined_long ks ls xs ys one two = length-append ks ls ∙ (λ i. one i + two i) ∙ sym (length-append xs ys)

module _ (arrays : List Array) (points : Pointing) where
  mutual
    pub same_long : (s : CoreStmt) → length (site_numbers s) ≡ length (standings arrays points s)
    same_long (stmt.Assign x e) = refl
    same_long (stmt.Point p array i) = refl
    same_long (stmt.If' c m yes_row n no_row) = joined_long (row_numbers yes_row) (row_numbers no_row) (row_standings arrays points yes_row) (row_standings arrays points no_row) (row_long yes_row) (row_long no_row)
    same_long (stmt.Loop' i turns m row) = row_long row
    same_long (stmt.Io k x p args) = refl
    same_long (stmt.Block' k m row) = ap suc (row_long row)
    same_long (stmt.Copy k to from n) = refl

    pub row_long : {n : _} (row : Row_of-CoreStmt n) → length (row_numbers row) ≡ length (row_standings arrays points row)
    row_long end_of-CoreStmt = refl
    row_long (more_of-CoreStmt s rest) = joined_long (site_numbers s) (row_numbers rest) (standings arrays points s) (row_standings arrays points rest) (same_long s) (row_long rest)

-- the site behind others
behind_others : (before : List Site) (s : Site) (rest : List Site) → slice_get (before ++ s ∷ rest) (length before) ≡ Some s
behind_others [] s rest = refl
behind_others (b ∷ before) s rest = behind_others before s rest

placed_from : (t : CoreTask) (before behind : List Site) → t.sites ≡ before ++ behind → Placed t (range_with_len (length before + 1) (length behind)) (map standing_of behind)
placed_from t before [] is = tt
placed_from t before (s ∷ rest) is =
    let long : length t.sites ≡ length before + suc (length rest) = ap length is ∙ length-append before (s ∷ rest) in
    let more : length before + 1 ≡ suc (length before) = omega arith in
    let here : site_at t.sites (length before + 1) ≡ Some s = ap (λ sites. site_at sites (length before + 1)) is ∙ ap (site_at (before ++ s ∷ rest)) more ∙ behind_others before s rest in
    let next : length (before ++ s ∷ []) + 1 ≡ length before + 1 + 1 = ap (λ n. n + 1) (length-append before (s ∷ [])) in (
      (((omega arith), (omega (arith, long))), ap standing_or_none here),
      subst (λ m. Placed t (range_with_len m (length rest)) (map standing_of rest)) next (placed_from t (before ++ s ∷ []) rest (is ∙ sym (append_assoc before (s ∷ []) rest))),
    )

-- those of a task
pub task_placed : (arrays : List Array) (t : CoreTask) → HasItsSites arrays t → Placed t (all_numbers t.body) (all_standings arrays (pointing t) t.body)
task_placed arrays t w = subst (λ ks. Placed t ks (all_standings arrays (pointing t) t.body)) (sym w.numbers) (subst (Placed t (range_with_len 1 (length t.sites))) (sym w.standing) (placed_from t [] t.sites refl))

-- ---- copies up to a site

abbrev pub one_if_copy : Standing → ℕ
one_if_copy a_call = 0
one_if_copy a_block = 0
one_if_copy (a_copy n) = 1

copy_counts : (s : Site) → cond (is_copy s) 1 0 ≡ one_if_copy (standing_of s)
copy_counts (site.Io ann) = refl
copy_counts (site.Block ann) = refl
copy_counts (site.Copy n) = refl

longer : (b : Bool) (s : Site) (xs : List Site) → length (cond b (s ∷ xs) xs) ≡ cond b 1 0 + length xs
longer true s xs = omega arith
longer false s xs = omega arith

copies_more : (s : Site) (sites : List Site) → copies (s ∷ sites) ≡ cond (is_copy s) 1 0 + copies sites
copies_more s sites = longer (is_copy s) s (filter is_copy sites)

is_it : {A : Type 0} (x y : A) → Some x ≡ Some y → x ≡ y
is_it x y e = ap (λ o. out o x) e
  where
    out : {A : Type 0} → Option A → A → A
    out None d = d
    out (Some v) d = v

copies_next : (sites : List Site) (p : ℕ) (s : Site) → slice_get sites p ≡ Some s → copies (take (suc p) sites) ≡ copies (take p sites) + cond (is_copy s) 1 0
copies_next [] p s is = absurd (cc is)
copies_next (x ∷ xs) zero s is = copies_more x [] ∙ (let e : cond (is_copy x) 1 0 + 0 ≡ 0 + cond (is_copy x) 1 0 = omega arith in e) ∙ ap (λ y. 0 + cond (is_copy y) 1 0) (is_it x s is)
copies_next (x ∷ xs) (suc p) s is =
    let more = copies_next xs p s is in
    let one = copies_more x (take (suc p) xs) in
    let two = copies_more x (take p xs) in
    omega (arith, more, one, two)

pub copies_at : (t : CoreTask) (p : ℕ) (x : Standing) → stands_at t (p + 1) ≡ Some x → copies (take (p + 1) t.sites) ≡ copies (take p t.sites) + one_if_copy x
copies_at t p x is =
    let e : p + 1 ≡ suc p = omega arith in
    ap (λ k. copies (take k t.sites)) e ∙ by_site (slice_get t.sites p) refl (sym (ap (stands_at t) e) ∙ is)
  where
    by_site : (o : Option Site) → slice_get t.sites p ≡ o → standing_or_none (slice_get t.sites p) ≡ Some x → copies (take (suc p) t.sites) ≡ copies (take p t.sites) + one_if_copy x
    by_site None none is = absurd (let not : None ≡ Some x = sym (ap standing_or_none none) ∙ is in cc not)
    by_site (Some s) some is =
        copies_next t.sites p s some ∙ ap (λ n. copies (take p t.sites) + n) (copy_counts s ∙ ap one_if_copy (is_it (standing_of s) x (sym (ap standing_or_none some) ∙ is)))

one_copy : (b : Bool) (x : Site) (xs ys : List Site) → length xs ≤ length ys → length (cond b (x ∷ xs) xs) ≤ length (cond b (x ∷ ys) ys)
one_copy true x xs ys few = omega (arith, few)
one_copy false x xs ys few = few

fewer_copies : (k : ℕ) (sites : List Site) → copies (take k sites) ≤ copies sites
fewer_copies zero sites = omega arith
fewer_copies (suc k) [] = omega arith
fewer_copies (suc k) (s ∷ sites) = one_copy (is_copy s) s (filter is_copy (take k sites)) (filter is_copy sites) (fewer_copies k sites)

pub region_there : (t : CoreTask) (k : ℕ) → region_of t k < regions t
region_there t k = let few = fewer_copies k t.sites in omega (arith, few)

-- ---- sites that come next

abbrev tails : List ℕ → List ℕ
tails [] = []
tails (x ∷ xs) = xs

-- of two lists
numbers_parts : (ks ls : List ℕ) (m : ℕ) → ks ++ ls ≡ range_with_len m (length (ks ++ ls)) → (ks ≡ range_with_len m (length ks)) × (ls ≡ range_with_len (m + length ks) (length ls))
numbers_parts [] ls m is = let e : m ≡ m + 0 = omega arith in (refl, is ∙ ap (λ k. range_with_len k (length ls)) e)
numbers_parts (k ∷ ks) ls m is =
    let parts = numbers_parts ks ls (m + 1) (ap tails is) in
    let e : m + 1 + length ks ≡ m + suc (length ks) = omega arith in
    let first : k ≡ m = ap (λ xs. slice_index_or xs 0 k) is in
    ((λ i. first i ∷ parts.0 i), parts.1 ∙ ap (λ j. range_with_len j (length ls)) e)

-- these sites come next behind so many
abbrev pub Next : (p : ℕ) → List ℕ → Type 0
Next p ks = ks ≡ range_with_len (p + 1) (length ks)

pub front_next : (ks ls : List ℕ) (p : ℕ) → Next p (ks ++ ls) → Next p ks
front_next ks ls p next = (numbers_parts ks ls (p + 1) next).0

pub back_next : (ks ls : List ℕ) (p : ℕ) → Next p (ks ++ ls) → Next (p + length ks) ls
back_next ks ls p next = (numbers_parts ks ls (p + 1) next).1 ∙ (let e : p + 1 + length ks ≡ p + length ks + 1 = omega arith in ap (λ m. range_with_len m (length ls)) e)

-- the first of them
pub first_next : (k : ℕ) (ks : List ℕ) (p : ℕ) → Next p (k ∷ ks) → k ≡ p + 1
first_next k ks p next = ap (λ xs. slice_index_or xs 0 k) next
