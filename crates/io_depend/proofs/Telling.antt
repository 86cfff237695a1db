-- What the rows of a task tell is what the definition says.
use Rattle.std.proofs.Common.{◌≡◌, ◌∙◌, ◌⊎◌, ℕ, zero, suc, ◌+◌, ◌-◌, ◌*◌, ◌^◌, ◌<◌, ◌≤◌, Bool, true, false, not, ◌||◌, ◌&&◌, ◌==◌, cond, List, [], ◌∷◌, ◌++◌, length, filter, replicate, slice_index, slice_index_or, bit_and, Contains, refl, sym, ap, subst, arith}
use Rattle.std.specs.Int.{bit_at}
use Rattle.std.specs.List.{AllByRecursion, list_any, range_with_len}
use Rattle.std.proofs.lemmas.Bool.{cases_eq, cases_lt, eq-eqb, ne_eqb, lt-ltb, le-ltb}
use Rattle.std.proofs.lemmas.Nat.{pow_pos}
use Rattle.std.proofs.lemmas.Nat.Bits.{and_pow}
use Rattle.std.proofs.lemmas.List.{length-replicate, get_or-replicate}
use Rattle.std.proofs.lemmas.List.FromFn.{get_or-map-range_with_len}
use mathlib.Core.Logic.{⊎_elim}
use Rattle.task_ast.specs.declared.core_form.CoreStmt.{CoreStmt, Row_of-CoreStmt, end_of-CoreStmt, more_of-CoreStmt}
use Rattle.task_ast.specs.declared.core_form.CoreStmt.TheVariants as stmt
use Rattle.task_ast.specs.declared.core_form.CoreTask.{CoreTask}
use Rattle.task_ast.specs.declared.core_form.Core.{Core}
use Rattle.task_ast.specs.Pointing.{addresses, row_addresses, all_addresses}
use Rattle.task_ast.specs.WellFormed.{Scope, IsCoreStmt, AreCoreStmts, IsCoreTask, IsWellFormed, scope_of}
use Rattle.io_depend.specs.Sets.{has}
use Rattle.io_depend.specs.Flow.{no_carrying}
use Rattle.io_depend.specs.Depend.{flow, depends}
use Rattle.io_depend.specs.Marks.{given_arrays, all_given}
use Rattle.io_depend.specs.Rows.{Rows, has_bit, own_bit, listed, no_rows, all_done}
use Rattle.io_depend.specs.Told.{Tells, IsSiteOf, tells_later}
use Rattle.io_depend.specs.RangeLaws.{any_cond, has_past, has_filter}
use Rattle.io_depend.proofs.SetLemmas.{or_none, and_none, and_all}
use Rattle.io_depend.proofs.BitLemmas.{bit_of_none}
use Rattle.io_depend.proofs.Agreement.{SamePoints, Agrees}
use Rattle.io_depend.proofs.Passing.{all_agree}

-- what is found in a filtered range
mixed : (g h f x y : Bool) → (((g || h) && f) || (x || y)) ≡ (((g && f) || x) || ((h && f) || y))
mixed true h true x y = refl
mixed true true false x y = refl
mixed true false false x y = refl
mixed false true true true y = refl
mixed false true true false y = refl
mixed false true false x y = refl
mixed false false f x y = refl

any_or : (f g h : ℕ → Bool) (xs : List ℕ) → list_any f (filter (λ a. g a || h a) xs) ≡ (list_any f (filter g xs) || list_any f (filter h xs))
any_or f g h [] = refl
any_or f g h (a ∷ xs) =
    any_cond f (g a || h a) a (filter (λ x. g x || h x) xs) ∙ ap (λ t. ((g a || h a) && f a) || t) (any_or f g h xs)
    ∙ mixed (g a) (h a) (f a) (list_any f (filter g xs)) (list_any f (filter h xs))
    ∙ (λ i. sym (any_cond f (g a) a (filter g xs)) i || sym (any_cond f (h a) a (filter h xs)) i)

any_none : (f : ℕ → Bool) (xs : List ℕ) → list_any f (filter (λ a. false) xs) ≡ false
any_none f [] = refl
any_none f (a ∷ xs) = any_none f xs

any_past : (f : ℕ → Bool) (x m n : ℕ) → x < m → list_any f (filter (λ a. x == a) (range_with_len m n)) ≡ false
any_past f x m zero past = refl
any_past f x m (suc n) past =
    any_cond f (x == m) m (filter (λ a. x == a) (range_with_len (m + 1) n)) ∙ ap (λ t. (t && f m) || list_any f (filter (λ a. x == a) (range_with_len (m + 1) n))) (ne_eqb x m (λ e. absurd (omega (arith, e))))
    ∙ any_past f x (m + 1) n (omega arith)

any_one : (f : ℕ → Bool) (x m n : ℕ) → m ≤ x → x < m + n → list_any f (filter (λ a. x == a) (range_with_len m n)) ≡ f x
any_one f x m zero low high = absurd (omega arith)
any_one f x m (suc n) low high =
    any_cond f (x == m) m (filter (λ a. x == a) (range_with_len (m + 1) n))
    ∙ here (cases_eq x m) (λ e. any_past f x (m + 1) n (omega (arith, e))) (λ apart. any_one f x (m + 1) n (omega (arith, above low apart)) (omega arith))
  where
    above : m ≤ x → (x ≡ m → ⊥) → m < x
    above l apart = ⊎_elim (λ h. h) (λ h. absurd (apart (omega (arith, l, h)))) (cases_lt m x)

    here : (x ≡ m) ⊎ (x ≡ m → ⊥) → (x ≡ m → list_any f (filter (λ a. x == a) (range_with_len (m + 1) n)) ≡ false) → ((x ≡ m → ⊥) → list_any f (filter (λ a. x == a) (range_with_len (m + 1) n)) ≡ f x)
        → (((x == m) && f m) || list_any f (filter (λ a. x == a) (range_with_len (m + 1) n))) ≡ f x
    here cases past later = ⊎_elim
        (λ e. (λ i. (eq-eqb x m e i && f m) || past e i) ∙ or_none (f m) ∙ ap f (sym e))
        (λ apart. (λ i. (ne_eqb x m apart i && f m) || later apart i)) cases

any_given : (f : ℕ → Bool) (n : ℕ) (xs : List ℕ) → AllByRecursion (λ a. a < n) xs → list_any f (filter (has xs) (range_with_len 0 n)) ≡ list_any f xs
any_given f n [] all = any_none f (range_with_len 0 n)
any_given f n (x ∷ xs) all =
    any_or f (λ a. x == a) (has xs) (range_with_len 0 n) ∙ (λ i. any_one f x 0 n (omega arith) (omega (arith, all.0)) i || any_given f n xs all.1 i)

-- addresses that statements give are of arrays that are there
one_there : (P : ℕ → Type 0) (t : Bool) (a : ℕ) → P a → AllByRecursion P (cond t (a ∷ []) [])
one_there P true a there = (there, tt)
one_there P false a there = tt

both_there : (P : ℕ → Type 0) (xs ys : List ℕ) → AllByRecursion P xs → AllByRecursion P ys → AllByRecursion P (xs ++ ys)
both_there P [] ys all more = more
both_there P (x ∷ xs) ys all more = (all.0, both_there P xs ys all.1 more)

module _ (s : Scope) (p : ℕ) where
  mutual
    there : (t : CoreStmt) (level : ℕ) (branched : Bool) (turning : List ℕ) → IsCoreStmt s level branched turning t → AllByRecursion (λ a. a < length s.arrays) (addresses p t)
    there (stmt.Assign x e) level branched turning w = tt
    there (stmt.Point q array i) level branched turning w = one_there (λ a. a < length s.arrays) (q == p) array w.2
    there (stmt.If' e m yes_row n no_row) level branched turning w = both_there _ (row_addresses p yes_row) (row_addresses p no_row) (row_there yes_row _ _ _ w.2) (row_there no_row _ _ _ w.3)
    there (stmt.Loop' i turns m body) level branched turning w = row_there body _ _ _ w.5
    there (stmt.Io k x q args) level branched turning w = tt
    there (stmt.Block' k m body) level branched turning w = row_there body _ _ _ w.1
    there (stmt.Copy k to from n) level branched turning w = tt

    row_there : {n : _} (body : Row_of-CoreStmt n) (level : ℕ) (branched : Bool) (turning : List ℕ) → AreCoreStmts s level branched turning body → AllByRecursion (λ a. a < length s.arrays) (row_addresses p body)
    row_there end_of-CoreStmt level branched turning w = tt
    row_there (more_of-CoreStmt t rest) level branched turning w =
        both_there _ (addresses p t) (row_addresses p rest) (there t level branched turning w.0) (row_there rest level branched turning w.1)

  pub all_there : (body : List CoreStmt) (level : ℕ) (branched : Bool) (turning : List ℕ) → AllByRecursion (IsCoreStmt s level branched turning) body → AllByRecursion (λ a. a < length s.arrays) (all_addresses p body)
  all_there [] level branched turning w = tt
  all_there (t ∷ rest) level branched turning w =
      both_there _ (addresses p t) (all_addresses p rest) (there t level branched turning w.0) (all_there rest level branched turning w.1)

-- the test of a bit
one_or_none : (x y : ℕ) → x < 2 → 0 < y → not (x * y == 0) ≡ (x == 1)
one_or_none zero y small some = let none : 0 * y ≡ 0 = omega arith in ap (λ n. not (n == 0)) none
one_or_none (suc zero) y small some = ap not (ne_eqb (1 * y) 0 (λ e. absurd (omega (arith, e))))
one_or_none (suc (suc x)) y small some = absurd (omega arith)

bit_test : (row b : ℕ) → b < 128 → not (bit_and row (own_bit (suc b)) == 0) ≡ has_bit row b
bit_test row b small =
    ap (λ t. not (bit_and row (cond t (2 ^ b) 0) == 0)) (lt-ltb b 128 small)
    ∙ ap (λ n. not (n == 0)) (and_pow row b) ∙ one_or_none (bit_at row b) (2 ^ b) (omega arith) (pow_pos b)

-- a task of a list of which something is said
task_at : {X : Type 0} (P : X → Type 0) (xs : List X) (k : ℕ) (x : X) → k < length xs → AllByRecursion P xs → P (slice_index_or xs k x)
task_at P [] k x l all = absurd (omega arith)
task_at P (y ∷ xs) zero x l all = all.0
task_at P (y ∷ xs) (suc k) x l all = task_at P xs k x (omega arith) all.1

pub task_of : (c : Core) (t : CoreTask) → IsWellFormed c → Contains c.tasks t → IsCoreTask c t
task_of c t w has_it = subst (IsCoreTask c) has_it.2 (task_at (IsCoreTask c) c.tasks has_it.0 t has_it.1 w.tasks)

module _ (c : Core) (t : CoreTask) (w : IsCoreTask c t) where
  listed_at : (p : ℕ) → p < length c.pointers → listed (all_given t.body (length c.arrays) (length c.pointers)) p ≡ given_arrays t.body (length c.arrays) p
  listed_at p l = get_or-map-range_with_len (given_arrays t.body (length c.arrays)) 0 (length c.pointers) p p [] l (omega arith)

  same_points : SamePoints (scope_of c t) (listed (all_given t.body (length c.arrays) (length c.pointers)))
  same_points = record {
    any = λ p l f. ap (list_any f) (listed_at p l) ∙ any_given f (length c.arrays) (all_addresses p t.body) (all_there (scope_of c t) p t.body _ _ _ w.body);
    below = λ p l. all_there (scope_of c t) p t.body _ _ _ w.body;
  }

  empty_row : (n x b : ℕ) → x < n → has_bit (slice_index (replicate n 0) x) b ≡ false
  empty_row n x b l = ap (λ row. has_bit row b) (get_or-replicate n x 0 0 l) ∙ bit_of_none b

  begins : (b : ℕ) → Agrees b (scope_of c t) (length t.sites + 1) [] false (no_rows (length c.arrays) (length c.pointers) (length t.sites)) no_carrying
  begins b = record {
    array_rows = length-replicate (length c.arrays) 0;
    pointer_rows = length-replicate (length c.pointers) 0;
    site_rows = length-replicate (length t.sites + 1) 0;
    arrays = λ x l. empty_row (length c.arrays) x b l;
    pointers = λ x l. empty_row (length c.pointers) x b l;
    sites = λ x l. empty_row (length t.sites + 1) x b l;
    found = bit_of_none b;
  }

  ends : (b : ℕ) → b < 128 → Agrees b (scope_of c t) (length t.sites + 1) [] false (all_done (listed (all_given t.body (length c.arrays) (length c.pointers))) t.body 0 (no_rows (length c.arrays) (length c.pointers) (length t.sites))) (flow t (suc b))
  ends b small = all_agree b (scope_of c t) (listed (all_given t.body (length c.arrays) (length c.pointers))) (length t.sites + 1) small same_points t.body _ _ _ w.body 0 false (bit_of_none b) [] false _ no_carrying (begins b)

  tells_one : (sites : List ℕ) → sites ≡ (all_done (listed (all_given t.body (length c.arrays) (length c.pointers))) t.body 0 (no_rows (length c.arrays) (length c.pointers) (length t.sites))).sites
      → (site k : ℕ) → IsSiteOf t site → IsSiteOf t k → tells_later (record { sites = sites; points = all_given t.body (length c.arrays) (length c.pointers) }) site k ≡ depends t site k
  tells_one sites is zero k at to = absurd (omega (arith, at.0))
  tells_one sites is (suc b) k at to =
      let small : b < 128 = omega (arith, at.1, w.sites.few) in
      let row = slice_index sites k in
      let bit : has_bit row b ≡ has (flow t (suc b)).sites k =
      ap (λ rows. has_bit (slice_index rows k) b) is ∙ (ends b small).sites k (omega (arith, to.1)) ∙ or_none (has (flow t (suc b)).sites k) in
      ⊎_elim
      (λ later. ap (λ u. u && not (bit_and row (own_bit (suc b)) == 0)) (lt-ltb (suc b) k later) ∙ bit_test row b small ∙ bit
      ∙ sym (has_filter (has (flow t (suc b)).sites) k (suc b + 1) (length t.sites - suc b) (omega (arith, later)) (omega (arith, at.1, to.1, later))))
      (λ before. ap (λ u. u && not (bit_and row (own_bit (suc b)) == 0)) (le-ltb (suc b) k before)
      ∙ sym (has_past (has (flow t (suc b)).sites) k (suc b + 1) (length t.sites - suc b) (omega (arith, before))))
      (cases_lt (suc b) k)

  pub tells : (sites : List ℕ) (points : List (List ℕ)) → sites ≡ (all_done (listed (all_given t.body (length c.arrays) (length c.pointers))) t.body 0 (no_rows (length c.arrays) (length c.pointers) (length t.sites))).sites
      → points ≡ all_given t.body (length c.arrays) (length c.pointers) → Tells c t (record { sites = sites; points = points })
  tells sites points is given = record {
    later = λ site k at to. ap (λ ps. tells_later (record { sites = sites; points = ps }) site k) given ∙ tells_one sites is site k at to;
    points = given;
  }

  -- the same by what the code made on its way
  pub told : (arrays pointers sites : ℕ) (first second : List CoreStmt) (points used : List (List ℕ)) (made after : Rows) (rows : List ℕ)
      → arrays ≡ length c.arrays → pointers ≡ length c.pointers → sites ≡ length t.sites → first ≡ t.body → second ≡ t.body
      → points ≡ all_given first arrays pointers → used ≡ points → made ≡ no_rows arrays pointers sites → after ≡ all_done (listed used) second 0 made → rows ≡ after.sites
      → Tells c t (record { sites = rows; points = points })
  told arrays pointers sites first second points used made after rows a p s f g given same fresh passes taken =
      let given_is = given ∙ (λ i. all_given (f i) (a i) (p i)) in
      tells rows points (taken ∙ ap (λ r. r.sites) (passes ∙ (λ i. all_done (listed ((same ∙ given_is) i)) (g i) 0 ((fresh ∙ (λ j. no_rows (a j) (p j) (s j))) i)))) given_is
