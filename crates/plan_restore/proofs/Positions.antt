-- Where a task's sites stand: the regions that are saved behind so many sites, what may be written there, and what a site is
-- valued at.
use Rattle.std.proofs.Common.{◌≡◌, ◌∙◌, ℕ, zero, suc, ◌+◌, Bool, true, false, ◌==◌, cond, List, [], ◌∷◌, ◌++◌, length, map, take, refl, sym, ap, subst, arith, eqb-true}
use Rattle.std.specs.Prelude.{Option, Some, None}
use Rattle.std.specs.Bool.{⊤}
use Rattle.std.specs.List.{AllByRecursion}
use Rattle.std.proofs.lemmas.Bool.{or_left, or_right}
use Rattle.std.proofs.lemmas.List.{length-append}
use Rattle.task_ast.specs.declared.core_form.CoreStmt.{CoreStmt, Row_of-CoreStmt, end_of-CoreStmt, more_of-CoreStmt}
use Rattle.task_ast.specs.declared.core_form.CoreStmt.TheVariants as stmt
use Rattle.task_ast.specs.declared.core_form.CoreTask.{CoreTask}
use Rattle.task_ast.specs.declared.core_form.Core.{Core}
use Rattle.task_ast.specs.CoreSites.{Standing, a_call, a_block, a_copy, site_numbers, row_numbers, all_numbers, standings, row_standings, all_standings}
use Rattle.task_ast.specs.Pointing.{Pointing, pointing, target_arrays, reading_arrays, end_arrays}
use Rattle.region_split.specs.Regions.{Touch, may_write, next_region, touches, row_touches, all_touches, writes_in, copies, region_of}
use Rattle.run_plan.specs.Kinds.{stands_at}
use Rattle.run_plan.specs.Finding.{or_else, found_in, found_in_row, found_among}
use Rattle.plan_restore.proofs.Lists.{is_itself}
use Rattle.plan_restore.proofs.Acts.{FineFor}
use Rattle.plan_restore.proofs.Writing.{TouchMay}
use Rattle.plan_laws.specs.PlacedSites.{Placed, placed_parts, same_long, row_long, one_if_copy, copies_at, Next, front_next, back_next, first_next}

-- the regions saved behind so many sites
abbrev pub saved : CoreTask → ℕ → ℕ
saved t k = copies (take k t.sites) + 1

-- ---- touches

-- how often a task goes on into its next region
abbrev pub turns : List Touch → ℕ
turns [] = 0
turns (may_write x ∷ ts) = turns ts
turns (next_region ∷ ts) = 1 + turns ts

pub turns_joined : (ts us : List Touch) → turns (ts ++ us) ≡ turns ts + turns us
turns_joined [] us = omega arith
turns_joined (may_write x ∷ ts) us = turns_joined ts us
turns_joined (next_region ∷ ts) us = let more = turns_joined ts us in omega (arith, more)

pub turns_writing : (xs : List ℕ) → turns (map may_write xs) ≡ 0
turns_writing [] = refl
turns_writing (x ∷ xs) = turns_writing xs

-- what is touched may be written, with so many regions saved at first
abbrev pub Allowed : (W : ℕ → ℕ → Type 0) → (saved : ℕ) → List Touch → Type 0
Allowed W m [] = ⊤
Allowed W m (may_write a ∷ ts) = W m a × Allowed W m ts
Allowed W m (next_region ∷ ts) = Allowed W (m + 1) ts

pub allowed_parts : (W : ℕ → ℕ → Type 0) (m : ℕ) (ts us : List Touch) → Allowed W m (ts ++ us) → Allowed W m ts × Allowed W (m + turns ts) us
allowed_parts W m [] us all = (tt, let e : m ≡ m + 0 = omega arith in subst (λ k. Allowed W k us) e all)
allowed_parts W m (may_write a ∷ ts) us all = let parts = allowed_parts W m ts us all.1 in ((all.0, parts.0), parts.1)
allowed_parts W m (next_region ∷ ts) us all =
    let parts = allowed_parts W (m + 1) ts us all in
    let e : m + 1 + turns ts ≡ m + (1 + turns ts) = omega arith in
    (parts.0, subst (λ k. Allowed W k us) e parts.1)

-- what is touched in one region
pub allowed_here : (W : ℕ → ℕ → Type 0) (m : ℕ) (ts : List Touch) → turns ts ≡ 0 → Allowed W m ts → AllByRecursion (TouchMay (W m)) ts
allowed_here W m [] none all = tt
allowed_here W m (may_write a ∷ ts) none all = (all.0, allowed_here W m ts none all.1)
allowed_here W m (next_region ∷ ts) none all = absurd (omega (arith, none))

pub allowed_writing : (W : ℕ → ℕ → Type 0) (m : ℕ) (xs : List ℕ) → Allowed W m (map may_write xs) → AllByRecursion (TouchMay (W m)) (map may_write xs)
allowed_writing W m xs all = allowed_here W m (map may_write xs) (turns_writing xs) all

-- each touch of a list is before the region that comes next
pub all_allowed : (W : ℕ → ℕ → Type 0) (m : ℕ) (ts : List Touch) → ((q a : ℕ) → writes_in ts q a ≡ true → W (m + q) a) → Allowed W m ts
all_allowed W m [] each = tt
all_allowed W m (may_write x ∷ ts) each =
    (let e : m + 0 ≡ m = omega arith in subst (λ k. W k x) e (each 0 x (or_left (x == x) (writes_in ts 0 x) (is_itself x))), all_allowed W m ts (later each))
  where
    later : ((q a : ℕ) → writes_in (may_write x ∷ ts) q a ≡ true → W (m + q) a) → (q a : ℕ) → writes_in ts q a ≡ true → W (m + q) a
    later each zero a there = each zero a (or_right (x == a) (writes_in ts 0 a) there)
    later each (suc q) a there = each (suc q) a there
all_allowed W m (next_region ∷ ts) each = all_allowed W (m + 1) ts (λ q a there. let e : m + suc q ≡ m + 1 + q = omega arith in subst (λ k. W k a) e (each (suc q) a there))

-- ---- the regions that statements go through are the copies among their sites

module _ (c : Core) (t : CoreTask) where
  abbrev may : Pointing
  may = pointing t

  stays : (p : ℕ) → saved t p + 0 ≡ saved t (p + 0)
  stays p = let e : p ≡ p + 0 = omega arith in (let z : saved t p + 0 ≡ saved t p = omega arith in z) ∙ ap (saved t) e

  two : (p n m a b : ℕ) → saved t p + a ≡ saved t (p + n) → saved t (p + n) + b ≡ saved t (p + n + m) → (k : ℕ) → k ≡ n + m → (x : ℕ) → x ≡ a + b → saved t p + x ≡ saved t (p + k)
  two p n m a b one more k is x sum =
      let e : p + n + m ≡ p + k = omega (arith, is) in
      (let z : saved t p + x ≡ saved t (p + n) + b = omega (arith, one, sum) in z) ∙ more ∙ ap (saved t) e

  at_one : (p k : ℕ) (x : Standing) → k ≡ p + 1 → stands_at t k ≡ Some x → saved t p + one_if_copy x ≡ saved t (p + 1)
  at_one p k x is there = let e = copies_at t p x (ap (stands_at t) (sym is) ∙ there) in omega (arith, e)

  mutual
    pub turns_are : (s : CoreStmt) (p : ℕ) → Next p (site_numbers s) → Placed t (site_numbers s) (standings c.arrays may s) → saved t p + turns (touches may s) ≡ saved t (p + length (site_numbers s))
    turns_are (stmt.Assign x e) p next there = ap (λ n. saved t p + n) (turns_writing (target_arrays may x)) ∙ stays p
    turns_are (stmt.Point q array i) p next there = stays p
    turns_are (stmt.If' e m yes_row n no_row) p next there =
        let parts = placed_parts t (row_numbers yes_row) (row_numbers no_row) (row_standings c.arrays may yes_row) (row_standings c.arrays may no_row) (row_long c.arrays may yes_row) there in
        two p (length (row_numbers yes_row)) (length (row_numbers no_row)) (turns (row_touches may yes_row)) (turns (row_touches may no_row))
        (row_turns_are yes_row p (front_next (row_numbers yes_row) (row_numbers no_row) p next) parts.0)
        (row_turns_are no_row (p + length (row_numbers yes_row)) (back_next (row_numbers yes_row) (row_numbers no_row) p next) parts.1)
        (length (row_numbers yes_row ++ row_numbers no_row)) (length-append (row_numbers yes_row) (row_numbers no_row))
        (turns (row_touches may yes_row ++ row_touches may no_row)) (turns_joined (row_touches may yes_row) (row_touches may no_row))
    turns_are (stmt.Loop' i count m row) p next there = row_turns_are row p next there
    turns_are (stmt.Io k x q args) p next there = ap (λ n. saved t p + n) (turns_writing (reading_arrays may x)) ∙ at_one p k a_call (first_next k [] p next) there.0.1
    turns_are (stmt.Block' k m row) p next there =
        let body = row_turns_are row (p + 1) (back_next (k ∷ []) (row_numbers row) p next) there.1 in
        let here = at_one p k a_block (first_next k (row_numbers row) p next) there.0.1 in
        let e : p + 1 + length (row_numbers row) ≡ p + suc (length (row_numbers row)) = omega arith in
        (let z : saved t p + turns (row_touches may row) ≡ saved t (p + 1) + turns (row_touches may row) = omega (arith, here) in z) ∙ body ∙ ap (saved t) e
    turns_are (stmt.Copy k to from n) p next there =
        ap (λ m. saved t p + (1 + m)) (turns_writing (end_arrays may to)) ∙ at_one p k (a_copy _) (first_next k [] p next) there.0.1

    pub row_turns_are : {n : _} (row : Row_of-CoreStmt n) (p : ℕ) → Next p (row_numbers row) → Placed t (row_numbers row) (row_standings c.arrays may row) → saved t p + turns (row_touches may row) ≡ saved t (p + length (row_numbers row))
    row_turns_are end_of-CoreStmt p next there = stays p
    row_turns_are (more_of-CoreStmt s rest) p next there =
        let parts = placed_parts t (site_numbers s) (row_numbers rest) (standings c.arrays may s) (row_standings c.arrays may rest) (same_long c.arrays may s) there in
        two p (length (site_numbers s)) (length (row_numbers rest)) (turns (touches may s)) (turns (row_touches may rest))
        (turns_are s p (front_next (site_numbers s) (row_numbers rest) p next) parts.0)
        (row_turns_are rest (p + length (site_numbers s)) (back_next (site_numbers s) (row_numbers rest) p next) parts.1)
        (length (site_numbers s ++ row_numbers rest)) (length-append (site_numbers s) (row_numbers rest))
        (turns (touches may s ++ row_touches may rest)) (turns_joined (touches may s) (row_touches may rest))

  -- ---- what a site is valued at may be written in its region

  module _ (W : ℕ → ℕ → Type 0) where
    abbrev Fine : (j : ℕ) → Option CoreStmt → Type 0
    Fine j o = FineFor (W (region_of t j + 1)) may o

    either_fine : (j : ℕ) (o u : Option CoreStmt) → Fine j o → Fine j u → Fine j (or_else o u)
    either_fine j None u one more = more
    either_fine j (Some x) u one more = one

    found_fine : (j k : ℕ) (s : CoreStmt) (other : Option CoreStmt) (b : Bool) → (k == j) ≡ b → (k ≡ j → Fine j (Some s)) → Fine j other → Fine j (cond b (Some s) other)
    found_fine j k s other true is fine behind = fine (eqb-true k j is)
    found_fine j k s other false is fine behind = behind

    region_is : (j k p : ℕ) (x : Standing) → k ≡ j → k ≡ p + 1 → stands_at t k ≡ Some x → saved t p + one_if_copy x ≡ region_of t j + 1
    region_is j k p x same is there = at_one p k x is there ∙ ap (saved t) (sym is ∙ same)

    mutual
      pub fine_in : (j : ℕ) (s : CoreStmt) (p : ℕ) → Next p (site_numbers s) → Placed t (site_numbers s) (standings c.arrays may s) → Allowed W (saved t p) (touches may s) → Fine j (found_in j s)
      fine_in j (stmt.Assign x e) p next there all = tt
      fine_in j (stmt.Point q array i) p next there all = tt
      fine_in j (stmt.If' e m yes_row n no_row) p next there all =
          let parts = placed_parts t (row_numbers yes_row) (row_numbers no_row) (row_standings c.arrays may yes_row) (row_standings c.arrays may no_row) (row_long c.arrays may yes_row) there in
          let halves = allowed_parts W (saved t p) (row_touches may yes_row) (row_touches may no_row) all in
          let front = front_next (row_numbers yes_row) (row_numbers no_row) p next in
          either_fine j (found_in_row j yes_row) (found_in_row j no_row) (fine_in_row j yes_row p front parts.0 halves.0)
          (fine_in_row j no_row (p + length (row_numbers yes_row)) (back_next (row_numbers yes_row) (row_numbers no_row) p next) parts.1
          (subst (λ m. Allowed W m (row_touches may no_row)) (row_turns_are yes_row p front parts.0) halves.1))
      fine_in j (stmt.Loop' i count m row) p next there all = tt
      fine_in j (stmt.Io k x q args) p next there all =
          found_fine j k (stmt.Io k x q args) None (k == j) refl
          (λ is. subst (λ m. AllByRecursion (TouchMay (W m)) (map may_write (reading_arrays may x))) ((let z : saved t p ≡ saved t p + 0 = omega arith in z) ∙ region_is j k p a_call is (first_next k [] p next) there.0.1)
          (allowed_writing W (saved t p) (reading_arrays may x) all)) tt
      fine_in j (stmt.Block' k m row) p next there all =
          let here = at_one p k a_block (first_next k (row_numbers row) p next) there.0.1 in
          found_fine j k (stmt.Block' k m row) (found_in_row j row) (k == j) refl (λ is. tt)
          (fine_in_row j row (p + 1) (back_next (k ∷ []) (row_numbers row) p next) there.1 (subst (λ n. Allowed W n (row_touches may row)) (let z : saved t p ≡ saved t (p + 1) = omega (arith, here) in z) all))
      fine_in j (stmt.Copy k to from n) p next there all =
          found_fine j k (stmt.Copy k to from n) None (k == j) refl
          (λ is. subst (λ m. AllByRecursion (TouchMay (W m)) (map may_write (end_arrays may to))) (region_is j k p (a_copy _) is (first_next k [] p next) there.0.1)
          (allowed_writing W (saved t p + 1) (end_arrays may to) all)) tt

      pub fine_in_row : (j : ℕ) {n : _} (row : Row_of-CoreStmt n) (p : ℕ) → Next p (row_numbers row) → Placed t (row_numbers row) (row_standings c.arrays may row) → Allowed W (saved t p) (row_touches may row) → Fine j (found_in_row j row)
      fine_in_row j end_of-CoreStmt p next there all = tt
      fine_in_row j (more_of-CoreStmt s rest) p next there all =
          let parts = placed_parts t (site_numbers s) (row_numbers rest) (standings c.arrays may s) (row_standings c.arrays may rest) (same_long c.arrays may s) there in
          let halves = allowed_parts W (saved t p) (touches may s) (row_touches may rest) all in
          let front = front_next (site_numbers s) (row_numbers rest) p next in
          either_fine j (found_in j s) (found_in_row j rest) (fine_in j s p front parts.0 halves.0)
          (fine_in_row j rest (p + length (site_numbers s)) (back_next (site_numbers s) (row_numbers rest) p next) parts.1
          (subst (λ m. Allowed W m (row_touches may rest)) (turns_are s p front parts.0) halves.1))

    pub fine_among : (j : ℕ) (body : List CoreStmt) (p : ℕ) → Next p (all_numbers body) → Placed t (all_numbers body) (all_standings c.arrays may body) → Allowed W (saved t p) (all_touches may body) → Fine j (found_among j body)
    fine_among j [] p next there all = tt
    fine_among j (s ∷ rest) p next there all =
        let parts = placed_parts t (site_numbers s) (all_numbers rest) (standings c.arrays may s) (all_standings c.arrays may rest) (same_long c.arrays may s) there in
        let halves = allowed_parts W (saved t p) (touches may s) (all_touches may rest) all in
        let front = front_next (site_numbers s) (all_numbers rest) p next in
        either_fine j (found_in j s) (found_among j rest) (fine_in j s p front parts.0 halves.0)
        (fine_among j rest (p + length (site_numbers s)) (back_next (site_numbers s) (all_numbers rest) p next) parts.1
        (subst (λ m. Allowed W m (all_touches may rest)) (turns_are s p front parts.0) halves.1))
