-- The region that writes an array first is the one that the definition names.
use Rattle.std.proofs.Common.{◌≡◌, ◌∙◌, ◌⊎◌, ℕ, zero, suc, ◌+◌, ◌<◌, ◌≤◌, min, Bool, true, false, not, ◌||◌, ◌&&◌, ◌==◌, cond, List, [], ◌∷◌, ◌++◌, length, map, Option, Some, None, slice_set, slice_index_or, refl, sym, ap, subst, arith}
use Rattle.std.proofs.lemmas.Bool.{cases_eq, eq-eqb, ne_eqb, or_left, or_right}
use Rattle.std.proofs.lemmas.List.{length-set, get_or-set_same, get_or-set_other, ext_get_or, length-append}
use mathlib.Core.Logic.{⊎_elim}
use Rattle.task_ast.specs.declared.core_form.CoreStmt.{CoreStmt, Row_of-CoreStmt, end_of-CoreStmt, more_of-CoreStmt}
use Rattle.task_ast.specs.declared.core_form.CoreStmt.TheVariants as stmt
use Rattle.task_ast.specs.CoreSites.{site_numbers, row_numbers, all_numbers}
use Rattle.task_ast.specs.Pointing.{Pointing, target_arrays, reading_arrays, end_arrays}
use Rattle.task_ast.specs.WellFormed.{Scope, IsCoreStmt, AreCoreStmts}
use Rattle.std.specs.List.{AllByRecursion}
use Rattle.io_depend.specs.Sets.{has}
use Rattle.region_split.specs.Regions.{Touch, may_write, next_region, touches, row_touches, all_touches, writes_in, writes_before}
use Rattle.region_split.specs.Owners.{Owners, owner_or, owner_is, owner_of, touched_by, touched}
use Rattle.region_split.proofs.Touching.{touched_append}

-- one array is touched
step : (x a : ℕ) (o : Owners) → a < length o.first → owner_of (touched_by (may_write x) o) a ≡ cond (x == a) (owner_or (owner_of o a) o.region) (owner_of o a)
step x a o there = ⊎_elim
    (λ e. ap (λ j. slice_index_or (slice_set o.first j (owner_or (owner_of o j) o.region)) a None) e ∙ get_or-set_same o.first a (owner_or (owner_of o a) o.region) None there
    ∙ ap (λ t. cond t (owner_or (owner_of o a) o.region) (owner_of o a)) (sym (eq-eqb x a e)))
    (λ apart. get_or-set_other o.first x a (owner_or (owner_of o x) o.region) None (λ e. apart (sym e))
    ∙ ap (λ t. cond t (owner_or (owner_of o a) o.region) (owner_of o a)) (sym (ne_eqb x a apart)))
    (cases_eq x a)

step_same : (x a : ℕ) (o : Owners) → a < length o.first → x ≡ a → owner_of (touched_by (may_write x) o) a ≡ owner_or (owner_of o a) o.region
step_same x a o there e = step x a o there ∙ ap (λ t. cond t (owner_or (owner_of o a) o.region) (owner_of o a)) (eq-eqb x a e)

step_other : (x a : ℕ) (o : Owners) → a < length o.first → (x ≡ a → ⊥) → owner_of (touched_by (may_write x) o) a ≡ owner_of o a
step_other x a o there apart = step x a o there ∙ ap (λ t. cond t (owner_or (owner_of o a) o.region) (owner_of o a)) (ne_eqb x a apart)

-- several arrays are touched
twice : (p q : Bool) (w : Option ℕ) (r : ℕ) → cond q (owner_or (cond p (owner_or w r) w) r) (cond p (owner_or w r) w) ≡ cond (p || q) (owner_or w r) w
twice true true None r = refl
twice true true (Some x) r = refl
twice true false w r = refl
twice false q w r = refl

written_length : (xs : List ℕ) (o : Owners) → length (touched (map may_write xs) o).first ≡ length o.first
written_length [] o = refl
written_length (x ∷ xs) o = written_length xs (touched_by (may_write x) o) ∙ length-set o.first x (owner_or (owner_of o x) o.region)

written_region : (xs : List ℕ) (o : Owners) → (touched (map may_write xs) o).region ≡ o.region
written_region [] o = refl
written_region (x ∷ xs) o = written_region xs (touched_by (may_write x) o)

written : (xs : List ℕ) (o : Owners) (a : ℕ) → a < length o.first → owner_of (touched (map may_write xs) o) a ≡ cond (has xs a) (owner_or (owner_of o a) o.region) (owner_of o a)
written [] o a there = refl
written (x ∷ xs) o a there =
    written xs (touched_by (may_write x) o) a (omega (arith, length-set o.first x (owner_or (owner_of o x) o.region)))
    ∙ ap (λ w. cond (has xs a) (owner_or w o.region) w) (step x a o there)
    ∙ twice (x == a) (has xs a) (owner_of o a) o.region

-- lists with the same arrays touch alike
pub written_alike : (xs ys : List ℕ) (o : Owners) → ((a : ℕ) → a < length o.first → has xs a ≡ has ys a) → touched (map may_write xs) o ≡ touched (map may_write ys) o
written_alike xs ys o same =
    let firsts : (touched (map may_write xs) o).first ≡ (touched (map may_write ys) o).first =
    ext_get_or None _ _ (written_length xs o ∙ sym (written_length ys o))
    (λ a l. let there : a < length o.first = omega (arith, l, written_length xs o) in
    written xs o a there ∙ ap (λ t. cond t (owner_or (owner_of o a) o.region) (owner_of o a)) (same a there) ∙ sym (written ys o a there)) in
    let regions : (touched (map may_write xs) o).region ≡ (touched (map may_write ys) o).region = written_region xs o ∙ sym (written_region ys o) in
    λ i. record { region = regions i; first = firsts i }

-- touches keep how many arrays there are
pub touched_length : (ts : List Touch) (o : Owners) → length (touched ts o).first ≡ length o.first
touched_length [] o = refl
touched_length (may_write x ∷ ts) o = touched_length ts (touched_by (may_write x) o) ∙ length-set o.first x (owner_or (owner_of o x) o.region)
touched_length (next_region ∷ ts) o = touched_length ts (touched_by next_region o)

-- how often a task goes on into its next region: at most as often as it has sites
abbrev pub turns : List Touch → ℕ
turns [] = 0
turns (may_write x ∷ ts) = turns ts
turns (next_region ∷ ts) = 1 + turns ts

turns_append : (ts us : List Touch) → turns (ts ++ us) ≡ turns ts + turns us
turns_append [] us = omega arith
turns_append (may_write x ∷ ts) us = turns_append ts us
turns_append (next_region ∷ ts) us = omega (arith, turns_append ts us)

turns_writing : (xs : List ℕ) → turns (map may_write xs) ≡ 0
turns_writing [] = refl
turns_writing (x ∷ xs) = turns_writing xs

module _ (points : Pointing) where
  mutual
    turns_few : (s : CoreStmt) → turns (touches points s) ≤ length (site_numbers s)
    turns_few (stmt.Assign x e) = omega (arith, turns_writing (target_arrays points x))
    turns_few (stmt.Point p array i) = omega arith
    turns_few (stmt.If' e m yes_row n no_row) =
        omega (arith, row_turns_few yes_row, row_turns_few no_row, turns_append (row_touches points yes_row) (row_touches points no_row), length-append (row_numbers yes_row) (row_numbers no_row))
    turns_few (stmt.Loop' i turns m row) = row_turns_few row
    turns_few (stmt.Io k x p args) = omega (arith, turns_writing (reading_arrays points x))
    turns_few (stmt.Block' k m row) = omega (arith, row_turns_few row)
    turns_few (stmt.Copy k to from n) = omega (arith, turns_writing (end_arrays points to))

    row_turns_few : {n : _} (row : Row_of-CoreStmt n) → turns (row_touches points row) ≤ length (row_numbers row)
    row_turns_few end_of-CoreStmt = omega arith
    row_turns_few (more_of-CoreStmt s rest) =
        omega (arith, turns_few s, row_turns_few rest, turns_append (touches points s) (row_touches points rest), length-append (site_numbers s) (row_numbers rest))

  pub all_turns_few : (body : List CoreStmt) → turns (all_touches points body) ≤ length (all_numbers body)
  all_turns_few [] = omega arith
  all_turns_few (s ∷ rest) =
      omega (arith, turns_few s, all_turns_few rest, turns_append (touches points s) (all_touches points rest), length-append (site_numbers s) (all_numbers rest))

-- an array that a region wrote stays its own
stays : (ts : List Touch) (o : Owners) (a r : ℕ) → a < length o.first → owner_of o a ≡ Some r → owner_of (touched ts o) a ≡ Some r
stays [] o a r there own = own
stays (may_write x ∷ ts) o a r there own =
    stays ts (touched_by (may_write x) o) a r (omega (arith, length-set o.first x (owner_or (owner_of o x) o.region)))
    (⊎_elim (λ e. step_same x a o there e ∙ ap (λ w. owner_or w o.region) own) (λ apart. step_other x a o there apart ∙ own) (cases_eq x a))
stays (next_region ∷ ts) o a r there own = stays ts (touched_by next_region o) a r there own

-- an array that isn't written yet is never a region's that is over
past : (ts : List Touch) (o : Owners) (a r : ℕ) → a < length o.first → owner_of o a ≡ None → r < o.region → o.region + turns ts ≤ 4294967295 → owner_is (owner_of (touched ts o) a) r ≡ false
past [] o a r there none over few = ap (λ w. owner_is w r) none
past (may_write x ∷ ts) o a r there none over few =
    let next : a < length (touched_by (may_write x) o).first = omega (arith, there, length-set o.first x (owner_or (owner_of o x) o.region)) in
    ⊎_elim
    (λ e. ap (λ w. owner_is w r) (stays ts (touched_by (may_write x) o) a o.region next (step_same x a o there e ∙ ap (λ w. owner_or w o.region) none)) ∙ ne_eqb o.region r (λ e. absurd (omega (arith, e, over))))
    (λ apart. past ts (touched_by (may_write x) o) a r next (step_other x a o there apart ∙ none) over few)
    (cases_eq x a)
past (next_region ∷ ts) o a r there none over few = past ts (touched_by next_region o) a r there none (omega (arith, over, few)) (omega (arith, few))

-- what is written in a region is written before each later one
in_before : (ts : List Touch) (a n : ℕ) → writes_in ts 0 a ≡ true → writes_before ts (suc n) a ≡ true
in_before ts a zero there = there
in_before ts a (suc n) there = or_left (writes_before ts (suc n) a) (writes_in ts (suc n) a) (in_before ts a n there)

other_before : (x a : ℕ) (ts : List Touch) (r : ℕ) → (x ≡ a → ⊥) → writes_before (may_write x ∷ ts) r a ≡ writes_before ts r a
other_before x a ts zero apart = refl
other_before x a ts (suc zero) apart = ap (λ t. t || writes_in ts 0 a) (ne_eqb x a apart)
other_before x a ts (suc (suc r)) apart = ap (λ t. t || writes_in ts (suc r) a) (other_before x a ts (suc r) apart)

next_before : (ts : List Touch) (a r : ℕ) → writes_before (next_region ∷ ts) (suc r) a ≡ writes_before ts r a
next_before ts a zero = refl
next_before ts a (suc r) = ap (λ t. t || writes_in ts r a) (next_before ts a r)

never : (t : Bool) → (t && false) ≡ false
never true = refl
never false = refl

written_here : (x : ℕ) (ts : List Touch) (a q r : ℕ) → x ≡ a → (q == q + r) ≡ (writes_in (may_write x ∷ ts) r a && not (writes_before (may_write x ∷ ts) r a))
written_here x ts a q zero e = eq-eqb q (q + 0) (omega arith) ∙ ap (λ t. (t || writes_in ts 0 a) && true) (sym (eq-eqb x a e))
written_here x ts a q (suc r) e =
    ne_eqb q (q + suc r) (λ f. absurd (omega (arith, f)))
    ∙ sym (ap (λ t. writes_in ts (suc r) a && not t) (in_before (may_write x ∷ ts) a r (ap (λ t. t || writes_in ts 0 a) (eq-eqb x a e))) ∙ never (writes_in ts (suc r) a))

written_else : (x : ℕ) (ts : List Touch) (a r : ℕ) → (x ≡ a → ⊥) → (writes_in ts r a && not (writes_before ts r a)) ≡ (writes_in (may_write x ∷ ts) r a && not (writes_before (may_write x ∷ ts) r a))
written_else x ts a zero apart = ap (λ t. (t || writes_in ts 0 a) && true) (sym (ne_eqb x a apart))
written_else x ts a (suc r) apart = ap (λ t. writes_in ts (suc r) a && not t) (sym (other_before x a ts (suc r) apart))

-- of an array that isn't written yet: the region that writes it first
pub owns : (ts : List Touch) (o : Owners) (a : ℕ) → a < length o.first → owner_of o a ≡ None → o.region + turns ts ≤ 4294967295 → (r : ℕ)
    → owner_is (owner_of (touched ts o) a) (o.region + r) ≡ (writes_in ts r a && not (writes_before ts r a))
owns [] o a there none few r = ap (λ w. owner_is w (o.region + r)) none
owns (may_write x ∷ ts) o a there none few r =
    let next : a < length (touched_by (may_write x) o).first = omega (arith, there, length-set o.first x (owner_or (owner_of o x) o.region)) in
    ⊎_elim
    (λ e. ap (λ w. owner_is w (o.region + r)) (stays ts (touched_by (may_write x) o) a o.region next (step_same x a o there e ∙ ap (λ w. owner_or w o.region) none)) ∙ written_here x ts a o.region r e)
    (λ apart. owns ts (touched_by (may_write x) o) a next (step_other x a o there apart ∙ none) few r ∙ written_else x ts a r apart)
    (cases_eq x a)
owns (next_region ∷ ts) o a there none few zero =
    let now : o.region + 0 ≡ o.region = omega arith in
    ap (λ q. owner_is (owner_of (touched ts (touched_by next_region o)) a) q) now ∙ past ts (touched_by next_region o) a o.region there none (omega (arith, few)) (omega (arith, few))
owns (next_region ∷ ts) o a there none few (suc r) =
    let at : o.region + suc r ≡ min (o.region + 1) 4294967295 + r = omega (arith, few) in
    ap (λ q. owner_is (owner_of (touched ts (touched_by next_region o)) a) q) at ∙ owns ts (touched_by next_region o) a there none (omega (arith, few)) r
    ∙ ap (λ t. writes_in ts r a && not t) (sym (next_before ts a r))
