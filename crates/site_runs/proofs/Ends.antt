-- What a copy is valued at: places of its arrays, with room for its words, and a destination that may be written.
use Rattle.std.specs.Prelude.{◌==◌, ◌||◌, filter, length, max, nat_le, nat_lt, slice_get, sum_by, take, Option, Some, None, Result, Ok, Err, if◌then◌else◌, cond, ⊤}
use Rattle.std.specs.List.{AllByRecursion}
use Rattle.std.proofs.Common.{◌≡◌, ◌≢◌, ◌∙◌, ℕ, zero, suc, ◌+◌, ◌-◌, ◌<◌, ◌≤◌, Bool, true, false, List, [], ◌∷◌, refl, sym, ap, subst, arith, eqb-true}
use Rattle.std.proofs.lemmas.Bool.Decides.{nat_tests}
use Rattle.std.proofs.lemmas.List.Sums.{sum_by-cons}
use Rattle.ease_base.specs.Found.{with_found}
use Rattle.io_depend.specs.Sets.{has}
use Rattle.io_flow.specs.Written.{AllWithin, IsWithin, has_itself}
use Rattle.region_split.specs.Regions.{copies, is_copy}
use Rattle.task_ast.specs.CoreSites.{greatest, longest, room}
use Rattle.task_ast.specs.Pointing.{Pointing, end_arrays, pointing}
use Rattle.task_ast.specs.WellFormed as form
use Rattle.task_ast.specs.WellFormed.{IsCoreExpr, IsCoreTask, IsDestination, IsEnd, IsWellFormed, scope_of, site_words}
use Rattle.task_ast.specs.declared.core_form.Array.{Array}
use Rattle.task_ast.specs.declared.core_form.Core.{Core}
use Rattle.task_ast.specs.declared.core_form.CoreEnd.{CoreEnd}
use Rattle.task_ast.specs.declared.core_form.CoreEnd.TheVariants as end
use Rattle.task_ast.specs.declared.core_form.CoreExpr.{CoreExpr}
use Rattle.task_ast.specs.declared.core_form.CoreExpr.TheVariants as expr
use Rattle.task_ast.specs.declared.core_form.CoreTarget.TheVariants as target
use Rattle.task_ast.specs.declared.core_form.CoreTask.{CoreTask}
use Rattle.task_ast.specs.declared.core_form.Site.{Site}
use Rattle.task_attempts.specs.Boots.{task_of}
use Rattle.task_attempts.specs.Copies.{class_at}
use Rattle.walk_run.specs.declared.place.Place as walked
use Rattle.walk_run.specs.declared.trap.Trap.{Trap}
use Rattle.walk_run.specs.declared.trap.Trap.TheVariants.{Index, Range}
use Rattle.walk_run.specs.Store.{place, pointed, words_of}
use Rattle.walk_run.specs.Value.{end_place, place_in, place_pointed, value_of}
use Rattle.word_machine.specs.Straight.{Spot}
use Rattle.line_code.specs.Areas.{free_at_first, pointer_at}
use Rattle.line_laws.specs.Relation.{Points, Related, base_at, room_at}
use Rattle.layout_laws.specs.Layouts.{layout_of}
use Rattle.layout_laws.proofs.Apart.{room_is, room_of}
use Rattle.run_plan.specs.Cells.{CopyValued, State}
use Rattle.run_plan.specs.Deeds.{copy_found}
use Rattle.run_plan.specs.Small.{Doing, core_of}
use Rattle.run_plan.specs.Words.{kept_at}
use Rattle.word_code.specs.CodeOf.{kept_words, most_kept}
use Rattle.cell_laws.specs.Standing.{worked}
use Rattle.code_runs.proofs.Words.{IsSound, is_below}
use Rattle.site_runs.proofs.Behind.{same_thing}
use Rattle.site_runs.proofs.Checked.{target_aims, task_formed}
use Rattle.site_runs.specs.Copies.{IsCopyOf}
use Rattle.site_runs.proofs.CopyStages.{IsGoodCopy}

-- ---- how many words

-- an array is no longer than the longest
longest_is : (arrays : List Array) (xs : List ℕ) (a : ℕ) → has xs a ≡ true → room (slice_get arrays a) ≤ longest arrays xs
longest_is arrays [] a there = absurd (cc there)
longest_is arrays (x ∷ xs) a there = by_test (x == a) refl there (longest_is arrays xs a)
  where
    by_test : (b : Bool) → (x == a) ≡ b → (b || has xs a) ≡ true → (has xs a ≡ true → room (slice_get arrays a) ≤ longest arrays xs) → room (slice_get arrays a) ≤ max (room (slice_get arrays x)) (longest arrays xs)
    by_test true is there more = subst (λ y. room (slice_get arrays a) ≤ max (room (slice_get arrays y)) (longest arrays xs)) (sym (eqb-true x a is)) (omega arith)
    by_test false is there more = omega (arith, more there)

room_there : (arrays : List Array) (a : ℕ) → room_of arrays a ≡ room (slice_get arrays a)
room_there [] a = refl
room_there (x ∷ arrays) zero = refl
room_there (x ∷ arrays) (suc a) = room_there arrays a

-- a site's kept words are among the task's
kept_before : (sites : List Site) (j : ℕ) (x : Site) → slice_get sites j ≡ Some x → sum_by site_words (take j sites) + site_words x ≤ sum_by site_words sites
kept_before [] j x there = absurd (cc there)
kept_before (y ∷ sites) zero x there =
    let all = sum_by-cons site_words y sites in
    subst (λ z. sum_by site_words [] + site_words z ≤ sum_by site_words (y ∷ sites)) (same_thing y x there) (omega (arith, all))
kept_before (y ∷ sites) (suc j) x there =
    let rest = kept_before sites j x there in
    let all = sum_by-cons site_words y sites in
    let some = sum_by-cons site_words y (take j sites) in
    omega (arith, rest, all, some)

-- and these among those of the task that has the most
most_of : (tasks : List CoreTask) (n : ℕ) (t : CoreTask) → slice_get tasks n ≡ Some t → kept_words t ≤ most_kept tasks
most_of [] n t there = absurd (cc there)
most_of (y ∷ tasks) zero t there = subst (λ z. kept_words z ≤ max (kept_words y) (most_kept tasks)) (same_thing y t there) (omega arith)
most_of (y ∷ tasks) (suc n) t there = omega (arith, most_of tasks n t there)

task_kept : (c : Core) (number : ℕ) (t : CoreTask) → task_of c number ≡ Some t → kept_words t ≤ most_kept c.tasks
task_kept c zero t there = absurd (cc there)
task_kept c (suc n) t there = most_of c.tasks n t there

-- there are no more copies than sites
pub few_copies : (k : ℕ) (sites : List Site) → copies (take k sites) ≤ length sites
few_copies zero sites = omega arith
few_copies (suc k) [] = omega arith
few_copies (suc k) (x ∷ sites) = by (is_copy x) (few_copies k sites)
  where
    by : (b : Bool) → copies (take k sites) ≤ length sites → length (cond b (x ∷ filter is_copy (take k sites)) (filter is_copy (take k sites))) ≤ suc (length sites)
    by true few = omega (arith, few)
    by false few = omega (arith, few)

-- ---- ends

module _ (d : Doing) (m : Spot) (s : State) (near : Related (layout_of (core_of d) (worked d.scheme s.bank)) (length (core_of d).pointers) m s.store) (within : AllWithin (pointing d.setting.task) s.store) where
  abbrev c : Core
  c = core_of d

  abbrev t : CoreTask
  t = d.setting.task

  -- an end is a place of one of its arrays
  abbrev EndFits : CoreEnd → Result walked.Place Trap → Type 0
  EndFits e (Ok at) = (at.index < room_at (layout_of c 0) at.array) × (has (end_arrays (pointing t) e) at.array ≡ true)
  EndFits e (Err why) = ⊤

  cell_fits : (a : ℕ) (i : CoreExpr) (r : Result ℕ Trap) → EndFits (end.Cell a i) (with_found r (place_in s.store a))
  cell_fits a i (Err why) = tt
  cell_fits a i (Ok j) = by (nat_lt j (length (words_of s.store a))) refl
    where
      by : (b : Bool) → nat_lt j (length (words_of s.store a)) ≡ b → EndFits (end.Cell a i) (if b then Ok (place a j) else Err Index)
      by true is = (subst (λ n. j < n) ((near.arrays a).rooms) (is_below j (length (words_of s.store a)) is), has_itself a)
      by false is = tt

  pointer_fits : (q : ℕ) (o : Option walked.Place) → Points (layout_of c (worked d.scheme s.bank)) (pointer_at q) o m.store → IsWithin (pointing t q) o → EndFits (end.Pointer q) (place_pointed o)
  pointer_fits q None points inside = tt
  pointer_fits q (Some at) points inside = (points.2, inside)

  end_fits : (e : CoreEnd) → IsEnd (scope_of c t) e → EndFits e (end_place e s.store)
  end_fits (end.Cell a i) formed = cell_fits a i (value_of i s.store)
  end_fits (end.Pointer q) formed = pointer_fits q (pointed s.store q) (near.pointers q formed) (within q)

  -- ---- the destination

  one_of : (arrays : List ℕ) (a : ℕ) → AllByRecursion (form.IsWritable c.arrays []) arrays → has arrays a ≡ true → form.IsWritable c.arrays [] a
  one_of [] a all there = absurd (cc there)
  one_of (b ∷ arrays) a all there = by (b == a) refl there (one_of arrays a all.1)
    where
      by : (e : Bool) → (b == a) ≡ e → (e || has arrays a) ≡ true → (has arrays a ≡ true → form.IsWritable c.arrays [] a) → form.IsWritable c.arrays [] a
      by true is there later = subst (form.IsWritable c.arrays []) (eqb-true b a is) all.0
      by false is there later = later there

  -- an array of which a word may be assigned isn't constant
  clear : (at : walked.Place) → at.index < room_at (layout_of c 0) at.array → form.IsWritable c.arrays [] at.array → base_at (layout_of c 0) at.array ≢ 0
  clear at inside may =
      let sound : IsSound c (pointing t) s.store = record { rooms = λ a. (near.arrays a).rooms; fits = λ a i low. ((near.arrays a).cells i low).fits; within = within } in
      let zero_fits : IsCoreExpr (scope_of c t) (expr.Number 0) = (omega arith, omega arith) in
      let long : at.index < length (words_of s.store at.array) = subst (λ n. at.index < n) (sym ((near.arrays at.array).rooms)) inside in
      let test : nat_lt 0 (length (words_of s.store at.array)) ≡ true = grind (arith, nat_tests, long) in
      (target_aims c t [] (target.Cell at.array (expr.Number 0)) s.store sound (may, zero_fits) (place at.array 0) (ap (λ b. if b then as_found at.array else Err Index) test)).written
    where
      as_found : ℕ → Result walked.Place Trap
      as_found a = Ok (place a 0)

  -- ---- the copy

  -- so many words and one at least are no more than the longest array of an end
  no_longer : (e : CoreEnd) (at : walked.Place) (n : ℕ) → EndFits e (Ok at) → at.index + n ≤ length (words_of s.store at.array) → (n ≤ longest c.arrays (end_arrays (pointing t) e)) × (0 < longest c.arrays (end_arrays (pointing t) e))
  no_longer e at n h inside =
      let top : room (slice_get c.arrays at.array) ≤ longest c.arrays (end_arrays (pointing t) e) = longest_is c.arrays (end_arrays (pointing t) e) at.array h.1 in
      let words : length (words_of s.store at.array) ≡ room_at (layout_of c 0) at.array = (near.arrays at.array).rooms in
      let is : room_at (layout_of c 0) at.array ≡ room (slice_get c.arrays at.array) = room_is free_at_first c.arrays at.array ∙ room_there c.arrays at.array in
      let low : at.index < room_at (layout_of c 0) at.array = h.0 in
      (omega (arith, top, words, is, inside), omega (arith, top, is, low))

  module _ (number : ℕ) (well : IsWellFormed c) (here : task_of c number ≡ Some t) (k : ℕ) (to from : CoreEnd) (words : CoreExpr) (copy : IsCopyOf d number k to from words) where
    copy_good : (at from_at : walked.Place) (n : ℕ) → EndFits to (Ok at) → EndFits from (Ok from_at) → at.index + n ≤ length (words_of s.store at.array) → from_at.index + n ≤ length (words_of s.store from_at.array)
        → IsGoodCopy d k (record { to = at; from = from_at; length = n; class = class_at d.setting at from_at })
    copy_good at from_at n one two first second =
        let a = no_longer to at n one first in
        let b = no_longer from from_at n two second in
        let long : n ≤ greatest c.arrays (pointing t) to from = omega (arith, a.0, b.0) in
        let some : 0 < greatest c.arrays (pointing t) to from = omega (arith, a.1, b.1) in
        let kept : kept_at d k + greatest c.arrays (pointing t) to from ≤ sum_by site_words t.sites = kept_before t.sites (k - 1) _ copy.there in
        let most : sum_by site_words t.sites ≤ 16384 = (task_formed c number t well here).sites.kept in
        let among : sum_by site_words t.sites ≤ most_kept c.tasks = task_kept c number t here in
        record {
          to = one.0;
          from = two.0;
          clear = clear at one.0 (one_of (end_arrays (pointing t) to) at.array copy.formed.2.1 one.1);
          room = omega (arith, long, kept, most);
          kept = omega (arith, some, kept, among);
        }

    abbrev pub FoundGood : Result CopyValued Trap → Type 0
    FoundGood (Ok v) = IsGoodCopy d k v
    FoundGood (Err why) = ⊤

    by_rooms : (at from_at : walked.Place) (n : ℕ) → EndFits to (Ok at) → EndFits from (Ok from_at) → (a : Bool) → nat_le (at.index + n) (length (words_of s.store at.array)) ≡ a → (b : Bool) → nat_le (from_at.index + n) (length (words_of s.store from_at.array)) ≡ b
        → FoundGood (with_found (if a then Ok at else Err Range) (λ _. with_found (if b then Ok from_at else Err Range) (λ _. Ok (record { to = at; from = from_at; length = n; class = class_at d.setting at from_at }))))
    by_rooms at from_at n one two false a_is b b_is = tt
    by_rooms at from_at n one two true a_is false b_is = tt
    by_rooms at from_at n one two true a_is true b_is =
        let first : at.index + n ≤ length (words_of s.store at.array) = grind (arith, nat_tests, a_is) in
        let second : from_at.index + n ≤ length (words_of s.store from_at.array) = grind (arith, nat_tests, b_is) in
        copy_good at from_at n one two first second

    abbrev found_at : Result walked.Place Trap → Result walked.Place Trap → Result ℕ Trap → Result CopyValued Trap
    found_at r q v =
        with_found r (λ at. with_found q (λ from_at. with_found v (λ n.
        with_found (if nat_le (at.index + n) (length (words_of s.store at.array)) then Ok at else Err Range) (λ _. with_found (if nat_le (from_at.index + n) (length (words_of s.store from_at.array)) then Ok from_at else Err Range) (λ _. Ok (record { to = at; from = from_at; length = n; class = class_at d.setting at from_at }))))))

    by_found : (r : Result walked.Place Trap) → EndFits to r → (q : Result walked.Place Trap) → EndFits from q → (v : Result ℕ Trap) → FoundGood (found_at r q v)
    by_found (Err why) one q two v = tt
    by_found (Ok at) one (Err why) two v = tt
    by_found (Ok at) one (Ok from_at) two (Err why) = tt
    by_found (Ok at) one (Ok from_at) two (Ok n) = by_rooms at from_at n one two (nat_le (at.index + n) (length (words_of s.store at.array))) refl (nat_le (from_at.index + n) (length (words_of s.store from_at.array))) refl

    pub found_good : FoundGood (copy_found d.setting to from words s.store)
    found_good = by_found (end_place to s.store) (end_fits to copy.formed.2.0) (end_place from s.store) (end_fits from copy.formed.3) (value_of words s.store)
