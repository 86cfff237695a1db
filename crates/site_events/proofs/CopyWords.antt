-- The words that a copy writes, and how many they may be; and places that move without an event.
use Rattle.std.proofs.Common.{◌≡◌, ◌∙◌, ℕ, zero, suc, ◌+◌, ◌≤◌, Bool, true, false, ◌==◌, ◌||◌, List, [], ◌∷◌, length, take, drop, slice_get, slice_index_or, Ok, Err, refl, sym, ap, subst, arith, eqb-true}
use Rattle.std.specs.Prelude.{Option, Some, None, max, nat_le, if◌then◌else◌}
use Rattle.std.specs.List.{AllByRecursion}
use Rattle.std.proofs.lemmas.Bool.{leb-true}
use Rattle.task_ast.specs.declared.core_form.CoreEnd.{CoreEnd}
use Rattle.task_ast.specs.declared.core_form.CoreEnd.TheVariants as end
use Rattle.task_ast.specs.declared.core_form.Core.{Core}
use Rattle.task_ast.specs.declared.core_form.Array.{Array}
use Rattle.task_ast.specs.CoreSites.{room, longest}
use Rattle.task_ast.specs.Pointing.{Pointing, end_arrays}
use Rattle.io_depend.specs.Sets.{has}
use Rattle.walk_run.specs.declared.trap.Trap.TheVariants.{Range}
use Rattle.walk_run.specs.declared.place.Place.{Place}
use Rattle.walk_run.specs.Store.{Store, place, words_of, word_at, pointed, put_word}
use Rattle.walk_run.specs.Value.{value_of, end_place, place_pointed, with_room}
use Rattle.walk_run.specs.Walk.{move_words}
use Rattle.walk_run.specs.PlainWrites.{after_writes}
use Rattle.task_attempts.specs.State.{Here}
use Rattle.task_attempts.specs.Copies.{words_at, put_words}
use Rattle.run_plan.specs.Small.{same}
use Rattle.run_plan.specs.Words.{move_writes, put_writes}
use Rattle.plan_restore.proofs.Writing.{WriteMay, one_array, cell_array, as_found, ok_is}
use Rattle.site_events.specs.Records.{View}
use Rattle.site_events.specs.Standing.{StandsAt}
use Rattle.site_events.specs.Follows.{PointsWithin, Outer}

-- ---- lists of writes

pub moves_may : (W : ℕ → Type 0) (n : ℕ) (to from : Place) (store : Store) → W to.array → AllByRecursion (WriteMay W) (move_writes n to from store)
moves_may W zero to from store may = tt
moves_may W (suc n) to from store may = (may, moves_may W n (place to.array (to.index + 1)) (place from.array (from.index + 1)) (put_word to (word_at store from) store) may)

pub puts_may : (W : ℕ → Type 0) (to : Place) (words : List ℕ) → W to.array → AllByRecursion (WriteMay W) (put_writes to words)
puts_may W to [] may = tt
puts_may W to (word ∷ words) may = (may, puts_may W (place to.array (to.index + 1)) words may)

pub moves_give : (n : ℕ) (to from : Place) (store : Store) → after_writes (move_writes n to from store) store ≡ move_words n to from store
moves_give zero to from store = refl
moves_give (suc n) to from store = moves_give n (place to.array (to.index + 1)) (place from.array (from.index + 1)) (put_word to (word_at store from) store)

pub puts_give : (to : Place) (words : List ℕ) (store : Store) → after_writes (put_writes to words) store ≡ put_words to words store
puts_give to [] store = refl
puts_give to (word ∷ words) store = puts_give (place to.array (to.index + 1)) words (put_word to word store)

pub moved_pointers : (n : ℕ) (to from : Place) (store : Store) → (move_words n to from store).pointers ≡ store.pointers
moved_pointers zero to from store = refl
moved_pointers (suc n) to from store = moved_pointers n _ _ (put_word to (word_at store from) store)

pub put_pointers : (to : Place) (words : List ℕ) (store : Store) → (put_words to words store).pointers ≡ store.pointers
put_pointers to [] store = refl
put_pointers to (word ∷ words) store = put_pointers (place to.array (to.index + 1)) words (put_word to word store)

pub same_pointers : (may : Pointing) (a b : Store) → b.pointers ≡ a.pointers → PointsWithin may a → PointsWithin may b
same_pointers may a b same within q at is = within q at (ap (λ (ps : List (Option Place)). slice_index_or ps q None) (sym same) ∙ is)

-- ---- how long a copy is

pub longest_is : (arrays : List Array) (xs : List ℕ) (a : ℕ) → has xs a ≡ true → room (slice_get arrays a) ≤ longest arrays xs
longest_is arrays [] a there = absurd (cc there)
longest_is arrays (x ∷ xs) a there = by_test (x == a) refl (longest_is arrays xs a)
  where
    by_test : (b : Bool) → (x == a) ≡ b → (has xs a ≡ true → room (slice_get arrays a) ≤ longest arrays xs) → room (slice_get arrays a) ≤ max (room (slice_get arrays x)) (longest arrays xs)
    by_test true is more = subst (λ y. room (slice_get arrays a) ≤ max (room (slice_get arrays y)) (longest arrays xs)) (sym (eqb-true x a is)) (omega arith)
    by_test false is more = (let few = more (sym (ap (λ t. t || has xs a) is) ∙ there) in omega (arith, few))

pub has_room : (store : Store) (at x : Place) (n : ℕ) → with_room store at n ≡ Ok x → at.index + n ≤ length (words_of store at.array)
has_room store at x n is = by_test (nat_le (at.index + n) (length (words_of store at.array))) refl is
  where
    by_test : (b : Bool) → nat_le (at.index + n) (length (words_of store at.array)) ≡ b → (if b then as_found at else Err Range) ≡ Ok x → at.index + n ≤ length (words_of store at.array)
    by_test true less found = leb-true (at.index + n) (length (words_of store at.array)) less
    by_test false less found = absurd (cc found)

-- an end of a copy is in an array that it may be in
pub end_array : (may : Pointing) (x : CoreEnd) (store : Store) (at : Place) → PointsWithin may store → end_place x store ≡ Ok at → has (end_arrays may x) at.array ≡ true
end_array may (end.Cell array index) store at within is = one_array array at.array (cell_array store array (value_of index store) at is)
end_array may (end.Pointer q) store at within is = by_pointed (pointed store q) refl is
  where
    by_pointed : (o : Option Place) → pointed store q ≡ o → place_pointed o ≡ Ok at → has (may q) at.array ≡ true
    by_pointed None leads found = absurd (cc found)
    by_pointed (Some to) leads found = subst (λ z. has (may q) z.array ≡ true) (ok_is to at found) (within q to leads)

pub words_long : (store : Store) (at : Place) (n : ℕ) → at.index + n ≤ length (words_of store at.array) → length (words_at store at n) ≡ n
words_long store at n few = taken n at.index (words_of store at.array) few
  where
    taken : (n i : ℕ) (xs : List ℕ) → i + n ≤ length xs → length (take n (drop i xs)) ≡ n
    taken zero i xs few = refl
    taken (suc n) zero [] few = absurd (omega (arith, few))
    taken (suc n) zero (x ∷ xs) few = ap suc (taken n 0 xs (omega (arith, few)))
    taken (suc n) (suc i) [] few = absurd (omega (arith, few))
    taken (suc n) (suc i) (x ∷ xs) few = taken (suc n) i xs (omega (arith, few))

-- ---- a place that moves without an event: the region that is reached, and steps that are spent

-- the same place but for more steps and a region further
pub record Moves (c : Core) (P Q : Outer) (gain : ℕ) (F : Here → Here) : Type 0 where
  pub store : (here : Here) → (F here).store ≡ here.store
  pub mode : (here : Here) → (F here).mode ≡ here.mode
  pub next : (here : Here) → (F here).standing.next ≡ here.standing.next
  pub committed : (here : Here) → (F here).standing.committed ≡ here.standing.committed
  pub records : (here : Here) → (F here).standing.account.records ≡ here.standing.account.records
  pub steps : (here : Here) (scheme : _) → here.steps scheme + gain ≤ (F here).steps scheme
  pub stands : (v : View) (here : Here) → StandsAt c v here.standing → StandsAt c v (F here).standing
  pub known : (m : _) (o : _) (b : _) (here : Here) → P m o b here.standing.account.furthest → Q m o b (F here).standing.account.furthest
