-- A place that an index names lies in its array.
use Rattle.std.proofs.Common.{◌≡◌, ℕ, ◌+◌, Bool, true, false, nat_lt, length, Option, Some, None, Result, Ok, Err, refl, ap, subst, sym, arith}
use Rattle.std.proofs.lemmas.Bool.Decides.{nat_tests}
use Rattle.walk_run.specs.declared.trap.Trap.{Trap}
use Rattle.walk_run.specs.declared.trap.Trap.TheVariants.{Index}
use Rattle.walk_run.specs.declared.place.Place.{Place}
use Rattle.walk_run.specs.Store.{Store, IsInside, place, pointed, words_of}
use Rattle.walk_run.specs.Value.{place_in, place_behind, place_pointed, cell_place, through_place}
use Rattle.std.specs.Prelude.{if◌then◌else◌}

-- a place that passed its test
tested : (b : Bool) (there at : Place) (trap : Trap) → (if b then Ok there else Err trap) ≡ Ok at → (b ≡ true) × (there ≡ at)
tested true there at trap is = (refl, cc)
tested false there at trap is = cc

pub place_inside : (store : Store) (array index : ℕ) (at : Place) → place_in store array index ≡ Ok at → IsInside store at
place_inside store array index at is =
    let h = tested (nat_lt index (length (words_of store array))) (place array index) at Index is in
    subst (IsInside store) h.1 (grind (arith, nat_tests, h.0))

pub cell_inside : (store : Store) (array : ℕ) (index : Result ℕ Trap) (at : Place) → cell_place store array index ≡ Ok at → IsInside store at
cell_inside store array (Ok i) at is = place_inside store array i at is
cell_inside store array (Err trap) at is = cc

place_array : (store : Store) (array index : ℕ) (at : Place) → place_in store array index ≡ Ok at → at.array ≡ array
place_array store array index at is = sym (ap (λ p. p.array) (tested (nat_lt index (length (words_of store array))) (place array index) at Index is).1)

-- and is one of that array
pub cell_array : (store : Store) (array : ℕ) (index : Result ℕ Trap) (at : Place) → cell_place store array index ≡ Ok at → at.array ≡ array
cell_array store array (Ok i) at is = place_array store array i at is
cell_array store array (Err trap) at is = cc

-- a place through a pointer is one of the array to which it points
pub through_array : (store : Store) (p : ℕ) (index : Result ℕ Trap) (at : Place) → through_place store p index ≡ Ok at → (first : Place) × (pointed store p ≡ Some first) × (at.array ≡ first.array)
through_array store p (Ok i) at is = by_pointed (pointed store p) refl is
  where
    by_pointed : (o : Option Place) → pointed store p ≡ o → place_behind store o i ≡ Ok at → (first : Place) × (pointed store p ≡ Some first) × (at.array ≡ first.array)
    by_pointed None o_is none = cc
    by_pointed (Some first) o_is some = (first, o_is, place_array store first.array (first.index + i) at some)
through_array store p (Err trap) at is = cc

-- a place that is pointed to is that of the pointer
pub pointed_place : (o : Option Place) (at : Place) → place_pointed o ≡ Ok at → o ≡ Some at
pointed_place None at is = cc
pointed_place (Some first) at is = cc
