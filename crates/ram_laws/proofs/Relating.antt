-- Memory that stands for a plan's state is related to the state's store, as the laws on lines ask.
use Rattle.std.specs.Prelude.{◌==◌, ◌-◌}
use Rattle.std.proofs.Common.{◌≡◌, ◌∙◌, ℕ, zero, suc, ◌+◌, ◌^◌, ◌<◌, ◌≤◌, List, [], ◌∷◌, length, refl, sym, ap, subst, arith, eq-eqb}
use Rattle.task_ast.specs.declared.tree.Kind.{Kind}
use Rattle.task_ast.specs.declared.tree.Kind.TheVariants.{Nv, Const, Vol}
use Rattle.task_ast.specs.declared.core_form.Array.{Array}
use Rattle.task_ast.specs.declared.core_form.Core.{Core}
use Rattle.walk_run.specs.declared.place.Place.{Place}
use Rattle.walk_run.specs.Store.{Store, place, word_at, words_of}
use Rattle.word_machine.specs.Straight.{Spot}
use Rattle.line_code.specs.declared.areas.Free.{Free}
use Rattle.line_code.specs.Areas.{area_at, area_of, areas_from, free_at_first, free_of}
use Rattle.run_plan.specs.Cells.{Frame}
use Rattle.line_laws.specs.Gives.{IsKept}
use Rattle.line_laws.specs.Relation.{HasArray, HasCell, Related, base_at, base_word, from_at, place_address, room_at}
use Rattle.layout_laws.specs.Layouts.{HasOwnPlaces, layout_of}
use Rattle.cell_laws.specs.Standing.{HasHomes, IsHome, address_in}
use Rattle.ram_laws.specs.Ram.{AreWhole, HasArrays, HasBases, HasConstants, HasPointers, HasRam, IsPlaceOf}

-- an array counts from register 14, 0 or 15
pub data IsBase (r : ℕ) : Type 0 where
  of_homes : r ≡ 14 → IsBase r
  of_constants : r ≡ 0 → IsBase r
  of_volatile : r ≡ 15 → IsBase r

base_here : (f : Free) (k : Kind) (n : ℕ) → IsBase (area_of f k n).base
base_here f Nv n = of_homes refl
base_here f Const n = of_constants refl
base_here f Vol n = of_volatile refl

pub base_in : (f : Free) (arrays : List Array) (n : ℕ) → IsBase (area_at (areas_from f arrays) n).base
base_in f [] zero = of_constants refl
base_in f [] (suc n) = of_constants refl
base_in f (a ∷ arrays) zero = base_here f a.kind (length a.first)
base_in f (a ∷ arrays) (suc n) = base_in (free_of f a.kind (length a.first)) arrays n

-- an address that no bank counts for
address_same : (c : Core) (bank : ℕ) (at : Place) (r : ℕ) → base_at (layout_of c 0) at.array ≡ r → base_word bank r ≡ base_word 0 r → address_in c bank at ≡ address_in c 0 at
address_same c bank at r counts same =
    ap (λ x. x + at.index + (area_at (layout_of c 0).areas at.array).offset) (ap (base_word bank) counts ∙ same ∙ sym (ap (base_word 0) counts))

module _ (c : Core) (bank : ℕ) (own : HasOwnPlaces (layout_of c bank)) (m : Spot) (store : Store) (f : Frame) where
  -- the cell of a place
  cell_is : (array i : ℕ) → i < room_at (layout_of c bank) array → m.store (place_address (layout_of c bank) array i) ≡ word_at store (place array i) → word_at store (place array i) < 2 ^ 32
      → HasCell m (place_address (layout_of c bank) array i) (word_at store (place array i))
  cell_is array i low holds fits = let here = own array i low in record { there = here.there; apart = here.apart; holds = holds; fits = fits }

  -- arrays without a bank
  other_array : (r array : ℕ) → base_at (layout_of c 0) array ≡ r → IsKept r → m.regs r ≡ base_word bank r → base_word bank r ≡ base_word 0 r → HasArrays c r m.store store → HasArray (layout_of c bank) m store array
  other_array r array counts kept word same h = record {
    base = subst IsKept (sym counts) kept;
    from = ap m.regs counts ∙ word ∙ sym (ap (base_word bank) counts);
    rooms = h.whole.rooms array counts;
    cells = λ i low.
        let here : IsPlaceOf c r (place array i) = record { counts = counts; inside = low } in
        cell_is array i low (ap m.store (address_same c bank (place array i) r counts same) ∙ h.holds (place array i) here) (h.whole.fits (place array i) here);
  }

  home_array : (array : ℕ) → base_at (layout_of c 0) array ≡ 14 → m.regs 14 ≡ bank → AreWhole c 14 store → HasHomes c bank m.store (word_at store) → HasArray (layout_of c bank) m store array
  home_array array counts word whole homes = record {
    base = subst IsKept (sym counts) (record { one = refl; two = refl; three = refl });
    from = ap m.regs counts ∙ word ∙ sym (ap (base_word bank) counts);
    rooms = whole.rooms array counts;
    cells = λ i low.
        cell_is array i low (homes (place array i) (record { nonvolatile = eq-eqb (base_at (layout_of c 0) array) 14 counts; inside = low })) (whole.fits (place array i) (record { counts = counts; inside = low }));
  }

  pub related_is : HasBases bank m → AreWhole c 14 store → HasHomes c bank m.store (word_at store) → HasConstants c m.store store → HasRam c bank m.store store f
      → Related (layout_of c bank) (length c.pointers) m store
  related_is bases whole homes constants ram = record {
    zero_is = bases.zero_is;
    ram_is = bases.ram_is;
    few = ram.pointers.few;
    many = ram.pointers.many;
    arrays = λ array. by_base array (base_in free_at_first c.arrays array);
    pointers = λ q low. ram.pointers.points q low;
  }
    where
      by_base : (array : ℕ) → IsBase (base_at (layout_of c 0) array) → HasArray (layout_of c bank) m store array
      by_base array (of_homes is) = home_array array is bases.bank_is whole homes
      by_base array (of_constants is) = other_array 0 array is (record { one = refl; two = refl; three = refl }) bases.zero_is refl constants
      by_base array (of_volatile is) = other_array 15 array is (record { one = refl; two = refl; three = refl }) bases.ram_is refl ram.volatile

-- ---- and the other way

-- what related memory has
pub arrays_of : (c : Core) (bank count r : ℕ) (m : Spot) (store : Store) → base_word bank r ≡ base_word 0 r → Related (layout_of c bank) count m store → HasArrays c r m.store store
arrays_of c bank count r m store same h = record {
  whole = record {
    rooms = λ array is. (h.arrays array).rooms;
    fits = λ at here. ((h.arrays at.array).cells at.index here.inside).fits;
  };
  holds = λ at here. ap m.store (sym (address_same c bank at r here.counts same)) ∙ ((h.arrays at.array).cells at.index here.inside).holds;
}

pub whole_of : (c : Core) (bank count : ℕ) (m : Spot) (store : Store) → Related (layout_of c bank) count m store → AreWhole c 14 store
whole_of c bank count m store h = record {
  rooms = λ array is. (h.arrays array).rooms;
  fits = λ at here. ((h.arrays at.array).cells at.index here.inside).fits;
}

pub homes_of : (c : Core) (bank count : ℕ) (m : Spot) (store : Store) → Related (layout_of c bank) count m store → HasHomes c bank m.store (word_at store)
homes_of c bank count m store h at home = ((h.arrays at.array).cells at.index home.inside).holds

pub pointers_of : (c : Core) (bank : ℕ) (m : Spot) (store : Store) → Related (layout_of c bank) (length c.pointers) m store → HasPointers c bank m.store store
pointers_of c bank m store h = record { few = h.few; many = h.many; points = h.pointers }
