-- The words that saving and restoring copy are those of the plan's places, in their order.
use Rattle.std.specs.Prelude.{sum_by, slice_get}
use Rattle.std.proofs.Common.{◌≡◌, ◌∙◌, ℕ, zero, suc, ◌+◌, ◌*◌, ◌≤◌, true, List, [], ◌∷◌, ◌++◌, length, length-append, refl, ap, arith, eqb-true}
use Rattle.std.proofs.lemmas.List.Sums.{sum_by-cons}
use Rattle.task_ast.specs.declared.tree.Kind.{Kind}
use Rattle.task_ast.specs.declared.tree.Kind.TheVariants.{Nv, Const, Vol}
use Rattle.task_ast.specs.declared.core_form.Array.{Array}
use Rattle.task_ast.specs.declared.core_form.Core.{Core}
use Rattle.task_ast.specs.CoreSites.{room}
use Rattle.task_ast.specs.WellFormed.{IsWellFormed, fram_size, ram_size}
use Rattle.walk_run.specs.declared.place.Place.{Place}
use Rattle.walk_run.specs.Store.{place}
use Rattle.line_code.specs.declared.areas.Free.{Free}
use Rattle.line_code.specs.Areas.{area_at, area_of, areas_from, free_at_first, free_of, total}
use Rattle.run_plan.specs.Words.{places_from, places_of}
use Rattle.line_laws.specs.Relation.{base_at, base_word, from_at}
use Rattle.word_code.specs.Beginnings.{AreLow}
use Rattle.word_code.proofs.JobLemmas.{arrays_low}
use Rattle.act_laws.specs.Blocks.{Copy, array_copies, copies, list_code, word_copies}
use Rattle.layout_laws.specs.Layouts.{layout_of}
use Rattle.cell_laws.specs.Standing.{IsHome, address_in, is_home}
use Rattle.act_refines.specs.Does.{AreHomes}

-- ---- a place's copy

abbrev pub copy_at : Core → (from to : ℕ) → Place → Copy
copy_at c from to at = record { from = address_in c from at; to = address_in c to at }

abbrev pub copies_of : Core → (from to : ℕ) → List Place → List Copy
copies_of c from to [] = []
copies_of c from to (at ∷ places) = copy_at c from to at ∷ copies_of c from to places

-- each place is a home
abbrev pub AllHomes : Core → List Place → Type 0
AllHomes c [] = Unit {0}
AllHomes c (at ∷ places) = IsHome c at × AllHomes c places

-- ---- where they lie

room_here : (f : Free) (k : Kind) (n : ℕ) → (area_of f k n).room ≡ n
room_here f Nv n = refl
room_here f Const n = refl
room_here f Vol n = refl

room_found : (f : Free) (arrays : List Array) (n : ℕ) → (area_at (areas_from f arrays) n).room ≡ room (slice_get arrays n)
room_found f [] zero = refl
room_found f [] (suc n) = refl
room_found f (a ∷ arrays) zero = room_here f a.kind (length a.first)
room_found f (a ∷ arrays) (suc n) = room_found (free_of f a.kind (length a.first)) arrays n

home_address : (c : Core) (bank array i : ℕ) → base_at (layout_of c 0) array ≡ 14 → (area_at (areas_from free_at_first c.arrays) array).offset + bank + i ≡ address_in c bank (place array i)
home_address c bank array i counts = let from : from_at (layout_of c bank) array ≡ bank = ap (base_word bank) counts in omega (arith, from)

words_then : (c : Core) (from to array i n : ℕ) (rest : List Copy) (places : List Place) → base_at (layout_of c 0) array ≡ 14 → rest ≡ copies_of c from to places
    → word_copies ((area_at (areas_from free_at_first c.arrays) array).offset + from) ((area_at (areas_from free_at_first c.arrays) array).offset + to) i n ++ rest ≡ copies_of c from to (places_from array i n ++ places)
words_then c from to array i zero rest places counts same = same
words_then c from to array i (suc n) rest places counts same =
    λ k. record { from = home_address c from array i counts k; to = home_address c to array i counts k } ∷ words_then c from to array (i + 1) n rest places counts same k

home_counts : (c : Core) (array : ℕ) → is_home c array ≡ true → base_at (layout_of c 0) array ≡ 14
home_counts c array home = eqb-true (base_at (layout_of c 0) array) 14 home

pub arrays_are : (c : Core) (from to : ℕ) (arrays : List ℕ) → AreHomes c arrays → array_copies (areas_from free_at_first c.arrays) from to arrays ≡ copies_of c from to (places_of c arrays)
arrays_are c from to [] homes = refl
arrays_are c from to (a ∷ rest) homes =
    ap (λ n. word_copies ((area_at (areas_from free_at_first c.arrays) a).offset + from) ((area_at (areas_from free_at_first c.arrays) a).offset + to) 0 n ++ array_copies (areas_from free_at_first c.arrays) from to rest) (room_found free_at_first c.arrays a)
    ∙ words_then c from to a 0 (room (slice_get c.arrays a)) (array_copies (areas_from free_at_first c.arrays) from to rest) (places_of c rest) (home_counts c a homes.0) (arrays_are c from to rest homes.1)

-- ---- each is a home

homes_from : (c : Core) (array i n : ℕ) (places : List Place) → is_home c array ≡ true → i + n ≤ room (slice_get c.arrays array) → AllHomes c places → AllHomes c (places_from array i n ++ places)
homes_from c array i zero places home few rest = rest
homes_from c array i (suc n) places home few rest =
    (record { nonvolatile = home; inside = omega (arith, few, room_found free_at_first c.arrays array) }, homes_from c array (i + 1) n places home (omega (arith, few)) rest)

pub homes_all : (c : Core) (arrays : List ℕ) → AreHomes c arrays → AllHomes c (places_of c arrays)
homes_all c [] homes = tt
homes_all c (a ∷ rest) homes = homes_from c a 0 (room (slice_get c.arrays a)) (places_of c rest) homes.0 (omega arith) (homes_all c rest homes.1)

-- ---- how many they are

places_long : (array i n : ℕ) → length (places_from array i n) ≡ n
places_long array i zero = refl
places_long array i (suc n) = omega (arith, places_long array (i + 1) n)

pub all_long : (c : Core) (arrays : List ℕ) → length (places_of c arrays) ≡ sum_by (λ a. room (slice_get c.arrays a)) arrays
all_long c [] = refl
all_long c (a ∷ rest) =
    omega (arith, length-append (places_from a 0 (room (slice_get c.arrays a))) (places_of c rest), places_long a 0 (room (slice_get c.arrays a)), all_long c rest, sum_by-cons (λ a. room (slice_get c.arrays a)) a rest)

pub code_long : (c : Core) (from to : ℕ) (places : List Place) → length (list_code copies (copies_of c from to places)) ≡ 2 * length places
code_long c from to [] = refl
code_long c from to (at ∷ places) = omega (arith, code_long c from to places)

-- ---- all arrays lie low

sizes_here : (k : Kind) (n : ℕ) → fram_size k n + ram_size k n ≡ n
sizes_here Nv n = omega arith
sizes_here Const n = omega arith
sizes_here Vol n = omega arith

sizes : (arrays : List Array) → sum_by (λ a. fram_size a.kind (length a.first)) arrays + sum_by (λ a. ram_size a.kind (length a.first)) arrays ≡ total arrays
sizes [] = refl
sizes (a ∷ arrays) =
    omega (arith, sizes arrays, sizes_here a.kind (length a.first), sum_by-cons (λ a. fram_size a.kind (length a.first)) a arrays, sum_by-cons (λ a. ram_size a.kind (length a.first)) a arrays, sum_by-cons (λ (x : Array). length x.first) a arrays)

pub areas_low : (c : Core) → IsWellFormed c → AreLow (areas_from free_at_first c.arrays)
areas_low c well = arrays_low c.arrays (omega (arith, sizes c.arrays, well.fram, well.ram))
