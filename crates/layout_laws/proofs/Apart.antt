-- No two places have one address, and none is a cell of the code.
use Rattle.std.specs.Prelude.{nat_lt, nat_le, ◌&&◌, ◌||◌, ◌==◌, sum_by}
use Rattle.std.proofs.Common.{◌≡◌, ◌∙◌, ℕ, zero, suc, ◌+◌, ◌<◌, ◌≤◌, Bool, true, false, List, [], ◌∷◌, length, refl, sym, ap, arith}
use Rattle.std.proofs.lemmas.Bool.Decides.{nat_tests}
use Rattle.std.proofs.lemmas.List.Sums.{sum_by-cons}
use Rattle.task_ast.specs.declared.tree.Kind.{Kind}
use Rattle.task_ast.specs.declared.tree.Kind.TheVariants.{Nv, Const, Vol}
use Rattle.task_ast.specs.declared.core_form.Array.{Array}
use Rattle.task_ast.specs.declared.core_form.Core.{Core}
use Rattle.task_ast.specs.WellFormed.{IsWellFormed, fram_size, ram_size}
use Rattle.fram_ram.specs.Addresses.{fram_has_word, ram_has_word}
use Rattle.line_code.specs.declared.areas.Free.{Free}
use Rattle.line_code.specs.Areas.{area_at, area_of, areas_from, free_at_first, free_of}
use Rattle.line_laws.specs.Relation.{IsApart, base_at, base_word, is_cell, offset_at, place_address, room_at}
use Rattle.layout_laws.specs.Layouts.{HasOwnPlaces, IsInArea, IsOwn, LieInAreas, area_from, layout_of}

-- a number where two kinds are the same, and else 0
abbrev pub where_same : Kind → Kind → ℕ → ℕ
where_same Nv Nv n = n
where_same Const Const n = n
where_same Vol Vol n = n
where_same _ _ n = 0

-- the words of a kind that the arrays before one have
abbrev pub before : List Array → Kind → ℕ → ℕ
before [] kind n = 0
before (a ∷ arrays) kind zero = 0
before (a ∷ arrays) kind (suc n) = where_same a.kind kind (length a.first) + before arrays kind n

-- the words of a kind
abbrev pub total : List Array → Kind → ℕ
total [] kind = 0
total (a ∷ arrays) kind = where_same a.kind kind (length a.first) + total arrays kind

-- an array's kind and its number of words; there are none behind the last array
abbrev pub kind_of : List Array → ℕ → Kind
kind_of [] n = Const
kind_of (a ∷ arrays) zero = a.kind
kind_of (a ∷ arrays) (suc n) = kind_of arrays n

abbrev pub room_of : List Array → ℕ → ℕ
room_of [] n = 0
room_of (a ∷ arrays) zero = length a.first
room_of (a ∷ arrays) (suc n) = room_of arrays n

-- what is free of a kind
abbrev pub start : Free → Kind → ℕ
start f Nv = f.nv
start f Const = f.constant
start f Vol = f.volatile

-- the word that a kind's addresses count from
abbrev pub from_of : (bank : ℕ) → Kind → ℕ
from_of bank Nv = bank
from_of bank Const = 0
from_of bank Vol = 1048576

-- ---- where the definition of areas has them

from_here : (bank : ℕ) (f : Free) (k : Kind) (n : ℕ) → base_word bank (area_of f k n).base ≡ from_of bank k
from_here bank f Nv n = refl
from_here bank f Const n = refl
from_here bank f Vol n = refl

pub from_is : (bank : ℕ) (f : Free) (arrays : List Array) (n : ℕ) → base_word bank (area_at (areas_from f arrays) n).base ≡ from_of bank (kind_of arrays n)
from_is bank f [] zero = refl
from_is bank f [] (suc n) = refl
from_is bank f (a ∷ arrays) zero = from_here bank f a.kind (length a.first)
from_is bank f (a ∷ arrays) (suc n) = from_is bank (free_of f a.kind (length a.first)) arrays n

room_here : (f : Free) (k : Kind) (n : ℕ) → (area_of f k n).room ≡ n
room_here f Nv n = refl
room_here f Const n = refl
room_here f Vol n = refl

pub room_is : (f : Free) (arrays : List Array) (n : ℕ) → (area_at (areas_from f arrays) n).room ≡ room_of arrays n
room_is f [] zero = refl
room_is f [] (suc n) = refl
room_is f (a ∷ arrays) zero = room_here f a.kind (length a.first)
room_is f (a ∷ arrays) (suc n) = room_is (free_of f a.kind (length a.first)) arrays n

offset_here : (f : Free) (k : Kind) (n : ℕ) → (area_of f k n).offset ≡ start f k
offset_here f Nv n = refl
offset_here f Const n = refl
offset_here f Vol n = refl

start_behind : (f : Free) (k j : Kind) (n : ℕ) → start (free_of f k n) j ≡ start f j + where_same k j n
start_behind f Nv Nv n = refl
start_behind f Nv Const n = omega arith
start_behind f Nv Vol n = omega arith
start_behind f Const Nv n = omega arith
start_behind f Const Const n = refl
start_behind f Const Vol n = omega arith
start_behind f Vol Nv n = omega arith
start_behind f Vol Const n = omega arith
start_behind f Vol Vol n = refl

pub offset_is : (f : Free) (arrays : List Array) (n : ℕ) → 0 < room_of arrays n → (area_at (areas_from f arrays) n).offset ≡ start f (kind_of arrays n) + before arrays (kind_of arrays n) n
offset_is f [] n some = omega (arith, some)
offset_is f (a ∷ arrays) zero some = omega (arith, offset_here f a.kind (length a.first))
offset_is f (a ∷ arrays) (suc n) some =
    omega (arith, offset_is (free_of f a.kind (length a.first)) arrays n some, start_behind f a.kind (kind_of arrays n) (length a.first))

-- ---- in its kind's words

pub same_there : (k : Kind) (n : ℕ) → where_same k k n ≡ n
same_there Nv n = refl
same_there Const n = refl
same_there Vol n = refl

-- an array lies within the words of its kind
pub within : (arrays : List Array) (n : ℕ) → before arrays (kind_of arrays n) n + room_of arrays n ≤ total arrays (kind_of arrays n)
within [] n = omega arith
within (a ∷ arrays) zero = omega (arith, same_there a.kind (length a.first))
within (a ∷ arrays) (suc n) = omega (arith, within arrays n)

-- and in front of each later one of its kind
in_front : (arrays : List Array) (k : Kind) (n m : ℕ) → kind_of arrays n ≡ k → n < m → before arrays k n + room_of arrays n ≤ before arrays k m
in_front [] k n m is h = omega arith
in_front (a ∷ arrays) k zero zero is h = omega arith
in_front (a ∷ arrays) k zero (suc m) is h = omega (arith, ap (λ x. where_same x k (length a.first)) is ∙ same_there k (length a.first))
in_front (a ∷ arrays) k (suc n) zero is h = omega arith
in_front (a ∷ arrays) k (suc n) (suc m) is h = omega (arith, in_front arrays k n m is (omega arith))

fram_here : (k : Kind) (n : ℕ) → where_same k Nv n + where_same k Const n ≡ fram_size k n
fram_here Nv n = omega arith
fram_here Const n = omega arith
fram_here Vol n = refl

fram_total : (arrays : List Array) → total arrays Nv + total arrays Const ≡ sum_by (λ a. fram_size a.kind (length a.first)) arrays
fram_total [] = refl
fram_total (a ∷ arrays) = omega (arith, fram_total arrays, fram_here a.kind (length a.first), sum_by-cons (λ a. fram_size a.kind (length a.first)) a arrays)

ram_here : (k : Kind) (n : ℕ) → where_same k Vol n ≡ ram_size k n
ram_here Nv n = refl
ram_here Const n = refl
ram_here Vol n = refl

ram_total : (arrays : List Array) → total arrays Vol ≡ sum_by (λ a. ram_size a.kind (length a.first)) arrays
ram_total [] = refl
ram_total (a ∷ arrays) = omega (arith, ram_total arrays, ram_here a.kind (length a.first), sum_by-cons (λ a. ram_size a.kind (length a.first)) a arrays)

-- the words of each kind fit their area, over the first or the second bank
pub record FitAreas (arrays : List Array) (bank : ℕ) : Type 0 where
  pub nv : total arrays Nv ≤ 2048
  pub const : total arrays Const ≤ 2048
  pub vol : total arrays Vol ≤ 2048
  pub banks : bank ≤ 2048

pub fit_areas : (c : Core) (bank : ℕ) → IsWellFormed c → bank ≤ 2048 → FitAreas c.arrays bank
fit_areas c bank w banks =
    let fram : sum_by (λ a. fram_size a.kind (length a.first)) c.arrays ≤ 2048 = w.fram in
    let ram : sum_by (λ a. ram_size a.kind (length a.first)) c.arrays ≤ 2048 = w.ram in
    record {
      nv = omega (arith, fram, fram_total c.arrays);
      const = omega (arith, fram, fram_total c.arrays);
      vol = omega (arith, ram, ram_total c.arrays);
      banks = banks;
    }

-- ---- addresses

-- a place of an array of a kind
record IsPlace (arrays : List Array) (n i : ℕ) (k : Kind) : Type 0 where
  kind : kind_of arrays n ≡ k
  inside : i < room_of arrays n

-- the address of a place, by its kind
abbrev pub at_kind : List Array → (bank : ℕ) → Kind → ℕ → ℕ → ℕ
at_kind arrays bank k n i = from_of bank k + i + (start free_at_first k + before arrays k n)

within_kind : (arrays : List Array) (n i : ℕ) (k : Kind) → IsPlace arrays n i k → before arrays k n + i < total arrays k
within_kind arrays n i k place =
    let h : before arrays k n + room_of arrays n ≤ total arrays k = rw place.kind at (within arrays n) in
    omega (arith, place.inside, h)

-- places of two kinds lie apart
kinds_apart : (arrays : List Array) (bank : ℕ) (n m i j : ℕ) (k l : Kind) → FitAreas arrays bank → IsPlace arrays n i k → IsPlace arrays m j l → at_kind arrays bank k n i ≡ at_kind arrays bank l m j → k ≡ l
kinds_apart arrays bank n m i j Nv Nv fit a b same = refl
kinds_apart arrays bank n m i j Const Const fit a b same = refl
kinds_apart arrays bank n m i j Vol Vol fit a b same = refl
kinds_apart arrays bank n m i j Nv Const fit a b same = absurd (omega (arith, within_kind arrays n i Nv a, fit.nv, fit.banks, same))
kinds_apart arrays bank n m i j Nv Vol fit a b same = absurd (omega (arith, within_kind arrays n i Nv a, fit.nv, fit.banks, same))
kinds_apart arrays bank n m i j Const Nv fit a b same = absurd (omega (arith, within_kind arrays m j Nv b, fit.nv, fit.banks, same))
kinds_apart arrays bank n m i j Const Vol fit a b same = absurd (omega (arith, within_kind arrays n i Const a, fit.const, same))
kinds_apart arrays bank n m i j Vol Nv fit a b same = absurd (omega (arith, within_kind arrays m j Nv b, fit.nv, fit.banks, same))
kinds_apart arrays bank n m i j Vol Const fit a b same = absurd (omega (arith, within_kind arrays m j Const b, fit.const, same))

-- places of one kind
one_kind : (arrays : List Array) (n m i j : ℕ) (k : Kind) → IsPlace arrays n i k → IsPlace arrays m j k → i + before arrays k n ≡ j + before arrays k m → n ≡ m
one_kind arrays n m i j k a b same = grind (arith, in_front arrays k n m a.kind, in_front arrays k m n b.kind, a.inside, b.inside, same)

-- no two places have one address
apart : (arrays : List Array) (bank n m i j : ℕ) → FitAreas arrays bank → i < room_of arrays n → j < room_of arrays m
    → at_kind arrays bank (kind_of arrays n) n i ≡ at_kind arrays bank (kind_of arrays m) m j → (n ≡ m) × (i ≡ j)
apart arrays bank n m i j fit h k same =
    let kinds : kind_of arrays n ≡ kind_of arrays m = kinds_apart arrays bank n m i j (kind_of arrays n) (kind_of arrays m) fit (record { kind = refl; inside = h }) (record { kind = refl; inside = k }) same in
    let same_kind : at_kind arrays bank (kind_of arrays n) n i ≡ at_kind arrays bank (kind_of arrays n) m j = rw (← kinds) at same in
    let one : n ≡ m = one_kind arrays n m i j (kind_of arrays n) (record { kind = refl; inside = h }) (record { kind = sym kinds; inside = k }) (omega (arith, same_kind)) in
    let behind : before arrays (kind_of arrays n) n ≡ before arrays (kind_of arrays n) m = ap (before arrays (kind_of arrays n)) one in
    (one, omega (arith, same_kind, behind))

-- a place's address is its kind's
pub address_is : (c : Core) (bank n i : ℕ) → i < room_of c.arrays n → place_address (layout_of c bank) n i ≡ at_kind c.arrays bank (kind_of c.arrays n) n i
address_is c bank n i inside = omega (arith, from_is bank free_at_first c.arrays n, offset_is free_at_first c.arrays n (omega (arith, inside)))

room_there : (c : Core) (bank n i : ℕ) → i < room_at (layout_of c bank) n → i < room_of c.arrays n
room_there c bank n i inside = omega (arith, inside, room_is free_at_first c.arrays n)

pub program_apart : (c : Core) (bank : ℕ) → IsWellFormed c → bank ≤ 2048 → IsApart (layout_of c bank)
program_apart c bank w banks n m i j h k same =
    let here : i < room_of c.arrays n = room_there c bank n i h in
    let there : j < room_of c.arrays m = room_there c bank m j k in
    apart c.arrays bank n m i j (fit_areas c bank w banks) here there (sym (address_is c bank n i here) ∙ same ∙ address_is c bank m j there)

-- ---- no cell of the code

own_home : (a : ℕ) → 1 ≤ a → a < 6145 → IsOwn a
own_home a some few = record { there = fram_has_word a (omega (arith, few)); apart = grind (arith, nat_tests, some, few) }

own_ram : (a : ℕ) → 1049408 ≤ a → a < 1052672 → IsOwn a
own_ram a some few = record { there = ram_has_word a (omega (arith, some)) few; apart = grind (arith, nat_tests, some, few) }

own_at : (arrays : List Array) (bank n i : ℕ) (k : Kind) → FitAreas arrays bank → IsPlace arrays n i k → IsOwn (at_kind arrays bank k n i)
own_at arrays bank n i Nv fit place = own_home (at_kind arrays bank Nv n i) (omega arith) (omega (arith, within_kind arrays n i Nv place, fit.nv, fit.banks))
own_at arrays bank n i Const fit place = own_home (at_kind arrays bank Const n i) (omega arith) (omega (arith, within_kind arrays n i Const place, fit.const))
own_at arrays bank n i Vol fit place = own_ram (at_kind arrays bank Vol n i) (omega arith) (omega (arith, within_kind arrays n i Vol place, fit.vol))

pub program_outside : (c : Core) (bank : ℕ) → IsWellFormed c → bank ≤ 2048 → HasOwnPlaces (layout_of c bank)
program_outside c bank w banks n i inside =
    let here : i < room_of c.arrays n = room_there c bank n i inside in
    rw (address_is c bank n i here) (own_at c.arrays bank n i (kind_of c.arrays n) (fit_areas c bank w banks) (record { kind = refl; inside = here }))

-- ---- in its kind's area

abbrev pub base_of : Kind → ℕ
base_of Nv = 14
base_of Const = 0
base_of Vol = 15

pub base_is : (f : Free) (arrays : List Array) (n : ℕ) → (area_at (areas_from f arrays) n).base ≡ base_of (kind_of arrays n)
base_is f [] zero = refl
base_is f [] (suc n) = refl
base_is f (a ∷ arrays) zero = base_here f a.kind (length a.first)
  where
    base_here : (g : Free) (k : Kind) (n : ℕ) → (area_of g k n).base ≡ base_of k
    base_here g Nv n = refl
    base_here g Const n = refl
    base_here g Vol n = refl
base_is f (a ∷ arrays) (suc n) = base_is (free_of f a.kind (length a.first)) arrays n

area_at_kind : (arrays : List Array) (bank n i : ℕ) (k : Kind) → FitAreas arrays bank → IsPlace arrays n i k → IsInArea bank (base_of k) (at_kind arrays bank k n i)
area_at_kind arrays bank n i Nv fit place = record { from = omega arith; below = omega (arith, within_kind arrays n i Nv place, fit.nv) }
area_at_kind arrays bank n i Const fit place = record { from = omega arith; below = omega (arith, within_kind arrays n i Const place, fit.const) }
area_at_kind arrays bank n i Vol fit place = record { from = omega arith; below = omega (arith, within_kind arrays n i Vol place, fit.vol) }

pub program_areas : (c : Core) (bank : ℕ) → IsWellFormed c → bank ≤ 2048 → LieInAreas (layout_of c bank)
program_areas c bank w banks n i inside =
    let here : i < room_of c.arrays n = room_there c bank n i inside in
    rw (address_is c bank n i here, base_is free_at_first c.arrays n)
    (area_at_kind c.arrays bank n i (kind_of c.arrays n) (fit_areas c bank w banks) (record { kind = refl; inside = here }))
