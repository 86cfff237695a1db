-- The symbols and the peripherals of a well-formed program pass the tests of an image.
use Rattle.std.specs.Prelude.{◌≡◌, ◌⊎◌, ℕ, suc, ◌+◌, ◌<◌, ◌≤◌, Bool, true, false, not, ◌&&◌, ◌||◌, ◌==◌, List, [], ◌∷◌, ◌++◌, length, map, sum_by, None, refl}
use Rattle.std.specs.List.{AllByRecursion, list_any}
use Rattle.std.specs.Str.{bytes_eq}
use Rattle.std.proofs.Common.{inl, inr, ap, sym, ◌∙◌, arith, append_assoc}
use Rattle.std.proofs.lemmas.Bool.Decides.{nat_tests}
use Rattle.std.proofs.lemmas.List.Sums.{sum_by-cons}
use Rattle.op_table.specs.Places.{repeats}
use Rattle.ease_base.specs.declared.place.Peripheral.{Peripheral}
use Rattle.task_ast.specs.declared.tree.Kind.{Kind}
use Rattle.task_ast.specs.declared.tree.Kind.TheVariants.{Nv, Const, Vol}
use Rattle.task_ast.specs.declared.core_form.Array.{Array}
use Rattle.task_ast.specs.declared.core_form.CoreTask.{CoreTask}
use Rattle.task_ast.specs.declared.core_form.Core.{Core}
use Rattle.task_ast.specs.WellFormed.{IsDeclaredName, IsCoreArray, IsCorePeripheral, IsWellFormed, core_names, fram_size, ram_size}
use Rattle.word_isa.specs.declared.parts.Scheme.{Scheme}
use Rattle.word_isa.specs.declared.parts.Scheme.TheVariants.{Undo, Bank}
use Rattle.word_isa.specs.declared.parts.Symbol.{Symbol}
use Rattle.word_isa.specs.declared.span.Span.{Span}
use Rattle.word_isa.specs.Entries.{span, meet, is_home, shift, own, other_bank, overlaps, is_apart, name_passes, ranges_pass, symbol_passes, peripheral_passes, first_bad_symbol, first_bad_peripheral}
use Rattle.word_isa.specs.FirstFailing.{first_failing}
use Rattle.word_isa.specs.Names.{is_symbol_name}
use Rattle.line_code.specs.declared.areas.Free.{Free}
use Rattle.line_code.specs.declared.areas.Placed.{Placed}
use Rattle.line_code.specs.Areas.{area_of, area_at, free_of, areas_from, free_at_first}
use Rattle.word_code.specs.CodeOf.{symbol, symbols_from}
use Rattle.word_code.specs.Frames.{stride}
use Rattle.word_code.proofs.NamePasses.{differ_at, all_front, all_back, further, no_name, no_number, name_stands}
use Rattle.word_code.proofs.TestLaws.{one_passes, no_more}

-- ---- ranges that don't meet

apart : (a b : Span) → a.to ≤ b.from ⊎ b.to ≤ a.from → meet a b ≡ false
apart a b (inl low) = grind (arith, nat_tests)
apart a b (inr high) = grind (arith, nat_tests)

neither : (a b c : Span) → a.to ≤ b.from ⊎ b.to ≤ a.from → a.to ≤ c.from ⊎ c.to ≤ a.from → (meet a b || meet a c) ≡ false
neither a b c one two = (λ i. apart a b one i || meet a c) ∙ apart a c two

-- where the next array of a kind begins, and what lies before it
abbrev start : Free → Kind → ℕ
start free Nv = free.nv
start free Const = free.constant
start free Vol = 1048576 + free.volatile

abbrev LiesBefore : Free → Kind → (base size : ℕ) → Type 0
LiesBefore free Nv b l = (1 ≤ b) × (b + l ≤ free.nv)
LiesBefore free Const b l = (4097 ≤ b) × (b + l ≤ free.constant)
LiesBefore free Vol b l = (1048576 ≤ b) × (b + l ≤ 1048576 + free.volatile)

-- the areas that are in use stand in their order
record IsOrdered (free : Free) : Type 0 where
  some : 1 ≤ free.nv
  homes : free.nv ≤ 2049
  first_constant : 4097 ≤ free.constant
  constants : free.constant ≤ 6145
  volatile : free.volatile ≤ 4096

-- and there is room for an array of a kind
abbrev HasRoom : Free → Kind → (size : ℕ) → Type 0
HasRoom free Nv n = free.nv + n ≤ 2049
HasRoom free Const n = free.constant + n ≤ 6145
HasRoom free Vol n = free.volatile + n ≤ 4096

abbrev far : Scheme → ℕ
far scheme = stride scheme

far_is : (scheme : Scheme) → far scheme ≤ 2048
far_is Undo = omega arith
far_is Bank = omega arith

-- a range of an array that comes next doesn't meet those of an array before it
own_clear : (scheme : Scheme) (free : Free) (k k' : Kind) (n b l : ℕ) → IsOrdered free → HasRoom free k n → LiesBefore free k' b l
    → (meet (span (start free k) n) (span b l) || meet (span (start free k) n) (span (b + shift k' (far scheme)) l)) ≡ false
own_clear Undo free Nv Nv n b l is room before = neither (span (start free Nv) n) (span b l) (span (b + shift Nv (far Undo)) l) (inr (omega (arith, before.1))) (inr (omega (arith, before.1)))
own_clear Bank free Nv Nv n b l is room before = neither (span (start free Nv) n) (span b l) (span (b + shift Nv (far Bank)) l) (inr (omega (arith, before.1))) (inl (omega (arith, before.0, room)))
own_clear scheme free Nv Const n b l is room before = neither (span (start free Nv) n) (span b l) (span (b + shift Const (far scheme)) l) (inl (omega (arith, before.0, room))) (inl (omega (arith, before.0, room)))
own_clear scheme free Nv Vol n b l is room before = neither (span (start free Nv) n) (span b l) (span (b + shift Vol (far scheme)) l) (inl (omega (arith, before.0, room))) (inl (omega (arith, before.0, room)))
own_clear scheme free Const Nv n b l is room before = neither (span (start free Const) n) (span b l) (span (b + shift Nv (far scheme)) l) (inr (omega (arith, before.1, is.homes, is.first_constant))) (inr (omega (arith, before.1, is.homes, is.first_constant, far_is scheme)))
own_clear scheme free Const Const n b l is room before = neither (span (start free Const) n) (span b l) (span (b + shift Const (far scheme)) l) (inr (omega (arith, before.1))) (inr (omega (arith, before.1)))
own_clear scheme free Const Vol n b l is room before = neither (span (start free Const) n) (span b l) (span (b + shift Vol (far scheme)) l) (inl (omega (arith, before.0, room))) (inl (omega (arith, before.0, room)))
own_clear scheme free Vol Nv n b l is room before = neither (span (start free Vol) n) (span b l) (span (b + shift Nv (far scheme)) l) (inr (omega (arith, before.1, is.homes))) (inr (omega (arith, before.1, is.homes, far_is scheme)))
own_clear scheme free Vol Const n b l is room before = neither (span (start free Vol) n) (span b l) (span (b + shift Const (far scheme)) l) (inr (omega (arith, before.1, is.constants))) (inr (omega (arith, before.1, is.constants)))
own_clear scheme free Vol Vol n b l is room before = neither (span (start free Vol) n) (span b l) (span (b + shift Vol (far scheme)) l) (inr (omega (arith, before.1))) (inr (omega (arith, before.1)))

other_clear : (scheme : Scheme) (free : Free) (k k' : Kind) (n b l : ℕ) → IsOrdered free → HasRoom free k n → LiesBefore free k' b l
    → (meet (span (start free k + shift k (far scheme)) n) (span b l) || meet (span (start free k + shift k (far scheme)) n) (span (b + shift k' (far scheme)) l)) ≡ false
other_clear scheme free Nv Nv n b l is room before = neither (span (start free Nv + shift Nv (far scheme)) n) (span b l) (span (b + shift Nv (far scheme)) l) (inr (omega (arith, before.1))) (inr (omega (arith, before.1)))
other_clear scheme free Nv Const n b l is room before = neither (span (start free Nv + shift Nv (far scheme)) n) (span b l) (span (b + shift Const (far scheme)) l) (inl (omega (arith, before.0, room, far_is scheme))) (inl (omega (arith, before.0, room, far_is scheme)))
other_clear scheme free Nv Vol n b l is room before = neither (span (start free Nv + shift Nv (far scheme)) n) (span b l) (span (b + shift Vol (far scheme)) l) (inl (omega (arith, before.0, room, far_is scheme))) (inl (omega (arith, before.0, room, far_is scheme)))
other_clear scheme free Const Nv n b l is room before = neither (span (start free Const + shift Const (far scheme)) n) (span b l) (span (b + shift Nv (far scheme)) l) (inr (omega (arith, before.1, is.homes, is.first_constant))) (inr (omega (arith, before.1, is.homes, is.first_constant, far_is scheme)))
other_clear scheme free Const Const n b l is room before = neither (span (start free Const + shift Const (far scheme)) n) (span b l) (span (b + shift Const (far scheme)) l) (inr (omega (arith, before.1))) (inr (omega (arith, before.1)))
other_clear scheme free Const Vol n b l is room before = neither (span (start free Const + shift Const (far scheme)) n) (span b l) (span (b + shift Vol (far scheme)) l) (inl (omega (arith, before.0, room))) (inl (omega (arith, before.0, room)))
other_clear scheme free Vol Nv n b l is room before = neither (span (start free Vol + shift Vol (far scheme)) n) (span b l) (span (b + shift Nv (far scheme)) l) (inr (omega (arith, before.1, is.homes))) (inr (omega (arith, before.1, is.homes, far_is scheme)))
other_clear scheme free Vol Const n b l is room before = neither (span (start free Vol + shift Vol (far scheme)) n) (span b l) (span (b + shift Const (far scheme)) l) (inr (omega (arith, before.1, is.constants))) (inr (omega (arith, before.1, is.constants)))
other_clear scheme free Vol Vol n b l is room before = neither (span (start free Vol + shift Vol (far scheme)) n) (span b l) (span (b + shift Vol (far scheme)) l) (inr (omega (arith, before.1))) (inr (omega (arith, before.1)))

-- nor the kept words
own_kept : (free : Free) (k : Kind) (n kept : ℕ) → IsOrdered free → HasRoom free k n → kept ≤ 16384 → meet (span (start free k) n) (span 7042 kept) ≡ false
own_kept free Nv n kept is room few = apart (span (start free Nv) n) (span 7042 kept) (inl (omega (arith, room)))
own_kept free Const n kept is room few = apart (span (start free Const) n) (span 7042 kept) (inl (omega (arith, room)))
own_kept free Vol n kept is room few = apart (span (start free Vol) n) (span 7042 kept) (inr (omega (arith, few)))

other_kept : (scheme : Scheme) (free : Free) (k : Kind) (n kept : ℕ) → IsOrdered free → HasRoom free k n → kept ≤ 16384 → meet (span (start free k + shift k (far scheme)) n) (span 7042 kept) ≡ false
other_kept scheme free Nv n kept is room few = apart (span (start free Nv + shift Nv (far scheme)) n) (span 7042 kept) (inl (omega (arith, room, far_is scheme)))
other_kept scheme free Const n kept is room few = apart (span (start free Const + shift Const (far scheme)) n) (span 7042 kept) (inl (omega (arith, room)))
other_kept scheme free Vol n kept is room few = apart (span (start free Vol + shift Vol (far scheme)) n) (span 7042 kept) (inr (omega (arith, few)))

-- and it lies in the memory of its kind
own_home : (free : Free) (k : Kind) (n : ℕ) → HasRoom free k n → is_home k (span (start free k) n) ≡ true
own_home free Nv n room = grind (arith, nat_tests)
own_home free Const n room = grind (arith, nat_tests)
own_home free Vol n room = grind (arith, nat_tests)

other_home : (scheme : Scheme) (free : Free) (k : Kind) (n : ℕ) → HasRoom free k n → is_home k (span (start free k + shift k (far scheme)) n) ≡ true
other_home scheme free Nv n room = let low = far_is scheme in grind (arith, nat_tests)
other_home scheme free Const n room = grind (arith, nat_tests)
other_home scheme free Vol n room = grind (arith, nat_tests)

-- ---- a symbol

abbrev IsBefore : Free → Symbol → Type 0
IsBefore free s = LiesBefore free s.kind s.base s.length

none_meets : (test : Symbol → Bool) (earlier : List Symbol) → AllByRecursion (λ e. test e ≡ false) earlier → list_any test earlier ≡ false
none_meets test [] all = refl
none_meets test (e ∷ earlier) all = (λ i. all.0 i || list_any test earlier) ∙ none_meets test earlier all.1

own_all : (scheme : Scheme) (free : Free) (k : Kind) (n : ℕ) (earlier : List Symbol) → IsOrdered free → HasRoom free k n → AllByRecursion (IsBefore free) earlier
    → AllByRecursion (λ e. overlaps (far scheme) (span (start free k) n) e ≡ false) earlier
own_all scheme free k n [] is room before = tt
own_all scheme free k n (e ∷ earlier) is room before = (own_clear scheme free k e.kind n e.base e.length is room before.0, own_all scheme free k n earlier is room before.1)

other_all : (scheme : Scheme) (free : Free) (k : Kind) (n : ℕ) (earlier : List Symbol) → IsOrdered free → HasRoom free k n → AllByRecursion (IsBefore free) earlier
    → AllByRecursion (λ e. overlaps (far scheme) (span (start free k + shift k (far scheme)) n) e ≡ false) earlier
other_all scheme free k n [] is room before = tt
other_all scheme free k n (e ∷ earlier) is room before = (other_clear scheme free k e.kind n e.base e.length is room before.0, other_all scheme free k n earlier is room before.1)

both_not : (a b : Bool) → a ≡ false → b ≡ false → (not a && not b) ≡ true
both_not a b one two = rw (one, two) refl

three_true : (p q r : Bool) → p ≡ true → q ≡ true → r ≡ true → (p && q && r) ≡ true
three_true p q r one two three = rw (one, two, three) refl

four_true : (p q r s : Bool) → p ≡ true → q ≡ true → r ≡ true → s ≡ true → (p && q && r && s) ≡ true
four_true p q r s one two three four = rw (one, two, three, four) refl

some_words : (n : ℕ) → 0 < n → not (n == 0) ≡ true
some_words n some = grind (arith, nat_tests)

symbol_good : (scheme : Scheme) (free : Free) (k : Kind) (n kept : ℕ) (name : List ℕ) (earlier : List Symbol) → IsOrdered free → HasRoom free k n → kept ≤ 16384 → 0 < n → AllByRecursion (IsBefore free) earlier
    → name_passes earlier [] name ≡ true → symbol_passes (span 7042 kept) (far scheme) earlier (record { name = name; kind = k; base = start free k; length = n }) ≡ true
unfolding symbol_passes
symbol_good scheme free k n kept name earlier is room few some before named =
    let s : Symbol = record { name = name; kind = k; base = start free k; length = n } in
    let alone = none_meets (overlaps (far scheme) (own s)) earlier (own_all scheme free k n earlier is room before) in
    let other_alone = none_meets (overlaps (far scheme) (other_bank (far scheme) s)) earlier (other_all scheme free k n earlier is room before) in
    three_true (name_passes earlier [] name) (not (n == 0)) (ranges_pass (span 7042 kept) (far scheme) earlier s) named (some_words n some)
    (four_true (is_home k (own s)) (is_home k (other_bank (far scheme) s)) (is_apart (span 7042 kept) (far scheme) earlier (own s)) (is_apart (span 7042 kept) (far scheme) earlier (other_bank (far scheme) s))
    (own_home free k n room) (other_home scheme free k n room)
    (both_not (meet (own s) (span 7042 kept)) (list_any (overlaps (far scheme) (own s)) earlier) (own_kept free k n kept is room few) alone)
    (both_not (meet (other_bank (far scheme) s) (span 7042 kept)) (list_any (overlaps (far scheme) (other_bank (far scheme) s)) earlier) (other_kept scheme free k n kept is room few) other_alone))

-- ---- all symbols

-- the words of a kind
abbrev home_words : Kind → ℕ → ℕ
home_words Nv n = n
home_words Const n = 0
home_words Vol n = 0

abbrev constant_words : Kind → ℕ → ℕ
constant_words Nv n = 0
constant_words Const n = n
constant_words Vol n = 0

abbrev words_of_kind : (Kind → ℕ → ℕ) → List Array → ℕ
words_of_kind size arrays = sum_by (λ (a : Array). size a.kind (length a.first)) arrays

-- the arrays that are left have room
record HasRooms (free : Free) (homes constants volatile : ℕ) : Type 0 where
  some : 1 ≤ free.nv
  homes_end : free.nv + homes ≤ 2049
  first_constant : 4097 ≤ free.constant
  constants_end : free.constant + constants ≤ 6145
  volatile_end : free.volatile + volatile ≤ 4096

ordered : (free : Free) (h c v : ℕ) → HasRooms free h c v → IsOrdered free
ordered free h c v is = record {
  some = is.some;
  homes = omega (arith, is.homes_end);
  first_constant = is.first_constant;
  constants = omega (arith, is.constants_end);
  volatile = omega (arith, is.volatile_end);
}

room_here : (free : Free) (k : Kind) (n h c v : ℕ) → HasRooms free (home_words k n + h) (constant_words k n + c) (ram_size k n + v) → HasRoom free k n
room_here free Nv n h c v is = omega (arith, is.homes_end)
room_here free Const n h c v is = omega (arith, is.constants_end)
room_here free Vol n h c v is = omega (arith, is.volatile_end)

rooms_left : (free : Free) (k : Kind) (n h c v : ℕ) → HasRooms free (home_words k n + h) (constant_words k n + c) (ram_size k n + v) → HasRooms (free_of free k n) h c v
rooms_left free Nv n h c v is = record { some = omega (arith, is.some); homes_end = omega (arith, is.homes_end); first_constant = is.first_constant; constants_end = omega (arith, is.constants_end); volatile_end = omega (arith, is.volatile_end) }
rooms_left free Const n h c v is = record { some = is.some; homes_end = omega (arith, is.homes_end); first_constant = omega (arith, is.first_constant); constants_end = omega (arith, is.constants_end); volatile_end = omega (arith, is.volatile_end) }
rooms_left free Vol n h c v is = record { some = is.some; homes_end = omega (arith, is.homes_end); first_constant = is.first_constant; constants_end = omega (arith, is.constants_end); volatile_end = omega (arith, is.volatile_end) }

-- what lay before lies before what comes next, and so does the array itself
still_before : (free : Free) (k k' : Kind) (n b l : ℕ) → LiesBefore free k' b l → LiesBefore (free_of free k n) k' b l
still_before free Nv Nv n b l is = (is.0, omega (arith, is.1))
still_before free Nv Const n b l is = is
still_before free Nv Vol n b l is = is
still_before free Const Nv n b l is = is
still_before free Const Const n b l is = (is.0, omega (arith, is.1))
still_before free Const Vol n b l is = is
still_before free Vol Nv n b l is = is
still_before free Vol Const n b l is = is
still_before free Vol Vol n b l is = (is.0, omega (arith, is.1))

all_still : (free : Free) (k : Kind) (n : ℕ) (earlier : List Symbol) (s : Symbol) → AllByRecursion (IsBefore free) earlier → IsBefore (free_of free k n) s → AllByRecursion (IsBefore (free_of free k n)) (earlier ++ s ∷ [])
all_still free k n [] s before last = (last, tt)
all_still free k n (e ∷ earlier) s before last = (still_before free k e.kind n e.base e.length before.0, all_still free k n earlier s before.1 last)

itself_before : (free : Free) (k : Kind) (n : ℕ) → 1 ≤ free.nv → 4097 ≤ free.constant → LiesBefore (free_of free k n) k (start free k) n
itself_before free Nv n some first = (some, omega arith)
itself_before free Const n some first = (first, omega arith)
itself_before free Vol n some first = (omega arith, omega arith)

symbol_is : (a : Array) (free : Free) (k : Kind) (n : ℕ) → a.kind ≡ k → symbol a (area_of free k n) ≡ record { name = a.name; kind = k; base = start free k; length = n }
symbol_is a free Nv n is = λ i. record { name = a.name; kind = is i; base = free.nv; length = n }
symbol_is a free Const n is = λ i. record { name = a.name; kind = is i; base = free.constant; length = n }
symbol_is a free Vol n is = λ i. record { name = a.name; kind = is i; base = 1048576 + free.volatile; length = n }

named : (earlier : List Symbol) (later : List Peripheral) (name : List ℕ) → IsDeclaredName name → list_any (λ (s : Symbol). bytes_eq s.name name) earlier ≡ false
    → list_any (λ (p : Peripheral). bytes_eq p.name name) later ≡ false → name_passes earlier later name ≡ true
named earlier later name is one two = three_true (is_symbol_name name) (not (list_any (λ (s : Symbol). bytes_eq s.name name) earlier)) (not (list_any (λ (p : Peripheral). bytes_eq p.name name) later)) (name_stands name is.0 is.1) (ap not one) (ap not two)

abbrev symbol_name : Symbol → List ℕ
symbol_name s = s.name

abbrev array_name : Array → List ℕ
array_name a = a.name

module _ (scheme : Scheme) (kept : ℕ) (few : kept ≤ 16384) (areas : List Placed) (others : List (List ℕ)) where
  symbols_good : (rest : List Array) (number : ℕ) (free : Free) (earlier : List Symbol) → ((i : ℕ) → area_at areas (number + i) ≡ area_at (areas_from free rest) i) → AllByRecursion (IsBefore free) earlier
      → repeats bytes_eq (map symbol_name earlier ++ (map array_name rest ++ others)) ≡ false → AllByRecursion IsCoreArray rest
      → HasRooms free (words_of_kind home_words rest) (words_of_kind constant_words rest) (words_of_kind ram_size rest)
      → first_failing (symbol_passes (span 7042 kept) (far scheme)) earlier (symbols_from areas number rest) ≡ None
  symbols_good [] number free earlier lies before differ good rooms = no_more (symbol_passes (span 7042 kept) (far scheme)) earlier
  symbols_good (a ∷ rest) number free earlier lies before differ good rooms =
      let n : ℕ = length a.first in
      let h : ℕ = words_of_kind home_words rest in
      let c : ℕ = words_of_kind constant_words rest in
      let v : ℕ = words_of_kind ram_size rest in
      let here : number ≡ number + 0 = omega arith in
      let area : area_at areas number ≡ area_of free a.kind n = ap (area_at areas) here ∙ lies 0 in
      let one = sum_by-cons (λ (x : Array). home_words x.kind (length x.first)) a rest in
      let two = sum_by-cons (λ (x : Array). constant_words x.kind (length x.first)) a rest in
      let three = sum_by-cons (λ (x : Array). ram_size x.kind (length x.first)) a rest in
      let split : HasRooms free (home_words a.kind n + h) (constant_words a.kind n + c) (ram_size a.kind n + v) =
      record { some = rooms.some; homes_end = omega (arith, rooms.homes_end, one); first_constant = rooms.first_constant; constants_end = omega (arith, rooms.constants_end, two); volatile_end = omega (arith, rooms.volatile_end, three) } in
      let s : Symbol = record { name = a.name; kind = a.kind; base = start free a.kind; length = n } in
      let is : symbol a (area_at areas number) ≡ s = ap (symbol a) area ∙ symbol_is a free a.kind n refl in
      let apart_names = differ_at bytes_eq (map symbol_name earlier) a.name (map array_name rest ++ others) differ in
      let name_good = named earlier [] a.name good.0.0 (no_name symbol_name a.name earlier apart_names) refl in
      let passes = symbol_good scheme free a.kind n kept a.name earlier (ordered free _ _ _ split) (room_here free a.kind n h c v split) few good.0.1 before name_good in
      let behind = symbols_good rest (number + 1) (free_of free a.kind n) (earlier ++ s ∷ []) (λ i. next i) (all_still free a.kind n earlier s before (itself_before free a.kind n rooms.some rooms.first_constant))
      (ap (repeats bytes_eq) (further symbol_name earlier s (map array_name rest ++ others)) ∙ differ) good.1 (rooms_left free a.kind n h c v split) in
      ap (λ (x : Symbol). first_failing (symbol_passes (span 7042 kept) (far scheme)) earlier (x ∷ symbols_from areas (number + 1) rest)) is
      ∙ one_passes (symbol_passes (span 7042 kept) (far scheme)) earlier s (symbols_from areas (number + 1) rest) passes behind
    where
      next : (i : ℕ) → area_at areas (number + 1 + i) ≡ area_at (areas_from (free_of free a.kind (length a.first)) rest) i
      next i =
          let same : number + 1 + i ≡ number + suc i = omega arith in
          ap (area_at areas) same ∙ lies (suc i)

both_kinds : (k : Kind) (n : ℕ) → home_words k n + constant_words k n ≡ fram_size k n
both_kinds Nv n = omega arith
both_kinds Const n = omega arith
both_kinds Vol n = omega arith

fram_kinds : (arrays : List Array) → words_of_kind home_words arrays + words_of_kind constant_words arrays ≡ words_of_kind fram_size arrays
fram_kinds [] = refl
fram_kinds (a ∷ rest) =
    omega (
      arith,
      sum_by-cons (λ (x : Array). home_words x.kind (length x.first)) a rest,
      sum_by-cons (λ (x : Array). constant_words x.kind (length x.first)) a rest,
      sum_by-cons (λ (x : Array). fram_size x.kind (length x.first)) a rest,
      both_kinds a.kind (length a.first),
      fram_kinds rest,
    )

-- the names of a program, in their parts
abbrev peripheral_name : Peripheral → List ℕ
peripheral_name p = p.name

abbrev task_name : CoreTask → List ℕ
task_name t = t.name

pub symbols_pass : (scheme : Scheme) (c : Core) (kept : ℕ) → IsWellFormed c → kept ≤ 16384 → first_bad_symbol (span 7042 kept) (stride scheme) (symbols_from (areas_from free_at_first c.arrays) 0 c.arrays) ≡ None
symbols_pass scheme c kept w few =
    let others : List (List ℕ) = c.pointers ++ (map peripheral_name c.peripherals ++ map task_name c.tasks) in
    let names : core_names c ≡ map array_name c.arrays ++ others =
    append_assoc (map array_name c.arrays ++ c.pointers) (map peripheral_name c.peripherals) (map task_name c.tasks)
    ∙ append_assoc (map array_name c.arrays) c.pointers (map peripheral_name c.peripherals ++ map task_name c.tasks) in
    let kinds = fram_kinds c.arrays in
    symbols_good scheme kept few (areas_from free_at_first c.arrays) others c.arrays 0 free_at_first [] (λ i. first i) tt (sym (ap (repeats bytes_eq) names) ∙ w.distinct) w.arrays
    (record { some = omega arith; homes_end = omega (arith, kinds, w.fram); first_constant = omega arith; constants_end = omega (arith, kinds, w.fram); volatile_end = omega (arith, w.ram) })
  where
    first : (i : ℕ) → area_at (areas_from free_at_first c.arrays) (0 + i) ≡ area_at (areas_from free_at_first c.arrays) i
    first i =
        let same : 0 + i ≡ i = omega arith in
        ap (area_at (areas_from free_at_first c.arrays)) same

-- ---- peripherals

abbrev peripheral_number : Peripheral → ℕ
peripheral_number p = p.number

symbol_names : (areas : List Placed) (number : ℕ) (arrays : List Array) → map symbol_name (symbols_from areas number arrays) ≡ map array_name arrays
symbol_names areas number [] = refl
symbol_names areas number (a ∷ rest) = ap (λ (xs : List (List ℕ)). a.name ∷ xs) (symbol_names areas (number + 1) rest)

two_true : (p q : Bool) → p ≡ true → q ≡ true → (p && q) ≡ true
two_true p q one two = rw (one, two) refl

module _ (symbols : List Symbol) (pointers others : List (List ℕ)) where
  peripheral_good : (earlier : List Peripheral) (p : Peripheral) (behind : List (List ℕ)) (numbers : List ℕ) → IsDeclaredName p.name
      → repeats bytes_eq ((map symbol_name symbols ++ pointers) ++ (map peripheral_name earlier ++ p.name ∷ behind)) ≡ false → repeats (λ m n. m == n) (map peripheral_number earlier ++ p.number ∷ numbers) ≡ false
      → peripheral_passes symbols earlier p ≡ true
  unfolding peripheral_passes
  peripheral_good earlier p behind numbers is names apart_numbers =
      let front : List (List ℕ) = (map symbol_name symbols ++ pointers) ++ map peripheral_name earlier in
      let grouped : front ++ p.name ∷ behind ≡ (map symbol_name symbols ++ pointers) ++ (map peripheral_name earlier ++ p.name ∷ behind) = append_assoc (map symbol_name symbols ++ pointers) (map peripheral_name earlier) (p.name ∷ behind) in
      let differ = differ_at bytes_eq front p.name behind (ap (repeats bytes_eq) grouped ∙ names) in
      let before = all_front (λ x. bytes_eq p.name x ≡ false) (map symbol_name symbols ++ pointers) (map peripheral_name earlier) differ in
      let one = no_name symbol_name p.name symbols (all_front (λ x. bytes_eq p.name x ≡ false) (map symbol_name symbols) pointers before) in
      let two = no_name peripheral_name p.name earlier (all_back (λ x. bytes_eq p.name x ≡ false) (map symbol_name symbols ++ pointers) (map peripheral_name earlier) differ) in
      let number = no_number peripheral_number p.number earlier (differ_at (λ m n. m == n) (map peripheral_number earlier) p.number numbers apart_numbers) in
      two_true (name_passes symbols earlier p.name) (not (list_any (λ (q : Peripheral). q.number == p.number) earlier)) (named symbols earlier p.name is one two) (ap not number)

  peripherals_good : (rest earlier : List Peripheral) → AllByRecursion IsCorePeripheral rest
      → repeats bytes_eq ((map symbol_name symbols ++ pointers) ++ (map peripheral_name earlier ++ (map peripheral_name rest ++ others))) ≡ false
      → repeats (λ m n. m == n) (map peripheral_number earlier ++ map peripheral_number rest) ≡ false → first_failing (peripheral_passes symbols) earlier rest ≡ None
  peripherals_good [] earlier good names numbers = no_more (peripheral_passes symbols) earlier
  peripherals_good (p ∷ rest) earlier good names numbers =
      let next_names = ap (λ (xs : List (List ℕ)). repeats bytes_eq ((map symbol_name symbols ++ pointers) ++ xs)) (further peripheral_name earlier p (map peripheral_name rest ++ others)) ∙ names in
      let next_numbers = ap (repeats (λ m n. m == n)) (further peripheral_number earlier p (map peripheral_number rest)) ∙ numbers in
      one_passes (peripheral_passes symbols) earlier p rest (peripheral_good earlier p (map peripheral_name rest ++ others) (map peripheral_number rest) good.0.0 names numbers)
      (peripherals_good rest (earlier ++ p ∷ []) good.1 next_names next_numbers)

pub peripherals_pass : (c : Core) → IsWellFormed c → first_bad_peripheral (symbols_from (areas_from free_at_first c.arrays) 0 c.arrays) c.peripherals ≡ None
peripherals_pass c w =
    let symbols : List Symbol = symbols_from (areas_from free_at_first c.arrays) 0 c.arrays in
    let names : core_names c ≡ (map array_name c.arrays ++ c.pointers) ++ (map peripheral_name c.peripherals ++ map task_name c.tasks) = append_assoc (map array_name c.arrays ++ c.pointers) (map peripheral_name c.peripherals) (map task_name c.tasks) in
    let of_symbols = ap (λ (xs : List (List ℕ)). repeats bytes_eq ((xs ++ c.pointers) ++ (map peripheral_name c.peripherals ++ map task_name c.tasks))) (symbol_names (areas_from free_at_first c.arrays) 0 c.arrays) in
    peripherals_good symbols c.pointers (map task_name c.tasks) c.peripherals [] w.peripherals (of_symbols ∙ sym (ap (repeats bytes_eq) names) ∙ w.distinct) w.numbered
