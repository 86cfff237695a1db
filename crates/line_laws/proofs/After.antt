-- A store stays related over a write of a word and of a pointer.
use Rattle.std.specs.Prelude.{◌-◌}
use Rattle.std.proofs.Common.{◌≡◌, ◌∙◌, ◌≢◌, ◌⊎◌, inl, inr, ℕ, ◌+◌, ◌^◌, ◌<◌, ◌≤◌, false, length, Option, Some, None, refl, sym, ap, subst, length-set, arith}
use Rattle.std.proofs.lemmas.Bool.{cases_lt}
use Rattle.std.proofs.lemmas.Bool.Decides.{nat_tests}
use Rattle.fram_ram.specs.Memories.{put}
use Rattle.walk_run.specs.declared.place.Place.{Place}
use Rattle.walk_run.specs.Store.{Store, place, words_of, word_at, put_word, pointed, put_pointer}
use Rattle.walk_run.specs.StoreLaws.{rooms_stay, word_same, word_other, pointed_same, pointed_other}
use Rattle.word_machine.specs.Straight.{Spot}
use Rattle.line_code.specs.Areas.{pointer_at}
use Rattle.line_laws.specs.Gives.{IsKept, is_temp}
use Rattle.line_laws.specs.Relation.{Layout, base_at, room_at, place_address, is_cell, HasCell, Points, Related, IsApart}
use Rattle.line_laws.proofs.Places.{apart_deeper, pointer_cell}

pub put_same : (memory : ℕ → ℕ) (a word : ℕ) → put memory a word a ≡ word
put_same memory a word = grind (arith, nat_tests)

pub put_other : (memory : ℕ → ℕ) (a word b : ℕ) → a ≢ b → put memory a word b ≡ memory b
put_other memory a word b h = grind (arith, nat_tests)

cases_eq : (n m : ℕ) → (n ≡ m) ⊎ (n ≢ m)
cases_eq n m = elim (cases_lt n m) [ inl a ↦ inr (omega arith) | inr a ↦ elim (cases_lt m n) [ inl b ↦ inr (omega arith) | inr b ↦ inl (omega arith) ] ]

same_place : (a i b j : ℕ) → ((a ≡ b) × (i ≡ j)) ⊎ ((a ≡ b) × (i ≡ j) → ⊥)
same_place a i b j = elim (cases_eq a b) [ inl e ↦ elim (cases_eq i j) [ inl f ↦ inl (e, f) | inr f ↦ inr (λ x. f x.1) ] | inr e ↦ inr (λ x. e x.0) ]

other_way : (a i b j : ℕ) → (b ≡ a) × (j ≡ i) → (a ≡ b) × (i ≡ j)
other_way a i b j h = (sym h.0, sym h.1)

-- a place's address is no pointer's cell
no_pointer : (a k : ℕ) → is_cell a ≡ false → k < 832 → a ≢ 1048576 + k
no_pointer a k h small = grind (arith, nat_tests)

-- what a place has after a write of a word
cell_after : (l : Layout) (store : Store) (at : Place) (word other i : ℕ) (s t : Spot) → IsApart l → at.index < room_at l at.array → at.index < length (words_of store at.array) → word < 2 ^ 32 → i < room_at l other
    → ((a : ℕ) → is_temp 0 a ≡ false → t.store a ≡ put s.store (place_address l at.array at.index) word a)
    → HasCell s (place_address l other i) (word_at store (place other i)) → HasCell t (place_address l other i) (word_at (put_word at word store) (place other i))
cell_after l store at word other i s t apart inside there fits below stored c = elim (same_place other i at.array at.index) [
  | inl same ↦
      let new : word_at (put_word at word store) (place other i) ≡ word = ap (λ x. word_at (put_word at word store) (place x i)) same.0 ∙ ap (λ x. word_at (put_word at word store) (place at.array x)) same.1 ∙ word_same at word store there in
      let to : place_address l other i ≡ place_address l at.array at.index = ap (λ x. place_address l x i) same.0 ∙ ap (λ x. place_address l at.array x) same.1 in
      record {
        there = c.there;
        apart = c.apart;
        holds = stored (place_address l other i) (apart_deeper 0 (place_address l other i) c.apart) ∙ ap (put s.store (place_address l at.array at.index) word) to ∙ put_same s.store (place_address l at.array at.index) word ∙ sym new;
        fits = rw new fits;
      }
  | inr differs ↦
      let old : word_at (put_word at word store) (place other i) ≡ word_at store (place other i) = word_other at word store (place other i) differs in
      record {
        there = c.there;
        apart = c.apart;
        holds = stored (place_address l other i) (apart_deeper 0 (place_address l other i) c.apart)
            ∙ put_other s.store (place_address l at.array at.index) word (place_address l other i) (λ e. differs (other_way other i at.array at.index (apart at.array other at.index i inside below e))) ∙ c.holds ∙ sym old;
        fits = rw old c.fits;
      }
]

-- the cells of a pointer after a write elsewhere
points_after : (l : Layout) (cell : ℕ) (at : Option Place) (m n : ℕ → ℕ) → n (1048576 + cell) ≡ m (1048576 + cell) → n (1048576 + (cell + 1)) ≡ m (1048576 + (cell + 1)) → Points l cell at m → Points l cell at n
points_after l cell None m n one two h = two ∙ h
points_after l cell (Some at) m n one two h = (one ∙ h.0, two ∙ h.1, h.2)

-- a store stays related over a write of a word
pub related_after : (l : Layout) (c : ℕ) (store : Store) (at : Place) (word : ℕ) (s t : Spot) → IsApart l → at.index < room_at l at.array → word < 2 ^ 32 → Related l c s store
    → ((r : ℕ) → IsKept r → t.regs r ≡ s.regs r) → ((a : ℕ) → is_temp 0 a ≡ false → t.store a ≡ put s.store (place_address l at.array at.index) word a)
    → Related l c t (put_word at word store)
related_after l c store at word s t apart inside fits h fixed stored =
    let there : at.index < length (words_of store at.array) = rw (h.arrays at.array).rooms inside in
    let to : ℕ = place_address l at.array at.index in
    let clear : is_cell to ≡ false = ((h.arrays at.array).cells at.index inside).apart in
    record {
      zero_is = fixed 0 (record { one = refl; two = refl; three = refl }) ∙ h.zero_is;
      ram_is = fixed 15 (record { one = refl; two = refl; three = refl }) ∙ h.ram_is;
      few = h.few;
      many = h.many;
      arrays = λ other. record {
        base = (h.arrays other).base;
        from = fixed (base_at l other) (h.arrays other).base ∙ (h.arrays other).from;
        rooms = rooms_stay at word store other ∙ (h.arrays other).rooms;
        cells = λ i below. cell_after l store at word other i s t apart inside there fits below stored ((h.arrays other).cells i below);
      };
      pointers = λ pointer below.
          let k : ℕ = pointer_at pointer in
          let near : k + 1 < 832 = omega (arith, below, h.few) in
          points_after l k (pointed store pointer) s.store t.store
          (stored (1048576 + k) (pointer_cell 0 k (omega arith)) ∙ put_other s.store to word (1048576 + k) (no_pointer to k clear (omega (arith, near))))
          (stored (1048576 + (k + 1)) (pointer_cell 0 (k + 1) (omega arith)) ∙ put_other s.store to word (1048576 + (k + 1)) (no_pointer to (k + 1) clear near))
          (h.pointers pointer below);
    }

-- and over an assignment of a pointer
pub related_pointed : (l : Layout) (c : ℕ) (store : Store) (pointer : ℕ) (at : Place) (s t : Spot) → pointer < c → at.index < room_at l at.array → Related l c s store
    → ((r : ℕ) → IsKept r → t.regs r ≡ s.regs r)
    → ((a : ℕ) → t.store a ≡ put (put s.store (1048576 + pointer_at pointer) (place_address l at.array at.index)) (1048576 + (pointer_at pointer + 1)) (room_at l at.array - at.index) a)
    → Related l c t (put_pointer pointer at store)
related_pointed l c store pointer at s t there inside h fixed stored =
    let one : ℕ = 1048576 + pointer_at pointer in
    let two : ℕ = 1048576 + (pointer_at pointer + 1) in
    let address : ℕ = place_address l at.array at.index in
    let left : ℕ = room_at l at.array - at.index in
    let elsewhere : (a : ℕ) → one ≢ a → two ≢ a → t.store a ≡ s.store a = λ a m n. stored a ∙ put_other (put s.store one address) two left a n ∙ put_other s.store one address a m in
    record {
      zero_is = fixed 0 (record { one = refl; two = refl; three = refl }) ∙ h.zero_is;
      ram_is = fixed 15 (record { one = refl; two = refl; three = refl }) ∙ h.ram_is;
      few = h.few;
      many = subst (λ n. c ≤ n) (sym (length-set store.pointers pointer (Some at))) h.many;
      arrays = λ other. record {
        base = (h.arrays other).base;
        from = fixed (base_at l other) (h.arrays other).base ∙ (h.arrays other).from;
        rooms = (h.arrays other).rooms;
        cells = λ i below.
            let c : HasCell s (place_address l other i) (word_at store (place other i)) = (h.arrays other).cells i below in
            let near : pointer_at pointer + 1 < 832 = omega (arith, there, h.few) in
            record {
              there = c.there;
              apart = c.apart;
              holds = elsewhere (place_address l other i) (λ e. no_pointer (place_address l other i) (pointer_at pointer) c.apart (omega (arith, near)) (sym e))
                  (λ e. no_pointer (place_address l other i) (pointer_at pointer + 1) c.apart near (sym e)) ∙ c.holds;
              fits = c.fits;
            };
      };
      pointers = λ other below. elim (cases_eq other pointer) [
        | inl same ↦ subst (λ x. Points l (pointer_at x) (pointed (put_pointer pointer at store) x) t.store) (sym same)
            (subst (λ p. Points l (pointer_at pointer) p t.store) (sym (pointed_same pointer at store (omega (arith, there, h.many))))
            (stored one ∙ put_other (put s.store one address) two left one (λ (e : two ≡ one). omega (arith, e)) ∙ put_same s.store one address, stored two ∙ put_same (put s.store one address) two left, inside))
        | inr differs ↦
            subst (λ p. Points l (pointer_at other) p t.store) (sym (pointed_other pointer at store other differs))
            (points_after l (pointer_at other) (pointed store other) s.store t.store
            (elsewhere (1048576 + pointer_at other) (λ (e : one ≡ 1048576 + pointer_at other). differs (omega (arith, e))) (λ (e : two ≡ 1048576 + pointer_at other). omega (arith, e)))
            (elsewhere (1048576 + (pointer_at other + 1)) (λ (e : one ≡ 1048576 + (pointer_at other + 1)). omega (arith, e)) (λ (e : two ≡ 1048576 + (pointer_at other + 1)). differs (omega (arith, e))))
            (h.pointers other below))
      ];
    }
