-- The peripherals of a checked program, and those of an image, are apart.
use Rattle.std.proofs.Common.{◌≡◌, refl, ap, ◌∙◌, subst, ℕ, suc, Bool, true, false, not, cond, ◌&&◌, ◌||◌, ◌==◌, nat_eq, List, [], ◌∷◌, ◌++◌, append_assoc, append-nil, map, Option, Some, None, is_some, bytes_eq, arith}
use Rattle.std.proofs.lemmas.Bool.{and_parts, not-true, true≢false}
use Rattle.std.proofs.lemmas.Cmp.{nat_eq_equiv, nat_list_eq_equiv}
use Rattle.std.proofs.lemmas.Map.Keys.{IsDistinct-push}
use Rattle.std.specs.Cmp.{IsEquivalence}
use Rattle.std.specs.List.{AllByRecursion, IsDistinct, list_any}
use Rattle.std.specs.Option.{option_map}
use Rattle.op_table.specs.Places.{place_of, repeats}
use Rattle.ease_base.specs.declared.place.Peripheral.{Peripheral}
use Rattle.task_ast.specs.WellFormed.{IsWellFormed, core_names}
use Rattle.task_ast.specs.declared.core_form.Core.{Core}
use Rattle.word_isa.specs.Entries.{peripheral_passes, name_passes}
use Rattle.word_isa.specs.FirstFailing.{first_failing}
use Rattle.word_isa.specs.Names.{is_symbol_name}
use Rattle.word_isa.specs.declared.image.Image.{Image}
use Rattle.word_isa.specs.declared.parts.Symbol.{Symbol}
use Rattle.world_file.specs.Peripherals.{AreApart}

or_none : (a b : Bool) → (a || b) ≡ false → (a ≡ false) × (b ≡ false)
or_none true b h = absurd (true≢false h)
or_none false b h = (refl, h)

-- ---- what stands at one place is distinct

module _ {A : Type 0} (eq : A → A → Bool) (laws : IsEquivalence eq) where
  -- an element without a place is none of the list
  none_same : (x : A) (xs : List A) → is_some (place_of eq x xs) ≡ false → AllByRecursion (λ y. eq x y ≡ false) xs
  unfolding place_of
  none_same x [] h = tt
  none_same x (y ∷ ys) h = by_test (eq y x) refl h (none_same x ys)
    where
      by_test : (t : Bool) → eq y x ≡ t → is_some (cond t (Some 0) (option_map suc (place_of eq x ys))) ≡ false
          → (is_some (place_of eq x ys) ≡ false → AllByRecursion (λ y. eq x y ≡ false) ys) → AllByRecursion (λ z. eq x z ≡ false) (y ∷ ys)
      by_test true is e rest = absurd (true≢false e)
      by_test false is e rest = (laws.symm x y ∙ is, rest (no_more (place_of eq x ys) e))
        where
          no_more : (o : Option ℕ) → is_some (option_map suc o) ≡ false → is_some o ≡ false
          no_more None h = refl
          no_more (Some n) h = absurd (true≢false h)

  -- a list that repeats nothing
  pub repeats_nothing : (xs : List A) → repeats eq xs ≡ false → IsDistinct eq xs
  unfolding repeats IsDistinct
  repeats_nothing [] h = tt
  repeats_nothing (x ∷ xs) h =
      let parts = or_none (is_some (place_of eq x xs)) (repeats eq xs) h in
      (none_same x xs parts.0, repeats_nothing xs parts.1)

  -- its parts
  all_front : (x : A) (xs ys : List A) → AllByRecursion (λ y. eq x y ≡ false) (xs ++ ys) → AllByRecursion (λ y. eq x y ≡ false) xs
  all_front x [] ys h = tt
  all_front x (z ∷ xs) ys h = (h.0, all_front x xs ys h.1)

  pub distinct_front : (xs ys : List A) → IsDistinct eq (xs ++ ys) → IsDistinct eq xs
  unfolding IsDistinct
  distinct_front [] ys h = tt
  distinct_front (x ∷ xs) ys h = (all_front x xs ys h.0, distinct_front xs ys h.1)

  pub distinct_behind : (xs ys : List A) → IsDistinct eq (xs ++ ys) → IsDistinct eq ys
  unfolding IsDistinct
  distinct_behind [] ys h = h
  distinct_behind (x ∷ xs) ys h = distinct_behind xs ys h.1

-- ---- programs

pub program_apart : (c : Core) → IsWellFormed c → AreApart c.peripherals
program_apart c good =
    let arrays = map (λ a. a.name) c.arrays in
    let peripherals = map (λ p. p.name) c.peripherals in
    let tasks = map (λ t. t.name) c.tasks in
    let all = repeats_nothing bytes_eq nat_list_eq_equiv (core_names c) good.distinct in
    record {
      names = distinct_behind bytes_eq nat_list_eq_equiv (arrays ++ c.pointers) peripherals (distinct_front bytes_eq nat_list_eq_equiv (arrays ++ c.pointers ++ peripherals) tasks all);
      numbers = repeats_nothing nat_eq nat_eq_equiv (map (λ p. p.number) c.peripherals) good.numbered;
    }

-- ---- images

-- what no earlier one has is none of theirs
module _ {A K : Type 0} (eq : K → K → Bool) (laws : IsEquivalence eq) (key : A → K) where
  none_earlier : (x : A) (xs : List A) → list_any (λ y. eq (key y) (key x)) xs ≡ false → list_any (eq (key x)) (map key xs) ≡ false
  none_earlier x [] h = refl
  none_earlier x (y ∷ ys) h =
      let parts = or_none (eq (key y) (key x)) (list_any (λ y. eq (key y) (key x)) ys) h in
      rw (laws.symm (key x) (key y) ∙ parts.0) (none_earlier x ys parts.1)

  map_end : (xs : List A) (x : A) → map key (xs ++ x ∷ []) ≡ map key xs ++ key x ∷ []
  map_end [] x = refl
  map_end (y ∷ ys) x = ap (λ l. key y ∷ l) (map_end ys x)

  -- so it may stand behind them
  pub one_behind : (xs : List A) (x : A) → IsDistinct eq (map key xs) → list_any (λ y. eq (key y) (key x)) xs ≡ false → IsDistinct eq (map key (xs ++ x ∷ []))
  one_behind xs x distinct none = rw (map_end xs x) (IsDistinct-push laws (map key xs) (key x) distinct (none_earlier x xs none))

-- a peripheral that passes behind those that are apart
one_apart : (symbols : List Symbol) (earlier : List Peripheral) (p : Peripheral) → peripheral_passes symbols earlier p ≡ true → AreApart earlier → AreApart (earlier ++ p ∷ [])
unfolding peripheral_passes
one_apart symbols earlier p passes apart =
    let (name, number) = and_parts (name_passes symbols earlier p.name) (not (list_any (λ (q : Peripheral). q.number == p.number) earlier)) passes in
    let front = and_parts (is_symbol_name p.name && not (list_any (λ (s : Symbol). bytes_eq s.name p.name) symbols)) (not (list_any (λ (q : Peripheral). bytes_eq q.name p.name) earlier)) name in
    record {
      names = one_behind bytes_eq nat_list_eq_equiv (λ q. q.name) earlier p apart.names (not-true _ front.1);
      numbers = one_behind nat_eq nat_eq_equiv (λ q. q.number) earlier p apart.numbers (not-true _ number);
    }

-- all that pass, behind those that are apart
all_apart : (symbols : List Symbol) (earlier ps : List Peripheral) → first_failing (peripheral_passes symbols) earlier ps ≡ None → AreApart earlier → AreApart (earlier ++ ps)
unfolding first_failing
all_apart symbols earlier [] none apart = rw append-nil apart
all_apart symbols earlier (p ∷ ps) none apart =
    by_test (peripheral_passes symbols earlier p) refl none (all_apart symbols (earlier ++ p ∷ []) ps)
  where
    by_test : (t : Bool) → peripheral_passes symbols earlier p ≡ t → cond t (option_map suc (first_failing (peripheral_passes symbols) (earlier ++ p ∷ []) ps)) (Some 0) ≡ None
        → (first_failing (peripheral_passes symbols) (earlier ++ p ∷ []) ps ≡ None → AreApart (earlier ++ p ∷ []) → AreApart (earlier ++ p ∷ [] ++ ps)) → AreApart (earlier ++ p ∷ ps)
    by_test true is e rest = subst AreApart (append_assoc earlier (p ∷ []) ps) (rest (no_more (first_failing (peripheral_passes symbols) (earlier ++ p ∷ []) ps) e) (one_apart symbols earlier p is apart))
      where
        no_more : (o : Option ℕ) → option_map suc o ≡ None → o ≡ None
        no_more None h = refl
        no_more (Some n) h = absurd (grind arith)
    by_test false is e rest = absurd (grind arith)

none_apart : AreApart []
unfolding IsDistinct
none_apart = record { names = tt; numbers = tt }

pub image_apart : (image : Image) → AreApart image.peripherals
image_apart image = all_apart image.symbols [] image.peripherals image.tested.peripherals_pass none_apart
