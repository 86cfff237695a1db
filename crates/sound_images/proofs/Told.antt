-- The addresses that an image's copies show are told as the places of the program.
use Rattle.std.specs.Prelude.{◌⊎◌, ◌==◌, ◌&&◌, ◌||◌, not, nat_le, nat_lt, option_map, slice_get, if◌then◌else◌, Option, Some, None}
use Rattle.std.specs.List.{list_any}
use Rattle.std.proofs.Common.{◌≡◌, ◌∙◌, ℕ, zero, suc, ◌+◌, ◌-◌, ◌<◌, ◌≤◌, inl, inr, Bool, true, false, List, [], ◌∷◌, ◌++◌, refl, sym, ap, subst, arith}
use Rattle.std.proofs.lemmas.Bool.Decides.{nat_tests}
use Rattle.devices.specs.Journal.{Place, address, cell, keep}
use Rattle.word_isa.specs.Entries.{is_apart, is_home, meet, name_passes, other_bank, overlaps, own, ranges_pass, span, symbol_passes}
use Rattle.word_isa.specs.FirstFailing.{first_failing}
use Rattle.word_isa.specs.declared.span.Span.{Span}
use Rattle.word_isa.specs.declared.parts.Symbol.{Symbol}
use Rattle.word_machine.specs.Places.{kept_or_bare, lies_in, place_from}

-- ---- ranges

both_meet : (a b : Span) (at : ℕ) → lies_in a at ≡ true → lies_in b at ≡ true → meet a b ≡ true
both_meet a b at one two = grind (arith, nat_tests, one, two)

-- where ranges don't meet, what lies in one doesn't lie in the other
lies_apart : (a b : Span) (at : ℕ) → lies_in a at ≡ true → meet a b ≡ false → lies_in b at ≡ false
lies_apart a b at one none = by (lies_in b at) refl
  where
    by : (t : Bool) → lies_in b at ≡ t → t ≡ false
    by true is = let clash : true ≡ false = sym (both_meet a b at one is) ∙ none in absurd (cc clash)
    by false is = refl

or_false : (a b : Bool) → (a || b) ≡ false → (a ≡ false) × (b ≡ false)
or_false true b is = absurd (cc is)
or_false false b is = (refl, is)

and_true : (a b : Bool) → (a && b) ≡ true → (a ≡ true) × (b ≡ true)
and_true true b is = (refl, is)
and_true false b is = absurd (cc is)

not_true : (a : Bool) → not a ≡ true → a ≡ false
not_true true is = absurd (cc is)
not_true false is = refl

none_more : (o : Option ℕ) → option_map suc o ≡ None → o ≡ None
none_more None is = refl
none_more (Some n) is = absurd (cc is)

-- ---- symbols lie apart

abbrev IsAmong : Symbol → List Symbol → Type 0
IsAmong x [] = ⊥
IsAmong x (y ∷ ys) = (y ≡ x) ⊎ IsAmong x ys

among_front : (x : Symbol) (ys zs : List Symbol) → IsAmong x ys → IsAmong x (ys ++ zs)
among_front x [] zs h = absurd h
among_front x (y ∷ ys) zs (inl is) = inl is
among_front x (y ∷ ys) zs (inr h) = inr (among_front x ys zs h)

among_last : (x : Symbol) (ys : List Symbol) → IsAmong x (ys ++ x ∷ [])
among_last x [] = inl refl
among_last x (y ∷ ys) = inr (among_last x ys)

none_any : (f : Symbol → Bool) (x : Symbol) (ys : List Symbol) → list_any f ys ≡ false → IsAmong x ys → f x ≡ false
none_any f x [] none h = absurd h
none_any f x (y ∷ ys) none (inl is) = ap f (sym is) ∙ (or_false (f y) (list_any f ys) none).0
none_any f x (y ∷ ys) none (inr h) = none_any f x ys (or_false (f y) (list_any f ys) none).1 h

module _ (kept : Span) (stride : ℕ) where
  -- a range that meets neither the kept words nor an earlier symbol's ranges
  record IsClear (range : Span) (earlier : List Symbol) : Type 0 where
    words : meet range kept ≡ false
    symbols : (x : Symbol) → IsAmong x earlier → (meet range (own x) ≡ false) × (meet range (other_bank stride x) ≡ false)

  clear : (range : Span) (earlier : List Symbol) → is_apart kept stride earlier range ≡ true → IsClear range earlier
  clear range earlier is =
      let parts = and_true (not (meet range kept)) (not (list_any (overlaps stride range) earlier)) is in
      record {
        words = not_true (meet range kept) parts.0;
        symbols = λ x among. or_false (meet range (own x)) (meet range (other_bank stride x)) (none_any (overlaps stride range) x earlier (not_true (list_any (overlaps stride range) earlier) parts.1) among);
      }

  -- both ranges of a symbol that passes
  record BothClear (s : Symbol) (earlier : List Symbol) : Type 0 where
    first : IsClear (own s) earlier
    second : IsClear (other_bank stride s) earlier

  ranges_clear : (s : Symbol) (earlier : List Symbol) → ranges_pass kept stride earlier s ≡ true → BothClear s earlier
  ranges_clear s earlier is =
      let outer = and_true (is_home s.kind (own s) && is_home s.kind (other_bank stride s) && is_apart kept stride earlier (own s)) (is_apart kept stride earlier (other_bank stride s)) is in
      let inner = and_true (is_home s.kind (own s) && is_home s.kind (other_bank stride s)) (is_apart kept stride earlier (own s)) outer.0 in
      record { first = clear (own s) earlier inner.1; second = clear (other_bank stride s) earlier outer.1 }

  passes_clear : (s : Symbol) (earlier : List Symbol) → symbol_passes kept stride earlier s ≡ true → BothClear s earlier
  unfolding symbol_passes
  passes_clear s earlier is = ranges_clear s earlier (and_true (name_passes earlier [] s.name && not (s.length == 0)) (ranges_pass kept stride earlier s) is).1

  -- the n-th of them, behind those before it
  record ClearBehind (s : Symbol) (earlier : List Symbol) : Type 0 where
    all : List Symbol
    among : (x : Symbol) → IsAmong x earlier → IsAmong x all
    clears : BothClear s all

  clear_at : (earlier rest : List Symbol) (n : ℕ) (s : Symbol) → first_failing (symbol_passes kept stride) earlier rest ≡ None → slice_get rest n ≡ Some s → ClearBehind s earlier
  unfolding first_failing
  clear_at earlier [] n s none there = absurd (cc there)
  clear_at earlier (y ∷ rest) n s none there = by n there (symbol_passes kept stride earlier y) refl none (λ m is later. clear_at (earlier ++ y ∷ []) rest m s later is)
    where
      later : ClearBehind s (earlier ++ y ∷ []) → ClearBehind s earlier
      later h = record { all = h.all; among = λ x among. h.among x (among_front x earlier (y ∷ []) among); clears = h.clears }

      by : (m : ℕ) → slice_get (y ∷ rest) m ≡ Some s → (b : Bool) → symbol_passes kept stride earlier y ≡ b → (if b then option_map suc (first_failing (symbol_passes kept stride) (earlier ++ y ∷ []) rest) else Some 0) ≡ None
          → ((m : ℕ) → slice_get rest m ≡ Some s → first_failing (symbol_passes kept stride) (earlier ++ y ∷ []) rest ≡ None → ClearBehind s (earlier ++ y ∷ [])) → ClearBehind s earlier
      by m is false passes one rest_clear = absurd (cc one)
      by zero is true passes one rest_clear =
          let same : y ≡ s = cc is in
          record { all = earlier; among = λ x among. among; clears = passes_clear s earlier (ap (symbol_passes kept stride earlier) (sym same) ∙ passes) }
      by (suc m) is true passes one rest_clear = later (rest_clear m is (none_more (first_failing (symbol_passes kept stride) (earlier ++ y ∷ []) rest) one))

  -- ---- the place of an address

  -- an address in the n-th symbol's first range, or in its second alone
  abbrev pub IsIn : (second : Bool) → Symbol → (at : ℕ) → Type 0
  IsIn false s at = lies_in (own s) at ≡ true
  IsIn true s at = (lies_in (own s) at ≡ false) × (lies_in (other_bank stride s) at ≡ true)

  abbrev pub index_in : (second : Bool) → Symbol → (at : ℕ) → ℕ
  index_in false s at = at - s.base
  index_in true s at = at - (other_bank stride s).from

  found_here : (second : Bool) (number : ℕ) (s : Symbol) (rest : List Symbol) (at : ℕ) → IsIn second s at → place_from number (s ∷ rest) stride kept at ≡ cell number (index_in second s at)
  found_here false number s rest at is = ap (λ b. if b then cell number (at - s.base) else if lies_in (other_bank stride s) at then cell number (at - (other_bank stride s).from) else place_from (suc number) rest stride kept at) is
  found_here true number s rest at is =
      ap (λ b. if b then cell number (at - s.base) else if lies_in (other_bank stride s) at then cell number (at - (other_bank stride s).from) else place_from (suc number) rest stride kept at) is.0
      ∙ ap (λ b. if b then cell number (at - (other_bank stride s).from) else place_from (suc number) rest stride kept at) is.1

  passed_by : (number : ℕ) (y : Symbol) (rest : List Symbol) (at : ℕ) → lies_in (own y) at ≡ false → lies_in (other_bank stride y) at ≡ false → place_from number (y ∷ rest) stride kept at ≡ place_from (suc number) rest stride kept at
  passed_by number y rest at one two =
      ap (λ b. if b then cell number (at - y.base) else if lies_in (other_bank stride y) at then cell number (at - (other_bank stride y).from) else place_from (suc number) rest stride kept at) one
      ∙ ap (λ b. if b then cell number (at - (other_bank stride y).from) else place_from (suc number) rest stride kept at) two

  apart_from : (second : Bool) (s x : Symbol) (earlier : List Symbol) (at : ℕ) → BothClear s earlier → IsAmong x earlier → IsIn second s at → (lies_in (own x) at ≡ false) × (lies_in (other_bank stride x) at ≡ false)
  apart_from false s x earlier at h among is =
      let apart = h.first.symbols x among in (lies_apart (own s) (own x) at is apart.0, lies_apart (own s) (other_bank stride x) at is apart.1)
  apart_from true s x earlier at h among is =
      let apart = h.second.symbols x among in (lies_apart (other_bank stride s) (own x) at is.1 apart.0, lies_apart (other_bank stride s) (other_bank stride x) at is.1 apart.1)

  pub place_is : (second : Bool) (number : ℕ) (earlier symbols : List Symbol) (n : ℕ) (s : Symbol) (at : ℕ) → first_failing (symbol_passes kept stride) earlier symbols ≡ None → slice_get symbols n ≡ Some s → IsIn second s at
      → place_from number symbols stride kept at ≡ cell (number + n) (index_in second s at)
  unfolding first_failing
  place_is second number earlier [] n s at none there is = absurd (cc there)
  place_is second number earlier (y ∷ rest) zero s at none there is =
      let same : y ≡ s = cc there in
      let sum_is : number ≡ number + 0 = omega arith in
      ap (λ (x : Symbol). place_from number (x ∷ rest) stride kept at) same ∙ found_here second number s rest at is ∙ ap (λ j. cell j (index_in second s at)) sum_is
  place_is second number earlier (y ∷ rest) (suc n) s at none there is = by (symbol_passes kept stride earlier y) none (λ later. place_is second (suc number) (earlier ++ y ∷ []) rest n s at later there is)
    where
      by : (b : Bool) → (if b then option_map suc (first_failing (symbol_passes kept stride) (earlier ++ y ∷ []) rest) else Some 0) ≡ None
          → (first_failing (symbol_passes kept stride) (earlier ++ y ∷ []) rest ≡ None → place_from (suc number) rest stride kept at ≡ cell (suc number + n) (index_in second s at))
          → place_from number (y ∷ rest) stride kept at ≡ cell (number + suc n) (index_in second s at)
      by false one later = absurd (cc one)
      by true one later =
          let none_behind : first_failing (symbol_passes kept stride) (earlier ++ y ∷ []) rest ≡ None = none_more (first_failing (symbol_passes kept stride) (earlier ++ y ∷ []) rest) one in
          let h : ClearBehind s (earlier ++ y ∷ []) = clear_at (earlier ++ y ∷ []) rest n s none_behind there in
          let apart = apart_from second s y h.all at h.clears (h.among y (among_last y earlier)) is in
          let sum_is : suc number + n ≡ number + suc n = omega arith in
          passed_by number y rest at apart.0 apart.1 ∙ later none_behind ∙ ap (λ j. cell j (index_in second s at)) sum_is

  -- the kept words
  pub keep_is : (number : ℕ) (earlier symbols : List Symbol) (at : ℕ) → first_failing (symbol_passes kept stride) earlier symbols ≡ None → lies_in kept at ≡ true → place_from number symbols stride kept at ≡ keep
  unfolding first_failing
  keep_is number earlier [] at none is = ap (λ b. if b then keep else address at) is
  keep_is number earlier (y ∷ rest) at none is = by (symbol_passes kept stride earlier y) refl none (λ later. keep_is (suc number) (earlier ++ y ∷ []) rest at later is)
    where
      away : (range : Span) → meet range kept ≡ false → lies_in range at ≡ false
      away range none = by_lies (lies_in range at) refl
        where
          by_lies : (t : Bool) → lies_in range at ≡ t → t ≡ false
          by_lies true there = let clash : true ≡ false = sym (both_meet range kept at there is) ∙ none in absurd (cc clash)
          by_lies false there = refl

      by : (b : Bool) → symbol_passes kept stride earlier y ≡ b → (if b then option_map suc (first_failing (symbol_passes kept stride) (earlier ++ y ∷ []) rest) else Some 0) ≡ None
          → (first_failing (symbol_passes kept stride) (earlier ++ y ∷ []) rest ≡ None → place_from (suc number) rest stride kept at ≡ keep) → place_from number (y ∷ rest) stride kept at ≡ keep
      by false passes one later = absurd (cc one)
      by true passes one later =
          let h : BothClear y earlier = passes_clear y earlier passes in
          passed_by number y rest at (away (own y) h.first.words) (away (other_bank stride y) h.second.words) ∙ later (none_more (first_failing (symbol_passes kept stride) (earlier ++ y ∷ []) rest) one)
