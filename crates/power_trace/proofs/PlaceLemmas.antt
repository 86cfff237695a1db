-- The text of a place, one symbol after another.
use Rattle.std.specs.Prelude.{◌-◌, if◌then◌else◌}
use Rattle.std.specs.Option.{option_or}
use Rattle.std.proofs.Common.{◌≡◌, ◌∙◌, ℕ, suc, Bool, true, false, List, [], ◌∷◌, Some, None, refl, ap}
use Rattle.devices.specs.Journal.{Place, cell, keep, address}
use Rattle.power_trace.specs.Report.{place_text, index_in}
use Rattle.word_isa.specs.Entries.{own, other_bank}
use Rattle.word_isa.specs.declared.parts.Symbol.{Symbol}
use Rattle.word_isa.specs.declared.span.Span.{Span}
use Rattle.word_machine.specs.Places.{lies_in, place_from}

-- either of two places, or a third
abbrev chosen : (a b : Bool) → (x y z : Place) → Place
chosen a b x y z = if a then x else if b then y else z

-- a symbol more in front and every number one higher
either_text : (s : Symbol) (symbols : List Symbol) (a b : Bool) (n i j : ℕ) (x y : Place) → place_text (s ∷ symbols) x ≡ place_text symbols y
    → place_text (s ∷ symbols) (chosen a b (cell (suc n) i) (cell (suc n) j) x) ≡ place_text symbols (chosen a b (cell n i) (cell n j) y)
either_text s symbols true b n i j x y e = refl
either_text s symbols false true n i j x y e = refl
either_text s symbols false false n i j x y e = e

bare_text : (s : Symbol) (symbols : List Symbol) (b : Bool) (at : ℕ) → place_text (s ∷ symbols) (if b then keep else address at) ≡ place_text symbols (if b then keep else address at)
bare_text s symbols true at = refl
bare_text s symbols false at = refl

pub text_later : (s : Symbol) (symbols rest : List Symbol) (n stride : ℕ) (kept : Span) (at : ℕ) → place_text (s ∷ symbols) (place_from (suc n) rest stride kept at) ≡ place_text symbols (place_from n rest stride kept at)
text_later s symbols [] n stride kept at = bare_text s symbols (lies_in kept at) at
text_later s symbols (x ∷ rest) n stride kept at =
    either_text s symbols (lies_in (own x) at) (lies_in (other_bank stride x) at) n (at - x.base) (at - (other_bank stride x).from)
    (place_from (suc (suc n)) rest stride kept at) (place_from (suc n) rest stride kept at) (text_later s symbols rest (suc n) stride kept at)

-- the address is a word of the first symbol, or of none or a later one
found_text : (s : Symbol) (symbols : List Symbol) (a b : Bool) (i j k : ℕ) (z : Place) → option_or (if a then Some i else None) (if b then Some j else None) ≡ Some k
    → place_text (s ∷ symbols) (chosen a b (cell 0 i) (cell 0 j) z) ≡ place_text (s ∷ symbols) (cell 0 k)
found_text s symbols true b i j k z e = let same : i ≡ k = cc in ap (λ n. place_text (s ∷ symbols) (cell 0 n)) same
found_text s symbols false true i j k z e = let same : j ≡ k = cc in ap (λ n. place_text (s ∷ symbols) (cell 0 n)) same
found_text s symbols false false i j k z e = cc

pub first_text : (s : Symbol) (symbols : List Symbol) (stride : ℕ) (kept : Span) (at k : ℕ) → index_in s stride at ≡ Some k
    → place_text (s ∷ symbols) (place_from 0 (s ∷ symbols) stride kept at) ≡ place_text (s ∷ symbols) (cell 0 k)
first_text s symbols stride kept at k e =
    found_text s symbols (lies_in (own s) at) (lies_in (other_bank stride s) at) (at - s.base) (at - (other_bank stride s).from) k (place_from 1 symbols stride kept at) e

missed_text : (s : Symbol) (symbols : List Symbol) (a b : Bool) (i j : ℕ) (z : Place) → option_or (if a then Some i else None) (if b then Some j else None) ≡ None
    → place_text (s ∷ symbols) (chosen a b (cell 0 i) (cell 0 j) z) ≡ place_text (s ∷ symbols) z
missed_text s symbols true b i j z e = cc
missed_text s symbols false true i j z e = cc
missed_text s symbols false false i j z e = refl

pub other_text : (s : Symbol) (symbols : List Symbol) (stride : ℕ) (kept : Span) (at : ℕ) → index_in s stride at ≡ None
    → place_text (s ∷ symbols) (place_from 0 (s ∷ symbols) stride kept at) ≡ place_text symbols (place_from 0 symbols stride kept at)
other_text s symbols stride kept at e =
    missed_text s symbols (lies_in (own s) at) (lies_in (other_bank stride s) at) (at - s.base) (at - (other_bank stride s).from) (place_from 1 symbols stride kept at) e
    ∙ text_later s symbols symbols 0 stride kept at
