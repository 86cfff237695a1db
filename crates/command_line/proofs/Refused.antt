-- The words that `clap` refuses where they stand.
use Rattle.std.specs.Prelude.{◌≡◌, ℕ, false, List, [], ◌∷◌, codes, Option, Some, None, slice_get}
use Rattle.std.proofs.Common.{refl, ap, sym, ◌∙◌, subst}
use Rattle.std.specs.Char.{encode_utf8}
use Rattle.std.specs.Str.{bytes_eq, chars, IsUtf8, encode_utf8_all}
use Rattle.std.proofs.lemmas.Str.{chars-encodes}
use Rattle.clap.specs.Walk.{Row, Rule, Text, Waiting, arg_by_long, idle, positional, option}
use Rattle.clap.specs.Faults.{flags_fault, turn_fault}
use Rattle.clap.specs.Kinds.{Kinds, or_else}
use Rattle.command_line.proofs.Walked.{at, top, built_rules, long_turn, long_faults, IsLong}
use Rattle.command_line.proofs.Shapes.{IsShort}

-- the first part of a fault is none where the whole is
pub first_none : (a b : Kinds) → or_else a b ≡ [] → a ≡ []
first_none [] b e = refl
first_none (k ∷ ks) b e = e

pub some_first : {A : Type 0} (x : A) (xs : List A) → x ∷ xs ≡ [] → ⊥
some_first x xs e = cc

-- a name that is neither
pub unknown_refused : (r : List Row) (p : Option (Text × List Text)) (w : Waiting) (k : ℕ) (word name : Text) (given : Option Text) → IsLong word name given
    → bytes_eq (codes "brief") name ≡ false → bytes_eq (codes "scheme") name ≡ false → turn_fault top [] (at r p w k false) word ≡ [] → ⊥
unknown_refused r p w k word name given is brief scheme none =
    let missing : arg_by_long built_rules name ≡ None = rw (brief, scheme) refl in
    let first = first_none _ _ (sym (long_turn r p w k word name given is) ∙ none) in
    some_first _ _ (sym (ap (λ (o : Option Rule). long_faults r p o given) missing) ∙ first)

-- the flag with a value
pub flag_value_refused : (r : List Row) (p : Option (Text × List Text)) (w : Waiting) (k : ℕ) (word value : Text) → IsLong word (codes "brief") (Some value) → turn_fault top [] (at r p w k false) word ≡ [] → ⊥
flag_value_refused r p w k word value is none =
    some_first _ _ (sym (long_turn r p w k word (codes "brief") (Some value) is) ∙ none)

-- ---- short words

no_rest : (c : ℕ) (flags : Text) → 45 ∷ [] ≡ 45 ∷ c ∷ flags → ⊥
no_rest c flags e = cc

first_of_chars : (c : ℕ) (flags : Text) (cs : List ℕ) → chars (c ∷ flags) ≡ cs → IsUtf8 (45 ∷ c ∷ flags) → (y : ℕ) × (slice_get (chars (c ∷ flags)) 0 ≡ Some y)
unfolding chars encode_utf8
first_of_chars c flags [] is utf8 =
    let all : chars (45 ∷ c ∷ flags) ≡ 45 ∷ [] = ap (λ (xs : List ℕ). 45 ∷ xs) is in
    let same : utf8.0 ≡ 45 ∷ [] = sym (chars-encodes utf8.0 utf8.1.0) ∙ ap chars utf8.1.1 ∙ all in
    absurd (no_rest c flags (ap encode_utf8_all (sym same) ∙ utf8.1.1))
first_of_chars c flags (y ∷ ys) is utf8 = (y, ap (λ (xs : List ℕ). slice_get xs 0) is)

-- a word `-x..` has a first character, and no argument has it
pub short_refused : (r : List Row) (p : Option (Text × List Text)) (w : Waiting) (k : ℕ) (word : Text) (c : ℕ) (flags : Text) → IsShort word (c ∷ flags) → IsUtf8 word → turn_fault top [] (at r p w k false) word ≡ [] → ⊥
unfolding flags_fault
short_refused r p w k word c flags is utf8 none =
    let found = first_of_chars c flags (chars (c ∷ flags)) refl (subst IsUtf8 is.spelled utf8) in
    by_waiting w none found.0 found.1
  where
    by_waiting : (w : Waiting) → turn_fault top [] (at r p w k false) word ≡ [] → (y : ℕ) → slice_get (chars (c ∷ flags)) 0 ≡ Some y → ⊥
    by_waiting idle none y first = some_first _ _ (rw (is.dashes, is.long, is.short, first) at none)
    by_waiting (option id) none y first = some_first _ _ (rw (is.dashes, is.long, is.short, first) at none)
    by_waiting positional none y first = some_first _ _ (rw (is.dashes, is.long, is.short, first) at none)
