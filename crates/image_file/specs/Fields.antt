-- Numbers and texts as bytes, and how formats are made of formats (docs/FORMATS.md, "The image").
use Rattle.std.specs.Prelude.{ℕ, zero, suc, ◌<◌, List, [], ◌∷◌, ◌++◌, Option, Some, None, length, take, drop, slice_index, nat_lt, if◌then◌else◌}
use Rattle.std.specs.List.{flat_map}
use Rattle.byteorder.specs.Endian.{little_bytes, little_number}

-- each is below 256
abbrev pub AreBytes : List ℕ → Type 0
AreBytes bytes = (i : ℕ) → slice_index bytes i < 256

-- a step that may find that the bytes end, and then what the bytes behind it give
infixl 10 ◌>>=◌
abbrev pub ◌>>=◌ : {A B : Type 0} → Option A → (A → Option B) → Option B
None >>= f = None
(Some x) >>= f = f x

-- How values are written as bytes, and what the front of some bytes reads as, with the bytes behind it; None where they end
-- before it does.
pub record Format (A : Type 0) : Type 0 where
  pub spell : A → List ℕ
  pub read : List ℕ → Option (A × List ℕ)

-- the n bytes of a number, the lowest first
unfoldable pub field : ℕ → ℕ → List ℕ
field n x = little_bytes n x

-- the number in the first n bytes
abbrev pub number_at : ℕ → List ℕ → Option (ℕ × List ℕ)
number_at n bytes = if nat_lt (length bytes) n then None else Some (little_number n bytes, drop n bytes)

-- a number of n bytes
abbrev pub number : ℕ → Format ℕ
number n = record { spell = field n; read = number_at n }

-- so many bytes
abbrev pub taken_at : ℕ → List ℕ → Option (List ℕ × List ℕ)
taken_at n bytes = if nat_lt (length bytes) n then None else Some (take n bytes, drop n bytes)

-- a text: its length in one byte, and its bytes
abbrev pub text : Format (List ℕ)
text = record {
  spell = λ bytes. field 1 (length bytes) ++ bytes;
  read = λ bytes. do
    n ← number_at 1 bytes
    taken_at n.0 n.1;
}

-- so many values, one behind another
abbrev pub many_at : {A : Type 0} → (List ℕ → Option (A × List ℕ)) → ℕ → List ℕ → Option (List A × List ℕ)
many_at read zero bytes = Some ([], bytes)
many_at read (suc n) bytes = do
  x ← read bytes
  xs ← many_at read n x.1
  Some (x.0 ∷ xs.0, xs.1)

-- a list: its length in so many bytes, and its values
abbrev pub listed : ℕ → {A : Type 0} → Format A → Format (List A)
listed width f = record {
  spell = λ xs. field width (length xs) ++ flat_map f.spell xs;
  read = λ bytes. do
    n ← number_at width bytes
    many_at f.read n.0 n.1;
}

-- one value and then another, whose format the first may decide
abbrev pub before : {A B : Type 0} → Format A → (A → Format B) → Format (A × B)
before f g = record {
  spell = λ p. f.spell p.0 ++ (g p.0).spell p.1;
  read = λ bytes. do
    x ← f.read bytes
    y ← (g x.0).read x.1
    Some ((x.0, y.0), y.1);
}

-- one value and then another
abbrev pub both : {A B : Type 0} → Format A → Format B → Format (A × B)
both f g = before f (λ x. g)

-- nothing is written, and this is read
abbrev pub absent : {A : Type 0} → A → Format A
absent x = record { spell = λ y. []; read = λ bytes. Some (x, bytes) }

-- the same under another form of its value
abbrev pub shaped : {A B : Type 0} → (A → B) → (B → A) → Format A → Format B
shaped to of f = record {
  spell = λ y. f.spell (of y);
  read = λ bytes. do
    x ← f.read bytes
    Some (to x.0, x.1);
}
