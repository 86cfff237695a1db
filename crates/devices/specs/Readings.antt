-- The readings of all peripherals and the kept counts of their issues, as contracts see them.
use Rattle.std.specs.Prelude.{ℕ, ◌+◌, List, [], ◌==◌, length, min, slice_index_or, if◌then◌else◌}

-- a peripheral's list of readings, and how many issues took one of it
pub record Series : Type 0 where
  pub values : List ℕ
  pub issued : ℕ

-- a peripheral without readings
abbrev pub silent : Series
silent = record { values = []; issued = 0 }

-- the list of each peripheral
unfoldable pub values_of : List Series → ℕ → List ℕ
values_of readings p = (slice_index_or readings p silent).values

-- the kept count of each peripheral's issues; it stays at the length of the list once it is reached
unfoldable pub issued_of : List Series → ℕ → ℕ
issued_of readings p = (slice_index_or readings p silent).issued

-- the kept count of a list's issues after one more
abbrev pub one_more : List ℕ → ℕ → ℕ
one_more values count = min (count + 1) (length values)

-- the kept counts after an issue of a peripheral; the counts of the others stay
abbrev pub issued_after : (ℕ → List ℕ) → (ℕ → ℕ) → ℕ → ℕ → ℕ
issued_after values issued p = λ q. if p == q then one_more (values p) (issued p) else issued q
