-- The records of a task's I/O sites as a map from the site's number.
use Rattle.std.specs.Prelude.{ℕ, ◌-◌, ◌==◌, List, Option, Some, None, cond, slice_index_or}

-- a record, a value and a stamp, or none for each site
abbrev pub Kept : Type 0
Kept = ℕ → Option (ℕ × ℕ)

-- no site has a record
abbrev pub none_kept : Kept
none_kept = λ k. None

-- the records that a list of them holds; sites are numbered from 1
abbrev pub records_of : List (Option (ℕ × ℕ)) → Kept
records_of slots = λ k. cond (k == 0) None (slice_index_or slots (k - 1) None)

-- these records, with one at site k
abbrev pub with_record : Kept → (k value stamp : ℕ) → Kept
with_record kept k value stamp = λ j. cond (k == j) (Some (value, stamp)) (kept j)

-- these records, with none at site k
abbrev pub without_record : Kept → (k : ℕ) → Kept
without_record kept k = λ j. cond (k == j) None (kept j)
