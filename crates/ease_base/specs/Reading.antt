-- What a reader gave, where the bytes that it had left are known.
use Rattle.std.specs.Prelude.{◌≡◌, ℕ, ◌+◌, ◌<◌, List, length, take, Option, Some, None}

-- these bytes are all that it had
abbrev pub ReadsAll : Option (List ℕ) → List ℕ → Type 0
ReadsAll None bytes = Unit {0}
ReadsAll (Some all) bytes = bytes ≡ all

-- it had more than `limit` bytes, and these are the first limit and one of them
abbrev pub ReadsFront : Option (List ℕ) → ℕ → List ℕ → Type 0
ReadsFront None limit front = Unit {0}
ReadsFront (Some all) limit front = (limit < length all) × (front ≡ take (limit + 1) all)
