-- Counts that never fall: of faults, and of long contents.
use Rattle.std.specs.Prelude.{ℕ, ◌+◌, ◌-◌, ◌^◌, ◌≤◌, min}

-- one higher; a count at the last value of its type stays there
abbrev pub raised : ℕ → ℕ
raised count = min (count + 1) (2 ^ 64 - 1)

-- The count rose from old to new. One that stood at its last value counts as risen.
abbrev pub HasRisen : ℕ → ℕ → Type 0
HasRisen old new = raised old ≤ new
