-- A count that stays at the last value of its type once it is there.
use Rattle.std.specs.Prelude.{ℕ, ◌-◌, ◌^◌, min}

-- a number, or the last one of 128 bits
abbrev pub capped : ℕ → ℕ
capped n = min n (2 ^ 128 - 1)
