-- The numbers that a soak's program and world are drawn from (docs/COMMANDS.md, "Soak").
use Rattle.std.specs.Prelude.{ℕ, zero, suc, ◌+◌, ◌*◌, ◌/◌, ◌%◌, ◌^◌}

-- the generator's next state
abbrev pub next_state : ℕ → ℕ
next_state s = (s * 1664525 + 1013904223) % 2 ^ 32

-- a number below m, from a state
abbrev pub drawn_below : (m s : ℕ) → ℕ
drawn_below m s = s / 65536 % m

-- the state behind so many draws
unfoldable pub state_behind : (draws s : ℕ) → ℕ
state_behind zero s = s
state_behind (suc n) s = state_behind n (next_state s)
