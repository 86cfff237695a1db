-- What the clock shows before each step of a run (docs/MACHINE.md, "The clock").
use Rattle.std.specs.Prelude.{ℕ, ◌+◌, ◌-◌, List, [], ◌∷◌, nat_le, if◌then◌else◌}
use Rattle.devices.specs.declared.world.PowerRow.{PowerRow}

-- the ticks without power before a step that has so many steps before it: those of each failure, which stands between two rows
abbrev pub off_ticks : List PowerRow → ℕ → ℕ
off_ticks [] done = 0
off_ticks (row ∷ []) done = 0
off_ticks (row ∷ next ∷ rows) done = if nat_le row.on done then row.off + off_ticks (next ∷ rows) (done - row.on) else 0

-- the clock before a step of these power rows, the steps counted from 1: the steps before it, and the ticks without power
abbrev pub clock_at : List PowerRow → ℕ → ℕ
clock_at power step = (step - 1) + off_ticks power (step - 1)
