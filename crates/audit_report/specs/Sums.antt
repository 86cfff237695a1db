-- The steps of power rows, one behind another.
use Rattle.std.specs.Prelude.{ℕ, ◌+◌, List, [], ◌∷◌}
use Rattle.devices.specs.declared.world.PowerRow.{PowerRow}
use Rattle.audit_check.specs.Fitting.{capped}

-- so many steps, and those of rows, as far as a number of 64 bits goes
abbrev pub steps_behind : ℕ → List PowerRow → ℕ
steps_behind n [] = n
steps_behind n (row ∷ rows) = steps_behind (capped (n + row.on)) rows
