-- The world of a soak: 400 power rows and the peripherals' readings, drawn behind the program (docs/COMMANDS.md, "Soak").
use Rattle.std.specs.Prelude.{ℕ, zero, suc, ◌+◌, List, [], ◌∷◌}
use Rattle.devices.specs.declared.world.PowerRow.{PowerRow}
use Rattle.devices.specs.declared.world.World.{World}
use Rattle.soak_case.specs.Draws.{drawn_below, state_behind}

-- a power row
abbrev pub row_drawn : (s : ℕ) → PowerRow
row_drawn s = record {
  on = 8000 + drawn_below 2000 (state_behind 1 s);
  off = drawn_below 2000 (state_behind 2 s);
  fill = drawn_below 65536 (state_behind 3 s);
}

-- so many
unfoldable pub rows_drawn : (count s : ℕ) → List PowerRow
rows_drawn zero s = []
rows_drawn (suc n) s = row_drawn s ∷ rows_drawn n (state_behind 3 s)

-- so many readings
unfoldable pub readings_drawn : (count s : ℕ) → List ℕ
readings_drawn zero s = []
readings_drawn (suc n) s = drawn_below 1000 (state_behind 1 s) ∷ readings_drawn n (state_behind 1 s)

-- a world from a state of the generator on: 400 rows draw three numbers each, and 64 readings of the first peripheral one
abbrev pub world_from : (s : ℕ) → World
world_from s = record {
  power = rows_drawn 400 s;
  feeds = record { number = 0; values = readings_drawn 64 (state_behind 1200 s) } ∷ record { number = 1; values = readings_drawn 16 (state_behind 64 (state_behind 1200 s)) } ∷ [];
  retained = [];
}

-- the world of a number, behind the program, whose 64 tasks draw eight numbers each
abbrev pub world_of : (number : ℕ) → World
world_of number = world_from (state_behind 512 number)
