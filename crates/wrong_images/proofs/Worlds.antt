-- Worlds of one power row, all within the limits.
use Rattle.std.proofs.Common.{ℕ, zero, suc, [], ◌∷◌, All, lit<, lit≤, arith}
use Rattle.std.specs.List.{IsDistinct}
use Rattle.devices.specs.World.{AreWords, IsFeed, IsRow, IsWithinLimits}
use Rattle.devices.specs.declared.world.PowerRow.{PowerRow}
use Rattle.devices.specs.declared.world.World.{World}

-- the power is on for so many steps
abbrev pub row_of : (steps : ℕ) → PowerRow
row_of n = record { on = n; off = 0; fill = 0 }

abbrev pub lasting : (steps : ℕ) → World
lasting n = record { power = row_of n ∷ []; feeds = []; retained = [] }

no_feeds : All IsFeed []
no_feeds k d h = absurd (omega arith)

no_words : AreWords []
no_words k d h = absurd (omega arith)

brief_row : All IsRow (row_of 2 ∷ [])
brief_row zero d h = record { on = lit< tt; off = lit< tt; fill = lit< tt }
brief_row (suc k) d h = absurd (omega arith)

some_row : All IsRow (row_of 20 ∷ [])
some_row zero d h = record { on = lit< tt; off = lit< tt; fill = lit< tt }
some_row (suc k) d h = absurd (omega arith)

long_row : All IsRow (row_of 200 ∷ [])
long_row zero d h = record { on = lit< tt; off = lit< tt; fill = lit< tt }
long_row (suc k) d h = absurd (omega arith)

pub brief_within : IsWithinLimits (lasting 2)
unfolding IsDistinct
brief_within = record { distinct = tt; feeds = no_feeds; rows = brief_row; retained = no_words; steps = lit≤ tt; ticks = lit≤ tt }

pub some_within : IsWithinLimits (lasting 20)
unfolding IsDistinct
some_within = record { distinct = tt; feeds = no_feeds; rows = some_row; retained = no_words; steps = lit≤ tt; ticks = lit≤ tt }

pub long_within : IsWithinLimits (lasting 200)
unfolding IsDistinct
long_within = record { distinct = tt; feeds = no_feeds; rows = long_row; retained = no_words; steps = lit≤ tt; ticks = lit≤ tt }
