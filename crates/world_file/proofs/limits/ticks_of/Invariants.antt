-- The sum so far, told as 64 bits tell it.
use Rattle.std.proofs.Common.{◌≡◌, ◌+◌, take, sum_by}
use Rattle.world_file.specs.WorldFile.{told}
use Rattle.world_file.proofs.limits.ticks_of.Given as goal

abbrev pub invariant-rows : goal.invariant-rows
invariant-rows l = l.ticks ≡ told (sum_by (λ row. row.on + row.off) (take l.row-index l.rows))
