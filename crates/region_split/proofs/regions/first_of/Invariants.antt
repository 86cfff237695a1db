-- The ones so far.
use Rattle.std.proofs.Common.{◌≡◌, filter}
use Rattle.std.specs.List.{range_with_len}
use Rattle.region_split.specs.Owners.{is_first}
use Rattle.region_split.proofs.regions.first_of.Given as goal

abbrev pub invariant-arrays : goal.invariant-arrays
invariant-arrays l = l.row.items ≡ filter (is_first l.arrays l.owners l.region) (range_with_len 0 l.number)
