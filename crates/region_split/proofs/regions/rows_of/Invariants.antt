-- The rows of the regions so far.
use Rattle.std.proofs.Common.{◌≡◌, map, length}
use Rattle.std.specs.List.{range_with_len}
use Rattle.region_split.specs.Owners.{first_arrays}
use Rattle.region_split.proofs.regions.rows_of.Given as goal

abbrev pub invariant-regions : goal.invariant-regions
invariant-regions l = record {
  rows : map (λ row. row.items) l.first.items ≡ map (first_arrays l.arrays l.owners) (range_with_len 0 l.region);
  many : length l.first.items ≡ l.region;
}
