-- What is left gives what the whole gives.
use Rattle.std.proofs.Common.{◌≡◌, drop, map}
use Rattle.region_split.specs.Regions.{may_write}
use Rattle.region_split.specs.Owners.{touched}
use Rattle.region_split.proofs.owners.Owners.write_each.Given as goal

abbrev pub invariant-arrays : goal.invariant-arrays
invariant-arrays l = touched (map may_write (drop l.array-index l.arrays)) l.self ≡ touched (map may_write l.arrays) l.initial.self
