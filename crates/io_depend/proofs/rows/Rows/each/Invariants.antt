-- What is left gives what the whole gives.
use Rattle.std.proofs.Common.{◌≡◌, drop}
use Rattle.io_depend.specs.Rows.{each_bits}
use Rattle.io_depend.proofs.rows.Rows.each.Given as goal

abbrev pub invariant-arrays : goal.invariant-arrays
invariant-arrays l = each_bits l.self.arrays l.row (drop l.array-index l.arrays) ≡ each_bits l.self.arrays l.initial.row l.arrays
