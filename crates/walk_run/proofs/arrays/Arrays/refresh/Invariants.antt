-- The arrays so far are refreshed, and the shape is kept.
use Rattle.std.proofs.Common.{◌≡◌, take}
use Rattle.walk_run.specs.Store.{HasShape, fresh_arrays}
use Rattle.walk_run.proofs.arrays.Arrays.refresh.Given as goal

abbrev pub invariant-arrays : goal.invariant-arrays
invariant-arrays l = record {
  so_far : l.self ≡ fresh_arrays (take l.number l.arrays) l.initial.self;
  shape : HasShape l.arrays l.self;
}
