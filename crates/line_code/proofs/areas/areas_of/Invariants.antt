-- What is there with what is left is all, and fits.
use Rattle.std.proofs.Common.{◌≡◌, ◌≤◌, ◌+◌, ◌++◌, drop}
use Rattle.line_code.specs.Areas.{areas_from, free_at_first, total}
use Rattle.line_code.proofs.areas.areas_of.Given as goal

abbrev pub invariant-arrays : goal.invariant-arrays
invariant-arrays l =
    (l.areas ++ areas_from l.free (drop l.array-index l.arrays) ≡ areas_from free_at_first l.arrays)
    × (l.free.nv + l.free.constant + l.free.volatile + total (drop l.array-index l.arrays) ≤ 9026)
