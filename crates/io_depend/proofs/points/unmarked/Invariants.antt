-- So many arrays so far.
use Rattle.std.proofs.Common.{◌≡◌, false, replicate}
use Rattle.io_depend.proofs.points.unmarked.Given as goal

abbrev pub invariant-marks : goal.invariant-marks
invariant-marks l = l.marks.items ≡ replicate l.counter false
