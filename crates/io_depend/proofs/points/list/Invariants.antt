-- The marked ones so far.
use Rattle.std.proofs.Common.{◌≡◌, filter}
use Rattle.std.specs.List.{range_with_len}
use Rattle.io_depend.specs.Marks.{is_marked}
use Rattle.io_depend.proofs.points.list.Given as goal

abbrev pub invariant-marks : goal.invariant-marks
invariant-marks l = l.row.items ≡ filter (is_marked l.marks) (range_with_len 0 l.number)
