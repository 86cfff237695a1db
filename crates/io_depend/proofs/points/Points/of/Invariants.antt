-- The rows of the pointers so far.
use Rattle.std.proofs.Common.{◌≡◌, map}
use Rattle.io_depend.specs.Marks.{all_given}
use Rattle.io_depend.proofs.points.Points.of.Given as goal

abbrev pub invariant-pointers : goal.invariant-pointers
invariant-pointers l = map (λ row. row.items) l.rows.items ≡ all_given l.body l.arrays l.pointer
