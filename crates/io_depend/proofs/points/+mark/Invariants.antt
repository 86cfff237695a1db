-- What is left gives what the whole gives.
use Rattle.std.proofs.Common.{◌≡◌, drop}
use Rattle.io_depend.specs.Marks.{marks_after}
use Rattle.io_depend.proofs.points.+mark.Given as goal

abbrev pub invariant-mark-statements : goal.invariant-mark-statements
invariant-mark-statements l = marks_after l.pointer (drop l.s-index l.body) l.marks.items ≡ marks_after l.pointer l.body l.initial.marks.items
