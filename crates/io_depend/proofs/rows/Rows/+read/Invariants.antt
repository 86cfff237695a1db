-- What is left gives what the whole gives.
use Rattle.std.proofs.Common.{◌≡◌, drop}
use Rattle.io_depend.specs.Rows.{listed, all_bits}
use Rattle.io_depend.proofs.rows.Rows.+read.Given as goal

abbrev pub invariant-read-statements : goal.invariant-read-statements
invariant-read-statements l = all_bits (listed l.points) l.self l.row (drop l.s-index l.body) ≡ all_bits (listed l.points) l.self l.initial.row l.body
