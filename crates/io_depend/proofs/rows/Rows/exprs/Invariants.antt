-- What is left gives what the whole gives.
use Rattle.std.proofs.Common.{◌≡◌, drop}
use Rattle.io_depend.specs.Rows.{listed, exprs_bits}
use Rattle.io_depend.proofs.rows.Rows.exprs.Given as goal

abbrev pub invariant-expressions : goal.invariant-expressions
invariant-expressions l = exprs_bits (listed l.points) l.self l.row (drop l.e-index l.es) ≡ exprs_bits (listed l.points) l.self l.initial.row l.es
