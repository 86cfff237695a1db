-- What is left gives what the whole gives.
use Rattle.std.proofs.Common.{◌≡◌, drop}
use Rattle.io_depend.specs.Rows.{listed, all_spread}
use Rattle.io_depend.proofs.rows.Rows.+spread.Given as goal

abbrev pub invariant-spread-statements : goal.invariant-spread-statements
invariant-spread-statements l = all_spread (listed l.points) (drop l.s-index l.body) l.row l.self ≡ all_spread (listed l.points) l.body l.row l.initial.self
