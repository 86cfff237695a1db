-- What is left gives what the whole gives.
use Rattle.std.proofs.Common.{◌≡◌, drop}
use Rattle.io_depend.specs.Rows.{listed, all_done}
use Rattle.io_depend.proofs.rows.Rows.+pass.Given as goal

abbrev pub invariant-pass-statements : goal.invariant-pass-statements
invariant-pass-statements l = all_done (listed l.points) (drop l.s-index l.body) l.around l.self ≡ all_done (listed l.points) l.body l.around l.initial.self
