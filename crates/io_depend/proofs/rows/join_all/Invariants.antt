-- What is left gives what the whole gives.
use Rattle.std.proofs.Common.{◌≡◌, drop}
use Rattle.io_depend.specs.Rows.{with_all}
use Rattle.io_depend.proofs.rows.join_all.Given as goal

abbrev pub invariant-others : goal.invariant-others
invariant-others l = with_all l.rows.items l.number (drop l.number l.others) ≡ with_all l.initial.rows.items 0 l.others
