-- What is left gives what the whole gives.
use Rattle.std.proofs.Common.{◌≡◌, drop}
use Rattle.io_depend.specs.Rows.{with_each}
use Rattle.io_depend.proofs.rows.join_each.Given as goal

abbrev pub invariant-numbers : goal.invariant-numbers
invariant-numbers l = with_each l.rows.items (drop l.number-index l.numbers) l.row ≡ with_each l.initial.rows.items l.numbers l.row
