-- So many empty rows so far.
use Rattle.std.proofs.Common.{◌≡◌, replicate}
use Rattle.io_depend.proofs.rows.empty.Given as goal

abbrev pub invariant-rows : goal.invariant-rows
invariant-rows l = l.rows.items ≡ replicate l.counter 0
