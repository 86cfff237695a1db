-- Those so far.
use Rattle.std.proofs.Common.{◌≡◌, take}
use Rattle.run_plan.proofs.copies.+copy_stmts.Given as goal

abbrev pub invariant-copy_body-statements : goal.invariant-copy_body-statements
invariant-copy_body-statements l = l.copy ≡ take l.s-index l.body
