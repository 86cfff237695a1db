-- Those so far.
use Rattle.std.proofs.Common.{◌≡◌, take}
use Rattle.run_plan.proofs.copies.copy_exprs.Given as goal

abbrev pub invariant-exprs : goal.invariant-exprs
invariant-exprs l = l.copy ≡ take l.e-index l.exprs
