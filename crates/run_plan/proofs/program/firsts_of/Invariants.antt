-- Those so far.
use Rattle.std.proofs.Common.{◌≡◌, take}
use Rattle.run_plan.proofs.program.firsts_of.Given as goal

abbrev pub invariant-regions : goal.invariant-regions
invariant-regions l = l.firsts ≡ take l.r l.regions
