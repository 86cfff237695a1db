-- The regions so far.
use Rattle.std.proofs.Common.{◌≡◌, ◌++◌, map}
use Rattle.std.specs.List.{range_with_len}
use Rattle.run_plan.specs.declared.act.Act.TheVariants as act
use Rattle.run_plan.proofs.program.restore_each.Given as goal

abbrev pub invariant-regions : goal.invariant-regions
invariant-regions l = l.acts ≡ l.initial.acts ++ map act.Restore (range_with_len 0 l.r)
