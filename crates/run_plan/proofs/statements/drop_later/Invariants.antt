-- The sites so far.
use Rattle.std.proofs.Common.{◌≡◌, ◌++◌, map}
use Rattle.run_plan.specs.declared.act.Act.TheVariants as act
use Rattle.run_plan.specs.Told.{later_told}
use Rattle.run_plan.proofs.statements.drop_later.Given as goal

abbrev pub invariant-sites : goal.invariant-sites
invariant-sites l = l.acts ≡ l.initial.acts ++ map act.Drop (later_told l.around.depends.now l.index l.site)
