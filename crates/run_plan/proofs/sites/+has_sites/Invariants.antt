-- None of those before has a site.
use Rattle.std.proofs.Common.{◌≡◌, drop}
use Rattle.task_ast.specs.CoreSites.{all_numbers}
use Rattle.run_plan.specs.Told.{some}
use Rattle.run_plan.proofs.sites.+has_sites.Given as goal

abbrev pub invariant-body_has_sites-statements : goal.invariant-body_has_sites-statements
invariant-body_has_sites-statements l = some (all_numbers l.body) ≡ some (all_numbers (drop l.s-index l.body))
