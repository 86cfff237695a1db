use Rattle.std.proofs.Common.{◌≡◌, drop}
use Rattle.task_check.specs.Sites.{body_has_sites as body_has}
use Rattle.task_check.proofs.sites.+find_sites.Given as goal

abbrev pub invariant-body_has_sites-loop-s : goal.invariant-body_has_sites-loop-s
invariant-body_has_sites-loop-s l = body_has l.body ≡ body_has (drop l.s-index l.body)
