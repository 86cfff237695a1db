-- What is listed so far, with the turns that are left, is the whole.
use Rattle.std.proofs.Common.{◌≡◌, ◌++◌, ◌-◌}
use Rattle.task_check.specs.Sites.{repeated}
use Rattle.site_account.proofs.places.repeat.Given as goal

abbrev pub invariant-turns : goal.invariant-turns
invariant-turns l = l.places ++ repeated (l.turns - l.counter) l.turn ≡ l.initial.places ++ repeated l.turns l.turn
