-- The pointers so far point to nothing.
use Rattle.std.proofs.Common.{◌≡◌, ◌++◌, take, drop}
use Rattle.walk_run.specs.Store.{unset}
use Rattle.walk_run.proofs.live.unset_all.Given as goal

abbrev pub invariant-pointers : goal.invariant-pointers
invariant-pointers l = l.pointers.items ≡ unset (take l.number l.initial.pointers.items) ++ drop l.number l.initial.pointers.items
