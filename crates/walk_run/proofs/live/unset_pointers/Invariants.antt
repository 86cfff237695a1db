-- A pointer to nothing for each name so far.
use Rattle.std.proofs.Common.{◌≡◌, take}
use Rattle.walk_run.specs.Store.{unset}
use Rattle.walk_run.proofs.live.unset_pointers.Given as goal

abbrev pub invariant-names : goal.invariant-names
invariant-names l = l.pointers.items ≡ unset (take l._name-index l.names)
