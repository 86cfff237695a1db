-- The trails so far are those behind a commit.
use Rattle.std.proofs.Common.{◌≡◌, ◌++◌, length, map, take, drop}
use Rattle.ease_debug.specs.Trails.{untrodden}
use Rattle.ease_debug.specs.declared.trail.Trail.{Trail}
use Rattle.ease_debug.proofs.trails.clear.Given as goal

abbrev pub invariant-slots : goal.invariant-slots
invariant-slots l = record {
  count : l.count ≡ length l.slots.items;
  size : length l.slots.items ≡ length l.fn.slots.items;
  done : l.slots.items ≡ map (λ (_ : Trail). untrodden) (take l.at l.fn.slots.items) ++ drop l.at l.fn.slots.items;
}
