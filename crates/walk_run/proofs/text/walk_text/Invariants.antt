-- What is written so far.
use Rattle.std.proofs.Common.{◌≡◌, take}
use Rattle.std.specs.List.{flat_map}
use Rattle.walk_run.specs.Store.{shown_names}
use Rattle.walk_run.specs.WalkText.{state_text}
use Rattle.walk_run.proofs.text.walk_text.Given as goal

abbrev pub invariant-states : goal.invariant-states
invariant-states l = l.out ≡ flat_map (state_text (shown_names l.c.arrays)) (take l.state-index l.w.states)
