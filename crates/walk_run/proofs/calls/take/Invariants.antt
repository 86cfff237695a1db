-- The arguments that are left give what all give.
use Rattle.std.proofs.Common.{◌≡◌, drop}
use Rattle.walk_run.specs.Outcome.{ended, halted}
use Rattle.walk_run.specs.Walk.{each_valued, with_reading}
use Rattle.walk_run.proofs.calls.take.Given as goal

abbrev pub invariant-arguments : goal.invariant-arguments
invariant-arguments l =
    each_valued halted (drop l.argument-index l.args) (with_reading halted ended) l.live l.readings ≡ each_valued halted l.args (with_reading halted ended) l.live l.readings
