-- The marks from the last down to these are named.
use Rattle.std.proofs.Common.{◌≡◌, ◌-◌, length, drop}
use Rattle.ease_debug.specs.Stopping.{Names}
use Rattle.ease_debug.proofs.stop.tasks_of.Given as goal

abbrev pub invariant-marks : goal.invariant-marks
invariant-marks l = record {
  count : l.count ≡ length l.marks;
  size : length l.tasks.items ≡ l.code;
  names : Names l.tasks.items (drop (l.count - l.done) l.marks);
}
