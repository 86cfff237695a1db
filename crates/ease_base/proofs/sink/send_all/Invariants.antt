use Rattle.std.proofs.Common.{◌≡◌, ◌-◌, ◌≤◌, length, take}
use Rattle.ease_base.specs.Sink.{extended}
use Rattle.ease_base.proofs.sink.send_all.Given as goal

abbrev pub invariant-loop-sent : goal.invariant-loop-sent
invariant-loop-sent g l = record {
  within : l.sent ≤ length l.piece;
  taken : g.K.Sink.taken l.out ≡ extended (g.K.Sink.taken l.initial.out) (take l.sent l.piece);
  faults : g.K.Sink.faults l.out ≡ g.K.Sink.faults l.initial.out;
}

abbrev pub decreases-loop-sent : goal.decreases-loop-sent
decreases-loop-sent g l = length l.piece - l.sent
