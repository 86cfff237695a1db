-- What is written, with the steps that are left, is what all steps write.
use Rattle.std.proofs.Common.{◌≡◌, ◌-◌}
use Rattle.ease_debug.proofs.GoLemmas.{IsGoing}
use Rattle.ease_debug.specs.Session.{Session}
use Rattle.ease_debug.specs.Standing.{Stands, Stays}
use Rattle.power_trace.specs.Live.{program_in_live}
use Rattle.ease_debug.proofs.debugger.Debugger.go.Given as goal

abbrev pub invariant-steps : goal.invariant-steps
invariant-steps g l = record {
  stays : Stays l.initial.self l.self;
  boot : l.self.boot ≡ l.initial.self.boot;
  going : (s : Session) → Stands l.initial.self s
      → IsGoing l.initial.self.image l.stop (program_in_live l.initial.self.live) l.most s (g.K.Sink.taken l.initial.out) (g.K.Sink.faults l.initial.out) (l.most - l._done) l.self (g.K.Sink.taken l.out) (g.K.Sink.faults l.out);
}
