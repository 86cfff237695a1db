-- What is written, with the commands that are left, is what all commands write.
use Rattle.std.proofs.Common.{◌+◌, ◌≤◌, drop}
use Rattle.ease_debug.proofs.PlayLemmas.{IsPlaying}
use Rattle.ease_debug.specs.Session.{Session}
use Rattle.ease_debug.specs.Standing.{Stands, Stays}
use Rattle.power_trace.specs.Live.{program_in_live}
use Rattle.ease_debug.proofs.play.do_all.Given as goal

abbrev pub invariant-commands : goal.invariant-commands
invariant-commands g l = record {
  stays : Stays l.initial.debugger l.debugger;
  boots : l.debugger.boot ≤ l.command-index + 1;
  playing : (s : Session) → Stands l.initial.debugger s
      → IsPlaying l.initial.debugger.image (program_in_live l.initial.debugger.live) l.commands s (g.K.Sink.taken l.initial.out) (g.K.Sink.faults l.initial.out) (drop l.command-index l.commands) l.debugger (g.K.Sink.taken l.out) (g.K.Sink.faults l.out);
}
