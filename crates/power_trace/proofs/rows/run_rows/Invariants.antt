-- What is written, with the lines of the boots that are left, is what all power rows write.
use Rattle.std.proofs.Common.{◌≡◌, ◌+◌, drop}
use Rattle.power_trace.proofs.RunLemmas.{IsInRun}
use Rattle.power_trace.specs.Live.{state_of, program_in_live}
use Rattle.power_trace.proofs.rows.run_rows.Given as goal

abbrev pub invariant-boots : goal.invariant-boots
invariant-boots g l = record {
  counted : l.number ≡ l.row-index + 1;
  program : program_in_live l.live ≡ program_in_live l.initial.live;
  run : IsInRun l.image l.brief (program_in_live l.initial.live) l.rows l.initial.live.steps (state_of l.initial.live) (g.K.Sink.taken l.initial.out) (g.K.Sink.faults l.initial.out) (drop l.row-index l.rows) l.number l.live.steps (state_of l.live) (g.K.Sink.taken l.out) (g.K.Sink.faults l.out);
}
