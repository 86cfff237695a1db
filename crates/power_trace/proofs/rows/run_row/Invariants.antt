-- What is written, with the lines of the steps that are left, is what all steps write.
use Rattle.std.proofs.Common.{◌≡◌, ◌-◌}
use Rattle.power_trace.proofs.RowLemmas.{IsInRow}
use Rattle.power_trace.specs.Live.{state_of, program_in_live}
use Rattle.power_trace.proofs.rows.run_row.Given as goal

abbrev pub invariant-each_step : goal.invariant-each_step
invariant-each_step g l = record {
  program : program_in_live l.live ≡ program_in_live l.initial.live;
  row : IsInRow l.image l.brief (program_in_live l.initial.live) l.on l.initial.live.steps (state_of l.initial.live) (g.K.Sink.taken l.initial.out) (g.K.Sink.faults l.initial.out) (l.on - l._done) l.live.steps (state_of l.live) (g.K.Sink.taken l.out) (g.K.Sink.faults l.out);
}
