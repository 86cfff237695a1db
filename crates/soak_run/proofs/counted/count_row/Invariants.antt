-- What is counted, with the steps that are left, is what all steps give.
use Rattle.std.proofs.Common.{◌≡◌, ◌-◌}
use Rattle.power_trace.specs.Live.{state_of, program_in_live}
use Rattle.soak_run.proofs.RowLemmas.{IsInRow}
use Rattle.soak_run.proofs.counted.count_row.Given as goal

abbrev pub invariant-each_step : goal.invariant-each_step
invariant-each_step l = record {
  program : program_in_live l.live ≡ program_in_live l.initial.live;
  row : IsInRow (program_in_live l.initial.live) l.on (state_of l.initial.live) l.initial.counts l.initial.live.steps (l.on - l._done) l.live.steps (state_of l.live) l.counts;
}
