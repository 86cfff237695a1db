-- What is counted, with the rows that are left, is what all rows give.
use Rattle.std.proofs.Common.{◌≡◌, drop}
use Rattle.power_trace.specs.Live.{state_of, program_in_live}
use Rattle.soak_run.proofs.RunLemmas.{IsInRun}
use Rattle.soak_run.proofs.counted.count_rows.Given as goal

abbrev pub invariant-boots : goal.invariant-boots
invariant-boots l = record {
  counted : l.counts.boots ≡ l.row-index;
  program : program_in_live l.live ≡ program_in_live l.initial.live;
  run : IsInRun (program_in_live l.initial.live) l.rows (state_of l.initial.live) l.initial.counts (drop l.row-index l.rows) l.live.steps (state_of l.live) l.counts;
}
