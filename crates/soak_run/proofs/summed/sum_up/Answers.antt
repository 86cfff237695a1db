-- What the run leaves, put into words.
use Rattle.std.proofs.Common.{◌∙◌, ap}
use Rattle.power_trace.specs.Live.{state_of, program_in_live}
use Rattle.power_trace.specs.Run.{program_in}
use Rattle.soak_run.proofs.SumLemmas.{Runs, summary_is}
use Rattle.soak_run.specs.Steps.{with_rows}
use Rattle.soak_run.proofs.summed.sum_up.Goals as goal

pub returns-clause-text : goal.returns-clause-text
returns-clause-text c =
    let live = c.in_ok-live.live in
    let runs : Runs c.args.image.now c.args.world.now (program_in_live live) c.as_slice.result.now (state_of live) = record {
      program = c.in_ok-live.ensures.prepared.program ∙ ap (program_in c.args.image.now) c.in_ok-live.ensures.readings;
      all = c.as_slice.ensures;
      first = c.in_ok-live.ensures.prepared.state;
    } in
    c.in_ok-text.ensures ∙ summary_is _ _ _ _ _ (state_of c.count_rows-end.new.live) _ _ _ runs (c.count_rows-end.ensures.counts ∙ ap (with_rows (program_in_live live) c.as_slice.result.now (state_of live)) c.nothing-counts.ensures) c.count_rows-end.ensures.state c.word_named-n.ensures c.count_rows-end.ensures.end
