use Rattle.std.proofs.Common.{◌∙◌, arith}
use Rattle.ease_base.proofs.SinkLemmas.{extended-front}
use Rattle.ease_base.proofs.sink.send_all.Goals as goal

pub loop-sent-preserved : goal.loop-sent-preserved
loop-sent-preserved g c = let step = c.in_ok-sent.ensures in record {
  within = omega (arith, step.within, c.split_at.ensures.back_len, c.loop-sent.invariant.within);
  taken = extended-front _ _ _ _ _ _ _ c.loop-sent.invariant.taken c.split_at.ensures.back step.took;
  faults = step.steady ∙ c.loop-sent.invariant.faults;
}
