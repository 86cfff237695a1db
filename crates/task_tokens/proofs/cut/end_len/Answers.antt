use Rattle.std.proofs.Common.{arith, sym, ◌∙◌}
use Rattle.task_tokens.proofs.CutLemmas.{end_len-more, end_len-over}
use Rattle.task_tokens.proofs.cut.end_len.Goals as goal

pub loop-at-preserved : goal.loop-at-preserved
loop-at-preserved c = record {
  within = omega arith;
  same = end_len-more _ _ _ c.loop-at-test.true (sym c.ends_comment.ensures ∙ c.if-ends_comment.false) c.loop-at.invariant.same;
}

pub returns-clause-value : goal.returns-clause-value
returns-clause-value c = end_len-over _ _ _ c.loop-at-test.false c.loop-at.invariant.same
