use Rattle.std.proofs.Common.{arith, sym, ◌∙◌}
use Rattle.task_tokens.proofs.DivisionSteps.{Progress-step, Progress-stuck, cut-parts, not_empty}
use Rattle.task_tokens.proofs.dividing.divide.Goals as goal

pub returns-in_default-clause-stuck : goal.returns-in_default-clause-stuck
returns-in_default-clause-stuck c =
    Progress-stuck _ _ _ _ c.loop-rest.invariant.progress (not_empty _ _ c.is_empty.ensures c.loop-rest-test.true) (sym c.in_ok-cut.ensures ∙ c.in_default.is)

pub split_at-requires : goal.split_at-requires
split_at-requires c = (cut-parts _ _ (sym c.in_ok-cut.ensures ∙ c.in-Some.is)).0

pub loop-rest-smaller : goal.loop-rest-smaller
loop-rest-smaller c =
    let some = (cut-parts _ _ (sym c.in_ok-cut.ensures ∙ c.in-Some.is)).1 in
    omega (arith, some, c.split_at.ensures.back_len)

pub loop-rest-preserved : goal.loop-rest-preserved
loop-rest-preserved c = record {
  progress = Progress-step _ _ _ _ _ _ _ _ _ c.loop-rest.invariant.progress (sym c.in_ok-cut.ensures ∙ c.in-Some.is) c.in_ok-add.ensures c.split_at.ensures.front c.place_behind-at.ensures.value c.split_at.ensures.back;
  place = c.place_behind-at.ensures.place;
  within = omega (arith, c.place_behind-at.ensures.within, c.split_at.ensures.back_len, c.split_at.ensures.front_len, c.loop-rest.invariant.within);
}
