-- Reading by reading.
use Rattle.std.proofs.Common.{◌≡◌, suc, ◌+◌, ◌-◌, ◌++◌, ap, arith}
use Rattle.soak_case.specs.Readings.{readings_drawn}
use Rattle.soak_case.proofs.Drawing.{none_behind, one_behind, readings_end, readings_on, turn_state}
use Rattle.soak_case.proofs.readings.draw_feed.Goals as goal

pub readings-init : goal.readings-init
readings-init c = record {
  values = (let same : c.args.count - 0 ≡ c.args.count = omega arith in λ i. c.new-values.ensures i ++ readings_drawn (same i) c.args.draws.now);
  draws = none_behind _;
}

pub readings-preserved : goal.readings-preserved
readings-preserved c =
    let k = c.args.count - (c.readings._done + 1) in
    let more : c.args.count - c.readings._done ≡ suc k = omega (arith, c.readings-test.true) in
    record {
      values = readings_on k _ _ _ _ _ _ _ more c.readings.invariant.values c.in_ok-push.ensures.ok c.draw.ensures.value c.draw.ensures.state;
      draws = turn_state 1 c.readings._done _ _ _ c.readings.invariant.draws (one_behind _ _ c.draw.ensures.state);
    }

pub returns-clause-feed : goal.returns-clause-feed
returns-clause-feed c =
    let none : c.args.count - c.readings._done ≡ 0 = omega (arith, c.readings-test.false) in
    ap (λ values. record { number = c.args.number; values = values }) (readings_end _ _ _ _ none c.readings.invariant.values)
