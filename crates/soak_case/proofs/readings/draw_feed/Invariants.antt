-- What is drawn so far, with the readings that are left, is the whole.
use Rattle.std.proofs.Common.{◌≡◌, ◌++◌, ◌*◌, ◌-◌}
use Rattle.soak_case.specs.Draws.{state_behind}
use Rattle.soak_case.specs.Readings.{readings_drawn}
use Rattle.soak_case.proofs.readings.draw_feed.Given as goal

abbrev pub invariant-readings : goal.invariant-readings
invariant-readings l = record {
  values : l.values ++ readings_drawn (l.count - l._done) l.draws ≡ readings_drawn l.count l.initial.draws;
  draws : l.draws ≡ state_behind (1 * l._done) l.initial.draws;
}
