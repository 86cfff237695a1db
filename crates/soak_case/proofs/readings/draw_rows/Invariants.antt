-- What is drawn so far, with the rows that are left, is the whole.
use Rattle.std.proofs.Common.{◌≡◌, ◌++◌, ◌*◌, ◌-◌}
use Rattle.soak_case.specs.Draws.{state_behind}
use Rattle.soak_case.specs.Readings.{rows_drawn}
use Rattle.soak_case.proofs.readings.draw_rows.Given as goal

abbrev pub invariant-rows : goal.invariant-rows
invariant-rows l = record {
  rows : l.rows ++ rows_drawn (400 - l._done) l.draws ≡ rows_drawn 400 l.initial.draws;
  draws : l.draws ≡ state_behind (3 * l._done) l.initial.draws;
}
