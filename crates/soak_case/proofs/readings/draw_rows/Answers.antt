-- Row by row.
use Rattle.std.proofs.Common.{◌≡◌, ◌∙◌, suc, ◌+◌, ◌-◌, [], ◌∷◌, ◌++◌, ap, arith}
use Rattle.soak_case.specs.Readings.{rows_drawn}
use Rattle.soak_case.proofs.Drawing.{none_behind, rows_end, rows_on, turn_state}
use Rattle.soak_case.proofs.readings.draw_rows.Goals as goal

pub rows-init : goal.rows-init
rows-init c = record { rows = ap (λ xs. xs ++ rows_drawn 400 c.args.draws.now) c.new-rows.ensures; draws = none_behind _ }

pub rows-preserved : goal.rows-preserved
rows-preserved c =
    let k = 400 - (c.rows._done + 1) in
    let more : 400 - c.rows._done ≡ suc k = omega (arith, c.rows-test.true) in
    record {
      rows = rows_on k _ _ _ _ _ _ more c.rows.invariant.rows (c.in_ok-push.ensures.ok ∙ ap (λ row. c.rows.rows ++ row ∷ []) c.draw_row.ensures.row) c.draw_row.ensures.draws;
      draws = turn_state 3 c.rows._done _ _ _ c.rows.invariant.draws c.draw_row.ensures.draws;
    }

pub returns-clause-rows : goal.returns-clause-rows
returns-clause-rows c =
    let none : 400 - c.rows._done ≡ 0 = omega (arith, c.rows-test.false) in
    rows_end _ _ _ _ none c.rows.invariant.rows
