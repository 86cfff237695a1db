-- Three draws, one after another.
use Rattle.std.proofs.Common.{◌≡◌, ◌∙◌, ◌+◌, ap}
use Rattle.soak_case.specs.Draws.{drawn_below, next_state, state_behind}
use Rattle.soak_case.proofs.readings.draw_row.Goals as goal

pub returns-clause-row : goal.returns-clause-row
unfolding state_behind
returns-clause-row c =
    let one : c.draw.new.self ≡ state_behind 1 c.args.draws.now = c.draw.ensures.state in
    let two : c.draw-2.new.self ≡ state_behind 2 c.args.draws.now = c.draw-2.ensures.state ∙ ap next_state one in
    let three : c.draw-3.new.self ≡ state_behind 3 c.args.draws.now = c.draw-3.ensures.state ∙ ap next_state two in
    λ i. record {
      on = 8000 + (c.draw.ensures.value ∙ ap (drawn_below 2000) one) i;
      off = (c.draw-2.ensures.value ∙ ap (drawn_below 2000) two) i;
      fill = (c.draw-3.ensures.value ∙ ap (drawn_below 65536) three) i;
    }

pub returns-clause-draws : goal.returns-clause-draws
unfolding state_behind
returns-clause-draws c = c.draw-3.ensures.state ∙ ap next_state (c.draw-2.ensures.state ∙ ap next_state c.draw.ensures.state)
