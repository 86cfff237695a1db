-- Eight draws, one after another.
use Rattle.std.proofs.Common.{◌≡◌, ◌∙◌, ap}
use Rattle.soak_case.specs.Draws.{drawn_below, next_state, state_behind}
use Rattle.soak_case.proofs.drawn.Drawn.draw.Goals as goal

pub returns-clause-value : goal.returns-clause-value
unfolding state_behind
returns-clause-value c =
    let one : c.draw.new.self ≡ state_behind 1 c.args.draws.now = c.draw.ensures.state in
    let two : c.draw-2.new.self ≡ state_behind 2 c.args.draws.now = c.draw-2.ensures.state ∙ ap next_state one in
    let three : c.draw-3.new.self ≡ state_behind 3 c.args.draws.now = c.draw-3.ensures.state ∙ ap next_state two in
    let four : c.draw-4.new.self ≡ state_behind 4 c.args.draws.now = c.draw-4.ensures.state ∙ ap next_state three in
    let five : c.draw-5.new.self ≡ state_behind 5 c.args.draws.now = c.draw-5.ensures.state ∙ ap next_state four in
    let six : c.draw-6.new.self ≡ state_behind 6 c.args.draws.now = c.draw-6.ensures.state ∙ ap next_state five in
    let seven : c.draw-7.new.self ≡ state_behind 7 c.args.draws.now = c.draw-7.ensures.state ∙ ap next_state six in
    let eight : c.draw-8.new.self ≡ state_behind 8 c.args.draws.now = c.draw-8.ensures.state ∙ ap next_state seven in
    λ i. record {
      reading = (c.draw.ensures.value ∙ ap (drawn_below 3) one) i;
      block = (c.draw-2.ensures.value ∙ ap (drawn_below 3) two) i;
      element = (c.draw-3.ensures.value ∙ ap (drawn_below 32) three) i;
      inner = (c.draw-4.ensures.value ∙ ap (drawn_below 3) four) i;
      sent = (c.draw-5.ensures.value ∙ ap (drawn_below 3) five) i;
      way = (c.draw-6.ensures.value ∙ ap (drawn_below 2) six) i;
      words = (c.draw-7.ensures.value ∙ ap (drawn_below 33) seven) i;
      factor = (c.draw-8.ensures.value ∙ ap (drawn_below 1000) eight) i;
    }

pub returns-clause-draws : goal.returns-clause-draws
unfolding state_behind
returns-clause-draws c =
    let one : c.draw.new.self ≡ state_behind 1 c.args.draws.now = c.draw.ensures.state in
    let two : c.draw-2.new.self ≡ state_behind 2 c.args.draws.now = c.draw-2.ensures.state ∙ ap next_state one in
    let three : c.draw-3.new.self ≡ state_behind 3 c.args.draws.now = c.draw-3.ensures.state ∙ ap next_state two in
    let four : c.draw-4.new.self ≡ state_behind 4 c.args.draws.now = c.draw-4.ensures.state ∙ ap next_state three in
    let five : c.draw-5.new.self ≡ state_behind 5 c.args.draws.now = c.draw-5.ensures.state ∙ ap next_state four in
    let six : c.draw-6.new.self ≡ state_behind 6 c.args.draws.now = c.draw-6.ensures.state ∙ ap next_state five in
    let seven : c.draw-7.new.self ≡ state_behind 7 c.args.draws.now = c.draw-7.ensures.state ∙ ap next_state six in
    c.draw-8.ensures.state ∙ ap next_state seven
