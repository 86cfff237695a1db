-- What was taken whole was taken as a front.
use Rattle.std.proofs.Common.{◌∙◌}
use Rattle.ease_debug.proofs.PlayLemmas.{front_all, text_same}
use Rattle.ease_debug.proofs.debug_call.debug.Goals as goal

pub returns-clause-front : goal.returns-clause-front
returns-clause-front g c =
    front_all _ _ _ (c.in_ok-play.ensures.text.0 ∙ text_same (g.K.Sink.taken c.args.out.now) _ _ _ _ _ c.args.script.now.lines c.in_ok-debugger.ensures.image c.in_ok-debugger.ensures.program c.as_slice.ensures)
