-- The answer of the site's trail.
use Rattle.ease_debug.proofs.DebuggerLemmas.{why_wrote}
use Rattle.ease_debug.proofs.debugger.Debugger.why.Goals as goal

pub returns : goal.returns
returns g c = λ s stands. why_wrote _ _ _ _ _ _ _ c.args.site _ c.self.view_is c.answer.ensures c.send_why.ensures s stands
