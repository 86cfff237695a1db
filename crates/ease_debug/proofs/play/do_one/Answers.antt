-- What shows changes nothing.
use Rattle.ease_debug.proofs.PlayLemmas.{shows_by}
use Rattle.ease_debug.proofs.DebuggerLemmas.{goes_by}
use Rattle.ease_debug.proofs.play.do_one.Goals as goal

pub returns-in-Show-clause-goes : goal.returns-in-Show-clause-goes
returns-in-Show-clause-goes g c = λ s stands. shows_by _ _ _ _ _ _ _ _ _ _ s c.in-Show.is (goes_by _ _ _ _ _ _ _ stands (c.show.ensures s stands))

pub returns-in-Why-clause-goes : goal.returns-in-Why-clause-goes
returns-in-Why-clause-goes g c = λ s stands. shows_by _ _ _ _ _ _ _ _ _ _ s c.in-Why.is (goes_by _ _ _ _ _ _ _ stands (c.why.ensures s stands))
