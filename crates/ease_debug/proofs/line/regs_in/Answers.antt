use Rattle.std.proofs.Common.{◌∙◌, sym, ap}
use Rattle.ease_debug.proofs.WordLemmas.{not_none}
use Rattle.ease_debug.specs.Reading.{with_none}
use Rattle.ease_debug.specs.Words.{rest_of}
use Rattle.ease_debug.proofs.line.regs_in.Goals as goal

pub returns-in-Some : goal.returns-in-Some
returns-in-Some c = sym (ap (λ r. with_none (rest_of 32 r)) c.in-Some.is ∙ not_none 32 c.in-Some.field-0.now)
