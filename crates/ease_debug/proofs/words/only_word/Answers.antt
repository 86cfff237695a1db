use Rattle.std.proofs.Common.{◌∙◌, ◌∷◌, sym, ap}
use Rattle.ease_debug.proofs.WordLemmas.{not_only}
use Rattle.ease_debug.specs.Reading.{only_word}
use Rattle.ease_debug.specs.Words.{rest_of}
use Rattle.ease_debug.proofs.words.only_word.Goals as goal

pub returns-in_default-Some : goal.returns-in_default-Some
returns-in_default-Some c =
    sym (ap (λ r. only_word (rest_of 32 r)) c.in_ok-rest.was ∙ ap only_word (c.cut.ensures.parts ∙ ap (λ r. c.cut.result.0.now ∷ rest_of 32 r) c.in_default-Some.is-1) ∙ not_only 32 c.cut.result.0.now c.in_default-Some.field-0-1.now)
