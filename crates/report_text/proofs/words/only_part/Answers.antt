-- A second part, and so no only one.
use Rattle.std.proofs.Common.{◌∙◌, ◌∷◌, sym, ap}
use Rattle.report_text.proofs.WordLemmas.{not_only}
use Rattle.report_text.specs.Parts.{only_part, rest_of}
use Rattle.report_text.proofs.words.only_part.Goals as goal

pub returns-in_default-Some : goal.returns-in_default-Some
returns-in_default-Some c =
    sym (ap (λ r. only_part (rest_of c.args.at r)) c.in_ok-rest.was ∙ ap only_part (c.cut.ensures.parts ∙ ap (λ r. c.cut.result.0.now ∷ rest_of c.args.at r) c.in_default-Some.is-1)
    ∙ not_only c.args.at c.cut.result.0.now c.in_default-Some.field-0-1.now)
