-- The text up to the byte, and what stands behind it.
use Rattle.std.proofs.Common.{◌∙◌, sym}
use Rattle.report_text.proofs.WordLemmas.{cut_found, cut_missed}
use Rattle.report_text.proofs.words.cut.Goals as goal

pub returns-in-Some-clause-parts : goal.returns-in-Some-clause-parts
returns-in-Some-clause-parts c = cut_found c.args.at _ c.args.text.now (sym c.place_of.ensures ∙ c.in-Some.is)

pub returns-in-None-clause-parts : goal.returns-in-None-clause-parts
returns-in-None-clause-parts c = cut_missed c.args.at c.args.text.now (sym c.place_of.ensures ∙ c.in-None.is)
