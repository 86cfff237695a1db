use Rattle.report_text.proofs.WordLemmas.{number_exact}
use Rattle.report_text.proofs.numbers.number_in.Goals as goal

pub returns : goal.returns
returns c = number_exact c.args.word.now c.number_of.result c.number_of.ensures.found c.number_of.ensures.none
