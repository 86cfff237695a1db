use Rattle.std.proofs.Common.{arith}
use Rattle.ease_debug.proofs.WordLemmas.{number_exact}
use Rattle.ease_debug.proofs.words.number_in.Goals as goal

pub returns-clause-number : goal.returns-clause-number
returns-clause-number c = number_exact c.args.most c.args.word.now c.number_of.result (omega arith) c.number_of.ensures.found c.number_of.ensures.none
