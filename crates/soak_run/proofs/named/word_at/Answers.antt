-- Where no memory has the address the word is 0.
use Rattle.soak_run.proofs.NameLemmas.{near_word, far_word}
use Rattle.soak_run.proofs.named.word_at.Goals as goal

pub returns-in-Ok : goal.returns-in-Ok
returns-in-Ok c = near_word c.args.machine.now.held c.args.at _ _ _ c.in-Ok.ensures.1 c.word.ensures c.unwrap_or.ensures

pub returns-in-Err : goal.returns-in-Err
returns-in-Err c = far_word c.args.machine.now.held c.args.at c.in-Err.ensures
