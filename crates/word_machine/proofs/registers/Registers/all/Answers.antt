-- The sixteen words are alike.
use Rattle.word_machine.proofs.RegisterLemmas.{all_alike}
use Rattle.word_machine.proofs.registers.Registers.all.Goals as goal

pub returns : goal.returns
returns c = all_alike c.args.word
