-- The law is the lemma.
use Rattle.fram_ram.specs.TransferLaws.{transfer_copies}
use Rattle.fram_ram.proofs.laws.a_transfer_is_one_update_a_word.Goals as goal

pub returns : goal.returns
returns c store = transfer_copies c.args.to c.args.from c.args.n store
