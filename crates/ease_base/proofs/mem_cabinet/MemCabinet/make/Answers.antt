use Rattle.ease_base.proofs.MemCabinetLemmas.{no_files}
use Rattle.ease_base.proofs.mem_cabinet.MemCabinet.make.Goals as goal

pub returns-clause-no_names : goal.returns-clause-no_names
returns-clause-no_names c = λ name. rw c.new.ensures.items (no_files name)
