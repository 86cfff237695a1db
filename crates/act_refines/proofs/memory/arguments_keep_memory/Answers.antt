-- Part by part.
use Rattle.act_refines.proofs.Keeping.{arguments_keep}
use Rattle.act_refines.proofs.memory.arguments_keep_memory.Goals as goal

pub returns : goal.returns
returns g = λ p d m counts s words well h few.
    arguments_keep (λ c scheme t n q v. g.words_of_ram_leave_cells.ensures c scheme t n q v) (λ c n q store. g.words_of_ram_leave_constants.ensures c n q store) (λ c bank n store f ws. g.arguments_are_noted.ensures c bank n store f ws) p d m counts s words well h few
