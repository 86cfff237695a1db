-- Part by part.
use Rattle.act_refines.proofs.Keeping.{temps_keep}
use Rattle.act_refines.proofs.memory.words_in_between_keep_memory.Goals as goal

pub returns : goal.returns
returns g = λ p d m n counts s well h same.
    temps_keep (λ c scheme t n q v. g.words_of_ram_leave_cells.ensures c scheme t n q v) (λ c n q store. g.words_of_ram_leave_constants.ensures c n q store) (λ c bank n q store f. g.words_in_between_leave_ram.ensures c bank n q store f) p d m n counts s well h same
