-- Part by part.
use Rattle.act_refines.proofs.Keeping.{fram_keeps}
use Rattle.act_refines.proofs.memory.same_fram_keeps_cells.Goals as goal

pub returns : goal.returns
returns g = λ p d m n counts s well h same.
    fram_keeps (λ c scheme t n q v. g.words_of_ram_leave_cells.ensures c scheme t n q v) (λ c n q store. g.words_of_ram_leave_constants.ensures c n q store) p d m n counts s well h same
