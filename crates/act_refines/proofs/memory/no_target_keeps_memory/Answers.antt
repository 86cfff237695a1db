-- Part by part.
use Rattle.act_refines.proofs.Keeping.{no_target_keeps}
use Rattle.act_refines.proofs.memory.no_target_keeps_memory.Goals as goal

pub returns : goal.returns
returns g = λ p d m counts s well h.
    no_target_keeps (λ c scheme t n q v. g.words_of_ram_leave_cells.ensures c scheme t n q v) (λ c n q store. g.words_of_ram_leave_constants.ensures c n q store) p d m counts s well h
