-- Part by part.
use Rattle.act_refines.proofs.Keeping.{target_keeps}
use Rattle.act_refines.proofs.memory.a_target_keeps_memory.Goals as goal

pub returns : goal.returns
returns g = λ p d m counts s at well h inside written.
    target_keeps (λ c scheme t n q v. g.words_of_ram_leave_cells.ensures c scheme t n q v) (λ c n q store. g.words_of_ram_leave_constants.ensures c n q store) (λ c bank n store f q. g.a_target_is_noted.ensures c bank n store f q) p d m counts s at well h inside written
