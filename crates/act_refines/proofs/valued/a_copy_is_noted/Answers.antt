-- Part by part.
use Rattle.act_refines.proofs.Noted.{copy_keeps}
use Rattle.act_refines.proofs.valued.a_copy_is_noted.Goals as goal

pub returns : goal.returns
returns g = λ p d m counts s v well h fit.
    copy_keeps (λ c scheme t n q v. g.words_of_ram_leave_cells.ensures c scheme t n q v) (λ c n q store. g.words_of_ram_leave_constants.ensures c n q store) (λ c bank. g.each_place_lies_in_its_area.ensures c bank) p d m counts s v well h fit
