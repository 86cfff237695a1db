-- Part by part.
use Rattle.act_refines.proofs.Keeping.{note_keeps}
use Rattle.act_refines.proofs.memory.a_note_keeps_memory.Goals as goal

pub returns : goal.returns
returns g = λ p d m counts later s looks issued note well h fit readings.
    note_keeps (λ c scheme t n q v. g.words_of_ram_leave_cells.ensures c scheme t n q v) (λ c n q store. g.words_of_ram_leave_constants.ensures c n q store) (λ c bank n store f v. g.a_note_is_one_word.ensures c bank n store f v) p d m counts later s looks issued note well h fit readings
