-- Part by part.
use Rattle.act_refines.proofs.Keeping.{memory_written}
use Rattle.act_refines.proofs.memory.a_write_keeps_memory.Goals as goal

pub returns : goal.returns
returns g = λ p d begun m counts s w well h fit word.
    memory_written (λ c scheme t n q v. g.a_write_of_the_plan_is_one_word.ensures c scheme t n q v) (λ c scheme t n q v. g.a_write_of_the_plan_leaves_constants.ensures c scheme t n q v) (λ c scheme t n q v. g.a_write_of_the_plan_leaves_ram.ensures c scheme t n q v) p d begun m counts s w well h fit word
