-- Part by part.
use Rattle.act_refines.proofs.Keeping.{related_there}
use Rattle.act_refines.proofs.memory.memory_is_related_between_acts.Goals as goal

pub returns : goal.returns
returns g = λ p d m s well h.
    related_there (λ c bank n store f. g.memory_is_related.ensures c bank n store f) p d m s well h
