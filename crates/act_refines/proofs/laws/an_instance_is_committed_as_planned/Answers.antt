-- By its template.
use Rattle.act_refines.proofs.Commits.{commit_does}
use Rattle.act_refines.proofs.laws.an_instance_is_committed_as_planned.Goals as goal

pub returns : goal.returns
returns g = λ p place_of d number keeps task few.
    commit_does (λ q x f i next s. g.an_instance_is_committed.ensures q x f i next s) (λ c scheme t u m s e i b. g.a_commit_is_one_word.ensures c scheme t u m s e i b) (λ c b well few. g.each_place_lies_in_its_area.ensures c b well few) p place_of d number keeps task few
