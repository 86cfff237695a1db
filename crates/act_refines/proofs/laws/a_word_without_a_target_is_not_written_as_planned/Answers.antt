-- By its template.
use Rattle.act_refines.proofs.Writing.{write_none_does}
use Rattle.act_refines.proofs.laws.a_word_without_a_target_is_not_written_as_planned.Goals as goal

pub returns : goal.returns
returns g = λ p place_of d number keeps k q args code.
    write_none_does (λ r x i j args next s. g.a_word_without_a_target_is_not_written.ensures r x i j args next s) p place_of d number keeps k q args code
