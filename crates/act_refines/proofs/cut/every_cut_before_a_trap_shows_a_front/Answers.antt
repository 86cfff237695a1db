-- More steps show more.
use Rattle.act_refines.proofs.Cuts.{cut_stops}
use Rattle.act_refines.proofs.cut.every_cut_before_a_trap_shows_a_front.Goals as goal

pub returns : goal.returns
returns g = λ p place_of most m code seen h n few. cut_stops p place_of most m code seen h n few
