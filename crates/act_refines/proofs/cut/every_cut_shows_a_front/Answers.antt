-- More steps show more.
use Rattle.act_refines.specs.Does.{RelatedBehind}
use Rattle.act_refines.proofs.Cuts.{cut_goes}
use Rattle.act_refines.proofs.cut.every_cut_shows_a_front.Goals as goal

pub returns : goal.returns
returns g = λ p place_of most m pc seen d a s h n few. cut_goes p place_of most m pc seen (λ there. RelatedBehind p d a there s) h n few
