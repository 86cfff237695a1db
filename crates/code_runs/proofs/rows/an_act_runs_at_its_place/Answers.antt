-- By how the act ends, and by whether it has gone its way.
use Rattle.code_cuts.specs.Lasting.{Lasts}
use Rattle.code_runs.specs.Claims.{Claimed}
use Rattle.code_runs.specs.Following.{AnyWay}
use Rattle.code_runs.proofs.Cutting.{runs_in}
use Rattle.code_runs.proofs.rows.an_act_runs_at_its_place.Goals as goal

pub returns : goal.returns
returns c = λ p place_of d number before after most a at next fits. runs_in p place_of d number (Lasts p d.setting.rules d.scheme) (Claimed p place_of d.setting.rules d.scheme before) (AnyWay (Claimed p place_of d.setting.rules d.scheme after)) most a at next fits
