-- One induction over acts and their lists.
use Rattle.code_cuts.specs.Lasting.{Lasts}
use Rattle.code_runs.specs.Claims.{Common, GoesWell}
use Rattle.code_runs.proofs.InRows.{acts_follow}
use Rattle.code_runs.proofs.rows.acts_in_a_row_run_as_planned.Goals as goal

pub returns : goal.returns
returns c = λ p place_of d number most again leads. acts_follow p place_of d number (Lasts p d.setting.rules d.scheme) (Common p place_of d.setting.rules d.scheme) (GoesWell p place_of d.setting.rules d.scheme number d.setting.task) most again leads
