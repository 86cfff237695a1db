-- The beginning, and then the acts in a row.
use Rattle.code_cuts.specs.Lasting.{Lasts}
use Rattle.code_runs.specs.Claims.{Common, GoesWell}
use Rattle.code_runs.proofs.InAttempts.{attempt_follows}
use Rattle.code_runs.proofs.attempts.an_attempt_runs_as_planned.Goals as goal

pub returns : goal.returns
returns c = λ p place_of d number most again leads t acts e at next runs. attempt_follows p place_of d number (Lasts p d.setting.rules d.scheme) (Common p place_of d.setting.rules d.scheme) (GoesWell p place_of d.setting.rules d.scheme number d.setting.task) most again leads t acts e at next runs
