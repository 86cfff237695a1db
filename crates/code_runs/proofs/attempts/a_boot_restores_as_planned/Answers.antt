-- One region after another.
use Rattle.code_cuts.specs.Lasting.{Lasts}
use Rattle.code_runs.specs.Claims.{Common}
use Rattle.code_runs.proofs.InAttempts.{regions_follow}
use Rattle.code_runs.proofs.attempts.a_boot_restores_as_planned.Goals as goal

pub returns : goal.returns
returns c = λ p place_of d number most again rs at next go long is runs on. regions_follow p place_of d number (Lasts p d.setting.rules d.scheme) (Common p place_of d.setting.rules d.scheme number) most again rs at next go long is runs on
