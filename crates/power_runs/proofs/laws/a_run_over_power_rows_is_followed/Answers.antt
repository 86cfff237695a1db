-- Row by row.
use Rattle.power_runs.proofs.OverRows.{followed}
use Rattle.power_runs.proofs.laws.a_run_over_power_rows_is_followed.Goals as goal

pub returns : goal.returns
returns c = λ p place_of x runs well rows m s h. followed p place_of x runs (c.a_failure_leaves_what_lasts.ensures p x.rules x.plan.scheme well) rows m s h
