-- By the boots, one after another.
use Rattle.timed_runs.proofs.Ends.{ends_well}
use Rattle.timed_runs.proofs.laws.a_machine_halts_where_nothing_is_left.Goals as goal

pub returns : goal.returns
returns c = λ p place_of x plan unmarked fails rows before m s pc lasts there followed. ends_well p place_of x plan unmarked fails rows before m s pc lasts there followed
