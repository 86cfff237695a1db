use Rattle.task_tokens.proofs.Totality as totality
use Rattle.task_tokens.proofs.laws.divides_or_breaks.Goals as goal

pub returns : goal.returns
returns c = totality.divides_or_breaks
