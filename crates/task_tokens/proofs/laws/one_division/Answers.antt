use Rattle.task_tokens.proofs.DivisionLaws.{divides_once}
use Rattle.task_tokens.proofs.laws.one_division.Goals as goal

pub returns : goal.returns
returns c = divides_once
