use Rattle.task_tokens.proofs.SpacedTexts.{divides_so}
use Rattle.task_tokens.proofs.laws.spaced_tokens_divide.Goals as goal

pub returns : goal.returns
returns c = divides_so
