use Rattle.task_tokens.proofs.FairTokens.{fair_text, few_in_text}
use Rattle.task_tokens.proofs.laws.tokens_are_fair.Goals as goal

pub returns : goal.returns
returns c = record { fair = fair_text; few = few_in_text }
