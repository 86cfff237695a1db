-- By the law on statements.
use Rattle.act_laws.proofs.PlainActs.{plain_acts}
use Rattle.act_laws.proofs.laws.a_statement_stays_within_its_weight.Goals as goal

pub returns : goal.returns
returns c = plain_acts c.the_code_of_a_statement_does_what_the_source_says.ensures
