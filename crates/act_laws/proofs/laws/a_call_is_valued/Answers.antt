-- By the laws on lines.
use Rattle.act_laws.proofs.Calls.{call_acts}
use Rattle.act_laws.proofs.laws.a_call_is_valued.Goals as goal

pub returns : goal.returns
returns c = call_acts c.the_code_of_an_expression_gives_its_value.ensures
