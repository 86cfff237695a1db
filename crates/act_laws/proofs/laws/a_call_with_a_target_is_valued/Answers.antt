-- By the laws on lines.
use Rattle.act_laws.proofs.Calls.{target_call_acts}
use Rattle.act_laws.proofs.laws.a_call_with_a_target_is_valued.Goals as goal

pub returns : goal.returns
returns c = target_call_acts c.the_code_of_an_expression_gives_its_value.ensures c.the_code_of_a_target_gives_its_address.ensures
