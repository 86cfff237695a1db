-- By the laws on lines.
use Rattle.act_laws.proofs.CopyValued.{copy_acts}
use Rattle.act_laws.proofs.laws.a_copy_is_valued.Goals as goal

pub returns : goal.returns
returns c = copy_acts c.the_code_of_an_expression_gives_its_value.ensures c.the_code_of_a_place_gives_its_address.ensures
