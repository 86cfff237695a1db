-- By the law on expressions.
use Rattle.act_laws.proofs.Valued.{test_acts}
use Rattle.act_laws.proofs.laws.a_test_goes_by_its_word.Goals as goal

pub returns : goal.returns
returns c = test_acts c.the_code_of_an_expression_gives_its_value.ensures
