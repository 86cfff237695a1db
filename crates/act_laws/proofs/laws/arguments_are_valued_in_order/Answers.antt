-- By the law on expressions.
use Rattle.std.proofs.Common.{refl}
use Rattle.act_laws.proofs.Arguments.{arguments_act}
use Rattle.act_laws.proofs.laws.arguments_are_valued_in_order.Goals as goal

pub returns : goal.returns
returns c = λ p x scope l store es cell s based h related good low high has. arguments_act c.the_code_of_an_expression_gives_its_value.ensures es p x scope l store s.pc cell s refl based h related good low high has
