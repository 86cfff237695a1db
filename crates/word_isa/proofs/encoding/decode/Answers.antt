use Rattle.std.proofs.Common.{rules}
use Rattle.word_isa.specs.Decoding.{decoded}
use Rattle.word_isa.specs.RowLaws.{result_exactly, result_never}
use Rattle.word_isa.proofs.encoding.decode.Goals as goal

pub returns-clause-value : goal.returns-clause-value
unfolding decoded
returns-clause-value c = search rules

pub returns-clause-found : goal.returns-clause-found
unfolding decoded
returns-clause-found c = result_exactly c.args.word c.of_fields.result (search rules)

pub returns-clause-missed : goal.returns-clause-missed
unfolding decoded
returns-clause-missed c = result_never c.args.word c.of_fields.result (search rules)
