-- The laws on traces.
use Rattle.word_machine.specs.TraceLaws.{traced, one_write}
use Rattle.word_machine.proofs.laws.fram_is_what_was_written.Goals as goal

pub returns-clause-words : goal.returns-clause-words
returns-clause-words c = traced

pub returns-clause-one : goal.returns-clause-one
returns-clause-one c = one_write
