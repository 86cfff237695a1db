-- The laws on runs.
use Rattle.word_machine.specs.RunLaws.{exec_more, trace_more}
use Rattle.word_machine.proofs.laws.runs_add_up.Goals as goal

pub returns-clause-state : goal.returns-clause-state
returns-clause-state c = exec_more

pub returns-clause-trace : goal.returns-clause-trace
returns-clause-trace c = trace_more
