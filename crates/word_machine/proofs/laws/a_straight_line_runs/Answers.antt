-- The laws on lines.
use Rattle.word_machine.specs.RunLaws.{line_runs, line_shows}
use Rattle.word_machine.proofs.laws.a_straight_line_runs.Goals as goal

pub returns-clause-state : goal.returns-clause-state
returns-clause-state c = line_runs

pub returns-clause-trace : goal.returns-clause-trace
returns-clause-trace c = line_shows
