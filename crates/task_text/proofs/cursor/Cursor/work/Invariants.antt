use Rattle.std.proofs.Common.{length}
use Rattle.task_text.proofs.Turns.{Turns}
use Rattle.task_text.proofs.cursor.Cursor.work.Given as goal

abbrev pub invariant-turns : goal.invariant-turns
invariant-turns l = Turns l.fn.self l.stmts l.self

abbrev pub decreases-turns : goal.decreases-turns
decreases-turns l = length l.self
