use Rattle.std.proofs.Common.{length}
use Rattle.task_tokens.specs.declared.token.Keyword.TheVariants as keyword
use Rattle.task_text.specs.Reading.{begins_reserved}
use Rattle.task_text.specs.ReadingProgram.{task_at, tasks_at}
use Rattle.task_text.proofs.Items.{Items}
use Rattle.task_text.proofs.cursor.Cursor.tasks.Given as goal

abbrev pub invariant-items : goal.invariant-items
invariant-items l = Items (begins_reserved keyword.Task) task_at (tasks_at l.fn.self) l.tasks l.self

abbrev pub decreases-items : goal.decreases-items
decreases-items l = length l.self
