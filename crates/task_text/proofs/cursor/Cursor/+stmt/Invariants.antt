use Rattle.std.proofs.Common.{◌+◌, ◌*◌, length}
use Rattle.task_text.specs.Reading.{begins_stmt}
use Rattle.task_text.specs.ReadingStmt.{stmt_at, stmts_of}
use Rattle.task_text.proofs.Items.{Items}
use Rattle.task_text.proofs.cursor.Cursor.+stmt.Given as goal

abbrev pub decreases-stmt : goal.decreases-stmt
decreases-stmt l = 8 * l.nesting

abbrev pub decreases-stmts : goal.decreases-stmts
decreases-stmts l = 8 * l.nesting + 1

abbrev pub decreases-body : goal.decreases-body
decreases-body l = 8 * l.nesting + 2

abbrev pub decreases-otherwise : goal.decreases-otherwise
decreases-otherwise l = 8 * l.nesting + 3

abbrev pub decreases-choice : goal.decreases-choice
decreases-choice l = 8 * l.nesting + 4

abbrev pub decreases-if_stmt : goal.decreases-if_stmt
decreases-if_stmt l = 8 * l.nesting + 5

abbrev pub decreases-loop_stmt : goal.decreases-loop_stmt
decreases-loop_stmt l = 8 * l.nesting + 5

abbrev pub decreases-block : goal.decreases-block
decreases-block l = 8 * l.nesting + 5

abbrev pub decreases-opened : goal.decreases-opened
decreases-opened l = 8 * l.nesting + 6

abbrev pub invariant-stmts-items : goal.invariant-stmts-items
invariant-stmts-items l = Items begins_stmt (stmt_at l.fn.nesting) (stmts_of (stmt_at l.fn.nesting) l.fn.self) l.stmts l.self

abbrev pub decreases-stmts-items : goal.decreases-stmts-items
decreases-stmts-items l = length l.self
