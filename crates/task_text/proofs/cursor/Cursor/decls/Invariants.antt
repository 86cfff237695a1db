use Rattle.std.proofs.Common.{length}
use Rattle.task_text.specs.Reading.{begins_decl}
use Rattle.task_text.specs.ReadingDecl.{decl_at}
use Rattle.task_text.specs.ReadingProgram.{decls_at}
use Rattle.task_text.proofs.Items.{Items}
use Rattle.task_text.proofs.cursor.Cursor.decls.Given as goal

abbrev pub invariant-items : goal.invariant-items
invariant-items l = Items begins_decl decl_at (decls_at l.fn.self) l.decls l.self

abbrev pub decreases-items : goal.decreases-items
decreases-items l = length l.self
