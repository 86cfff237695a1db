use Rattle.std.proofs.Common.{length}
use Rattle.task_tokens.specs.declared.token.Sign.TheVariants as sign
use Rattle.task_text.specs.Reading.{begins_sign}
use Rattle.task_text.specs.ReadingDecl.{next_value_at, values_at}
use Rattle.task_text.proofs.Items.{Items}
use Rattle.task_text.proofs.cursor.Cursor.values.Given as goal

abbrev pub invariant-items : goal.invariant-items
invariant-items l = Items (begins_sign sign.Comma) next_value_at (values_at l.fn.self) l.values l.self

abbrev pub decreases-items : goal.decreases-items
decreases-items l = length l.self
