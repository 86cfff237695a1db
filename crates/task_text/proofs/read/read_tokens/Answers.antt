use Rattle.std.proofs.Common.{sym, ap, ◌∙◌}
use Rattle.task_text.specs.ReadingProgram.{program_at}
use Rattle.task_text.proofs.ReadLaws.{reading-found, none-read}
use Rattle.task_text.proofs.read.read_tokens.Goals as goal

pub returns-in-Ok : goal.returns-in-Ok
returns-in-Ok c = reading-found _ _ c.args.end _ (ap program_at (sym c.new-cursor.ensures) ∙ c.in-Ok.ensures)

pub returns-in-Err-Syntax : goal.returns-in-Err-Syntax
returns-in-Err-Syntax c =
    let e = rw c.in-Err-Syntax.field-0-is at c.in-Err-Syntax.ensures in
    (none-read _ _ (ap program_at (sym c.new-cursor.ensures) ∙ e), c.place_of.ensures)
