use Rattle.std.proofs.Common.{sym, subst, ◌∙◌}
use Rattle.task_text.specs.Reading.{Gives}
use Rattle.task_text.proofs.ExitLaws.{exit-choose, exit-leave}
use Rattle.task_text.proofs.cursor.Cursor.+exit.Goals as goal

pub exit-returns-then-begins_reserved : goal.exit-returns-then-begins_reserved
exit-returns-then-begins_reserved t c = subst (λ r. Gives r c.choose.result c.choose.new.self) (sym (exit-choose _ _ c.if-ifs-eq0.false (sym c.begins_reserved.ensures ∙ c.if-begins_reserved.true))) c.choose.ensures

pub exit-returns : goal.exit-returns
exit-returns t c = subst (λ r. Gives r c.leave-2.result c.leave-2.new.self) (sym (exit-leave _ _ c.if-ifs-eq0.false (sym c.begins_reserved.ensures ∙ c.if-begins_reserved.false))) c.leave-2.ensures
