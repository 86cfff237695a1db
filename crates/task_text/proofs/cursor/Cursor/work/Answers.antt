use Rattle.std.proofs.Common.{sym, ap, subst, ◌∙◌}
use Rattle.std.proofs.lemmas.Result.{err_from_is_err_and}
use Rattle.task_text.specs.Reading.{found}
use Rattle.task_text.proofs.TaskLaws.{turn-takes}
use Rattle.task_text.proofs.Terms.{Gives-exit}
use Rattle.task_text.proofs.Turns.{Turns, Turns-more, Turns-all, Turns-break}
use Rattle.task_text.proofs.cursor.Cursor.work.Goals as goal

pub returns-in_err-stmt : goal.returns-in_err-stmt
returns-in_err-stmt c =
    let p = err_from_is_err_and c.from_residual.result c.from_residual.ensures.1 in
    Gives-exit _ _ _ _ _ c.in_err-stmt.ensures (λ us e. Turns-break _ _ _ us c.turns.invariant e) p

pub turns-smaller : goal.turns-smaller
turns-smaller c = turn-takes _ _ _ c.in_ok-stmt.ensures

pub turns-preserved : goal.turns-preserved
turns-preserved c =
    subst (λ xs. Turns c.args.self.now xs c.turn.new.self) (sym c.in_ok-push-in-Act.ensures.ok) (Turns-more _ _ _ _ _ c.turns.invariant (c.in_ok-stmt.ensures ∙ ap (λ t. found t c.turn.new.self) c.in-Act.is))

pub returns-in-Leave : goal.returns-in-Leave
returns-in-Leave c = Turns-all _ _ _ _ _ c.turns.invariant (c.in_ok-stmt.ensures ∙ ap (λ t. found t c.turn.new.self) c.in-Leave.is)
