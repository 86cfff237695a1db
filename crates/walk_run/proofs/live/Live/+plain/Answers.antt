-- An `if` by its condition, and a loop by its turns.
use Rattle.std.proofs.Common.{◌∙◌, sym, ap}
use Rattle.walk_run.specs.Plain.{all_done, turns_done}
use Rattle.walk_run.proofs.Steps.{if_holds, if_fails, loop_at, turn_done}
use Rattle.walk_run.proofs.live.Live.+plain.Goals as goal

pub do_one-returns-then-word-ne0 : goal.do_one-returns-then-word-ne0
do_one-returns-then-word-ne0 t c =
    let done = c.do_all.ensures ∙ ap (λ b. all_done b c.args.self.now) c.as_slice.ensures in
    sym (if_holds _ _ _ _ _ _ _ c.in-If.is (sym c.value.ensures ∙ c.in_ok-word-in-If.was) c.if-word-ne0.true (sym done))

pub do_one-returns-else-word-ne0 : goal.do_one-returns-else-word-ne0
do_one-returns-else-word-ne0 t c =
    let done = c.do_all-else-word-ne0.ensures ∙ ap (λ b. all_done b c.args.self.now) c.as_slice-else-word-ne0.ensures in
    sym (if_fails _ _ _ _ _ _ _ c.in-If.is (sym c.value.ensures ∙ c.in_ok-word-in-If.was) c.if-word-ne0.false (sym done))

pub do_one-returns-in-Loop : goal.do_one-returns-in-Loop
do_one-returns-in-Loop t c =
    c.do_turns.ensures ∙ ap (λ b. turns_done (all_done b) c.in-Loop.variable 0 c.in-Loop.turns c.args.self.now) c.as_slice-in-Loop.ensures
    ∙ sym (loop_at _ _ _ _ _ c.in-Loop.is)

pub do_turns-turns-preserved : goal.do_turns-turns-preserved
do_turns-turns-preserved t c =
    sym (turn_done (all_done c.args.body.now) c.args.variable c.turns.number c.args.turns _ _ _ _ _ c.turns-test.true c.set_variable.ensures c.do_all.ensures c.in_ok-do_all.was)
    ∙ c.turns.invariant
