use Rattle.std.proofs.Common.{◌∙◌, ap}
use Rattle.task_ast.specs.declared.tree.Name.{Name}
use Rattle.task_check.specs.Names.{array_of, pointer_of}
use Rattle.task_check.specs.Table.{held, meanings}
use Rattle.task_check.proofs.AddressLemmas.{note_point, note_if, note_block, note_none, note_loop, noted_one, noted_all}
use Rattle.task_check.proofs.OkLemmas.{on_ok}
use Rattle.task_check.proofs.addresses.+note_stmts.Goals as goal

pub note_stmt-returns-in-Point : goal.note_stmt-returns-in-Point
note_stmt-returns-in-Point t c =
    on_ok c.note.result (note_point (meanings c.args.names.now) (held c.args.points.now) (held c.note.new.points) (held c.note.new.points) _ _ _
    c.pointer_of-pointer.result c.array_of-array.result _ _ c.in-Point.is c.as_slice.ensures (c.as_slice-in-Point.ensures ∙ ap (λ (x : Name). x.text) c.name_of.ensures)
    (c.pointer_of-pointer.ensures ∙ ap pointer_of c.find.ensures) (c.array_of-array.ensures ∙ ap array_of c.find-in-Point.ensures)) c.note.ensures

pub note_stmt-returns-in_ok-note_body-in-If : goal.note_stmt-returns-in_ok-note_body-in-If
note_stmt-returns-in_ok-note_body-in-If t c =
    on_ok c.note_body-in-If.result (note_if (meanings c.args.names.now) (held c.args.points.now) (held c.note_body.new.points) (held c.note_body-in-If.new.points) _
    _ _ _ _ _ c.in-If.is c.as_slice-in-If.ensures c.as_slice-in-If-2.ensures c.in_ok-note_body-in-If.ensures) c.note_body-in-If.ensures

pub note_stmt-returns-in-Block : goal.note_stmt-returns-in-Block
note_stmt-returns-in-Block t c =
    on_ok c.note_body-in-Block.result (note_block (meanings c.args.names.now) (held c.args.points.now) (held c.note_body-in-Block.new.points) (held c.note_body-in-Block.new.points) _
    _ _ _ _ c.in-Block.is c.as_slice-in-Block.ensures) c.note_body-in-Block.ensures

pub note_stmt-returns-then-never_turns : goal.note_stmt-returns-then-never_turns
note_stmt-returns-then-never_turns t c =
    note_none (meanings c.args.names.now) (held c.args.points.now) (held c.args.points.now) (held c.args.points.now) _ _ _ _ _ _ c.in-For.is _ _ c.if-never_turns.true c.as_slice-in-For.ensures c.never_turns.ensures

pub note_stmt-returns-else-never_turns : goal.note_stmt-returns-else-never_turns
note_stmt-returns-else-never_turns t c =
    on_ok c.note_body-in-For.result (note_loop (meanings c.args.names.now) (held c.args.points.now) (held c.note_body-in-For.new.points) (held c.note_body-in-For.new.points) _
    _ _ _ _ _ c.in-For.is _ _ _ c.if-never_turns.false c.as_slice-in-For.ensures c.never_turns.ensures c.as_slice-in-For-2.ensures) c.note_body-in-For.ensures

pub note_body-loop-s-preserved : goal.note_body-loop-s-preserved
note_body-loop-s-preserved t c =
    noted_one (meanings c.args.names.now) c.args.body.now c.loop-s.s-index (held c.args.points.now) (held c.loop-s.points) c.loop-s.invariant c.s-item.result (held c.note_stmt.new.points)
    c.loop-s-test.true c.s-item.is c.in_ok-note_stmt.ensures

pub note_body-returns : goal.note_body-returns
note_body-returns t c = noted_all (meanings c.args.names.now) c.args.body.now c.loop-s.s-index (held c.args.points.now) (held c.loop-s.points) c.loop-s.invariant c.loop-s-test.false
