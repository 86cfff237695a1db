-- Row by row.
use Rattle.std.proofs.Common.{◌≡◌, ◌+◌, ◌∙◌, ◌∷◌, drop, get_or, ap, subst, sym, arith}
use Rattle.std.proofs.lemmas.List.{drop_all}
use Rattle.ease_base.specs.Sink.{extended, TookFront}
use Rattle.devices.specs.declared.world.PowerRow.{PowerRow}
use Rattle.power_trace.proofs.RowLemmas.{IsRowDone}
use Rattle.power_trace.proofs.RunLemmas.{IsInRun, first_line, row_lines, way_boots, way_row, run_on, run_ends, run_over, next_row, row_as, fail_room}
use Rattle.power_trace.specs.Way.{way_fails, broke}
use Rattle.power_trace.specs.Live.{state_of, program_in_live}
use Rattle.power_trace.specs.Writing.{Wrote, BrokeOff}
use Rattle.power_trace.proofs.rows.run_rows.Goals as goal

-- where an item's default stands
abbrev no_row : PowerRow
no_row = record { on = 0; off = 0; fill = 0 }

pub returns-in_err-send_all-clause-text : goal.returns-in_err-send_all-clause-text
returns-in_err-send_all-clause-text g c =
    let row = get_or c.args.rows.now c.boots.row-index no_row in
    let more : drop c.boots.row-index c.args.rows.now ≡ row ∷ drop (c.boots.row-index + 1) c.args.rows.now = next_row c.args.rows.now c.boots.row-index no_row c.boots-test.true in
    let line : c.as_slice.result.now ≡ first_line c.args.image.now c.args.brief c.boots.live.steps c.boots.number = c.as_slice.ensures ∙ c.boot_line.ensures c.args.image.now in
    let off : BrokeOff (g.K.Sink.taken c.boots.out) (g.K.Sink.taken c.send_all.new.out) (g.K.Sink.faults c.boots.out) (g.K.Sink.faults c.send_all.new.out) (first_line c.args.image.now c.args.brief c.boots.live.steps c.boots.number) =
    (subst (TookFront (g.K.Sink.taken c.boots.out) (g.K.Sink.taken c.send_all.new.out)) line c.in_err-send_all.ensures.front, c.in_err-send_all.ensures.failed, c.in_err-send_all.ensures.faults) in
    broke _ _ _ _ _ _ c.from_residual.ensures.0 (way_fails _ _ _ _ _ _ _ _ _ (way_boots _ _ _ _ _ _ _ _ row _ _ _ _ _ _ _ c.boots.invariant.run more) off)

pub returns-in_err-end-clause-text : goal.returns-in_err-end-clause-text
returns-in_err-end-clause-text g c =
    let row = get_or c.args.rows.now c.boots.row-index no_row in
    let more : drop c.boots.row-index c.args.rows.now ≡ row ∷ drop (c.boots.row-index + 1) c.args.rows.now = next_row c.args.rows.now c.boots.row-index no_row c.boots-test.true in
    let line : c.as_slice.result.now ≡ first_line c.args.image.now c.args.brief c.boots.live.steps c.boots.number = c.as_slice.ensures ∙ c.boot_line.ensures c.args.image.now in
    let boot : Wrote (g.K.Sink.taken c.boots.out) (g.K.Sink.taken c.send_all.new.out) (g.K.Sink.faults c.boots.out) (g.K.Sink.faults c.send_all.new.out) (first_line c.args.image.now c.args.brief c.boots.live.steps c.boots.number) =
    (c.in_ok-send_all.ensures.whole ∙ ap (extended (g.K.Sink.taken c.boots.out)) line, c.in_ok-send_all.ensures.steady) in
    let off : BrokeOff (g.K.Sink.taken c.send_all.new.out) (g.K.Sink.taken c.run_row.new.out) (g.K.Sink.faults c.send_all.new.out) (g.K.Sink.faults c.run_row.new.out) (row_lines c.args.image.now c.args.brief (program_in_live c.args.live.now) c.boots.live.steps row (state_of c.boots.live)) =
    subst (λ q. BrokeOff (g.K.Sink.taken c.send_all.new.out) (g.K.Sink.taken c.run_row.new.out) (g.K.Sink.faults c.send_all.new.out) (g.K.Sink.faults c.run_row.new.out) (row_lines c.args.image.now c.args.brief q c.boots.live.steps row (state_of c.boots.live))) c.boots.invariant.program c.in_err-end.ensures.text in
    broke _ _ _ _ _ _ c.from_residual-in_err-end.ensures.0 (way_fails _ _ _ _ _ _ _ _ _ (way_row _ _ _ _ _ _ _ _ row _ _ _ _ _ _ _ _ _ c.boots.invariant.run more boot) off)

pub returns-in-Some-clause-text : goal.returns-in-Some-clause-text
returns-in-Some-clause-text g c =
    let row = get_or c.args.rows.now c.boots.row-index no_row in
    let more : drop c.boots.row-index c.args.rows.now ≡ row ∷ drop (c.boots.row-index + 1) c.args.rows.now = next_row c.args.rows.now c.boots.row-index no_row c.boots-test.true in
    let line : c.as_slice.result.now ≡ first_line c.args.image.now c.args.brief c.boots.live.steps c.boots.number = c.as_slice.ensures ∙ c.boot_line.ensures c.args.image.now in
    let boot : Wrote (g.K.Sink.taken c.boots.out) (g.K.Sink.taken c.send_all.new.out) (g.K.Sink.faults c.boots.out) (g.K.Sink.faults c.send_all.new.out) (first_line c.args.image.now c.args.brief c.boots.live.steps c.boots.number) =
    (c.in_ok-send_all.ensures.whole ∙ ap (extended (g.K.Sink.taken c.boots.out)) line, c.in_ok-send_all.ensures.steady) in
    let there : IsRowDone c.args.image.now c.args.brief (program_in_live c.boots.live) row.on c.boots.live.steps (state_of c.boots.live) (g.K.Sink.taken c.send_all.new.out) (g.K.Sink.faults c.send_all.new.out) c.run_row.new.live.steps (state_of c.run_row.new.live) (g.K.Sink.taken c.run_row.new.out) (g.K.Sink.faults c.run_row.new.out) c.in_ok-end.field-0 =
    record { text = c.in_ok-end.ensures.text; state = c.in_ok-end.ensures.state; ended = c.in_ok-end.ensures.end; steps = c.in_ok-end.ensures.steps } in
    let done = row_as _ _ _ _ _ _ _ _ _ _ _ _ _ _ _ c.boots.invariant.program c.in-Some.is there in
    (run_ends _ _ _ _ _ _ _ _ row _ _ _ _ _ _ _ _ _ _ _ _ _ _ c.boots.invariant.run more boot done).text

pub returns-in-Some-clause-end : goal.returns-in-Some-clause-end
returns-in-Some-clause-end g c =
    let row = get_or c.args.rows.now c.boots.row-index no_row in
    let more : drop c.boots.row-index c.args.rows.now ≡ row ∷ drop (c.boots.row-index + 1) c.args.rows.now = next_row c.args.rows.now c.boots.row-index no_row c.boots-test.true in
    let line : c.as_slice.result.now ≡ first_line c.args.image.now c.args.brief c.boots.live.steps c.boots.number = c.as_slice.ensures ∙ c.boot_line.ensures c.args.image.now in
    let boot : Wrote (g.K.Sink.taken c.boots.out) (g.K.Sink.taken c.send_all.new.out) (g.K.Sink.faults c.boots.out) (g.K.Sink.faults c.send_all.new.out) (first_line c.args.image.now c.args.brief c.boots.live.steps c.boots.number) =
    (c.in_ok-send_all.ensures.whole ∙ ap (extended (g.K.Sink.taken c.boots.out)) line, c.in_ok-send_all.ensures.steady) in
    let there : IsRowDone c.args.image.now c.args.brief (program_in_live c.boots.live) row.on c.boots.live.steps (state_of c.boots.live) (g.K.Sink.taken c.send_all.new.out) (g.K.Sink.faults c.send_all.new.out) c.run_row.new.live.steps (state_of c.run_row.new.live) (g.K.Sink.taken c.run_row.new.out) (g.K.Sink.faults c.run_row.new.out) c.in_ok-end.field-0 =
    record { text = c.in_ok-end.ensures.text; state = c.in_ok-end.ensures.state; ended = c.in_ok-end.ensures.end; steps = c.in_ok-end.ensures.steps } in
    let done = row_as _ _ _ _ _ _ _ _ _ _ _ _ _ _ _ c.boots.invariant.program c.in-Some.is there in
    (run_ends _ _ _ _ _ _ _ _ row _ _ _ _ _ _ _ _ _ _ _ _ _ _ c.boots.invariant.run more boot done).end

pub returns-in-Some-clause-steps : goal.returns-in-Some-clause-steps
returns-in-Some-clause-steps g c =
    let row = get_or c.args.rows.now c.boots.row-index no_row in
    let more : drop c.boots.row-index c.args.rows.now ≡ row ∷ drop (c.boots.row-index + 1) c.args.rows.now = next_row c.args.rows.now c.boots.row-index no_row c.boots-test.true in
    let line : c.as_slice.result.now ≡ first_line c.args.image.now c.args.brief c.boots.live.steps c.boots.number = c.as_slice.ensures ∙ c.boot_line.ensures c.args.image.now in
    let boot : Wrote (g.K.Sink.taken c.boots.out) (g.K.Sink.taken c.send_all.new.out) (g.K.Sink.faults c.boots.out) (g.K.Sink.faults c.send_all.new.out) (first_line c.args.image.now c.args.brief c.boots.live.steps c.boots.number) =
    (c.in_ok-send_all.ensures.whole ∙ ap (extended (g.K.Sink.taken c.boots.out)) line, c.in_ok-send_all.ensures.steady) in
    let there : IsRowDone c.args.image.now c.args.brief (program_in_live c.boots.live) row.on c.boots.live.steps (state_of c.boots.live) (g.K.Sink.taken c.send_all.new.out) (g.K.Sink.faults c.send_all.new.out) c.run_row.new.live.steps (state_of c.run_row.new.live) (g.K.Sink.taken c.run_row.new.out) (g.K.Sink.faults c.run_row.new.out) c.in_ok-end.field-0 =
    record { text = c.in_ok-end.ensures.text; state = c.in_ok-end.ensures.state; ended = c.in_ok-end.ensures.end; steps = c.in_ok-end.ensures.steps } in
    let done = row_as _ _ _ _ _ _ _ _ _ _ _ _ _ _ _ c.boots.invariant.program c.in-Some.is there in
    (run_ends _ _ _ _ _ _ _ _ row _ _ _ _ _ _ _ _ _ _ _ _ _ _ c.boots.invariant.run more boot done).steps

pub fail-requires-clause-clock : goal.fail-requires-clause-clock
fail-requires-clause-clock g c =
    let row = get_or c.args.rows.now c.boots.row-index no_row in
    let more : drop c.boots.row-index c.args.rows.now ≡ row ∷ drop (c.boots.row-index + 1) c.args.rows.now = next_row c.args.rows.now c.boots.row-index no_row c.boots-test.true in
    let line : c.as_slice.result.now ≡ first_line c.args.image.now c.args.brief c.boots.live.steps c.boots.number = c.as_slice.ensures ∙ c.boot_line.ensures c.args.image.now in
    let there : IsRowDone c.args.image.now c.args.brief (program_in_live c.boots.live) row.on c.boots.live.steps (state_of c.boots.live) (g.K.Sink.taken c.send_all.new.out) (g.K.Sink.faults c.send_all.new.out) c.run_row.new.live.steps (state_of c.run_row.new.live) (g.K.Sink.taken c.run_row.new.out) (g.K.Sink.faults c.run_row.new.out) c.in_ok-end.field-0 =
    record { text = c.in_ok-end.ensures.text; state = c.in_ok-end.ensures.state; ended = c.in_ok-end.ensures.end; steps = c.in_ok-end.ensures.steps } in
    let done = row_as _ _ _ _ _ _ _ _ _ _ _ _ _ _ _ c.boots.invariant.program c.in_default.is there in
    fail_room _ _ _ _ _ _ _ _ row _ _ _ _ _ _ _ _ _ _ _ _ _ c.boots.invariant.run more done

pub boots-preserved : goal.boots-preserved
boots-preserved g c =
    let row = get_or c.args.rows.now c.boots.row-index no_row in
    let more : drop c.boots.row-index c.args.rows.now ≡ row ∷ drop (c.boots.row-index + 1) c.args.rows.now = next_row c.args.rows.now c.boots.row-index no_row c.boots-test.true in
    let line : c.as_slice.result.now ≡ first_line c.args.image.now c.args.brief c.boots.live.steps c.boots.number = c.as_slice.ensures ∙ c.boot_line.ensures c.args.image.now in
    let boot : Wrote (g.K.Sink.taken c.boots.out) (g.K.Sink.taken c.send_all.new.out) (g.K.Sink.faults c.boots.out) (g.K.Sink.faults c.send_all.new.out) (first_line c.args.image.now c.args.brief c.boots.live.steps c.boots.number) =
    (c.in_ok-send_all.ensures.whole ∙ ap (extended (g.K.Sink.taken c.boots.out)) line, c.in_ok-send_all.ensures.steady) in
    let there : IsRowDone c.args.image.now c.args.brief (program_in_live c.boots.live) row.on c.boots.live.steps (state_of c.boots.live) (g.K.Sink.taken c.send_all.new.out) (g.K.Sink.faults c.send_all.new.out) c.run_row.new.live.steps (state_of c.run_row.new.live) (g.K.Sink.taken c.run_row.new.out) (g.K.Sink.faults c.run_row.new.out) c.in_ok-end.field-0 =
    record { text = c.in_ok-end.ensures.text; state = c.in_ok-end.ensures.state; ended = c.in_ok-end.ensures.end; steps = c.in_ok-end.ensures.steps } in
    let done = row_as _ _ _ _ _ _ _ _ _ _ _ _ _ _ _ c.boots.invariant.program c.in_default.is there in
    let on = run_on _ _ _ _ _ _ _ _ row _ _ _ _ _ _ _ _ _ _ _ _ _ _ c.boots.invariant.run more boot done c.fail.ensures.state in
    record {
      counted = omega (arith, c.boots.invariant.counted);
      program = c.fail.ensures.program ∙ c.in_ok-end.ensures.program ∙ c.boots.invariant.program;
      run = subst (λ n. IsInRun c.args.image.now c.args.brief (program_in_live c.args.live.now) c.args.rows.now c.args.live.now.steps (state_of c.args.live.now) (g.K.Sink.taken c.args.out.now) (g.K.Sink.faults c.args.out.now) (drop (c.boots.row-index + 1) c.args.rows.now) (c.boots.number + 1) n (state_of c.fail.new.self) (g.K.Sink.taken c.run_row.new.out) (g.K.Sink.faults c.run_row.new.out)) (sym c.fail.ensures.steps) on;
    }

pub returns-clause-text : goal.returns-clause-text
returns-clause-text g c = (run_over _ _ _ _ _ _ _ _ _ _ _ _ _ _ c.boots.invariant.run (drop_all c.boots.row-index c.args.rows.now c.boots-test.false)).text

pub returns-clause-end : goal.returns-clause-end
returns-clause-end g c = (run_over _ _ _ _ _ _ _ _ _ _ _ _ _ _ c.boots.invariant.run (drop_all c.boots.row-index c.args.rows.now c.boots-test.false)).end

pub returns-clause-steps : goal.returns-clause-steps
returns-clause-steps g c = (run_over _ _ _ _ _ _ _ _ _ _ _ _ _ _ c.boots.invariant.run (drop_all c.boots.row-index c.args.rows.now c.boots-test.false)).steps
