-- Step by step.
use Rattle.std.proofs.Common.{◌≡◌, suc, ◌+◌, ◌-◌, ◌∙◌, sym, arith}
use Rattle.power_trace.proofs.RowLemmas.{way_opens, row_on, row_ends, row_over}
use Rattle.power_trace.specs.Way.{way_fails, broke}
use Rattle.power_trace.proofs.rows.run_row.Goals as goal

pub returns-in_err-send_told-clause-text : goal.returns-in_err-send_told-clause-text
returns-in_err-send_told-clause-text g c =
    let m = c.args.on - (c.each_step._done + 1) in
    let more : c.args.on - c.each_step._done ≡ suc m = omega (arith, c.each_step-test.true) in
    let way = way_opens _ _ _ _ _ _ _ _ _ _ m _ _ _ _ _ _ c.each_step.invariant.row more c.step-told.ensures.steps c.each_step.invariant.program c.step-told.ensures.answer in
    broke _ _ _ _ _ _ c.from_residual.ensures.0 (way_fails _ _ _ _ _ _ _ _ _ way c.in_err-send_told.ensures)

pub returns-in-Some-clause-text : goal.returns-in-Some-clause-text
returns-in-Some-clause-text g c =
    let m = c.args.on - (c.each_step._done + 1) in
    let more : c.args.on - c.each_step._done ≡ suc m = omega (arith, c.each_step-test.true) in
    let done = row_ends _ _ _ _ _ _ _ _ _ _ m _ _ _ _ _ _ _ _ _ _ c.each_step.invariant.row more c.step-told.ensures.steps c.each_step.invariant.program c.step-told.ensures.answer c.step-told.ensures.state c.in_ok-send_told.ensures (sym c.end_told.ensures ∙ c.in-Some.is) in
    done.text

pub returns-in-Some-clause-state : goal.returns-in-Some-clause-state
returns-in-Some-clause-state g c =
    let m = c.args.on - (c.each_step._done + 1) in
    let more : c.args.on - c.each_step._done ≡ suc m = omega (arith, c.each_step-test.true) in
    let done = row_ends _ _ _ _ _ _ _ _ _ _ m _ _ _ _ _ _ _ _ _ _ c.each_step.invariant.row more c.step-told.ensures.steps c.each_step.invariant.program c.step-told.ensures.answer c.step-told.ensures.state c.in_ok-send_told.ensures (sym c.end_told.ensures ∙ c.in-Some.is) in
    done.state

pub returns-in-Some-clause-end : goal.returns-in-Some-clause-end
returns-in-Some-clause-end g c =
    let m = c.args.on - (c.each_step._done + 1) in
    let more : c.args.on - c.each_step._done ≡ suc m = omega (arith, c.each_step-test.true) in
    let done = row_ends _ _ _ _ _ _ _ _ _ _ m _ _ _ _ _ _ _ _ _ _ c.each_step.invariant.row more c.step-told.ensures.steps c.each_step.invariant.program c.step-told.ensures.answer c.step-told.ensures.state c.in_ok-send_told.ensures (sym c.end_told.ensures ∙ c.in-Some.is) in
    done.ended

pub returns-in-Some-clause-steps : goal.returns-in-Some-clause-steps
returns-in-Some-clause-steps g c =
    let m = c.args.on - (c.each_step._done + 1) in
    let more : c.args.on - c.each_step._done ≡ suc m = omega (arith, c.each_step-test.true) in
    let done = row_ends _ _ _ _ _ _ _ _ _ _ m _ _ _ _ _ _ _ _ _ _ c.each_step.invariant.row more c.step-told.ensures.steps c.each_step.invariant.program c.step-told.ensures.answer c.step-told.ensures.state c.in_ok-send_told.ensures (sym c.end_told.ensures ∙ c.in-Some.is) in
    done.steps

pub each_step-preserved : goal.each_step-preserved
each_step-preserved g c =
    let m = c.args.on - (c.each_step._done + 1) in
    let more : c.args.on - c.each_step._done ≡ suc m = omega (arith, c.each_step-test.true) in
    record {
      program = c.step-told.ensures.program ∙ c.each_step.invariant.program;
      row = row_on _ _ _ _ _ _ _ _ _ _ m _ _ _ _ _ _ _ _ _ c.each_step.invariant.row more c.step-told.ensures.steps c.each_step.invariant.program c.step-told.ensures.answer c.step-told.ensures.state c.in_ok-send_told.ensures (sym c.end_told.ensures ∙ c.in_default.is);
    }

pub returns-clause-text : goal.returns-clause-text
returns-clause-text g c =
    let none : c.args.on - c.each_step._done ≡ 0 = omega (arith, c.each_step-test.false) in
    let done = row_over _ _ _ _ _ _ _ _ _ _ _ _ _ c.each_step.invariant.row none in
    done.text

pub returns-clause-state : goal.returns-clause-state
returns-clause-state g c =
    let none : c.args.on - c.each_step._done ≡ 0 = omega (arith, c.each_step-test.false) in
    let done = row_over _ _ _ _ _ _ _ _ _ _ _ _ _ c.each_step.invariant.row none in
    done.state

pub returns-clause-end : goal.returns-clause-end
returns-clause-end g c =
    let none : c.args.on - c.each_step._done ≡ 0 = omega (arith, c.each_step-test.false) in
    let done = row_over _ _ _ _ _ _ _ _ _ _ _ _ _ c.each_step.invariant.row none in
    done.ended

pub returns-clause-steps : goal.returns-clause-steps
returns-clause-steps g c =
    let none : c.args.on - c.each_step._done ≡ 0 = omega (arith, c.each_step-test.false) in
    let done = row_over _ _ _ _ _ _ _ _ _ _ _ _ _ c.each_step.invariant.row none in
    done.steps
