-- Step by step.
use Rattle.std.proofs.Common.{◌≡◌, suc, ◌+◌, ◌-◌, ◌∙◌, sym, arith}
use Rattle.power_trace.specs.Live.{state_of, program_in_live}
use Rattle.soak_run.proofs.RowLemmas.{Steps, row_on, row_ends, row_over}
use Rattle.soak_run.proofs.counted.count_row.Goals as goal

pub returns-in-Some-clause-counts : goal.returns-in-Some-clause-counts
returns-in-Some-clause-counts c =
    let m = c.args.on - (c.each_step._done + 1) in
    let more : c.args.on - c.each_step._done ≡ suc m = omega (arith, c.each_step-test.true) in
    let does : Steps (program_in_live c.args.live.now) (program_in_live c.each_step.live) (c.args.on - c.each_step._done) m c.each_step.live.steps c.step-told.new.self.steps (state_of c.each_step.live) (state_of c.step-told.new.self) c.each_step.counts c.tell.new.self c.step-told.result =
    record { more = more; counted = c.step-told.ensures.steps; same = c.each_step.invariant.program; answered = c.step-told.ensures.answer; next = c.step-told.ensures.state; noted = c.tell.ensures } in
    (row_ends _ _ _ _ _ _ _ _ _ _ _ _ _ _ _ _ c.each_step.invariant.row does (sym c.end_told.ensures ∙ c.in-Some.is)).counts

pub returns-in-Some-clause-state : goal.returns-in-Some-clause-state
returns-in-Some-clause-state c =
    let m = c.args.on - (c.each_step._done + 1) in
    let more : c.args.on - c.each_step._done ≡ suc m = omega (arith, c.each_step-test.true) in
    let does : Steps (program_in_live c.args.live.now) (program_in_live c.each_step.live) (c.args.on - c.each_step._done) m c.each_step.live.steps c.step-told.new.self.steps (state_of c.each_step.live) (state_of c.step-told.new.self) c.each_step.counts c.tell.new.self c.step-told.result =
    record { more = more; counted = c.step-told.ensures.steps; same = c.each_step.invariant.program; answered = c.step-told.ensures.answer; next = c.step-told.ensures.state; noted = c.tell.ensures } in
    (row_ends _ _ _ _ _ _ _ _ _ _ _ _ _ _ _ _ c.each_step.invariant.row does (sym c.end_told.ensures ∙ c.in-Some.is)).state

pub returns-in-Some-clause-end : goal.returns-in-Some-clause-end
returns-in-Some-clause-end c =
    let m = c.args.on - (c.each_step._done + 1) in
    let more : c.args.on - c.each_step._done ≡ suc m = omega (arith, c.each_step-test.true) in
    let does : Steps (program_in_live c.args.live.now) (program_in_live c.each_step.live) (c.args.on - c.each_step._done) m c.each_step.live.steps c.step-told.new.self.steps (state_of c.each_step.live) (state_of c.step-told.new.self) c.each_step.counts c.tell.new.self c.step-told.result =
    record { more = more; counted = c.step-told.ensures.steps; same = c.each_step.invariant.program; answered = c.step-told.ensures.answer; next = c.step-told.ensures.state; noted = c.tell.ensures } in
    (row_ends _ _ _ _ _ _ _ _ _ _ _ _ _ _ _ _ c.each_step.invariant.row does (sym c.end_told.ensures ∙ c.in-Some.is)).ended

pub each_step-preserved : goal.each_step-preserved
each_step-preserved c =
    let m = c.args.on - (c.each_step._done + 1) in
    let more : c.args.on - c.each_step._done ≡ suc m = omega (arith, c.each_step-test.true) in
    let does : Steps (program_in_live c.args.live.now) (program_in_live c.each_step.live) (c.args.on - c.each_step._done) m c.each_step.live.steps c.step-told.new.self.steps (state_of c.each_step.live) (state_of c.step-told.new.self) c.each_step.counts c.tell.new.self c.step-told.result =
    record { more = more; counted = c.step-told.ensures.steps; same = c.each_step.invariant.program; answered = c.step-told.ensures.answer; next = c.step-told.ensures.state; noted = c.tell.ensures } in
    record {
      program = c.step-told.ensures.program ∙ c.each_step.invariant.program;
      row = row_on _ _ _ _ _ _ _ _ _ _ _ _ _ _ _ c.each_step.invariant.row does (sym c.end_told.ensures ∙ c.in_default.is);
    }

pub returns-clause-counts : goal.returns-clause-counts
returns-clause-counts c =
    let none : c.args.on - c.each_step._done ≡ 0 = omega (arith, c.each_step-test.false) in
    (row_over _ _ _ _ _ _ _ _ _ c.each_step.invariant.row none).counts

pub returns-clause-state : goal.returns-clause-state
returns-clause-state c =
    let none : c.args.on - c.each_step._done ≡ 0 = omega (arith, c.each_step-test.false) in
    (row_over _ _ _ _ _ _ _ _ _ c.each_step.invariant.row none).state

pub returns-clause-end : goal.returns-clause-end
returns-clause-end c =
    let none : c.args.on - c.each_step._done ≡ 0 = omega (arith, c.each_step-test.false) in
    (row_over _ _ _ _ _ _ _ _ _ c.each_step.invariant.row none).ended
