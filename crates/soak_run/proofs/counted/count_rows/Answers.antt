-- Row by row.
use Rattle.std.proofs.Common.{◌≡◌, ◌+◌, ◌∙◌, ◌∷◌, drop, get_or, Some, None, refl, subst, sym}
use Rattle.std.proofs.lemmas.List.{drop_all}
use Rattle.devices.specs.declared.world.PowerRow.{PowerRow}
use Rattle.power_trace.specs.Live.{state_of, program_in_live}
use Rattle.soak_run.proofs.RowLemmas.{IsRowDone}
use Rattle.soak_run.proofs.RunLemmas.{IsInRun, next_row, row_as, fail_room, run_on, run_ends, run_over}
use Rattle.soak_run.specs.Counts.{with_boot}
use Rattle.soak_run.proofs.counted.count_rows.Goals as goal

-- where an item's default stands
abbrev no_row : PowerRow
no_row = record { on = 0; off = 0; fill = 0 }

pub returns-in-Some-clause-counts : goal.returns-in-Some-clause-counts
returns-in-Some-clause-counts c =
    let row = get_or c.args.rows.now c.boots.row-index no_row in
    let more : drop c.boots.row-index c.args.rows.now ≡ row ∷ drop (c.boots.row-index + 1) c.args.rows.now = next_row c.args.rows.now c.boots.row-index no_row c.boots-test.true in
    let there : IsRowDone (program_in_live c.boots.live) row.on (state_of c.boots.live) c.boot.new.self c.boots.live.steps c.count_row.new.live.steps (state_of c.count_row.new.live) c.count_row.new.counts c.count_row.result =
    record { state = c.count_row.ensures.state; counts = c.count_row.ensures.counts; ended = c.count_row.ensures.end; steps = c.count_row.ensures.steps; within = c.count_row.ensures.within; boots = c.count_row.ensures.boots } in
    let done : IsRowDone (program_in_live c.args.live.now) row.on (state_of c.boots.live) (with_boot c.boots.counts) c.boots.live.steps c.count_row.new.live.steps (state_of c.count_row.new.live) c.count_row.new.counts (Some c.in-Some.end) = row_as _ _ _ _ _ _ _ _ _ _ _ _ c.boots.invariant.program c.boot.ensures c.in-Some.is there in
    (run_ends _ _ _ _ row _ _ _ _ _ _ _ _ _ c.boots.invariant.run more done).counts

pub returns-in-Some-clause-end : goal.returns-in-Some-clause-end
returns-in-Some-clause-end c =
    let row = get_or c.args.rows.now c.boots.row-index no_row in
    let more : drop c.boots.row-index c.args.rows.now ≡ row ∷ drop (c.boots.row-index + 1) c.args.rows.now = next_row c.args.rows.now c.boots.row-index no_row c.boots-test.true in
    let there : IsRowDone (program_in_live c.boots.live) row.on (state_of c.boots.live) c.boot.new.self c.boots.live.steps c.count_row.new.live.steps (state_of c.count_row.new.live) c.count_row.new.counts c.count_row.result =
    record { state = c.count_row.ensures.state; counts = c.count_row.ensures.counts; ended = c.count_row.ensures.end; steps = c.count_row.ensures.steps; within = c.count_row.ensures.within; boots = c.count_row.ensures.boots } in
    let done : IsRowDone (program_in_live c.args.live.now) row.on (state_of c.boots.live) (with_boot c.boots.counts) c.boots.live.steps c.count_row.new.live.steps (state_of c.count_row.new.live) c.count_row.new.counts (Some c.in-Some.end) = row_as _ _ _ _ _ _ _ _ _ _ _ _ c.boots.invariant.program c.boot.ensures c.in-Some.is there in
    (run_ends _ _ _ _ row _ _ _ _ _ _ _ _ _ c.boots.invariant.run more done).end

pub returns-in-Some-clause-state : goal.returns-in-Some-clause-state
returns-in-Some-clause-state c =
    let row = get_or c.args.rows.now c.boots.row-index no_row in
    let more : drop c.boots.row-index c.args.rows.now ≡ row ∷ drop (c.boots.row-index + 1) c.args.rows.now = next_row c.args.rows.now c.boots.row-index no_row c.boots-test.true in
    let there : IsRowDone (program_in_live c.boots.live) row.on (state_of c.boots.live) c.boot.new.self c.boots.live.steps c.count_row.new.live.steps (state_of c.count_row.new.live) c.count_row.new.counts c.count_row.result =
    record { state = c.count_row.ensures.state; counts = c.count_row.ensures.counts; ended = c.count_row.ensures.end; steps = c.count_row.ensures.steps; within = c.count_row.ensures.within; boots = c.count_row.ensures.boots } in
    let done : IsRowDone (program_in_live c.args.live.now) row.on (state_of c.boots.live) (with_boot c.boots.counts) c.boots.live.steps c.count_row.new.live.steps (state_of c.count_row.new.live) c.count_row.new.counts (Some c.in-Some.end) = row_as _ _ _ _ _ _ _ _ _ _ _ _ c.boots.invariant.program c.boot.ensures c.in-Some.is there in
    (run_ends _ _ _ _ row _ _ _ _ _ _ _ _ _ c.boots.invariant.run more done).state

pub fail-requires-clause-clock : goal.fail-requires-clause-clock
fail-requires-clause-clock c =
    let row = get_or c.args.rows.now c.boots.row-index no_row in
    let more : drop c.boots.row-index c.args.rows.now ≡ row ∷ drop (c.boots.row-index + 1) c.args.rows.now = next_row c.args.rows.now c.boots.row-index no_row c.boots-test.true in
    let there : IsRowDone (program_in_live c.boots.live) row.on (state_of c.boots.live) c.boot.new.self c.boots.live.steps c.count_row.new.live.steps (state_of c.count_row.new.live) c.count_row.new.counts c.count_row.result =
    record { state = c.count_row.ensures.state; counts = c.count_row.ensures.counts; ended = c.count_row.ensures.end; steps = c.count_row.ensures.steps; within = c.count_row.ensures.within; boots = c.count_row.ensures.boots } in
    let done : IsRowDone (program_in_live c.args.live.now) row.on (state_of c.boots.live) (with_boot c.boots.counts) c.boots.live.steps c.count_row.new.live.steps (state_of c.count_row.new.live) c.count_row.new.counts None = row_as _ _ _ _ _ _ _ _ _ _ _ _ c.boots.invariant.program c.boot.ensures c.in_default.is there in
    fail_room _ _ _ _ row _ _ _ _ _ _ _ _ c.boots.invariant.run more done

pub boots-preserved : goal.boots-preserved
boots-preserved c =
    let row = get_or c.args.rows.now c.boots.row-index no_row in
    let more : drop c.boots.row-index c.args.rows.now ≡ row ∷ drop (c.boots.row-index + 1) c.args.rows.now = next_row c.args.rows.now c.boots.row-index no_row c.boots-test.true in
    let there : IsRowDone (program_in_live c.boots.live) row.on (state_of c.boots.live) c.boot.new.self c.boots.live.steps c.count_row.new.live.steps (state_of c.count_row.new.live) c.count_row.new.counts c.count_row.result =
    record { state = c.count_row.ensures.state; counts = c.count_row.ensures.counts; ended = c.count_row.ensures.end; steps = c.count_row.ensures.steps; within = c.count_row.ensures.within; boots = c.count_row.ensures.boots } in
    let done : IsRowDone (program_in_live c.args.live.now) row.on (state_of c.boots.live) (with_boot c.boots.counts) c.boots.live.steps c.count_row.new.live.steps (state_of c.count_row.new.live) c.count_row.new.counts None = row_as _ _ _ _ _ _ _ _ _ _ _ _ c.boots.invariant.program c.boot.ensures c.in_default.is there in
    let on = run_on _ _ _ _ row _ _ _ _ _ _ _ _ _ c.boots.invariant.run more done c.fail.ensures.state in
    record {
      counted = rw (c.count_row.ensures.boots, c.boot.ensures, c.boots.invariant.counted) refl;
      program = c.fail.ensures.program ∙ c.count_row.ensures.program ∙ c.boots.invariant.program;
      run = subst (λ n. IsInRun (program_in_live c.args.live.now) c.args.rows.now (state_of c.args.live.now) c.args.counts.now (drop (c.boots.row-index + 1) c.args.rows.now) n (state_of c.fail.new.self) c.count_row.new.counts) (sym c.fail.ensures.steps) on;
    }

pub returns-clause-counts : goal.returns-clause-counts
returns-clause-counts c = (run_over _ _ _ _ _ _ _ _ c.boots.invariant.run (drop_all c.boots.row-index c.args.rows.now c.boots-test.false)).counts

pub returns-clause-end : goal.returns-clause-end
returns-clause-end c = (run_over _ _ _ _ _ _ _ _ c.boots.invariant.run (drop_all c.boots.row-index c.args.rows.now c.boots-test.false)).end

pub returns-clause-state : goal.returns-clause-state
returns-clause-state c = (run_over _ _ _ _ _ _ _ _ c.boots.invariant.run (drop_all c.boots.row-index c.args.rows.now c.boots-test.false)).state
