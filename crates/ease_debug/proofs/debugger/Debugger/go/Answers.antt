-- Step by step.
use Rattle.std.proofs.Common.{◌≡◌, suc, ◌+◌, ◌-◌, ◌∙◌, sym, arith}
use Rattle.ease_debug.proofs.GoLemmas.{goes_on_same, go_over, go_done, go_spends, go_breaks, go_stops, go_on, did_as, broke_as}
use Rattle.ease_debug.proofs.DebuggerLemmas.{goes_err}
use Rattle.ease_debug.proofs.debugger.Debugger.go.Goals as goal

pub returns-then-not-goes_on-clause-goes : goal.returns-then-not-goes_on-clause-goes
returns-then-not-goes_on-clause-goes g c =
    let m = c.args.most - (c.steps._done + 1) in
    let more : c.args.most - c.steps._done ≡ suc m = omega (arith, c.steps-test.true) in
    λ s stands. go_over _ _ _ _ _ _ _ _ _ _ _ m (c.steps.invariant.going s stands) more (sym c.if-not-goes_on.ensures)

pub returns-then-is_full-clause-goes : goal.returns-then-is_full-clause-goes
returns-then-is_full-clause-goes g c =
    let m = c.args.most - (c.steps._done + 1) in
    let more : c.args.most - c.steps._done ≡ suc m = omega (arith, c.steps-test.true) in
    λ s stands. go_spends _ _ _ _ _ _ _ _ _ _ _ _ m (c.steps.invariant.going s stands) more (sym c.if-not-goes_on.ensures) (sym c.if-is_full.ensures.full) c.spend.ensures

pub returns-in_err-step-clause-goes : goal.returns-in_err-step-clause-goes
returns-in_err-step-clause-goes g c =
    let m = c.args.most - (c.steps._done + 1) in
    let more : c.args.most - c.steps._done ≡ suc m = omega (arith, c.steps-test.true) in
    λ s stands.
    let way = c.steps.invariant.going s stands in
    let on = sym (goes_on_same c.steps.self way.s way.stands) ∙ sym c.if-not-goes_on.ensures in
    let off = broke_as _ _ _ _ way.s _ _ _ _ c.steps.invariant.stays.image c.steps.invariant.stays.program (c.in_err-step.ensures.steps way.s way.stands on) in
    goes_err _ _ _ _ _ _ _ c.from_residual.ensures.0 (go_breaks _ _ _ _ _ _ _ _ _ _ _ m _ _ way more (sym c.if-not-goes_on.ensures) (sym c.if-is_full.ensures.full) off)

pub returns-then-branch-clause-goes : goal.returns-then-branch-clause-goes
returns-then-branch-clause-goes g c =
    let m = c.args.most - (c.steps._done + 1) in
    let more : c.args.most - c.steps._done ≡ suc m = omega (arith, c.steps-test.true) in
    λ s stands.
    let way = c.steps.invariant.going s stands in
    let on = sym (goes_on_same c.steps.self way.s way.stands) ∙ sym c.if-not-goes_on.ensures in
    let did = did_as _ _ _ _ c.args.stop way.s _ _ _ _ _ _ c.steps.invariant.stays.image c.steps.invariant.stays.program (c.in_ok-step.ensures.steps way.s way.stands on) in
    go_stops _ _ _ _ _ _ _ _ _ _ _ _ m _ _ _ way more (sym c.if-not-goes_on.ensures) (sym c.if-is_full.ensures.full) did c.if-branch.true

pub steps-preserved : goal.steps-preserved
steps-preserved g c =
    let m = c.args.most - (c.steps._done + 1) in
    let more : c.args.most - c.steps._done ≡ suc m = omega (arith, c.steps-test.true) in
    record {
      stays = record { program = c.in_ok-step.ensures.stays.program ∙ c.steps.invariant.stays.program; image = c.in_ok-step.ensures.stays.image ∙ c.steps.invariant.stays.image };
      boot = c.in_ok-step.ensures.boot ∙ c.steps.invariant.boot;
      going = λ s stands.
          let way = c.steps.invariant.going s stands in
          let on = sym (goes_on_same c.steps.self way.s way.stands) ∙ sym c.if-not-goes_on.ensures in
          let did = did_as _ _ _ _ c.args.stop way.s _ _ _ _ _ _ c.steps.invariant.stays.image c.steps.invariant.stays.program (c.in_ok-step.ensures.steps way.s way.stands on) in
          go_on _ _ _ _ _ _ _ _ _ _ _ _ m _ _ _ way more (sym c.if-not-goes_on.ensures) (sym c.if-is_full.ensures.full) did c.if-branch.false;
    }

pub returns-clause-goes : goal.returns-clause-goes
returns-clause-goes g c =
    let none : c.args.most - c.steps._done ≡ 0 = omega (arith, c.steps-test.false) in
    λ s stands. go_done _ _ _ _ _ _ _ _ _ _ _ (c.steps.invariant.going s stands) none
