-- The failure, with the line of the next boot.
use Rattle.std.proofs.Common.{refl, ◌∙◌, arith}
use Rattle.ease_debug.proofs.DebuggerLemmas.{fail_runs, fail_sound, fail_did}
use Rattle.ease_debug.proofs.debugger.Debugger.fail.Goals as goal

pub fail-requires-clause-running : goal.fail-requires-clause-running
fail-requires-clause-running g c = fail_runs _ _ c.self.view_is c.self.invariant.running c.if-not-goes_on.ensures

pub invariant_of-self : goal.invariant_of-self
invariant_of-self g c = fail_sound _ _ _ _ _ _ c.self.invariant c.fail.ensures.steps (fail_runs _ _ c.self.view_is c.self.invariant.running c.if-not-goes_on.ensures) c.fail.ensures.state

pub returns-clause-goes : goal.returns-clause-goes
returns-clause-goes g c =
    fail_did _ _ _ _ c.args.off c.args.fill _ _ _ _ _ c.self.view_is c.if-not-goes_on.ensures (λ more. omega (arith, more, c.if-now-off.false, c.now.ensures)) (omega (arith, c.now.ensures, c.now.type_inv))
    c.self.invariant.running c.fail.ensures.steps c.fail.ensures.state refl c.boot.ensures refl refl (c.as_slice.ensures ∙ c.boot_line.ensures c.self.inside.image.now) c.send.ensures
