-- The machine's step, with its line.
use Rattle.std.proofs.Common.{refl}
use Rattle.ease_debug.proofs.DebuggerLemmas.{step_did, step_broke, steps_err, sound_step, sees}
use Rattle.ease_debug.proofs.debugger.Debugger.step.Goals as goal

pub returns-clause-steps : goal.returns-clause-steps
returns-clause-steps g c =
    step_did _ _ _ _ _ _ _ _ _ _ _ _ c.self.view_is c.self.invariant.names c.self.invariant.running c.pc-at.ensures c.step-told.ensures.answer c.step-told.ensures.state c.step-told.ensures.steps
    c.ending_of-ending.ensures c.hear.ensures refl refl (rw c.deref.ensures.value at c.stops.ensures) c.in_ok-send_told.ensures

pub returns-in_err-send_told-clause-steps : goal.returns-in_err-send_told-clause-steps
returns-in_err-send_told-clause-steps g c =
    λ s stands on. steps_err _ _ _ _ _ _ _ _ c.from_residual.ensures.0 (step_broke _ _ _ _ _ _ _ _ c.self.view_is c.step-told.ensures.steps c.step-told.ensures.answer c.in_err-send_told.ensures s stands)

pub invariant_of-self : goal.invariant_of-self
invariant_of-self g c = sound_step _ _ _ _ _ _ c.self.invariant.names c.step-told.ensures.steps (sees _ _ c.self.view_is c.requires.steps) c.step-told.ensures.answer c.step-told.ensures.state c.ending_of-ending.ensures

pub invariant_of-self-2 : goal.invariant_of-self-2
invariant_of-self-2 g c = sound_step _ _ _ _ _ _ c.self.invariant.names c.step-told.ensures.steps (sees _ _ c.self.view_is c.requires.steps) c.step-told.ensures.answer c.step-told.ensures.state c.ending_of-ending.ensures
