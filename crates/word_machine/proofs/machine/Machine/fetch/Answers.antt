-- The instruction is done from behind it.
use Rattle.std.specs.Prelude.{slice_get}
use Rattle.std.specs.Option.{option_map, option_and_then}
use Rattle.std.proofs.Common.{◌∙◌, ◌+◌, ap, sym}
use Rattle.devices.specs.Readings.{issued_of}
use Rattle.word_machine.specs.Held.{core_of, state_in, state_with, program_in}
use Rattle.word_machine.proofs.StepLemmas.{fetched_state, fetched_answer}
use Rattle.word_machine.proofs.machine.Machine.fetch.Goals as goal

pub returns-clause-state : goal.returns-clause-state
returns-clause-state c =
    let w = c.args.w.now in
    let held = ap (λ m. m.held) c.self.view_is in
    let at = c.counter.ensures ∙ ap (λ h. (core_of h).pc) held in
    let there = sym (ap (λ n. slice_get c.args.self.now.code n) at) ∙ sym c.cell_at.ensures.cell ∙ c.in-Some.is in
    let behind = ap (λ k. state_with k w.clock (issued_of w.readings)) (c.skip.ensures ∙ ap (λ h. record (core_of h) { pc = (core_of h).pc + 1 }) held) in
    fetched_state (program_in c.args.self.now w) (state_in c.args.self.now.held w) (state_in c.skip.new.self w) (state_in c.act.new.self c.act.new.w)
    c.in-Some.cell.instr (option_map (λ cell. cell.instr) (slice_get c.args.self.now.code (core_of c.args.self.now.held).pc)) (ap (option_map (λ cell. cell.instr)) there) behind c.act.ensures.state

pub returns-clause-answer : goal.returns-clause-answer
returns-clause-answer c =
    let w = c.args.w.now in
    let held = ap (λ m. m.held) c.self.view_is in
    let at = c.counter.ensures ∙ ap (λ h. (core_of h).pc) held in
    let there = sym (ap (λ n. slice_get c.args.self.now.code n) at) ∙ sym c.cell_at.ensures.cell ∙ c.in-Some.is in
    let behind = ap (λ k. state_with k w.clock (issued_of w.readings)) (c.skip.ensures ∙ ap (λ h. record (core_of h) { pc = (core_of h).pc + 1 }) held) in
    fetched_answer (program_in c.args.self.now w) (state_in c.args.self.now.held w) (state_in c.skip.new.self w) (state_in c.act.new.self c.act.new.w)
    c.in-Some.cell.sign c.in-Some.cell.instr (option_map (λ cell. cell.instr) (slice_get c.args.self.now.code (core_of c.args.self.now.held).pc)) c.act.result
    (ap (option_map (λ cell. cell.instr)) there) (ap (option_and_then (λ cell. cell.sign)) there) behind c.act.ensures.answer
