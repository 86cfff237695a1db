-- The engine has words left.
use Rattle.std.proofs.Common.{◌<◌, ◌∙◌, ap, subst}
use Rattle.word_machine.specs.Held.{core_of, state_in, program_in}
use Rattle.word_machine.proofs.StepLemmas.{engine_answer}
use Rattle.word_machine.proofs.machine.Machine.work.Goals as goal

pub returns-then-left-gt0-clause-answer : goal.returns-then-left-gt0-clause-answer
returns-then-left-gt0-clause-answer c =
    let held = ap (λ m. m.held) c.self.view_is in
    engine_answer (program_in c.args.self.now c.args.w.now) (state_in c.args.self.now.held c.args.w.now) (core_of c.move_word.new.self.held).ending c.move_word.result
    (subst (λ n. 0 < n) (c.left.ensures ∙ ap (λ h. (core_of h).engine.left) held) c.if-left-gt0.true) (c.move_word.ensures.answer c.args.w.now)
