-- The word was moved, so both addresses have a word.
use Rattle.std.proofs.Common.{◌∙◌, ap}
use Rattle.word_machine.specs.Held.{core_of, state_in, program_in}
use Rattle.word_machine.specs.Step.{can_move}
use Rattle.word_machine.proofs.StepLemmas.{moved_answer}
use Rattle.word_machine.proofs.machine.Machine.move_word.Goals as goal

pub returns-in-Ok-clause-answer : goal.returns-in-Ok-clause-answer
returns-in-Ok-clause-answer c w =
    let held = ap (λ m. m.held) c.self.view_is in
    moved_answer (program_in c.args.self.now w) (state_in c.args.self.now.held w) c.copied-event.result (core_of c.move_word.new.self).ending
    (c.copied-event.ensures w) (c.in-Ok.ensures.found ∙ ap (λ h. can_move (state_in h w)) held) (ap (λ k. k.ending) c.in-Ok.ensures.ok ∙ ap (λ h. (core_of h).ending) held ∙ c.requires.running)
