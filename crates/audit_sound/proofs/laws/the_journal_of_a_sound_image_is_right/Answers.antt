-- By the laws on every machine's journal, and on the rules.
use Rattle.std.proofs.Common.{refl}
use Rattle.devices.specs.Reading.{values_in}
use Rattle.power_trace.specs.Report.{place_in}
use Rattle.power_trace.specs.Run.{program_in}
use Rattle.word_machine.specs.State.{start}
use Rattle.audit_sound.proofs.Right.{journal_right}
use Rattle.audit_sound.proofs.laws.the_journal_of_a_sound_image_is_right.Goals as goal

pub returns : goal.returns
returns c = λ sound count.
    let i = c.args.image.now in
    let world = c.args.world.now in
    let program = program_in i (values_in world.feeds) in
    journal_right c.args.c.now c.args.scheme i world c.the_numbers_of_a_journal_are_words.ensures
    (λ cuts looks. c.the_rules_name_the_peripherals_of_a_program.ensures c.args.c.now world cuts looks c.requires.formed)
    (c.the_steps_of_a_journal_fit_its_power.ensures (place_in i) program world.power 0 (start i.fram))
    (λ well. c.the_end_of_a_journal_fits_its_power.ensures (place_in i) program world.power (start i.fram) refl well) c.requires.limits sound count
