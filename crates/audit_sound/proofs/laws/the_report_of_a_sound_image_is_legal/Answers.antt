-- By the law on right journals; the boots are no more than the power rows, and no more than the report's bytes.
use Rattle.audit_sound.proofs.Legal.{bytes_legal, rows_legal}
use Rattle.audit_sound.proofs.laws.the_report_of_a_sound_image_is_legal.Goals as goal

pub returns : goal.returns
returns c =
    let core = c.args.c.now in
    let law = c.the_report_of_a_right_journal_is_legal.ensures in
    let right = c.the_journal_of_a_sound_image_is_right.ensures in
    record {
      rows = λ sound few. rows_legal core c.args.scheme c.args.image.now c.args.world.now law right sound few;
      bytes = λ sound few. bytes_legal core c.args.scheme c.args.image.now c.args.world.now law right sound few;
    }
