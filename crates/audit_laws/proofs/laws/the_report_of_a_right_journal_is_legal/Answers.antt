-- By the law on the lines of a journal's report.
use Rattle.std.proofs.Common.{length, take_all, arith, Some}
use Rattle.report_text.specs.Events.{style_of}
use Rattle.report_text.specs.Written.{journal_told}
use Rattle.audit_laws.proofs.TextLaws.{style_full}
use Rattle.audit_laws.proofs.laws.the_report_of_a_right_journal_is_legal.Goals as goal

pub returns : goal.returns
returns c = λ j is named legal steps ends.
    let style = style_of c.args.c.now in
    let lines = journal_told style j in (
      lines,
      c.the_report_of_a_journal_is_of_the_lines_that_tell_it.ensures style j (style_full c.args.c.now c.requires) is,
      record {
        boots = j.boots;
        ending = Some (j.steps, j.ending);
        tell = take_all (length lines) lines (omega arith);
        named = named;
        allowed = record { legal = record { expected = legal.expected; timed = legal.timed }; steps = steps };
        ends = ends;
      },
    )
