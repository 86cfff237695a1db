-- The report is of the lines that tell the journal.
use Rattle.report_text.proofs.WrittenLemmas.{journal_is_told}
use Rattle.report_text.proofs.laws.the_report_of_a_journal_is_of_the_lines_that_tell_it.Goals as goal

pub returns : goal.returns
returns c = λ style j is journal. journal_is_told style j is journal
