-- What the lines give is the report.
use Rattle.report_text.proofs.GrammarLemmas.{reads_found, reads_only, reads_told, reads_refused}
use Rattle.report_text.proofs.report.read_report.Goals as goal

pub returns-clause-found : goal.returns-clause-found
returns-clause-found c = reads_found c.args.bytes.now c.read_lines.result c.read_lines.ensures.read

pub returns-clause-only : goal.returns-clause-only
returns-clause-only c = λ lines is. reads_only c.args.bytes.now c.read_lines.result lines c.read_lines.ensures.read is

pub returns-clause-refused : goal.returns-clause-refused
returns-clause-refused c = reads_told c.args.bytes.now c.read_lines.result c.read_lines.ensures.read

pub returns-clause-told : goal.returns-clause-told
returns-clause-told c = λ before refused. reads_refused c.args.bytes.now before c.read_lines.result c.read_lines.ensures.read refused
