use Rattle.ease_cli.proofs.ReaderLemmas.{text_refused, tree_refused, tree_read}
use Rattle.ease_cli.proofs.readers.program_in.Goals as goal

pub returns-in-Ok-clause-read : goal.returns-in-Ok-clause-read
returns-in-Ok-clause-read c = tree_read c.args.bytes.now c.in-Ok.program c.checked.result c.in-Ok.ensures.found c.checked.ensures.read

pub returns-in-Ok-clause-refused : goal.returns-in-Ok-clause-refused
returns-in-Ok-clause-refused c = tree_refused c.args.bytes.now c.in-Ok.program c.checked.result c.in-Ok.ensures.found c.in-Ok.ensures.only c.checked.ensures.refused

pub returns-in-Err-clause-refused : goal.returns-in-Err-clause-refused
returns-in-Err-clause-refused c = text_refused c.args.bytes.now c.in-Err.fault c.text_line.result c.refuse.result c.in-Err.ensures.refused c.in-Err.ensures.only c.text_line.ensures.line c.text_line.ensures.memory c.refuse.ensures
