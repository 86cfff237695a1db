use Rattle.ease_cli.proofs.ReaderLemmas.{report_refused}
use Rattle.ease_cli.proofs.readers.verdict_in.Goals as goal

pub returns-in-Err-clause-refused : goal.returns-in-Err-clause-refused
returns-in-Err-clause-refused c before = report_refused c.args.core.now c.args.world.now c.args.bytes.now before c.in-Err.fault c.refusal_text.result c.refuse.result c.in-Err.ensures.right c.in-Err.ensures.judged
    c.refusal_text.ensures.line c.refusal_text.ensures.memory c.refuse.ensures
