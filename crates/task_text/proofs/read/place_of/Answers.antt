use Rattle.task_text.proofs.ReadLaws.{among}
use Rattle.task_text.proofs.read.place_of.Goals as goal

pub returns-in-Some : goal.returns-in-Some
returns-in-Some c = among _ _ _ c.args.end c.in-Some.ensures.lookup.3.0 c.in-Some.ensures.lookup.1
