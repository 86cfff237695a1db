use Rattle.task_text.proofs.ReadLaws.{read-result}
use Rattle.task_text.proofs.read.read.Goals as goal

pub returns : goal.returns
returns c = read-result _ c.in-Ok.divided _ _ _ c.in-Ok.ensures.whole c.as_slice.ensures c.in_default.ensures c.as_slice-2.ensures c.read_tokens.ensures
