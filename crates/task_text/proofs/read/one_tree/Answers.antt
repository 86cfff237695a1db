use Rattle.task_text.proofs.ReadLaws.{one_tree_law}
use Rattle.task_text.proofs.read.one_tree.Goals as goal

pub returns : goal.returns
returns c = one_tree_law c.one_division.ensures
