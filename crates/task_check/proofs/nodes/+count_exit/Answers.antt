use Rattle.task_check.proofs.NodeLemmas.{counts_choose}
use Rattle.task_check.proofs.nodes.+count_exit.Goals as goal

pub returns-in-Choose : goal.returns-in-Choose
returns-in-Choose t c =
    counts_choose _ _ _ _ _ _ _ _ _ _ c.in-Choose.is c.get.ensures c.get-in-Choose.ensures c.count_expr-c.ensures c.count_exit-first.ensures c.count_exit.ensures c.count_parts.ensures
