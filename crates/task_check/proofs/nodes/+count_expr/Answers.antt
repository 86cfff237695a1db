use Rattle.task_check.proofs.NodeLemmas.{counts_index, counts_paren, counts_one, counts_two}
use Rattle.task_check.proofs.nodes.+count_expr.Goals as goal

pub returns-in-Index : goal.returns-in-Index
returns-in-Index t c = counts_index _ _ _ _ _ _ c.in-Index.is c.get.ensures c.count_expr.ensures c.plus.ensures

pub returns-in-Paren : goal.returns-in-Paren
returns-in-Paren t c = counts_paren _ _ _ _ c.in-Paren.is c.get-in-Paren.ensures c.count_expr-in-Paren.ensures

pub returns-in-One : goal.returns-in-One
returns-in-One t c = counts_one _ _ _ _ _ _ c.in-One.is c.get-in-One.ensures c.count_expr-in-One.ensures c.plus-in-One.ensures

pub returns-in-Two : goal.returns-in-Two
returns-in-Two t c =
    counts_two _ _ _ _ _ _ _ _ _ _ c.in-Two.is c.get-in-Two.ensures c.get-in-Two-2.ensures c.count_expr-in-Two.ensures c.plus-left.ensures c.count_expr-in-Two-2.ensures c.plus-in-Two.ensures
