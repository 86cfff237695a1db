use Rattle.task_check.specs.Table.{copied}
use Rattle.task_check.proofs.CountLemmas.{if_counts, for_counts, block_counts}
use Rattle.task_check.proofs.site_counts.+count_sites.Goals as goal

pub count_stmt-returns-in-If : goal.count_stmt-returns-in-If
count_stmt-returns-in-If t c =
    if_counts (copied c.args.around.now) _ _ _ _ _ _ _ _ _ c.in-If.is c.as_slice.ensures c.as_slice-in-If.ensures c.count_body-first.ensures c.count_body.ensures c.both.ensures.sites c.both.ensures.kept

pub count_stmt-returns-in-For : goal.count_stmt-returns-in-For
count_stmt-returns-in-For t c =
    for_counts (copied c.args.around.now) _ _ _ _ _ _ _ _ _ c.in-For.is c.as_slice-in-For.ensures c.count_body-in-For.ensures c.repeated.ensures.sites c.repeated.ensures.kept

pub count_stmt-returns-in-Block : goal.count_stmt-returns-in-Block
count_stmt-returns-in-Block t c =
    block_counts (copied c.args.around.now) _ _ _ _ _ _ _ _ c.in-Block.is c.as_slice-in-Block.ensures c.one-in-Block.ensures.sites c.one-in-Block.ensures.kept c.count_body-in-Block.ensures c.both-in-Block.ensures.sites c.both-in-Block.ensures.kept
