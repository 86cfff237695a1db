use Rattle.std.proofs.Common.{take}
use Rattle.task_check.specs.Sites.{body_sites}
use Rattle.task_check.specs.Table.{Counts, copied}
use Rattle.task_check.proofs.site_counts.+count_sites.Given as goal

abbrev pub invariant-count_body-loop-s : goal.invariant-count_body-loop-s
invariant-count_body-loop-s l = Counts l.total (body_sites (copied l.around) (take l.s-index l.body))
