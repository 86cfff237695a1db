-- What is left gives what the whole gives, and each task keeps few words.
use Rattle.std.specs.List.{AllByRecursion}
use Rattle.std.proofs.Common.{◌≡◌, drop, max}
use Rattle.word_code.specs.CodeOf.{most_kept}
use Rattle.word_code.specs.FitPlan.{KeepsFew}
use Rattle.word_code.proofs.image.most_kept.Given as goal

abbrev pub invariant-tasks : goal.invariant-tasks
invariant-tasks l = (max l.most (most_kept (drop l.task-index l.tasks)) ≡ most_kept l.tasks) × AllByRecursion KeepsFew (drop l.task-index l.tasks)
