use Rattle.std.proofs.Common.{take}
use Rattle.std.specs.List.{AllByRecursion}
use Rattle.task_tokens.specs.Fair.{IsNarrow}
use Rattle.task_text.proofs.read.first_wide.Given as goal

abbrev pub invariant-loop-token : goal.invariant-loop-token
invariant-loop-token l = AllByRecursion IsNarrow (take l.token-index l.tokens)
