use Rattle.std.proofs.Common.{◌≡◌, ◌^◌, min, take}
use Rattle.task_tokens.specs.Spelling.{value}
use Rattle.task_tokens.proofs.cut.value.Given as goal

abbrev pub invariant-loop-b : goal.invariant-loop-b
invariant-loop-b l = (l.total ≡ min (value l.base (take l.b-index l.digits)) (2 ^ 32))
