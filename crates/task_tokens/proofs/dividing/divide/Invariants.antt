use Rattle.std.proofs.Common.{◌≤◌, ◌+◌, ◌^◌, length}
use Rattle.task_tokens.specs.Division.{IsPlace}
use Rattle.task_tokens.proofs.DivisionSteps.{Progress}
use Rattle.task_tokens.proofs.dividing.divide.Given as goal

abbrev pub invariant-loop-rest : goal.invariant-loop-rest
invariant-loop-rest l = record {
  progress : Progress l.text l.tokens l.at l.rest;
  place : IsPlace l.at;
  within : l.at.line + l.at.column + length l.rest ≤ 2 ^ 32;
}

abbrev pub decreases-loop-rest : goal.decreases-loop-rest
decreases-loop-rest l = length l.rest
