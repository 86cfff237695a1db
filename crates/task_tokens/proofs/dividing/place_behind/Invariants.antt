use Rattle.std.proofs.Common.{◌≡◌, ◌≤◌, ◌+◌, take}
use Rattle.task_tokens.specs.Division.{behind, IsPlace}
use Rattle.task_tokens.proofs.dividing.place_behind.Given as goal

abbrev pub invariant-loop-b : goal.invariant-loop-b
invariant-loop-b l = record {
  value : l.place ≡ behind l.fn.at (take l.b-index l.piece);
  place : IsPlace l.place;
  within : l.place.line + l.place.column ≤ l.fn.at.line + l.fn.at.column + l.b-index;
}
