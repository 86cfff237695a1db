use Rattle.std.proofs.Common.{◌≡◌, ◌≤◌, ◌+◌, ◌-◌, length, drop}
use Rattle.std.specs.Option.{option_map}
use Rattle.task_tokens.specs.Cutting.{end_len}
use Rattle.task_tokens.proofs.cut.end_len.Given as goal

abbrev pub invariant-loop-at : goal.invariant-loop-at
invariant-loop-at l = record {
  within : l.at ≤ length l.text;
  same : end_len l.text ≡ option_map (λ n. n + l.at) (end_len (drop l.at l.text));
}

abbrev pub decreases-loop-at : goal.decreases-loop-at
decreases-loop-at l = length l.text - l.at
