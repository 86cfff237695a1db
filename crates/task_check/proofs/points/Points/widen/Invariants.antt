use Rattle.std.proofs.Common.{◌≡◌, ◌+◌, length, map}
use Rattle.task_check.specs.Table.{held}
use Rattle.task_check.proofs.points.Points.widen.Given as goal

abbrev pub invariant-loop : goal.invariant-loop
invariant-loop l = record {
  wide : length l.self-inside.rows.items ≡ length l.initial.self-inside.rows.items + l.counter;
  same : held (map (λ r. r.items) l.self-inside.rows.items) ≡ held (map (λ r. r.items) l.initial.self-inside.rows.items);
}
