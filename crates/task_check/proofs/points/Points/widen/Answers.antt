use Rattle.std.proofs.Common.{◌∷◌, [], ◌∙◌, ap, arith, map, length, length-append}
use Rattle.task_check.specs.Table.{held}
use Rattle.task_check.proofs.PointLemmas.{held_pushed}
use Rattle.task_check.proofs.points.Points.widen.Goals as goal

pub loop-preserved : goal.loop-preserved
loop-preserved c = record {
  wide = omega (arith, ap length c.in_ok-push.ensures.items, length-append c.loop.self-inside.rows.items (c.new.result ∷ []), c.loop.invariant.wide);
  same = ap (λ l. held (map (λ r. r.items) l)) c.in_ok-push.ensures.items ∙ held_pushed (λ r. r.items) c.loop.self-inside.rows.items c.new.result c.new.ensures.items ∙ c.loop.invariant.same;
}
