use Rattle.std.proofs.Common.{◌∙◌, ◌<◌, length, ap, arith}
use Rattle.std.proofs.lemmas.List.{length-map}
use Rattle.task_check.specs.Table.{held, with_address}
use Rattle.task_check.proofs.PointLemmas.{held_put}
use Rattle.task_check.proofs.points.Points.put.Goals as goal

pub returns : goal.returns
returns c =
    let rows = c.self.inside.rows.items in
    let there : c.args.pointer < length rows = omega (arith, c.requires, ap length c.self.view_is, length-map rows (λ v. v.items)) in
    held_put (λ v. v.items) rows _ _ _ c.args.pointer c.args.array there c.index_mut.ensures.value c.in_ok-push.ensures.items
    ∙ ap (λ s. with_address (held s) c.args.pointer c.args.array) c.self.view_is
