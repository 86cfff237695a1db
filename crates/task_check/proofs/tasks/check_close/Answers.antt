use Rattle.std.proofs.Common.{◌≡◌, ◌∙◌, ◌+◌, ◌++◌, length, sum_by, sym, ap, arith}
use Rattle.std.proofs.lemmas.Result.{err_from_is_err_and}
use Rattle.task_ast.specs.WellFormed.{site_words}
use Rattle.task_check.specs.Capped.{capped}
use Rattle.task_check.specs.Limits.{sites_limit, kept_limit, node_limit}
use Rattle.task_check.specs.Nodes.{nodes_of_task}
use Rattle.task_check.specs.Sites.{body_sites}
use Rattle.task_check.specs.Table.{copied, meanings}
use Rattle.task_check.proofs.FirstLemmas.{first_of_three, second_of_three}
use Rattle.task_check.proofs.TaskLemmas.{body_sites_few, body_kept_few, copied_small}
use Rattle.task_check.proofs.tasks.check_close.Goals as goal

pub returns-in_err-within : goal.returns-in_err-within
returns-in_err-within c =
    let p = err_from_is_err_and c.from_residual.result c.from_residual.ensures.1 in
    let W = copied c.args.around.now in
    let S = body_sites W c.args.t.now.body in
    let counted = c.count_body-counts.ensures.0 ∙ ap (λ b. capped (length (body_sites W b))) c.as_slice.ensures in
    let exact : c.count_body-counts.result.sites ≡ length S = omega (arith, counted, body_sites_few W c.args.t.now.body, c.requires.counted) in
    rw (p.1, p.2) (first_of_three _ _ _ _ _ (λ i. sites_limit c.args.t.now.close (sym exact i) ++ kept_limit c.args.t.now.close (sum_by site_words S) ++ node_limit c.args.t.now.close (c.args.nodes + nodes_of_task c.args.t.now)) c.in_err-within.ensures)

pub returns-in_err-within-2 : goal.returns-in_err-within-2
returns-in_err-within-2 c =
    let p = err_from_is_err_and c.from_residual-in_err-within-2.result c.from_residual-in_err-within-2.ensures.1 in
    let W = copied c.args.around.now in
    let S = body_sites W c.args.t.now.body in
    let counted = c.count_body-counts.ensures.0 ∙ ap (λ b. capped (length (body_sites W b))) c.as_slice.ensures in
    let exact : c.count_body-counts.result.sites ≡ length S = omega (arith, counted, body_sites_few W c.args.t.now.body, c.requires.counted) in
    let summed = c.count_body-counts.ensures.1 ∙ ap (λ b. capped (sum_by site_words (body_sites W b))) c.as_slice.ensures in
    let few = c.in_ok-within.ensures.1 in
    let kept = body_kept_few W (copied_small (meanings c.args.around.now.names.now) c.args.around.now.points.now c.args.around.now.arrays.now c.requires.arrays) c.args.t.now.body in
    let words : c.count_body-counts.result.kept ≡ sum_by site_words S = omega (arith, summed, kept, exact, few) in
    rw (p.1, p.2) (second_of_three _ _ _ _ _ (λ i. sites_limit c.args.t.now.close (sym exact i) ++ kept_limit c.args.t.now.close (sym words i) ++ node_limit c.args.t.now.close (c.args.nodes + nodes_of_task c.args.t.now)) c.in_ok-within.ensures.0 c.in_err-within-2.ensures)
