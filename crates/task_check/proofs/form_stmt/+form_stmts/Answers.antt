use Rattle.std.proofs.Common.{◌≡◌, ◌∙◌, ◌+◌, ◌-◌, ◌++◌, ◌∷◌, [], ℕ, suc, ap, arith, length}
use Rattle.task_check.specs.CheckedForm.{core_body, turns_from}
use Rattle.task_check.specs.Names.{array_number}
use Rattle.task_check.specs.Numbering.{all_numbered}
use Rattle.task_check.specs.Sites.{body_sites, repeated}
use Rattle.task_check.specs.Table.{copied, meanings}
use Rattle.task_check.proofs.OkLemmas.{on_ok}
use Rattle.task_check.proofs.StatementForms.{put_if, put_block, put_pure, put_turns, turn_sites, turn_forms, last_setting, body_sites_step, body_forms_step}
use Rattle.task_check.proofs.form_stmt.+form_stmts.Goals as goal

pub form_body-loop-s-preserved : goal.form_body-loop-s-preserved
form_body-loop-s-preserved t c =
    let N = meanings c.args.around.now.names.now in
    let W = copied c.args.around.now in
    record {
      sites = c.loop-s.invariant.sites ∙ body_sites_step N W c.args.body.now c.loop-s.s-index c.s-item.result c.loop-s-test.true c.s-item.is c.loop-s.sites _ c.in_ok-form_stmt.ensures.sites;
      forms = c.loop-s.invariant.forms ∙ body_forms_step N W c.args.body.now c.loop-s.s-index c.s-item.result c.loop-s-test.true c.s-item.is c.loop-s.sites _ c.in_ok-form_stmt.ensures.sites _ _ c.in_ok-form_stmt.ensures.done;
    }

pub form_stmt-loop-turn-preserved : goal.form_stmt-loop-turn-preserved
form_stmt-loop-turn-preserved t c =
    let N = meanings c.args.around.now.names.now in
    let W = copied c.args.around.now in
    let j = c.loop-turn.turn in
    let m : ℕ = c.in-For.turns - (j + 1) in
    let left : c.in-For.turns - j ≡ suc m = omega (arith, c.loop-turn-test.true) in
    let after = c.in_ok-form_body-in-For.ensures.sites in
    let v = c.array_number-variable.result in
    record {
      sites = c.loop-turn.invariant.sites ∙ ap (λ n. c.loop-turn.sites ++ repeated n (body_sites W c.in-For.body)) left
          ∙ turn_sites N W v j m c.in-For.body _ c.as_slice-in-loop-turn.ensures c.loop-turn.sites _ after;
      forms = c.loop-turn.invariant.forms ∙ ap (λ n. c.loop-turn.done ++ all_numbered (length c.loop-turn.sites + 1) (turns_from v j n (core_body N c.in-For.body))) left
          ∙ turn_forms N W v j m c.in-For.body _ c.as_slice-in-loop-turn.ensures c.loop-turn.sites _ after c.loop-turn.done _ _ (c.in_ok-push-in-For.ensures.ok ∙ ap (λ x. c.loop-turn.done ++ x ∷ []) c.setting.ensures) c.in_ok-form_body-in-For.ensures.done;
    }

pub form_stmt-returns-then-body_has_sites-clause-sites : goal.form_stmt-returns-then-body_has_sites-clause-sites
form_stmt-returns-then-body_has_sites-clause-sites t c =
    let N = meanings c.args.around.now.names.now in
    let W = copied c.args.around.now in
    let over = last_setting N W c.in-For.turns c.loop-turn.turn c.array_number-variable.result c.in-For.body c.args.sites.now c.loop-turn.sites c.args.done.now c.loop-turn.done _ c.loop-turn-test.false c.loop-turn.auto.turn-end c.loop-turn.invariant.sites c.loop-turn.invariant.forms in
    on_ok c.push-then-body_has_sites.result (λ made. (put_turns N W c.args.s.now _ _ _ _ _ c.in-For.is _ _ _ _ _ _ _ c.as_slice-in-For-2.ensures c.body_has_sites.ensures c.if-body_has_sites.true (c.array_number-variable.ensures ∙ ap array_number (c.find.ensures ∙ ap (meanings c.args.around.now.names.now) c.as_slice-in-For.ensures)) over.0 (over.1 (made ∙ ap (λ x. c.loop-turn.done ++ x ∷ []) c.setting-then-body_has_sites.ensures))).0) c.push-then-body_has_sites.ensures.ok

pub form_stmt-returns-then-body_has_sites-clause-done : goal.form_stmt-returns-then-body_has_sites-clause-done
form_stmt-returns-then-body_has_sites-clause-done t c =
    let N = meanings c.args.around.now.names.now in
    let W = copied c.args.around.now in
    let over = last_setting N W c.in-For.turns c.loop-turn.turn c.array_number-variable.result c.in-For.body c.args.sites.now c.loop-turn.sites c.args.done.now c.loop-turn.done _ c.loop-turn-test.false c.loop-turn.auto.turn-end c.loop-turn.invariant.sites c.loop-turn.invariant.forms in
    on_ok c.push-then-body_has_sites.result (λ made. (put_turns N W c.args.s.now _ _ _ _ _ c.in-For.is _ _ _ _ _ _ _ c.as_slice-in-For-2.ensures c.body_has_sites.ensures c.if-body_has_sites.true (c.array_number-variable.ensures ∙ ap array_number (c.find.ensures ∙ ap (meanings c.args.around.now.names.now) c.as_slice-in-For.ensures)) over.0 (over.1 (made ∙ ap (λ x. c.loop-turn.done ++ x ∷ []) c.setting-then-body_has_sites.ensures))).1) c.push-then-body_has_sites.ensures.ok

pub form_stmt-returns-in_ok-form_body-in-If-2-clause-sites : goal.form_stmt-returns-in_ok-form_body-in-If-2-clause-sites
form_stmt-returns-in_ok-form_body-in-If-2-clause-sites t c =
    on_ok c.push-in-If.result (λ made. (put_if (meanings c.args.around.now.names.now) (copied c.args.around.now) c.args.s.now _ _ _ _ _ _ _ _ _ _ _ _ _ _ _ c.in-If.is c.as_slice.ensures c.as_slice-in-If.ensures c.in_ok-c-in-If.ensures
    c.new-first.ensures c.in_ok-form_body-in-If.ensures.sites c.in_ok-form_body-in-If.ensures.done c.new-second.ensures c.in_ok-form_body-in-If-2.ensures.sites c.in_ok-form_body-in-If-2.ensures.done made).0) c.push-in-If.ensures.ok

pub form_stmt-returns-in_ok-form_body-in-If-2-clause-done : goal.form_stmt-returns-in_ok-form_body-in-If-2-clause-done
form_stmt-returns-in_ok-form_body-in-If-2-clause-done t c =
    on_ok c.push-in-If.result (λ made. (put_if (meanings c.args.around.now.names.now) (copied c.args.around.now) c.args.s.now _ _ _ _ _ _ _ _ _ _ _ _ _ _ _ c.in-If.is c.as_slice.ensures c.as_slice-in-If.ensures c.in_ok-c-in-If.ensures
    c.new-first.ensures c.in_ok-form_body-in-If.ensures.sites c.in_ok-form_body-in-If.ensures.done c.new-second.ensures c.in_ok-form_body-in-If-2.ensures.sites c.in_ok-form_body-in-If-2.ensures.done made).1) c.push-in-If.ensures.ok

pub form_stmt-returns-in_ok-form_body-in-For-2-clause-sites : goal.form_stmt-returns-in_ok-form_body-in-For-2-clause-sites
form_stmt-returns-in_ok-form_body-in-For-2-clause-sites t c =
    on_ok c.push-in-For.result (λ made. (put_pure (meanings c.args.around.now.names.now) (copied c.args.around.now) c.args.s.now _ _ _ _ _ c.in-For.is _ _ _ _ _ _ _ _ _ _ c.as_slice-in-For-2.ensures c.body_has_sites.ensures c.if-body_has_sites.false
    c.as_slice-in-For-3.ensures (c.array_number-variable.ensures ∙ ap array_number (c.find.ensures ∙ ap (meanings c.args.around.now.names.now) c.as_slice-in-For.ensures)) c.new-inside.ensures c.in_ok-form_body-in-For-2.ensures.sites c.in_ok-form_body-in-For-2.ensures.done made).0) c.push-in-For.ensures.ok

pub form_stmt-returns-in_ok-form_body-in-For-2-clause-done : goal.form_stmt-returns-in_ok-form_body-in-For-2-clause-done
form_stmt-returns-in_ok-form_body-in-For-2-clause-done t c =
    on_ok c.push-in-For.result (λ made. (put_pure (meanings c.args.around.now.names.now) (copied c.args.around.now) c.args.s.now _ _ _ _ _ c.in-For.is _ _ _ _ _ _ _ _ _ _ c.as_slice-in-For-2.ensures c.body_has_sites.ensures c.if-body_has_sites.false
    c.as_slice-in-For-3.ensures (c.array_number-variable.ensures ∙ ap array_number (c.find.ensures ∙ ap (meanings c.args.around.now.names.now) c.as_slice-in-For.ensures)) c.new-inside.ensures c.in_ok-form_body-in-For-2.ensures.sites c.in_ok-form_body-in-For-2.ensures.done made).1) c.push-in-For.ensures.ok

pub form_stmt-returns-in_ok-form_body-in-Block-clause-sites : goal.form_stmt-returns-in_ok-form_body-in-Block-clause-sites
form_stmt-returns-in_ok-form_body-in-Block-clause-sites t c =
    on_ok c.push-in-Block.result (λ made. (put_block (meanings c.args.around.now.names.now) (copied c.args.around.now) c.args.s.now _ _ _ _ _ _ _ _ _ _ _ _ c.in-Block.is c.as_slice-in-Block.ensures c.in_ok-site-in-Block.ensures.number c.in_ok-site-in-Block.ensures.added
    c.new-inside-in-Block.ensures c.in_ok-form_body-in-Block.ensures.sites c.in_ok-form_body-in-Block.ensures.done made).0) c.push-in-Block.ensures.ok

pub form_stmt-returns-in_ok-form_body-in-Block-clause-done : goal.form_stmt-returns-in_ok-form_body-in-Block-clause-done
form_stmt-returns-in_ok-form_body-in-Block-clause-done t c =
    on_ok c.push-in-Block.result (λ made. (put_block (meanings c.args.around.now.names.now) (copied c.args.around.now) c.args.s.now _ _ _ _ _ _ _ _ _ _ _ _ c.in-Block.is c.as_slice-in-Block.ensures c.in_ok-site-in-Block.ensures.number c.in_ok-site-in-Block.ensures.added
    c.new-inside-in-Block.ensures c.in_ok-form_body-in-Block.ensures.sites c.in_ok-form_body-in-Block.ensures.done made).1) c.push-in-Block.ensures.ok
