-- What is written, whole or a front of it, is the line of the answer.
use Rattle.std.proofs.Common.{Err, refl, ap, sym, subst, ◌∙◌}
use Rattle.std.proofs.lemmas.Result.{err_from_is_err_and}
use Rattle.audit_gather.specs.Told.{answer_of}
use Rattle.ease_cli.specs.Answer.{Answers}
use Rattle.ease_cli.specs.Output.{IsAudit, verdict_status}
use Rattle.ease_cli.proofs.audit_command.write_verdict.Goals as goal

pub returns-in_err-send_all-clause-says : goal.returns-in_err-send_all-clause-says
returns-in_err-send_all-clause-says g c core w lines right =
    let p = err_from_is_err_and c.from_residual-in_err-send_all.result c.from_residual-in_err-send_all.ensures.1 in
    let told : IsAudit core w lines (verdict_status (answer_of c.args.verdict)) c.as_slice.result.now =
    record { answer = answer_of c.args.verdict; right = right; ended = refl; written = c.as_slice.ensures ∙ c.in_ok-text.ensures } in
    subst (λ r. Answers (IsAudit core w lines) r (g.K.Sink.taken c.args.out.now) (g.K.Sink.taken c.send_all.new.out)) (sym (p.1 ∙ ap Err p.2))
    (verdict_status (answer_of c.args.verdict), c.as_slice.result.now, told, c.in_err-send_all.ensures.front)

pub returns-clause-says : goal.returns-clause-says
returns-clause-says g c core w lines right =
    let told : IsAudit core w lines c.verdict_status.result c.as_slice.result.now =
    record { answer = answer_of c.args.verdict; right = right; ended = c.verdict_status.ensures; written = c.as_slice.ensures ∙ c.in_ok-text.ensures } in
    (c.as_slice.result.now, told, c.in_ok-send_all.ensures.whole)
