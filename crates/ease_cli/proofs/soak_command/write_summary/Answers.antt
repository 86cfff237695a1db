-- What is written, whole or a front of it, is the summary of the image's run.
use Rattle.std.proofs.Common.{Err, refl, ap, sym, subst, ◌∙◌}
use Rattle.std.proofs.lemmas.Result.{err_from_is_err_and}
use Rattle.ease_cli.specs.Answer.{Answers}
use Rattle.ease_cli.specs.Output.{IsSoaked, run_status}
use Rattle.ease_cli.proofs.soak_command.write_summary.Goals as goal
use Rattle.power_trace.specs.Run.{journal_on}

pub returns-in_err-send_all-clause-says : goal.returns-in_err-send_all-clause-says
returns-in_err-send_all-clause-says g c =
    let p = err_from_is_err_and c.from_residual-in_err-send_all.result c.from_residual-in_err-send_all.ensures.1 in
    let status = run_status (journal_on c.in_ok-image.image c.args.world.now).ending in
    let soaked : IsSoaked c.args.core.now c.args.world.now status c.as_slice.result.now =
    record { image = c.in_ok-image.image; lowered = c.in_ok-image.ensures; sound = c.every_image_is_sound.ensures c.in_ok-image.image c.in_ok-image.ensures; ended = refl; written = c.as_slice.ensures ∙ c.in_ok-summary.ensures.text } in
    subst (λ r. Answers (IsSoaked c.args.core.now c.args.world.now) r (g.K.Sink.taken c.args.out.now) (g.K.Sink.taken c.send_all.new.out)) (sym (p.1 ∙ ap Err p.2))
    (status, c.as_slice.result.now, soaked, c.in_err-send_all.ensures.front)

pub returns-clause-says : goal.returns-clause-says
returns-clause-says g c =
    let soaked : IsSoaked c.args.core.now c.args.world.now c.run_status.result c.as_slice.result.now =
    record { image = c.in_ok-image.image; lowered = c.in_ok-image.ensures; sound = c.every_image_is_sound.ensures c.in_ok-image.image c.in_ok-image.ensures; ended = c.run_status.ensures ∙ ap run_status c.in_ok-summary.ensures.end; written = c.as_slice.ensures ∙ c.in_ok-summary.ensures.text } in
    (c.as_slice.result.now, soaked, c.in_ok-send_all.ensures.whole)
