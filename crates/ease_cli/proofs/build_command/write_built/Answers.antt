-- What is written, whole or a front of it, is the bytes of the image.
use Rattle.std.proofs.Common.{Err, refl, ap, sym, subst, ◌∙◌}
use Rattle.std.proofs.lemmas.Result.{err_from_is_err_and}
use Rattle.ease_cli.specs.Answer.{Answers}
use Rattle.ease_cli.specs.Output.{IsBuilt}
use Rattle.ease_cli.specs.declared.status.Status.TheVariants.{Ok}
use Rattle.ease_cli.proofs.build_command.write_built.Goals as goal

pub returns-in_err-send_all-clause-says : goal.returns-in_err-send_all-clause-says
returns-in_err-send_all-clause-says g c =
    let p = err_from_is_err_and c.from_residual-in_err-send_all.result c.from_residual-in_err-send_all.ensures.1 in
    let built : IsBuilt c.args.core.now c.args.scheme Ok c.as_slice.result.now =
    record { ended = refl; image = c.in_ok-image.image; lowered = c.in_ok-image.ensures; sound = c.every_image_is_sound.ensures c.in_ok-image.image c.in_ok-image.ensures; written = c.as_slice.ensures ∙ c.in_ok-bytes.ensures } in
    subst (λ r. Answers (IsBuilt c.args.core.now c.args.scheme) r (g.K.Sink.taken c.args.out.now) (g.K.Sink.taken c.send_all.new.out)) (sym (p.1 ∙ ap Err p.2))
    (Ok, c.as_slice.result.now, built, c.in_err-send_all.ensures.front)

pub returns-clause-says : goal.returns-clause-says
returns-clause-says g c =
    let built : IsBuilt c.args.core.now c.args.scheme Ok c.as_slice.result.now =
    record { ended = refl; image = c.in_ok-image.image; lowered = c.in_ok-image.ensures; sound = c.every_image_is_sound.ensures c.in_ok-image.image c.in_ok-image.ensures; written = c.as_slice.ensures ∙ c.in_ok-bytes.ensures } in
    (c.as_slice.result.now, built, c.in_ok-send_all.ensures.whole)
