use Rattle.std.proofs.Common.{Err, List, [], ◌∷◌, refl, ap, sym, ◌∙◌}
use Rattle.std.proofs.lemmas.Result.{err_from_is_err_and}
use Rattle.ease_cli.specs.Inputs.{image, world}
use Rattle.ease_cli.proofs.AnswerLemmas.{first_stops, second_stops, third_stops, three_read, debug_on}
use Rattle.ease_cli.proofs.FileLemmas.{told_is_no_write_fault}
use Rattle.ease_cli.proofs.debug_command.debug_command.Goals as goal

pub returns-in_err-image-clause-says : goal.returns-in_err-image-clause-says
returns-in_err-image-clause-says g c =
    let p = err_from_is_err_and c.from_residual.result c.from_residual.ensures.1 in
    first_stops _ _ _ _ _ _ _ _ refl c.in_err-image.ensures.stops (p.1 ∙ ap Err p.2) refl

pub returns-in_err-world-clause-says : goal.returns-in_err-world-clause-says
returns-in_err-world-clause-says g c =
    let p = err_from_is_err_and c.from_residual-in_err-world.result c.from_residual-in_err-world.ensures.1 in
    second_stops _ _ _ _ (image c.in_ok-image.image) _ _ _ _ _ _ _ _ _ _ _ _ _ _ refl c.in_ok-image.ensures.read c.in_ok-image.ensures.quiet c.fetch_image.ensures.told c.fetch_image.ensures.contents
    (c.in_err-world.ensures.stops (image c.in_ok-image.image ∷ []) refl) (p.1 ∙ ap Err p.2) refl

pub returns-in_err-world-clause-out_fault : goal.returns-in_err-world-clause-out_fault
returns-in_err-world-clause-out_fault g c fault =
    let p = err_from_is_err_and c.from_residual-in_err-world.result c.from_residual-in_err-world.ensures.1 in
    absurd (told_is_no_write_fault _ _ _ (c.in_err-world.ensures.stops (image c.in_ok-image.image ∷ []) refl) (p.1 ∙ ap Err p.2) fault)

pub returns-in_err-script-clause-says : goal.returns-in_err-script-clause-says
returns-in_err-script-clause-says g c =
    let p = err_from_is_err_and c.from_residual-in_err-script.result c.from_residual-in_err-script.ensures.1 in
    third_stops _ _ _ _ _ (image c.in_ok-image.image) (world c.in_ok-world.world) _ _ _ _ _ _ _ _ _ _ _ _ _ _ _ _ _ _ refl
    c.in_ok-image.ensures.read c.in_ok-image.ensures.quiet c.fetch_image.ensures.told c.fetch_image.ensures.contents
    (c.in_ok-world.ensures.read (image c.in_ok-image.image ∷ []) refl) c.in_ok-world.ensures.quiet c.fetch_world.ensures.told c.fetch_world.ensures.contents
    (c.in_err-script.ensures.stops (world c.in_ok-world.world ∷ [])) (p.1 ∙ ap Err p.2) refl

pub returns-in_err-script-clause-out_fault : goal.returns-in_err-script-clause-out_fault
returns-in_err-script-clause-out_fault g c fault =
    let p = err_from_is_err_and c.from_residual-in_err-script.result c.from_residual-in_err-script.ensures.1 in
    absurd (told_is_no_write_fault _ _ _ (c.in_err-script.ensures.stops (world c.in_ok-world.world ∷ [])) (p.1 ∙ ap Err p.2) fault)

pub returns-clause-says : goal.returns-clause-says
returns-clause-says g c =
    let three = three_read _ _ _ _ _ _ _ _ _ _ _ _ _ _ _ _ _ _ _ _ c.in_ok-image.ensures.read c.in_ok-image.ensures.quiet c.fetch_image.ensures.told c.fetch_image.ensures.contents
    (c.in_ok-world.ensures.read (image c.in_ok-image.image ∷ []) refl) c.in_ok-world.ensures.quiet c.fetch_world.ensures.told c.fetch_world.ensures.contents
    (c.in_ok-script.ensures.read (world c.in_ok-world.world ∷ [])) c.in_ok-script.ensures.quiet in
    debug_on _ _ _ _ _ _ _ _ _ _ three.0 three.1 three.2 three.3 c.write_session.ensures.says
