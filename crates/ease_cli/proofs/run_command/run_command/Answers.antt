use Rattle.std.proofs.Common.{Err, List, [], ◌∷◌, refl, ap, sym, ◌∙◌}
use Rattle.std.proofs.lemmas.Result.{err_from_is_err_and}
use Rattle.ease_cli.specs.Inputs.{image}
use Rattle.ease_cli.proofs.AnswerLemmas.{first_stops, second_stops, both_read, run_on}
use Rattle.ease_cli.proofs.FileLemmas.{told_is_no_write_fault}
use Rattle.ease_cli.proofs.run_command.run_command.Goals as goal

pub returns-in_err-image-clause-says : goal.returns-in_err-image-clause-says
returns-in_err-image-clause-says g c =
    let p = err_from_is_err_and c.from_residual.result c.from_residual.ensures.1 in
    first_stops _ _ _ _ _ _ _ _ refl c.in_err-image.ensures.stops (p.1 ∙ ap Err p.2) refl

pub returns-in_err-world-clause-says : goal.returns-in_err-world-clause-says
returns-in_err-world-clause-says g c =
    let p = err_from_is_err_and c.from_residual-in_err-world.result c.from_residual-in_err-world.ensures.1 in
    second_stops _ _ _ _ (image c.in_ok-image.image) _ _ _ _ _ _ _ _ _ _ _ _ _ _ refl c.in_ok-image.ensures.read c.in_ok-image.ensures.quiet c.fetch_image.ensures.told c.fetch_image.ensures.contents
    (c.in_err-world.ensures.stops (image c.in_ok-image.image ∷ []) refl) (p.1 ∙ ap Err p.2) refl

pub returns-in_err-world-clause-out_fault : goal.returns-in_err-world-clause-out_fault
returns-in_err-world-clause-out_fault g c fault =
    let p = err_from_is_err_and c.from_residual-in_err-world.result c.from_residual-in_err-world.ensures.1 in
    absurd (told_is_no_write_fault _ _ _ (c.in_err-world.ensures.stops (image c.in_ok-image.image ∷ []) refl) (p.1 ∙ ap Err p.2) fault)

pub returns-clause-says : goal.returns-clause-says
returns-clause-says g c =
    let both = both_read _ _ _ _ _ _ _ _ _ _ _ _ _ _ c.in_ok-image.ensures.read c.in_ok-image.ensures.quiet c.fetch_image.ensures.told c.fetch_image.ensures.contents
    (c.in_ok-world.ensures.read (image c.in_ok-image.image ∷ []) refl) c.in_ok-world.ensures.quiet in
    run_on _ _ _ _ _ _ _ _ _ both.0 both.1 both.2 c.write_run.ensures.says
