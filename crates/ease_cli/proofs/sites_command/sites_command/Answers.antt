use Rattle.std.proofs.Common.{Err, refl, ap, ◌∙◌}
use Rattle.std.proofs.lemmas.Result.{err_from_is_err_and}
use Rattle.ease_cli.proofs.AnswerLemmas.{first_stops, sites_of}
use Rattle.ease_cli.proofs.sites_command.sites_command.Goals as goal

pub returns-in_err-source-clause-says : goal.returns-in_err-source-clause-says
returns-in_err-source-clause-says g c =
    let p = err_from_is_err_and c.from_residual.result c.from_residual.ensures.1 in
    first_stops _ _ _ _ _ _ _ _ refl c.in_err-source.ensures.stops (p.1 ∙ ap Err p.2) refl

pub returns-clause-says : goal.returns-clause-says
returns-clause-says g c =
    let read = c.in_ok-source.ensures.read in
    sites_of _ _ _ _ c.write_account.result _ _ c.in_ok-source.ensures.quiet read.0 read.1 c.write_account.ensures.says
