use Rattle.std.proofs.Common.{Err, refl, ap, ◌∙◌}
use Rattle.std.proofs.lemmas.Result.{err_from_is_err_and}
use Rattle.ease_cli.proofs.AnswerLemmas.{first_stops, built_of}
use Rattle.ease_cli.proofs.build_command.build_command.Goals as goal

pub returns-in_err-core-clause-says : goal.returns-in_err-core-clause-says
returns-in_err-core-clause-says g c =
    let p = err_from_is_err_and c.from_residual.result c.from_residual.ensures.1 in
    first_stops _ _ _ _ _ _ _ _ refl c.in_err-core.ensures.stops (p.1 ∙ ap Err p.2) refl

pub returns-clause-says : goal.returns-clause-says
returns-clause-says g c =
    let read = c.in_ok-core.ensures.read in
    built_of _ _ _ read.0 _ c.write_built.result _ _ c.in_ok-core.ensures.quiet read.1 read.2 c.write_built.ensures.says
