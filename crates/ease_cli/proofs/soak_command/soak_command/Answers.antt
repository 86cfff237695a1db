-- The program is that of the number, and so is the world.
use Rattle.std.proofs.Common.{Err, refl, ap, ◌∙◌}
use Rattle.std.proofs.lemmas.Result.{err_from_is_err_and}
use Rattle.ease_cli.proofs.AnswerLemmas.{soaked_of, soak_refused}
use Rattle.ease_cli.proofs.soak_command.soak_command.Goals as goal

pub returns-in_err-source-clause-says : goal.returns-in_err-source-clause-says
returns-in_err-source-clause-says g c f quiet =
    let p = err_from_is_err_and c.from_residual-in_err-source.result c.from_residual-in_err-source.ensures.1 in
    soak_refused f c.args.number c.as_slice.result.now _ _ _ _ quiet (c.as_slice.ensures ∙ c.in_ok-bytes.ensures.text) c.in_err-source.ensures.refused (p.1 ∙ ap Err p.2) refl

pub returns-clause-says : goal.returns-clause-says
returns-clause-says g c f quiet =
    let read = c.in_ok-source.ensures.read in
    soaked_of f c.args.number _ _ c.as_slice.result.now _ c.write_summary.result _ _ quiet (c.as_slice.ensures ∙ c.in_ok-bytes.ensures.text) read.0 read.1 c.in_ok-world.ensures.world c.write_summary.ensures.says
