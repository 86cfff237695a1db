use Rattle.std.proofs.Common.{Err, List, [], ◌∷◌, refl, ap, sym, ◌∙◌}
use Rattle.std.proofs.lemmas.Result.{err_from_is_err_and}
use Rattle.std.specs.Option.{option_map}
use Rattle.task_ast.specs.declared.core_form.Core.{Core}
use Rattle.ease_cli.specs.Inputs.{tree}
use Rattle.ease_cli.proofs.AnswerLemmas.{first_stops, second_stops, both_read, walk_alone, walk_with, walk_wants}
use Rattle.ease_cli.proofs.FileLemmas.{told_is_no_write_fault}
use Rattle.ease_cli.proofs.walk_command.walk_command.Goals as goal

pub returns-in_err-core-clause-says : goal.returns-in_err-core-clause-says
returns-in_err-core-clause-says g c =
    let p = err_from_is_err_and c.from_residual.result c.from_residual.ensures.1 in
    first_stops _ _ _ _ _ _ _ _ refl c.in_err-core.ensures.stops (p.1 ∙ ap Err p.2) refl

pub returns-in-None-clause-says : goal.returns-in-None-clause-says
returns-in-None-clause-says g c =
    let read = c.in_ok-core.ensures.read in
    walk_alone _ _ _ _ read.0 _ c.write_walk.result _ _ (ap (option_map _) c.in-None.is) c.in_ok-core.ensures.quiet read.1 read.2 c.write_walk.ensures.says

pub returns-in_err-world-in-Some-clause-says : goal.returns-in_err-world-in-Some-clause-says
returns-in_err-world-in-Some-clause-says g c =
    let read = c.in_ok-core.ensures.read in
    let p = err_from_is_err_and c.from_residual-in_err-world-in-Some.result c.from_residual-in_err-world-in-Some.ensures.1 in
    second_stops _ _ _ _ (tree read.0) _ _ _ _ _ _ _ _ _ _ _ _ _ _ (walk_wants c.args.program.now c.in-Some.name.now c.args.tasks _ (ap (option_map _) c.in-Some.is)) read.1 c.in_ok-core.ensures.quiet
    c.fetch_program.ensures.told c.fetch_program.ensures.contents
    (c.in_err-world-in-Some.ensures.stops (tree read.0 ∷ []) (ap (λ (k : Core). k.peripherals) (sym read.2))) (p.1 ∙ ap Err p.2) refl

pub returns-in_err-world-in-Some-clause-out_fault : goal.returns-in_err-world-in-Some-clause-out_fault
returns-in_err-world-in-Some-clause-out_fault g c fault =
    let read = c.in_ok-core.ensures.read in
    let p = err_from_is_err_and c.from_residual-in_err-world-in-Some.result c.from_residual-in_err-world-in-Some.ensures.1 in
    absurd (told_is_no_write_fault _ _ _ (c.in_err-world-in-Some.ensures.stops (tree read.0 ∷ []) (ap (λ (k : Core). k.peripherals) (sym read.2))) (p.1 ∙ ap Err p.2) fault)

pub returns-clause-says : goal.returns-clause-says
returns-clause-says g c =
    let read = c.in_ok-core.ensures.read in
    let both = both_read _ _ (tree read.0) _ _ _ _ _ _ _ _ _ _ _ read.1 c.in_ok-core.ensures.quiet c.fetch_program.ensures.told c.fetch_program.ensures.contents
    (c.in_ok-world-in-Some.ensures.read (tree read.0 ∷ []) (ap (λ (k : Core). k.peripherals) (sym read.2))) c.in_ok-world-in-Some.ensures.quiet in
    walk_with _ c.args.program.now c.in-Some.name.now c.args.tasks _ read.0 _ c.in_ok-world-in-Some.world _ c.write_walk-in-Some.result _ _ (ap (option_map _) c.in-Some.is) both.0 both.1 read.2 both.2
    c.as_slice.ensures c.write_walk-in-Some.ensures.says
