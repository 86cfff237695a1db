use Rattle.std.proofs.Common.{Err, List, [], ◌∷◌, refl, ap, sym, ◌∙◌}
use Rattle.std.proofs.lemmas.Result.{err_from_is_err_and}
use Rattle.task_ast.specs.declared.core_form.Core.{Core}
use Rattle.ease_cli.specs.Inputs.{tree, world}
use Rattle.ease_cli.proofs.AnswerLemmas.{first_stops, second_stops, third_stops, three_read, audit_on}
use Rattle.ease_cli.proofs.FileLemmas.{told_is_no_write_fault}
use Rattle.ease_cli.proofs.audit_command.audit_command.Goals as goal

pub returns-in_err-core-clause-says : goal.returns-in_err-core-clause-says
returns-in_err-core-clause-says g c =
    let p = err_from_is_err_and c.from_residual.result c.from_residual.ensures.1 in
    first_stops _ _ _ _ _ _ _ _ refl c.in_err-core.ensures.stops (p.1 ∙ ap Err p.2) refl

pub returns-in_err-world-clause-says : goal.returns-in_err-world-clause-says
returns-in_err-world-clause-says g c =
    let read = c.in_ok-core.ensures.read in
    let p = err_from_is_err_and c.from_residual-in_err-world.result c.from_residual-in_err-world.ensures.1 in
    second_stops _ _ _ _ (tree read.0) _ _ _ _ _ _ _ _ _ _ _ _ _ _ refl read.1 c.in_ok-core.ensures.quiet c.fetch_program.ensures.told c.fetch_program.ensures.contents
    (c.in_err-world.ensures.stops (tree read.0 ∷ []) (ap (λ (k : Core). k.peripherals) (sym read.2))) (p.1 ∙ ap Err p.2) refl

pub returns-in_err-world-clause-out_fault : goal.returns-in_err-world-clause-out_fault
returns-in_err-world-clause-out_fault g c fault =
    let read = c.in_ok-core.ensures.read in
    let p = err_from_is_err_and c.from_residual-in_err-world.result c.from_residual-in_err-world.ensures.1 in
    absurd (told_is_no_write_fault _ _ _ (c.in_err-world.ensures.stops (tree read.0 ∷ []) (ap (λ (k : Core). k.peripherals) (sym read.2))) (p.1 ∙ ap Err p.2) fault)

pub returns-in_err-verdict-clause-says : goal.returns-in_err-verdict-clause-says
returns-in_err-verdict-clause-says g c =
    let read = c.in_ok-core.ensures.read in
    let p = err_from_is_err_and c.from_residual-in_err-verdict.result c.from_residual-in_err-verdict.ensures.1 in
    third_stops _ _ _ _ _ (tree read.0) (world c.in_ok-world.world) _ _ _ _ _ _ _ _ _ _ _ _ _ _ _ _ _ _ refl
    read.1 c.in_ok-core.ensures.quiet c.fetch_program.ensures.told c.fetch_program.ensures.contents
    (c.in_ok-world.ensures.read (tree read.0 ∷ []) (ap (λ (k : Core). k.peripherals) (sym read.2))) c.in_ok-world.ensures.quiet c.fetch_world.ensures.told c.fetch_world.ensures.contents
    (c.in_err-verdict.ensures.stops (tree read.0 ∷ (world c.in_ok-world.world ∷ []))) (p.1 ∙ ap Err p.2) refl

pub returns-in_err-verdict-clause-out_fault : goal.returns-in_err-verdict-clause-out_fault
returns-in_err-verdict-clause-out_fault g c fault =
    let p = err_from_is_err_and c.from_residual-in_err-verdict.result c.from_residual-in_err-verdict.ensures.1 in
    absurd (told_is_no_write_fault _ _ _ (c.in_err-verdict.ensures.stops []) (p.1 ∙ ap Err p.2) fault)

pub returns-clause-says : goal.returns-clause-says
returns-clause-says g c =
    let read = c.in_ok-core.ensures.read in
    let before = tree read.0 ∷ (world c.in_ok-world.world ∷ []) in
    let third = c.in_ok-verdict.ensures.read before in
    let three = three_read _ _ _ _ _ _ _ _ _ _ _ _ _ _ _ _ _ _ _ _ read.1 c.in_ok-core.ensures.quiet c.fetch_program.ensures.told c.fetch_program.ensures.contents
    (c.in_ok-world.ensures.read (tree read.0 ∷ []) (ap (λ (k : Core). k.peripherals) (sym read.2))) c.in_ok-world.ensures.quiet c.fetch_world.ensures.told c.fetch_world.ensures.contents
    third.1 c.in_ok-verdict.ensures.quiet in
    audit_on _ _ _ _ read.0 _ _ third.0 _ _ _ three.0 three.1 three.2 three.3 read.2 (c.write_verdict.ensures.says _ _ third.0 third.2)
