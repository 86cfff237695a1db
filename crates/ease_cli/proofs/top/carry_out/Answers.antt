use Rattle.std.proofs.Common.{Some, refl, ap, sym, ◌∙◌}
use Rattle.std.specs.Option.{option_map}
use Rattle.command_line.specs.Form.{Form, seen}
use Rattle.command_line.specs.declared.command.Command.{Command}
use Rattle.ease_cli.proofs.AnswerLemmas.{usage_answers, form_answers}
use Rattle.ease_cli.proofs.top.carry_out.Goals as goal

pub returns-in-None-clause-says : goal.returns-in-None-clause-says
returns-in-None-clause-says g c =
    usage_answers _ _ c.from_slice.result c.refuse.result _ _ (ap (option_map seen) (sym c.in-None.is) ∙ c.in_ok-command_of.ensures.form) (record { faults = refl; long = refl }) refl c.from_slice.ensures c.refuse.ensures

pub returns-in-Some-Walk-clause-says : goal.returns-in-Some-Walk-clause-says
returns-in-Some-Walk-clause-says g c =
    form_answers _ _ _ _ _ _ (ap (λ (x : Command). Some (seen x)) (sym c.in-Some-Walk.field-0-is) ∙ ap (option_map seen) (sym c.in-Some-Walk.is) ∙ c.in_ok-command_of.ensures.form) c.walk_command.ensures.says

pub returns-in-Some-Run-clause-says : goal.returns-in-Some-Run-clause-says
returns-in-Some-Run-clause-says g c =
    form_answers _ _ _ _ _ _ (ap (λ (x : Command). Some (seen x)) (sym c.in-Some-Run.field-0-is) ∙ ap (option_map seen) (sym c.in-Some-Run.is) ∙ c.in_ok-command_of.ensures.form) c.run_command.ensures.says

pub returns-in-Some-Build-clause-says : goal.returns-in-Some-Build-clause-says
returns-in-Some-Build-clause-says g c =
    form_answers _ _ _ _ _ _ (ap (λ (x : Command). Some (seen x)) (sym c.in-Some-Build.field-0-is) ∙ ap (option_map seen) (sym c.in-Some-Build.is) ∙ c.in_ok-command_of.ensures.form) c.build_command.ensures.says

pub returns-in-Some-Sites-clause-says : goal.returns-in-Some-Sites-clause-says
returns-in-Some-Sites-clause-says g c =
    form_answers _ _ _ _ _ _ (ap (λ (x : Command). Some (seen x)) (sym c.in-Some-Sites.field-0-is) ∙ ap (option_map seen) (sym c.in-Some-Sites.is) ∙ c.in_ok-command_of.ensures.form) c.sites_command.ensures.says

pub returns-in-Some-Debug-clause-says : goal.returns-in-Some-Debug-clause-says
returns-in-Some-Debug-clause-says g c =
    form_answers _ _ _ _ _ _ (ap (λ (x : Command). Some (seen x)) (sym c.in-Some-Debug.field-0-is) ∙ ap (option_map seen) (sym c.in-Some-Debug.is) ∙ c.in_ok-command_of.ensures.form) c.debug_command.ensures.says

pub returns-in-Some-Audit-clause-says : goal.returns-in-Some-Audit-clause-says
returns-in-Some-Audit-clause-says g c =
    form_answers _ _ _ _ _ _ (ap (λ (x : Command). Some (seen x)) (sym c.in-Some-Audit.field-0-is) ∙ ap (option_map seen) (sym c.in-Some-Audit.is) ∙ c.in_ok-command_of.ensures.form) c.audit_command.ensures.says

pub returns-in-Some-Soak-clause-says : goal.returns-in-Some-Soak-clause-says
returns-in-Some-Soak-clause-says g c =
    form_answers _ _ _ _ _ _ (ap (λ (x : Command). Some (seen x)) (sym c.in-Some-Soak.field-0-is) ∙ ap (option_map seen) (sym c.in-Some-Soak.is) ∙ c.in_ok-command_of.ensures.form) (c.soak_command.ensures.says _ (record { faults = refl; long = refl }))
