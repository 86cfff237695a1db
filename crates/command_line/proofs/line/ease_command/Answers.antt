use Rattle.std.proofs.Common.{rules, ap, ap₂, true, ◌≡◌, ◌∙◌}
use Rattle.std.proofs.lemmas.Result.{IfOk-weaker}
use Rattle.clap.specs.Words.{app_of, rule_of, with_rule}
use Rattle.clap.specs.Simple.{app_of_fields}
use Rattle.clap.specs.declared.builder.command.Command.{Command}
use Rattle.clap.specs.declared.builder.command.Command.TheOpen.{Command-F}
use Rattle.command_line.specs.Words.{bare_app, silent, command_rule, args_rule, brief_rule, scheme_rule}
use Rattle.command_line.proofs.line.ease_command.Goals as goal

abbrev Fields : Type 0
Fields = Command-F Command

pub returns : goal.returns
returns c =
    let command_is : rule_of c.new-command.result ≡ command_rule = search rules in
    let args_is : rule_of c.action-args.result ≡ args_rule = search rules in
    let brief_is : rule_of c.action-brief.result ≡ brief_rule = search rules in
    let scheme_is : rule_of c.long-scheme.result ≡ scheme_rule = search rules in
    let fields_are =
    c.disable_version_flag.ensures
    ∙ ap (λ (f : Fields). record f { disable_version_flag = true }) (c.disable_help_flag.ensures
    ∙ ap (λ (f : Fields). record f { disable_help_flag = true }) c.no_binary_name.ensures) in
    let bare_is : app_of c.disable_version_flag.result ≡ bare_app = ap app_of_fields fields_are ∙ ap silent c.new-4.ensures.app in
    let first_is = c.in_ok-arg.ensures.shape (search rules) ∙ ap₂ with_rule bare_is command_is in
    let second_is = c.in_ok-arg-2.ensures.shape (search rules) ∙ ap₂ with_rule first_is args_is in
    let third_is = c.in_ok-arg-3.ensures.shape (search rules) ∙ ap₂ with_rule second_is brief_is in
    IfOk-weaker c.arg-4.result _ _ (λ m added. added.shape (search rules) ∙ ap₂ with_rule third_is scheme_is) c.arg-4.ensures
