use Rattle.std.proofs.Common.{rules, ◌∙◌, map, string_bytes, ap, sym, subst}
use Rattle.clap.specs.Words.{App, fault_of, is_simple, is_simple_and_free, HasKind, matches_of}
use Rattle.command_line.proofs.ParsedLaws.{parsed_ok, parsed_err}
use Rattle.command_line.proofs.line.matches_of.Goals as goal

pub returns-in-Ok : goal.returns-in-Ok
returns-in-Ok c =
    let words = map string_bytes c.args.words.now in
    let app = c.in_ok-command.ensures in
    let fails = c.in-Ok.ensures.kinds (ap is_simple_and_free app) in
    let matches = c.in-Ok.ensures.matches (ap is_simple app) in
    parsed_ok words c.in-Ok.matches c.words_are_texts.ensures (sym (ap (λ (a : App). fault_of a words) app) ∙ fails)
    (matches.0 ∙ ap (λ (a : App). matches_of a words) app)

pub returns-else-eq : goal.returns-else-eq
returns-else-eq c =
    let words = map string_bytes c.args.words.now in
    let app = c.in_ok-command.ensures in
    let fails = c.in-Err.ensures.kinds (ap is_simple_and_free app) in
    parsed_err words c.in-Err.e c.words_are_texts.ensures (subst (λ (a : App). HasKind (fault_of a words) c.in-Err.e) app fails)
    (λ memory. search rules)
