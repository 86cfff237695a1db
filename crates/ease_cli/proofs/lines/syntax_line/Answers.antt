use Rattle.std.proofs.Common.{ap, ◌∙◌, append_assoc}
use Rattle.ease_cli.proofs.lines.syntax_line.Goals as goal

pub returns : goal.returns
returns c =
    let written = c.from_vec.ensures ∙ ap (λ v. v.items) c.into_bytes.ensures.value ∙ c.in_ok-text.ensures.ok in
    simp append_assoc written
