use Rattle.std.proofs.Common.{rules, ◌≡◌, ◌∙◌, Some}
use Rattle.toml.specs.Data.{as_table}
use Rattle.toml.specs.View.{view, table_view}
use Rattle.world_file.proofs.SeenLemmas.{pairs_told}
use Rattle.world_file.specs.Tests.{is_word}
use Rattle.world_file.proofs.values.is_row.Goals as goal

pub returns-in-Some : goal.returns-in-Some
returns-in-Some c =
    let told : as_table (view c.args.value.now) ≡ Some (table_view c.in-Some.table.now) = search rules in
    c.has_word_values.ensures ∙ pairs_told (λ p. is_word p.1) (view c.args.value.now) c.in-Some.table.now told
