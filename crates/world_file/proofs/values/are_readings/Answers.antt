use Rattle.std.proofs.Common.{rules, ◌≡◌, ◌∙◌, Some}
use Rattle.toml.specs.Data.{as_table}
use Rattle.toml.specs.View.{view, table_view}
use Rattle.world_file.proofs.SeenLemmas.{pairs_told}
use Rattle.world_file.specs.Tests.{are_words}
use Rattle.world_file.proofs.values.are_readings.Goals as goal

pub returns-in-Some : goal.returns-in-Some
returns-in-Some c =
    let told : as_table (view c.args.value.now) ≡ Some (table_view c.in-Some.table.now) = search rules in
    c.each_are_words.ensures ∙ pairs_told (λ p. are_words p.1) (view c.args.value.now) c.in-Some.table.now told
