use Rattle.std.proofs.Common.{rules, ◌≡◌, ◌∙◌, Some}
use Rattle.toml.specs.Data.{as_array}
use Rattle.toml.specs.View.{view, array_view}
use Rattle.world_file.proofs.SeenLemmas.{values_told}
use Rattle.world_file.specs.Document.{all_pairs}
use Rattle.world_file.specs.Tests.{is_word}
use Rattle.world_file.proofs.values.are_rows.Goals as goal

pub returns-in-Some : goal.returns-in-Some
returns-in-Some c =
    let told : as_array (view c.args.value.now) ≡ Some (array_view c.in-Some.array.now) = search rules in
    c.each_is_row.ensures ∙ values_told (all_pairs (λ p. is_word p.1)) (view c.args.value.now) c.in-Some.array.now told
