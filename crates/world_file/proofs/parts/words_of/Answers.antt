use Rattle.std.proofs.Common.{rules, ◌≡◌, ◌∙◌, Some}
use Rattle.std.proofs.lemmas.Result.{IfOk-weaker}
use Rattle.toml.specs.Data.{as_array}
use Rattle.toml.specs.View.{view, array_view}
use Rattle.world_file.proofs.SeenLemmas.{mapped_values}
use Rattle.world_file.specs.WorldFile.{word_of}
use Rattle.world_file.proofs.parts.words_of.Goals as goal

pub returns-in-Some : goal.returns-in-Some
returns-in-Some c =
    let found = as_array (view c.args.value.now) in
    let told : found ≡ Some (array_view c.in-Some.array.now) = search rules in
    IfOk-weaker c.words_in.result _ _ (λ made is. is ∙ mapped_values word_of found c.in-Some.array.now told) c.words_in.ensures
