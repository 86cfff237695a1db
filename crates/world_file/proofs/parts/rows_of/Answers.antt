use Rattle.std.proofs.Common.{rules, ◌≡◌, ◌∙◌, Some, codes, option_and_then}
use Rattle.std.proofs.lemmas.Result.{IfOk-weaker}
use Rattle.toml.specs.Data.{as_array, get_member}
use Rattle.toml.specs.View.{array_view, table_view}
use Rattle.world_file.proofs.SeenLemmas.{mapped_values}
use Rattle.world_file.specs.WorldFile.{row_of}
use Rattle.world_file.proofs.parts.rows_of.Goals as goal

pub returns-in-Some : goal.returns-in-Some
returns-in-Some c =
    let found = option_and_then as_array (get_member (codes "power") (table_view c.args.top.now)) in
    let told : found ≡ Some (array_view c.in-Some.array.now) = search rules in
    IfOk-weaker c.rows_in.result _ _ (λ made is. is ∙ mapped_values row_of found c.in-Some.array.now told) c.rows_in.ensures
