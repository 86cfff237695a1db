use Rattle.std.proofs.Common.{rules, ◌≡◌, ◌∙◌, Some, codes, option_and_then}
use Rattle.toml.specs.Data.{as_array, get_member}
use Rattle.toml.specs.View.{array_view, table_view}
use Rattle.world_file.proofs.SeenLemmas.{values_told_at}
use Rattle.world_file.specs.Tests.{has_row_keys}
use Rattle.world_file.proofs.keys.has_row_keys_in.Goals as goal

pub returns-in-Some : goal.returns-in-Some
returns-in-Some c =
    let top = table_view c.args.top.now in
    let told : option_and_then as_array (get_member (codes "power") top) ≡ Some (array_view c.in-Some.rows.now) = search rules in
    c.have_row_keys.ensures ∙ values_told_at has_row_keys (codes "power") top c.in-Some.rows.now told
