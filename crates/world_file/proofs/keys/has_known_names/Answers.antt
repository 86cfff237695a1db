use Rattle.std.proofs.Common.{rules, ◌≡◌, ◌∙◌, Some, codes, is_some, option_and_then}
use Rattle.toml.specs.Data.{as_table, get_member}
use Rattle.toml.specs.View.{table_view}
use Rattle.world_file.proofs.SeenLemmas.{pairs_told_at}
use Rattle.world_file.specs.Tests.{number_of}
use Rattle.world_file.proofs.keys.has_known_names.Goals as goal

pub returns-in-Some : goal.returns-in-Some
returns-in-Some c =
    let top = table_view c.args.top.now in
    let told : option_and_then as_table (get_member (codes "readings") top) ≡ Some (table_view c.in-Some.readings.now) = search rules in
    c.are_names.ensures ∙ pairs_told_at (λ p. is_some (number_of c.args.names.now p.0)) (codes "readings") top c.in-Some.readings.now told
