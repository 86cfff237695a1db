use Rattle.std.proofs.Common.{rules, ◌≡◌, ◌∙◌, Some, codes, is_some, option_and_then}
use Rattle.std.proofs.lemmas.Result.{IfOk-weaker}
use Rattle.std.specs.List.{IsDistinct}
use Rattle.toml.specs.Data.{as_table, get_member}
use Rattle.toml.specs.View.{table_view}
use Rattle.world_file.proofs.SeenLemmas.{pairs_told_at, mapped_pairs}
use Rattle.world_file.specs.Tests.{number_of}
use Rattle.world_file.specs.WorldFile.{feed_of}
use Rattle.world_file.proofs.parts.feeds_of.Goals as goal

pub feeds_in-requires-clause-known : goal.feeds_in-requires-clause-known
feeds_in-requires-clause-known c =
    let top = table_view c.args.top.now in
    let told : option_and_then as_table (get_member (codes "readings") top) ≡ Some (table_view c.in-Some.readings.now) = search rules in
    pairs_told_at (λ p. is_some (number_of c.args.names.now p.0)) (codes "readings") top c.in-Some.readings.now told ∙ c.requires.known

pub returns-in-Some-clause-is : goal.returns-in-Some-clause-is
returns-in-Some-clause-is c =
    let found = option_and_then as_table (get_member (codes "readings") (table_view c.args.top.now)) in
    let told : found ≡ Some (table_view c.in-Some.readings.now) = search rules in
    IfOk-weaker c.feeds_in.result _ _ (λ made is. is ∙ mapped_pairs (feed_of c.args.names.now) found c.in-Some.readings.now told) c.feeds_in.ensures.is

pub returns-in-None-clause-distinct : goal.returns-in-None-clause-distinct
unfolding IsDistinct
returns-in-None-clause-distinct c = rw c.new.ensures tt
