use Rattle.std.proofs.Common.{rules, ◌≡◌, ◌<◌, [], sym, subst}
use Rattle.std.specs.Option.{option_map_or}
use Rattle.devices.specs.World.{AreWords}
use Rattle.toml.specs.Data.{as_array}
use Rattle.toml.specs.View.{view}
use Rattle.world_file.specs.Document.{values_of}
use Rattle.world_file.specs.WorldFile.{words_of}
use Rattle.world_file.proofs.LimitLemmas.{words_fit}
use Rattle.world_file.proofs.parts.feed_of.Goals as goal

pub returns-clause-fits : goal.returns-clause-fits
returns-clause-fits c =
    let d = view c.args.value.now in
    let made : c.in_ok-words_of.field-0 ≡ words_of d = search rules in
    let small : c.unwrap_or.result < 256 = search rules in
    let all : AreWords (words_of d) = words_fit (option_map_or values_of (as_array d) []) in
    record { number = small; values = subst AreWords (sym made) all }
