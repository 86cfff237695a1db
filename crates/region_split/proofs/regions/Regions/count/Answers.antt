-- By what is told.
use Rattle.std.proofs.Common.{◌∙◌, ap, length}
use Rattle.std.proofs.lemmas.List.FromFn.{length-map-range_with_len}
use Rattle.region_split.specs.Regions.{first, regions}
use Rattle.region_split.proofs.regions.Regions.count.Goals as goal

pub returns-clause-exact : goal.returns-clause-exact
returns-clause-exact c = λ core t told. c.rows.ensures ∙ ap length told ∙ length-map-range_with_len (first core t) 0 (regions t)
