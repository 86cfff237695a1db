-- By what is told.
use Rattle.std.proofs.Common.{◌∙◌, ap, length, slice_index_or, [], arith}
use Rattle.std.proofs.lemmas.List.FromFn.{length-map-range_with_len, get_or-map-range_with_len}
use Rattle.region_split.specs.Regions.{first, regions}
use Rattle.region_split.proofs.regions.Regions.first.Goals as goal

pub returns-clause-exact : goal.returns-clause-exact
returns-clause-exact c = λ core t told.
    let many = ap length told ∙ length-map-range_with_len (first core t) 0 (regions t) in
    c.row.ensures ∙ ap (λ rows. slice_index_or rows c.args.r []) told
    ∙ get_or-map-range_with_len (first core t) 0 (regions t) c.args.r c.args.r [] (omega (arith, c.requires, many)) (omega arith)
