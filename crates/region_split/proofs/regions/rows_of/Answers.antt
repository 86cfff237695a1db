-- One region more.
use Rattle.std.proofs.Common.{◌∙◌, ◌++◌, ◌∷◌, [], ap, map, length, arith}
use Rattle.std.proofs.lemmas.List.{map-append, length_push}
use Rattle.region_split.proofs.Alike.{rows_more}
use Rattle.region_split.proofs.regions.rows_of.Goals as goal

pub regions-preserved : goal.regions-preserved
regions-preserved c =
    let row = c.in_ok-first_of.field-0 in
    record {
      rows = ap (map (λ row. row.items)) c.in_ok-push.ensures.items ∙ map-append (λ row. row.items) c.regions.first.items (row ∷ [])
          ∙ ap (λ rows. rows ++ row.items ∷ []) c.regions.invariant.rows
          ∙ rows_more c.args.arrays.now c.args.owners.now c.regions.region row.items c.in_ok-first_of.ensures;
      many = omega (arith, ap length c.in_ok-push.ensures.items, length_push c.regions.first.items row, c.regions.invariant.many);
    }
