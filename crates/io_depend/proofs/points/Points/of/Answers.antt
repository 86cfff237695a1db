-- One pointer more.
use Rattle.std.proofs.Common.{◌∙◌, ◌++◌, ◌∷◌, [], ap, map}
use Rattle.std.proofs.lemmas.List.{map-append}
use Rattle.io_depend.proofs.Marking.{given_more}
use Rattle.io_depend.proofs.points.Points.of.Goals as goal

pub pointers-preserved : goal.pointers-preserved
pointers-preserved c =
    let row = c.in_ok-arrays_of.field-0 in
    ap (map (λ row. row.items)) c.in_ok-push.ensures.items ∙ map-append (λ row. row.items) c.pointers.rows.items (row ∷ [])
    ∙ ap (λ rows. rows ++ row.items ∷ []) c.pointers.invariant
    ∙ given_more c.args.body.now c.args.arrays c.pointers.pointer row.items c.in_ok-arrays_of.ensures
