-- By what is told.
use Rattle.std.proofs.Common.{◌∙◌, ap, [], length, arith}
use Rattle.std.proofs.lemmas.List.FromFn.{get_or-map-range_with_len}
use Rattle.io_depend.specs.Depend.{points}
use Rattle.io_depend.specs.Rows.{listed}
use Rattle.io_depend.proofs.depends.Depends.points.Goals as goal

pub returns-clause-exact : goal.returns-clause-exact
returns-clause-exact c = λ core t told p. c.arrays.ensures ∙ ap (λ d. listed d.points c.args.p) c.self.view_is
    ∙ ap (λ rows. listed rows c.args.p) told.points ∙ get_or-map-range_with_len (points core t) 0 (length core.pointers) c.args.p c.args.p [] p (omega arith)
