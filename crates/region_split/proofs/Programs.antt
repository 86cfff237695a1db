-- Small programs in their checked form, for examples.
use Rattle.std.specs.Prelude.{ℕ, List, [], ◌∷◌, Some, codes}
use Rattle.task_ast.specs.declared.tree.Ann.TheVariants.{Single}
use Rattle.task_ast.specs.declared.tree.Kind.TheVariants.{Nv, Const, Vol}
use Rattle.task_ast.specs.declared.core_form.Array.{Array}
use Rattle.task_ast.specs.declared.core_form.Site.{Site}
use Rattle.task_ast.specs.declared.core_form.Site.TheVariants as site
use Rattle.task_ast.specs.declared.core_form.CoreExpr.TheVariants.{Number}
use Rattle.task_ast.specs.declared.core_form.CoreTarget.TheVariants as target
use Rattle.task_ast.specs.declared.core_form.CoreEnd.{CoreEnd}
use Rattle.task_ast.specs.declared.core_form.CoreEnd.TheVariants as end
use Rattle.task_ast.specs.declared.core_form.CoreStmt.{CoreStmt}
use Rattle.task_ast.specs.declared.core_form.CoreStmt.TheVariants.{Assign, Point, Io, Copy}
use Rattle.task_ast.specs.declared.core_form.CoreExit.TheVariants.{Stop}
use Rattle.task_ast.specs.declared.core_form.CoreTask.{CoreTask}
use Rattle.task_ast.specs.declared.core_form.Core.{Core}

-- x, a, y and c are nonvolatile, b is constant and v volatile
abbrev arrays : List Array
arrays =
    record { name = codes "x"; kind = Nv; first = 0 ∷ [] } ∷ record { name = codes "a"; kind = Nv; first = 0 ∷ [] } ∷ record { name = codes "y"; kind = Nv; first = 0 ∷ [] }
    ∷ record { name = codes "c"; kind = Nv; first = 0 ∷ [] } ∷ record { name = codes "b"; kind = Const; first = 0 ∷ [] } ∷ record { name = codes "v"; kind = Vol; first = 0 ∷ [] } ∷ []

abbrev program : List Site → List CoreStmt → Core × CoreTask
program sites body =
    let t : CoreTask = record { name = codes "t"; body = body; exit = Stop; sites = sites } in
    (record { arrays = arrays; pointers = codes "p" ∷ []; peripherals = record { name = codes "temp"; number = 0 } ∷ []; tasks = t ∷ [] }, t)

abbrev set : ℕ → CoreStmt
set a = Assign (target.Cell a (Number 0)) (Number 1)

abbrev at : ℕ → CoreEnd
at a = end.Cell a (Number 0)

-- x = 1; DMA(a, b, 1); y = 2; x = 3; DMA(c, a, 1); a[0] = 4;
unfoldable pub copying : Core × CoreTask
copying = program (site.Copy 1 ∷ site.Copy 1 ∷ []) (set 0 ∷ Copy 1 (at 1) (at 4) (Number 1) ∷ set 2 ∷ set 0 ∷ Copy 2 (at 3) (at 1) (Number 1) ∷ set 1 ∷ [])

-- p = &v; p = &c; p[0] = 1; v = IO(temp, SINGLE);
unfoldable pub through_a_pointer : Core × CoreTask
through_a_pointer =
    program (site.Io Single ∷ [])
    (Point 0 5 (Number 0) ∷ Point 0 3 (Number 0) ∷ Assign (target.Through 0 (Number 0)) (Number 1) ∷ Io 1 (Some (target.Cell 5 (Number 0))) 0 [] ∷ [])
