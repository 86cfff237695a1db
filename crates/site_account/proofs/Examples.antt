-- Accounts of small programs, worked out by hand, computed.
use Rattle.std.proofs.Common.{◌≡◌, ℕ, List, [], ◌∷◌, ◌++◌, Some, None, codes, refl}
use Rattle.std.specs.Fmt.{digits}
use Rattle.ease_base.specs.Lines.{line}
use Rattle.ease_base.specs.declared.place.Pos.{Pos}
use Rattle.site_account.specs.Account.{account_of, block_line, call_line, copy_line, regions_text, task_text}
use Rattle.site_account.specs.Places.{body_places, standing}
use Rattle.site_account.specs.declared.places.SiteWord.TheVariants as word
use Rattle.task_ast.specs.declared.core_form.Core.{Core}
use Rattle.task_ast.specs.declared.core_form.CoreEnd.TheVariants as end
use Rattle.task_ast.specs.declared.core_form.CoreExit.TheVariants.{Stop}
use Rattle.task_ast.specs.declared.core_form.CoreExpr.{CoreExpr}
use Rattle.task_ast.specs.declared.core_form.CoreExpr.TheBlock.{hidden-the_row-CoreExpr-0, shape-the_row-CoreExpr-0}
use Rattle.task_ast.specs.declared.core_form.CoreExpr.TheVariants.{Number, Cell}
use Rattle.task_ast.specs.declared.core_form.CoreStmt.{CoreStmt}
use Rattle.task_ast.specs.declared.core_form.CoreStmt.TheBlock.{hidden-the_row-CoreStmt-0, shape-the_row-CoreStmt-0}
use Rattle.task_ast.specs.declared.core_form.CoreStmt.TheVariants.{Point, Io, Block, Copy}
use Rattle.task_ast.specs.declared.core_form.CoreTarget.TheVariants as target
use Rattle.task_ast.specs.declared.core_form.Site.{Site}
use Rattle.task_ast.specs.declared.core_form.Site.TheVariants as site
use Rattle.task_ast.specs.declared.tree.Ann.TheVariants as ann
use Rattle.task_ast.specs.declared.tree.Kind.TheVariants.{Nv, Vol}
use Rattle.task_ast.specs.declared.tree.Name.{Name}
use Rattle.task_ast.specs.declared.tree.Stmt.TheBlock.{hidden-the_row-Stmt-0, shape-the_row-Stmt-0}
use Rattle.task_ast.specs.declared.tree.Stmt.TheVariants as stmt
use denote.Hole.Carrier.{hidden}

abbrev at : ℕ → Pos
at column = record { line = 1; column = column }

-- nv word a; nv word b; word v; word *p; peripheral temp 0; peripheral radio 1;
abbrev program : List Site → List CoreStmt → Core
program sites body = record {
  arrays = record { name = codes "a"; kind = Nv; first = 0 ∷ [] } ∷ record { name = codes "b"; kind = Nv; first = 0 ∷ [] } ∷ record { name = codes "v"; kind = Vol; first = 0 ∷ [] } ∷ [];
  pointers = codes "p" ∷ [];
  peripherals = record { name = codes "temp"; number = 0 } ∷ record { name = codes "radio"; number = 1 } ∷ [];
  tasks = record { name = codes "t"; body = body; exit = Stop; sites = sites } ∷ [];
}

abbrev v : CoreExpr
v = Cell 2 (Number 0)

abbrev call : (site peripheral : ℕ) → List CoreExpr → CoreStmt
call k p args = Io k (Some (target.Cell 2 (Number 0))) p args

-- v = IO(temp, TIMELY(1000)); v = IO(radio, SINGLE, v);
a_send_is_forced : account_of (program (site.Io (ann.Timely 1000) ∷ site.Io ann.Single ∷ []) (call 1 0 [] ∷ call 2 1 (v ∷ []) ∷ []))
    ((standing word.Io (at 60) ∷ standing word.Io (at 87) ∷ []) ∷ [])
    ≡ line (codes "task 1 t") ++ line (codes "site 1 1:60 io temp timely 1000 forces 2") ++ line (codes "site 2 1:87 io radio single") ++ line (codes "regions 1") ++ line (codes "end")
unfolding hidden-the_row-CoreExpr-0 shape-the_row-CoreExpr-0 hidden account_of task_text call_line regions_text digits
a_send_is_forced = refl

-- IO_BLOCK(ALWAYS) { v = IO(temp, SINGLE); IO_BLOCK(TIMELY(5)) { v = IO(temp, SINGLE); } }
members_stand_at_any_depth : account_of (program (site.Block ann.Always ∷ site.Io ann.Single ∷ site.Block (ann.Timely 5) ∷ site.Io ann.Single ∷ [])
    (Block 1 (call 2 0 [] ∷ Block 3 (call 4 0 [] ∷ []) ∷ []) ∷ []))
    ((standing word.Block (at 1) ∷ standing word.Io (at 20) ∷ standing word.Block (at 40) ∷ standing word.Io (at 60) ∷ []) ∷ [])
    ≡ line (codes "task 1 t") ++ line (codes "site 1 1:1 block always members 2 3 4") ++ line (codes "site 2 1:20 io temp single") ++ line (codes "site 3 1:40 block timely 5 members 4")
    ++ line (codes "site 4 1:60 io temp single") ++ line (codes "regions 1") ++ line (codes "end")
unfolding hidden-the_row-CoreExpr-0 shape-the_row-CoreExpr-0 hidden-the_row-CoreStmt-0 shape-the_row-CoreStmt-0 hidden account_of task_text call_line block_line regions_text digits
members_stand_at_any_depth = refl

-- p = &v; p = &a; DMA(b, p, 1); DMA(p, b, 1);
arrays_of_a_pointer_come_in_order : account_of (program (site.Copy 1 ∷ site.Copy 1 ∷ [])
    (Point 0 2 (Number 0) ∷ Point 0 0 (Number 0) ∷ Copy 1 (end.Cell 1 (Number 0)) (end.Pointer 0) (Number 1) ∷ Copy 2 (end.Pointer 0) (end.Cell 1 (Number 0)) (Number 1) ∷ []))
    ((standing word.Dma (at 17) ∷ standing word.Dma (at 31) ∷ []) ∷ [])
    ≡ line (codes "task 1 t") ++ line (codes "site 1 1:17 copy to b from a v greatest 1") ++ line (codes "site 2 1:31 copy to a v from b greatest 1")
    ++ line (codes "regions 3") ++ line (codes "first 1 b") ++ line (codes "first 2 a") ++ line (codes "end")
unfolding hidden-the_row-CoreExpr-0 shape-the_row-CoreExpr-0 hidden account_of task_text copy_line regions_text digits
arrays_of_a_pointer_come_in_order = refl

-- a task without sites, and one behind it
abbrev two_tasks : Core
two_tasks = record {
  arrays = [];
  pointers = [];
  peripherals = [];
  tasks = record { name = codes "t"; body = []; exit = Stop; sites = [] } ∷ record { name = codes "u"; body = []; exit = Stop; sites = [] } ∷ [];
}

tasks_go_on_without_sites : account_of two_tasks ([] ∷ [] ∷ []) ≡ line (codes "task 1 t") ++ line (codes "regions 1") ++ line (codes "task 2 u") ++ line (codes "regions 1") ++ line (codes "end")
unfolding hidden account_of task_text regions_text digits
tasks_go_on_without_sites = refl

-- ---- places

abbrev name : List ℕ → Name
name text = record { text = text; at = at 9 }

-- for (i = 0; i < 2; i++) { IO_BLOCK(SINGLE) { IO(temp, SINGLE); } }
a_loop_has_its_places_each_turn : body_places (stmt.For (name (codes "i")) 2 (at 18) (stmt.Block ann.Single (stmt.Io None (name (codes "temp")) ann.Single [] (at 46) ∷ []) (at 27) ∷ []) (at 1) ∷ [])
    ≡ standing word.Block (at 27) ∷ standing word.Io (at 46) ∷ standing word.Block (at 27) ∷ standing word.Io (at 46) ∷ []
unfolding hidden-the_row-Stmt-0 shape-the_row-Stmt-0 hidden
a_loop_has_its_places_each_turn = refl
