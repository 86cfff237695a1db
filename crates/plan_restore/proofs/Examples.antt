-- What a boot finds behind each small step of small programs, computed; the numbers are by hand from the table of acts.
use Rattle.std.proofs.Common.{◌≡◌, ℕ, List, [], ◌∷◌, ◌++◌, map, refl}
use Rattle.std.specs.Prelude.{codes, replicate}
use Rattle.task_ast.specs.declared.tree.Kind.TheVariants.{Nv}
use Rattle.task_ast.specs.declared.tree.Op2.TheVariants.{Add}
use Rattle.task_ast.specs.declared.core_form.Array.{Array}
use Rattle.task_ast.specs.declared.core_form.CoreExpr.TheVariants.{Number, Cell, Two}
use Rattle.task_ast.specs.declared.core_form.CoreExpr.TheBlock.{hidden-the_row-CoreExpr-0, shape-the_row-CoreExpr-0}
use Rattle.task_ast.specs.declared.core_form.CoreTarget.TheVariants as target
use Rattle.task_ast.specs.declared.core_form.CoreEnd.TheVariants as end
use Rattle.task_ast.specs.declared.core_form.CoreStmt.{CoreStmt}
use Rattle.task_ast.specs.declared.core_form.CoreStmt.TheVariants.{Assign, Copy}
use Rattle.task_ast.specs.declared.core_form.CoreStmt.TheBlock.{hidden-the_row-CoreStmt-0, shape-the_row-CoreStmt-0}
use Rattle.task_ast.specs.declared.core_form.CoreExit.TheVariants.{Stop}
use Rattle.task_ast.specs.declared.core_form.CoreExit.TheBlock.{hidden-the_row-CoreExit-0, shape-the_row-CoreExit-0}
use Rattle.task_ast.specs.declared.core_form.Site.{Site}
use Rattle.task_ast.specs.declared.core_form.Site.TheVariants as site
use Rattle.task_ast.specs.declared.core_form.Core.{Core}
use Rattle.walk_run.specs.Store.{place, word_at}
use Rattle.word_isa.specs.declared.parts.Scheme.{Scheme}
use Rattle.word_isa.specs.declared.parts.Scheme.TheVariants.{Undo, Bank}
use Rattle.run_plan.specs.declared.act.Act.TheBlock.{hidden-the_row-Act-0, shape-the_row-Act-0}
use Rattle.run_plan.specs.Runs.{Planned, Smalls, boot_run, boots_run, plan_run}
use Rattle.plan_restore.specs.Found.{found}
use Rattle.plan_restore.specs.Kept.{planned}
use denote.Hole.Carrier.{hidden}

abbrev program : List Array → List CoreStmt → List Site → Core
program arrays body sites = record {
  arrays = arrays;
  pointers = [];
  peripherals = [];
  tasks = record { name = codes "t"; body = body; exit = Stop; sites = sites } ∷ [];
}

abbrev one_word : ℕ → Array
one_word n = record { name = codes "n"; kind = Nv; first = n ∷ [] }

abbrev run_of : Core → Scheme → Planned
run_of c scheme = planned c (record { power = []; feeds = []; retained = [] }) scheme

-- what a boot finds at the first word of an array behind each small step of each boot, and what is at home there
abbrev found_in : Core → Scheme → (array : ℕ) → (numbers : List ℕ) → List (List ℕ)
found_in c scheme a numbers = let p = run_of c scheme in map (λ (xs : Smalls). map (λ x. found p x.after (place a 0)) xs) (plan_run p numbers [])

abbrev home_in : Core → Scheme → (array : ℕ) → (numbers : List ℕ) → List (List ℕ)
home_in c scheme a numbers = let p = run_of c scheme in map (λ (xs : Smalls). map (λ x. word_at x.after.store (place a 0)) xs) (plan_run p numbers [])

-- nv word n = 7; task t { n = n + n; STOP; }
unfoldable doubling : Core
doubling = program (one_word 7 ∷ []) (Assign (target.Cell 0 (Number 0)) (Two Add (Cell 0 (Number 0)) (Cell 0 (Number 0))) ∷ []) []

-- The first boot fails behind the write of n, at its eighth small step: Restore 1, Begin 2, Save 2, Lock 2, and the word. The
-- second puts it back in its first small step, of two of Restore; its Save has nothing to do but to end, and n is written at
-- its eighth small step again.
doubled_found : found_in doubling Undo 0 (8 ∷ 100 ∷ []) ≡ replicate 8 7 ∷ (replicate 9 7 ++ 14 ∷ 14 ∷ []) ∷ []
unfolding hidden-the_row-CoreExpr-0 shape-the_row-CoreExpr-0 hidden-the_row-CoreStmt-0 shape-the_row-CoreStmt-0 hidden-the_row-CoreExit-0 shape-the_row-CoreExit-0 hidden-the_row-Act-0 shape-the_row-Act-0 hidden boot_run boots_run doubling
doubled_found = refl

doubled_home : home_in doubling Undo 0 (8 ∷ 4 ∷ []) ≡ (replicate 7 7 ++ 14 ∷ []) ∷ replicate 4 7 ∷ []
unfolding hidden-the_row-CoreExpr-0 shape-the_row-CoreExpr-0 hidden-the_row-CoreStmt-0 shape-the_row-CoreStmt-0 hidden-the_row-CoreExit-0 shape-the_row-CoreExit-0 hidden-the_row-Act-0 shape-the_row-Act-0 hidden boot_run boots_run doubling
doubled_home = refl

-- Under `bank` the bank that is worked in is 0 until the beginning brings it level, in its second small step; a commit makes
-- it the committed one.
doubled_bank_found : found_in doubling Bank 0 (4 ∷ 100 ∷ []) ≡ replicate 4 7 ∷ (replicate 5 7 ++ 14 ∷ 14 ∷ []) ∷ []
unfolding hidden-the_row-CoreExpr-0 shape-the_row-CoreExpr-0 hidden-the_row-CoreStmt-0 shape-the_row-CoreStmt-0 hidden-the_row-CoreExit-0 shape-the_row-CoreExit-0 hidden-the_row-Act-0 shape-the_row-Act-0 hidden boot_run boots_run doubling
doubled_bank_found = refl

doubled_bank_home : home_in doubling Bank 0 (4 ∷ 3 ∷ []) ≡ (0 ∷ 7 ∷ 7 ∷ 14 ∷ []) ∷ (14 ∷ 7 ∷ 7 ∷ []) ∷ []
unfolding hidden-the_row-CoreExpr-0 shape-the_row-CoreExpr-0 hidden-the_row-CoreStmt-0 shape-the_row-CoreStmt-0 hidden-the_row-CoreExit-0 shape-the_row-CoreExit-0 hidden-the_row-Act-0 shape-the_row-Act-0 hidden boot_run boots_run doubling
doubled_bank_home = refl

-- nv word a = 5; nv word b = 6; task t { a = 1; DMA(b, a, 1); STOP; }: region 0 writes a, region 1 writes b
unfoldable moving : Core
moving = program (one_word 5 ∷ one_word 6 ∷ []) (Assign (target.Cell 0 (Number 0)) (Number 1) ∷ Copy 1 (end.Cell 1 (Number 0)) (end.Cell 0 (Number 0)) (Number 1) ∷ []) (site.Copy 1 ∷ [])

-- The first boot fails behind the transfer, at its nineteenth small step, with both regions locked: two Restores 2, Begin 2,
-- Save 0, Lock 0 and the assignment 6, Value 1, Save 1 and Lock 1 4, two choices 2, the transfer 2. The second puts both
-- words back before it begins.
moved_found : found_in moving Undo 1 (19 ∷ 6 ∷ []) ≡ replicate 19 6 ∷ replicate 6 6 ∷ []
unfolding hidden-the_row-CoreExpr-0 shape-the_row-CoreExpr-0 hidden-the_row-CoreStmt-0 shape-the_row-CoreStmt-0 hidden-the_row-CoreExit-0 shape-the_row-CoreExit-0 hidden-the_row-Act-0 shape-the_row-Act-0 hidden boot_run boots_run moving
moved_found = refl

moved_home : home_in moving Undo 1 (19 ∷ 6 ∷ []) ≡ (replicate 17 6 ++ 1 ∷ 1 ∷ []) ∷ (1 ∷ 1 ∷ 6 ∷ 6 ∷ 6 ∷ 6 ∷ []) ∷ []
unfolding hidden-the_row-CoreExpr-0 shape-the_row-CoreExpr-0 hidden-the_row-CoreStmt-0 shape-the_row-CoreStmt-0 hidden-the_row-CoreExit-0 shape-the_row-CoreExit-0 hidden-the_row-Act-0 shape-the_row-Act-0 hidden boot_run boots_run moving
moved_home = refl
