-- The plans of small programs, computed.
use Rattle.std.proofs.Common.{◌≡◌, List, [], ◌∷◌, refl}
use Rattle.task_ast.specs.declared.tree.Op2.TheVariants.{Add, Lt}
use Rattle.task_ast.specs.declared.core_form.CoreExpr.TheVariants.{Number, Two}
use Rattle.task_ast.specs.declared.core_form.CoreExpr.TheBlock.{hidden-the_row-CoreExpr-0, shape-the_row-CoreExpr-0}
use Rattle.task_ast.specs.declared.core_form.CoreStmt.TheBlock.{hidden-the_row-CoreStmt-0, shape-the_row-CoreStmt-0}
use Rattle.task_ast.specs.declared.core_form.CoreExit.TheBlock.{hidden-the_row-CoreExit-0, shape-the_row-CoreExit-0}
use Rattle.word_isa.specs.declared.parts.Scheme.TheVariants.{Undo, Bank}
use Rattle.run_plan.specs.declared.act.Leg.TheVariants.{Across, ToKept, FromKept}
use Rattle.run_plan.specs.declared.act.Act.{Act}
use Rattle.run_plan.specs.declared.act.Act.TheVariants as act
use Rattle.run_plan.specs.PlanOf.{plan_of}
use Rattle.plan_examples.proofs.Programs.{read, set, sending, blocked, choosing, counting, pointing, summing}
use denote.Hole.Carrier.{hidden}

-- ---- a call

-- behind its beginning
call_acts : List Act
call_acts =
    act.Value 1 ∷ act.Look 1 ∷ act.Choose 1 (act.Drop 1 ∷ act.Issue 1 ∷ act.Seal 1 ∷ []) (act.Take 1 ∷ []) ∷ act.Write 1
    ∷ act.Plain (set 0 0 (Two Add (read 0 0) (read 1 0))) ∷ act.Commit 0 ∷ []

the_plan_of_a_call : plan_of sending Undo ≡ record {
  scheme = Undo;
  boot = act.Restore 0 ∷ [];
  tasks = (act.Begin 1 ∷ act.Save 0 ∷ act.Lock 0 ∷ call_acts) ∷ [];
  firsts = ((0 ∷ []) ∷ []) ∷ [];
}
unfolding hidden-the_row-CoreExpr-0 shape-the_row-CoreExpr-0 hidden-the_row-CoreStmt-0 shape-the_row-CoreStmt-0 hidden sending call_acts
the_plan_of_a_call = refl

two_banks_save_nothing : plan_of sending Bank ≡ record { scheme = Bank; boot = []; tasks = (act.Begin 1 ∷ call_acts) ∷ []; firsts = ((0 ∷ []) ∷ []) ∷ [] }
unfolding hidden-the_row-CoreExpr-0 shape-the_row-CoreExpr-0 hidden-the_row-CoreStmt-0 shape-the_row-CoreStmt-0 hidden sending call_acts
two_banks_save_nothing = refl

-- ---- a block

block_acts : List Act
block_acts =
    act.Look 1 ∷ act.Enter 1 ∷ act.Value 2 ∷ act.Look 2 ∷ act.Choose 2 (act.Drop 2 ∷ act.Issue 2 ∷ act.Seal 2 ∷ []) (act.Take 2 ∷ []) ∷ act.Write 2
    ∷ act.Leave 1 (act.Drop 1 ∷ act.Seal 1 ∷ []) ∷ act.Plain (set 0 0 (read 1 0)) ∷ act.Commit 0 ∷ []

the_plan_of_a_block : plan_of blocked Undo ≡ record {
  scheme = Undo;
  boot = act.Restore 0 ∷ [];
  tasks = (act.Begin 1 ∷ act.Save 0 ∷ act.Lock 0 ∷ block_acts) ∷ [];
  firsts = ((0 ∷ []) ∷ []) ∷ [];
}
unfolding hidden-the_row-CoreExpr-0 shape-the_row-CoreExpr-0 hidden-the_row-CoreStmt-0 shape-the_row-CoreStmt-0 hidden blocked block_acts
the_plan_of_a_block = refl

-- ---- a copy to where a pointer points

-- a copy's choices
copy_choice : Act
copy_choice = act.Choose 1
    (act.ByClass 1 (act.Transfer 1 Across ∷ act.KeepWords 1 ∷ act.Seal 1 ∷ []) (act.Transfer 1 ToKept ∷ act.Seal 1 ∷ act.Transfer 1 FromKept ∷ []) (act.Transfer 1 Across ∷ []) ∷ [])
    (act.ByClass 1 (act.PutWords 1 ∷ []) (act.Transfer 1 FromKept ∷ []) [] ∷ [])

-- the copy begins region 1, which writes c and n first
copy_end : List Act
copy_end = copy_choice ∷ act.Plain counting ∷ act.Test (Two Lt (read 0 0) (Number 2)) (act.Commit 1 ∷ []) (act.Commit 0 ∷ []) ∷ []

the_plan_of_a_copy : plan_of pointing Undo ≡ record {
  scheme = Undo;
  boot = act.Restore 0 ∷ act.Restore 1 ∷ [];
  tasks = (act.Begin 1 ∷ act.Save 0 ∷ act.Lock 0 ∷ act.Plain choosing ∷ act.Value 1 ∷ act.Save 1 ∷ act.Lock 1 ∷ copy_end) ∷ [];
  firsts = ([] ∷ (0 ∷ 2 ∷ []) ∷ []) ∷ [];
}
unfolding hidden-the_row-CoreExpr-0 shape-the_row-CoreExpr-0 hidden-the_row-CoreStmt-0 shape-the_row-CoreStmt-0 hidden-the_row-CoreExit-0 shape-the_row-CoreExit-0 hidden pointing copy_choice copy_end
the_plan_of_a_copy = refl

-- ---- statements without sites

plain_acts : List Act
plain_acts = act.Plain (set 0 0 (Two Add (read 0 1) (read 0 2))) ∷ act.Plain (set 0 1 (read 0 0)) ∷ act.Plain (set 1 0 (Two Add (read 1 0) (Number 1))) ∷ act.Commit 0 ∷ []

the_plan_of_assignments : plan_of summing Undo ≡ record {
  scheme = Undo;
  boot = act.Restore 0 ∷ [];
  tasks = (act.Begin 1 ∷ act.Save 0 ∷ act.Lock 0 ∷ plain_acts) ∷ [];
  firsts = ((0 ∷ 1 ∷ []) ∷ []) ∷ [];
}
unfolding hidden-the_row-CoreExpr-0 shape-the_row-CoreExpr-0 hidden summing plain_acts
the_plan_of_assignments = refl
