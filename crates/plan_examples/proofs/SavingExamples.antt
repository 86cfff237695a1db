-- In the plans of small programs saving stands in its place, computed.
use Rattle.std.proofs.Common.{◌≡◌, Bool, true, refl}
use Rattle.task_ast.specs.declared.core_form.CoreExpr.TheBlock.{hidden-the_row-CoreExpr-0, shape-the_row-CoreExpr-0}
use Rattle.task_ast.specs.declared.core_form.CoreStmt.TheBlock.{hidden-the_row-CoreStmt-0, shape-the_row-CoreStmt-0}
use Rattle.task_ast.specs.declared.core_form.CoreExit.TheBlock.{hidden-the_row-CoreExit-0, shape-the_row-CoreExit-0}
use Rattle.task_ast.specs.declared.core_form.Core.{Core}
use Rattle.word_isa.specs.declared.parts.Scheme.{Scheme}
use Rattle.word_isa.specs.declared.parts.Scheme.TheVariants.{Undo, Bank}
use Rattle.run_plan.specs.declared.act.Act.TheBlock.{hidden-the_row-Act-0, shape-the_row-Act-0}
use Rattle.run_plan.specs.PlanOf.{plan_of}
use Rattle.run_plan.specs.Sound.{tasks_save}
use Rattle.plan_examples.proofs.Programs.{sending, sense_and_send, blocked, shifting, pointing, summing}
use denote.Hole.Carrier.{hidden}

-- whether the plan of a program saves as its scheme says
abbrev saves : Core → Scheme → Bool
saves c scheme = tasks_save scheme c.tasks (plan_of c scheme).tasks

sending_saves_in_place : saves sending Undo ≡ true
unfolding hidden-the_row-CoreExpr-0 shape-the_row-CoreExpr-0 hidden-the_row-CoreStmt-0 shape-the_row-CoreStmt-0 hidden-the_row-CoreExit-0 shape-the_row-CoreExit-0 hidden-the_row-Act-0 shape-the_row-Act-0 hidden sending
sending_saves_in_place = refl

sending_saves_nothing : saves sending Bank ≡ true
unfolding hidden-the_row-CoreExpr-0 shape-the_row-CoreExpr-0 hidden-the_row-CoreStmt-0 shape-the_row-CoreStmt-0 hidden-the_row-CoreExit-0 shape-the_row-CoreExit-0 hidden-the_row-Act-0 shape-the_row-Act-0 hidden sending
sending_saves_nothing = refl

sense_and_send_saves_in_place : saves sense_and_send Undo ≡ true
unfolding hidden-the_row-CoreExpr-0 shape-the_row-CoreExpr-0 hidden-the_row-CoreStmt-0 shape-the_row-CoreStmt-0 hidden-the_row-CoreExit-0 shape-the_row-CoreExit-0 hidden-the_row-Act-0 shape-the_row-Act-0 hidden sense_and_send
sense_and_send_saves_in_place = refl

sense_and_send_saves_nothing : saves sense_and_send Bank ≡ true
unfolding hidden-the_row-CoreExpr-0 shape-the_row-CoreExpr-0 hidden-the_row-CoreStmt-0 shape-the_row-CoreStmt-0 hidden-the_row-CoreExit-0 shape-the_row-CoreExit-0 hidden-the_row-Act-0 shape-the_row-Act-0 hidden sense_and_send
sense_and_send_saves_nothing = refl

blocked_saves_in_place : saves blocked Undo ≡ true
unfolding hidden-the_row-CoreExpr-0 shape-the_row-CoreExpr-0 hidden-the_row-CoreStmt-0 shape-the_row-CoreStmt-0 hidden-the_row-CoreExit-0 shape-the_row-CoreExit-0 hidden-the_row-Act-0 shape-the_row-Act-0 hidden blocked
blocked_saves_in_place = refl

blocked_saves_nothing : saves blocked Bank ≡ true
unfolding hidden-the_row-CoreExpr-0 shape-the_row-CoreExpr-0 hidden-the_row-CoreStmt-0 shape-the_row-CoreStmt-0 hidden-the_row-CoreExit-0 shape-the_row-CoreExit-0 hidden-the_row-Act-0 shape-the_row-Act-0 hidden blocked
blocked_saves_nothing = refl

shifting_saves_in_place : saves shifting Undo ≡ true
unfolding hidden-the_row-CoreExpr-0 shape-the_row-CoreExpr-0 hidden-the_row-CoreStmt-0 shape-the_row-CoreStmt-0 hidden-the_row-CoreExit-0 shape-the_row-CoreExit-0 hidden-the_row-Act-0 shape-the_row-Act-0 hidden shifting
shifting_saves_in_place = refl

shifting_saves_nothing : saves shifting Bank ≡ true
unfolding hidden-the_row-CoreExpr-0 shape-the_row-CoreExpr-0 hidden-the_row-CoreStmt-0 shape-the_row-CoreStmt-0 hidden-the_row-CoreExit-0 shape-the_row-CoreExit-0 hidden-the_row-Act-0 shape-the_row-Act-0 hidden shifting
shifting_saves_nothing = refl

pointing_saves_in_place : saves pointing Undo ≡ true
unfolding hidden-the_row-CoreExpr-0 shape-the_row-CoreExpr-0 hidden-the_row-CoreStmt-0 shape-the_row-CoreStmt-0 hidden-the_row-CoreExit-0 shape-the_row-CoreExit-0 hidden-the_row-Act-0 shape-the_row-Act-0 hidden pointing
pointing_saves_in_place = refl

pointing_saves_nothing : saves pointing Bank ≡ true
unfolding hidden-the_row-CoreExpr-0 shape-the_row-CoreExpr-0 hidden-the_row-CoreStmt-0 shape-the_row-CoreStmt-0 hidden-the_row-CoreExit-0 shape-the_row-CoreExit-0 hidden-the_row-Act-0 shape-the_row-Act-0 hidden pointing
pointing_saves_nothing = refl

summing_saves_in_place : saves summing Undo ≡ true
unfolding hidden-the_row-CoreExpr-0 shape-the_row-CoreExpr-0 hidden-the_row-CoreStmt-0 shape-the_row-CoreStmt-0 hidden-the_row-CoreExit-0 shape-the_row-CoreExit-0 hidden-the_row-Act-0 shape-the_row-Act-0 hidden summing
summing_saves_in_place = refl

summing_saves_nothing : saves summing Bank ≡ true
unfolding hidden-the_row-CoreExpr-0 shape-the_row-CoreExpr-0 hidden-the_row-CoreStmt-0 shape-the_row-CoreStmt-0 hidden-the_row-CoreExit-0 shape-the_row-CoreExit-0 hidden-the_row-Act-0 shape-the_row-Act-0 hidden summing
summing_saves_nothing = refl
