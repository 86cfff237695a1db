-- The code of the plan of a well-formed program lies in the program of its words and marks, and its last commits halt it.
use Rattle.std.specs.Prelude.{◌≡◌, ◌+◌, ◌≤◌, ℕ, List, Some, length}
use Rattle.std.proofs.Common.{arith}
use Rattle.task_ast.specs.WellFormed.{IsWellFormed}
use Rattle.task_ast.specs.declared.core_form.Core.{Core}
use Rattle.word_isa.specs.declared.parts.Scheme.{Scheme}
use Rattle.devices.specs.declared.event.Event.TheVariants as event
use Rattle.word_machine.specs.Events.{event_next}
use Rattle.word_machine.specs.State as machine
use Rattle.word_machine.specs.Step.{exec}
use Rattle.word_machine.specs.declared.ending.Ending.TheVariants.{Running, Halted}
use Rattle.line_laws.specs.Standing.{Lie}
use Rattle.run_plan.specs.declared.parts.Plan.{Plan}
use Rattle.run_plan.specs.PlanOf.{plan_of}
use Rattle.run_plan.specs.Sizes.{AreWithin}
use Rattle.word_code.specs.ActMarks.{jobs_marks}
use Rattle.word_code.specs.CodeOf.{code_of, first_at, jobs_of, jobs_size}
use Rattle.word_code.specs.FitPlan.{IsFitPlan}
use Rattle.word_code.specs.Within.{IsWithin}
use Rattle.word_code.proofs.CodePasses.{code_fine}
use Rattle.word_code.proofs.Fine.{Fine}
use Rattle.word_code.proofs.FitLaws.{plan_fits}
use Rattle.code_places.specs.Placed.{IsPlaced, program_by}
use Rattle.code_places.proofs.CodeGoods.{code_good}
use Rattle.code_places.proofs.Places.{plan_placed}
use Rattle.code_places.proofs.Standing.{all_fit, lines_lie, marks_in}
use Rattle.code_places.proofs.Stops.{stops}

pub code_lies : (c : Core) (scheme : Scheme) → IsWellFormed c → IsWithin (plan_of c scheme) c → AreWithin scheme c → (values : ℕ → List ℕ) → Lie (program_by (plan_of c scheme) c values) 0 (code_of (plan_of c scheme) c)
code_lies c scheme w within limits values =
    let p : Plan = plan_of c scheme in
    let low : first_at c + jobs_size p (jobs_of p c) ≤ 4194304 = omega (arith, within.code, limits.code) in
    let fit : IsFitPlan p c = plan_fits c scheme w in
    let fine : Fine (jobs_marks p (jobs_of p c)) (code_of p c) = code_fine p c w fit low in
    lines_lie (code_of p c) values (all_fit (code_of p c) fine.pass (code_good p c w fit within.fram).narrow)

pub placed : (c : Core) (scheme : Scheme) → IsWellFormed c → IsWithin (plan_of c scheme) c → AreWithin scheme c → (values : ℕ → List ℕ) → IsPlaced (program_by (plan_of c scheme) c values) (plan_of c scheme) c
placed c scheme w within limits values = plan_placed (program_by (plan_of c scheme) c values) (plan_of c scheme) c w (plan_fits c scheme w) within.fram (code_lies c scheme w within limits values)

pub halts : (c : Core) (scheme : Scheme) → IsWellFormed c → IsWithin (plan_of c scheme) c → AreWithin scheme c → (values : ℕ → List ℕ) (e : machine.State) → e.ending ≡ Running
    → event_next (program_by (plan_of c scheme) c values) e ≡ Some (event.Commit 0) → (exec (program_by (plan_of c scheme) c values) 33 e).ending ≡ Halted
halts c scheme w within limits values =
    let p : Plan = plan_of c scheme in
    stops (program_by p c values) scheme (length c.tasks) (code_of p c) (code_good p c w (plan_fits c scheme w) within.fram).followed (code_lies c scheme w within limits values) (marks_in (code_of p c) values)
    (placed c scheme w within limits values).halt.instr
