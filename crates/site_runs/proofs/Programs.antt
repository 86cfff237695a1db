-- The attempts of every task of a program lead on from where their code lies.
use Rattle.std.proofs.Common.{ℕ, suc}
use Rattle.devices.specs.Journal.{Place}
use Rattle.devices.specs.declared.world.World.{World}
use Rattle.task_ast.specs.WellFormed.{IsWellFormed}
use Rattle.task_ast.specs.declared.core_form.Core.{Core}
use Rattle.word_isa.specs.declared.parts.Scheme.{Scheme}
use Rattle.word_machine.specs.State.{Program}
use Rattle.run_plan.specs.PlanOf.{plan_of}
use Rattle.run_plan.specs.Runs.{doing}
use Rattle.run_plan.specs.Small.{Doing}
use Rattle.code_places.specs.Placed.{IsPlaced}
use Rattle.code_runs.specs.Bare.{planned}
use Rattle.code_runs.proofs.BareBoots.{AllAttemptsLead, firsts_there, formed_there}
use Rattle.code_runs.proofs.BareLaws.{BareLaws}
use Rattle.site_runs.specs.Programs.{AllBlocksLead, AllCallsLead, AllCopiesLead}
use Rattle.site_runs.proofs.Attempts.{attempt_leads}

pub site_attempts : (p : Program) (place_of : ℕ → Place) → BareLaws p place_of → (c : Core) (world : World) (scheme : Scheme) → IsWellFormed c → IsPlaced p (plan_of c scheme) c
    → AllCallsLead p place_of c world scheme → AllBlocksLead p place_of c world scheme → AllCopiesLead p place_of c world scheme → AllAttemptsLead p place_of c world scheme
site_attempts p place_of law c world scheme well lies calls blocks copies n t top found attempt_lies most again leads =
    let d : Doing = doing (planned c world scheme) (suc n) t in
    attempt_leads p place_of law d (suc n) well found (formed_there p place_of law c world scheme well lies n t found) (firsts_there p place_of law c world scheme well lies n t found) (calls n t found) (copies n t found)
    (blocks n t found) most again leads top attempt_lies
