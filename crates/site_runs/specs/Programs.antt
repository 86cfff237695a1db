-- That the calls, the blocks and the copies of every task of a program lead on.
use Rattle.std.specs.Prelude.{◌≡◌, ℕ, Some, slice_get, suc}
use Rattle.devices.specs.Journal.{Place}
use Rattle.devices.specs.declared.world.World.{World}
use Rattle.task_ast.specs.declared.core_form.Core.{Core}
use Rattle.task_ast.specs.declared.core_form.CoreTask.{CoreTask}
use Rattle.word_isa.specs.declared.parts.Scheme.{Scheme}
use Rattle.word_machine.specs.State.{Program}
use Rattle.run_plan.specs.Runs.{doing}
use Rattle.site_runs.specs.Calls.{CallsLead}
use Rattle.code_runs.specs.Bare.{planned}
use Rattle.site_runs.specs.Bodies.{BlocksLead}
use Rattle.site_runs.specs.Copies.{CopiesLead}

abbrev pub AllCallsLead : Program → (ℕ → Place) → Core → World → Scheme → Type 0
AllCallsLead p place_of c world scheme = (n : ℕ) (t : CoreTask) → slice_get c.tasks n ≡ Some t → CallsLead p place_of (doing (planned c world scheme) (suc n) t) (suc n)

abbrev pub AllCopiesLead : Program → (ℕ → Place) → Core → World → Scheme → Type 0
AllCopiesLead p place_of c world scheme = (n : ℕ) (t : CoreTask) → slice_get c.tasks n ≡ Some t → CopiesLead p place_of (doing (planned c world scheme) (suc n) t) (suc n)

abbrev pub AllBlocksLead : Program → (ℕ → Place) → Core → World → Scheme → Type 0
AllBlocksLead p place_of c world scheme = (n : ℕ) (t : CoreTask) → slice_get c.tasks n ≡ Some t → BlocksLead p place_of (doing (planned c world scheme) (suc n) t) (suc n)
