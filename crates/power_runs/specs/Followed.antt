-- A machine's run over power rows that follows a plan's run: each boot, cut behind any of its steps.
use Rattle.std.specs.Prelude.{List, [], ◌∷◌, ◌≡◌, ℕ, suc, ◌+◌, ◌<◌, ◌≤◌, ⊤}
use Rattle.devices.specs.declared.world.PowerRow.{PowerRow}
use Rattle.devices.specs.Journal.{Place}
use Rattle.fram_ram.specs.Memories.{failed}
use Rattle.word_machine.specs.State as machine
use Rattle.word_machine.specs.State.{Program, all_registers}
use Rattle.word_machine.specs.Step.{exec}
use Rattle.word_machine.specs.Straight.{Spot, live}
use Rattle.word_machine.specs.declared.ending.Ending.TheVariants.{Running}
use Rattle.run_plan.specs.Cells as cells
use Rattle.run_plan.specs.Cells.{State}
use Rattle.run_plan.specs.Runs.{Planned, after, boot_run}
use Rattle.code_cuts.specs.Lasting.{Lasts}
use Rattle.code_cuts.specs.Runs.{Cut}

-- where a machine that still went on begins again, behind the failure of a power row
abbrev pub begun_again : PowerRow → machine.State → Spot
begun_again row e = record { pc = 0; regs = all_registers row.fill; store = failed e.store row.fill; clock = e.clock + row.off; issued = e.issued }

-- A boot of so many steps from a state of the plan: the machine follows the plan's boot behind each of them, and at the end, where
-- it still goes on, `Rest` holds of what the plan has come to.
pub record BootFollows (p : Program) (place_of : ℕ → Place) (x : Planned) (most : ℕ) (m : Spot) (s : State) (Rest : State → Type 0) : Type 0 where
  pub cuts : (n many : ℕ) → n ≤ most → n < many → Cut p place_of x.rules.core x.plan.scheme (Lasts p x.rules x.plan.scheme) n 0 m s (boot_run x many s)
  pub last : Cut p place_of x.rules.core x.plan.scheme (Lasts p x.rules x.plan.scheme) most 0 m s (boot_run x (suc most) s)
  pub rest : (exec p most (live m)).ending ≡ Running → Rest (after s last.front)

-- The boots of power rows, one after another; behind a failure the plan goes on from what the failure leaves of it.
abbrev pub AreFollowed : Program → (ℕ → Place) → Planned → List PowerRow → Spot → State → Type 0
AreFollowed p place_of x [] m s = ⊤
AreFollowed p place_of x (row ∷ rows) m s =
    BootFollows p place_of x row.on m s (λ (to : State). AreFollowed p place_of x rows (begun_again row (exec p row.on (live m))) (cells.failed x.rules.core to))
