-- A run begins well where memory stands for the plan's first state.
use Rattle.std.proofs.Common.{◌≡◌, ℕ, ◌+◌, ◌<◌, ◌≤◌, ◌^◌, List, refl, arith}
use Rattle.devices.specs.Journal.{Place}
use Rattle.devices.specs.declared.world.World.{World}
use Rattle.devices.specs.World.{steps_of, ticks_of}
use Rattle.task_ast.specs.declared.core_form.Core.{Core}
use Rattle.task_ast.specs.WellFormed.{IsWellFormed}
use Rattle.task_attempts.specs.Boots.{rules_of}
use Rattle.word_isa.specs.declared.parts.Scheme.{Scheme}
use Rattle.word_machine.specs.State.{Program}
use Rattle.word_machine.specs.Straight.{Spot, live}
use Rattle.run_plan.specs.Runs.{started}
use Rattle.code_cuts.specs.Lasting.{Lasts}
use Rattle.plan_restore.specs.Kept.{planned}
use Rattle.power_runs.specs.Due.{AreDueOver, StartsWell}

epochs_last : (n : ℕ) → n ≤ 4194304 → 1 + n + 1 < 2 ^ 24
epochs_last n few = let many : 2 ^ 24 ≡ 16777216 = refl in omega (arith, few, many)

pub starts_well : (c : Core) (world : World) (scheme : Scheme) → IsWellFormed c → (p : Program) (place_of : ℕ → Place) (m : Spot) (times : List ℕ) → m.pc ≡ 0
    → Lasts p (rules_of c world) scheme (live m) (started (planned c world scheme) times) → steps_of world.power ≤ 4194304 → m.clock + ticks_of world.power < 2 ^ 32 → AreDueOver p place_of world.power m times
    → StartsWell p place_of (planned c world scheme) world.power m (started (planned c world scheme) times)
starts_well c world scheme well p place_of m times pc lasts few ticks due = record {
  pc = pc;
  lasts = lasts;
  next = (let some = well.some in omega (arith, some));
  room = epochs_last (steps_of world.power) few;
  ticks = ticks;
  due = due;
}
