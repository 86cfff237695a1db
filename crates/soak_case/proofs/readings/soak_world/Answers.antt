-- It is within the limits since it is that world.
use Rattle.std.proofs.Common.{subst, sym}
use Rattle.devices.specs.World.{IsWithinLimits}
use Rattle.soak_case.specs.Draws.{state_behind}
use Rattle.soak_case.proofs.Limits.{world_within}
use Rattle.soak_case.proofs.readings.soak_world.Goals as goal

pub returns-clause-within : goal.returns-clause-within
returns-clause-within c = subst IsWithinLimits (sym c.in_ok-world.ensures) (world_within (state_behind 512 c.args.number))
