-- All trails are rolled.
use Rattle.std.proofs.Common.{false}
use Rattle.ease_debug.proofs.SlotLemmas.{all_rolled}
use Rattle.ease_debug.proofs.trails.Trails.boot.Goals as goal

pub returns : goal.returns
returns c = all_rolled c.self.inside.begun false c.self.inside.slots.items _ c.args.self.now c.self.view_is c.roll.ensures
