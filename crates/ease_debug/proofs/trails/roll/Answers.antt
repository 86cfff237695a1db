-- One trail more.
use Rattle.std.proofs.Common.{◌∙◌, sym}
use Rattle.std.proofs.lemmas.List.{length-set}
use Rattle.ease_debug.proofs.SlotLemmas.{one_more}
use Rattle.ease_debug.specs.Trails.{rolled}
use Rattle.ease_debug.specs.declared.trail.Trail.{Trail}
use Rattle.ease_debug.proofs.trails.roll.Goals as goal

pub slots-preserved : goal.slots-preserved
slots-preserved c =
    let before = c.slots.invariant in
    record {
      count = before.count ∙ sym (length-set c.slots.slots.items c.slots.at _);
      size = length-set c.slots.slots.items c.slots.at _ ∙ before.size;
      done = one_more (λ (t : Trail). rolled t) _ c.slots.slots.items _ c.slots.at _ _ before.count before.size before.done c.slots-test.true c.index.ensures c.rolled.ensures;
    }
