-- One trail more.
use Rattle.std.proofs.Common.{◌∙◌, refl, sym, get_or, arith}
use Rattle.std.proofs.lemmas.List.{length-set, get_or_default}
use Rattle.ease_debug.proofs.SlotLemmas.{one_more, wrote_untrodden}
use Rattle.ease_debug.specs.Trails.{untrodden}
use Rattle.ease_debug.specs.declared.trail.Trail.{Trail}
use Rattle.ease_debug.proofs.trails.clear.Goals as goal

pub slots-preserved : goal.slots-preserved
slots-preserved c =
    let before = c.slots.invariant in
    record {
      count = before.count ∙ sym (length-set c.slots.slots.items c.slots.at _);
      size = length-set c.slots.slots.items c.slots.at _ ∙ before.size;
      done = wrote_untrodden _ _ _ _ _ c.untrodden.ensures (one_more (λ (_ : Trail). untrodden) _ c.slots.slots.items _ c.slots.at (get_or c.slots.slots.items c.slots.at untrodden) untrodden before.count before.size before.done c.slots-test.true (sym (get_or_default c.slots.slots.items c.slots.at _ untrodden (omega (arith, before.count, c.slots-test.true)))) refl);
    }
