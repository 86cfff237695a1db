use Rattle.std.proofs.Common.{◌≡◌, ◌∙◌, ◌+◌, sym, ap, length, length-append, option_map}
use Rattle.image_file.specs.Layout.{peripheral}
use Rattle.image_file.specs.ManyLaws.{many_next}
use Rattle.image_file.proofs.lists.many_peripherals.Goals as goal

pub items-preserved : goal.items-preserved
items-preserved c =
    let read = sym c.in_ok-item.ensures ∙ ap (option_map (λ p. (p.0, p.1.now))) c.in-Some.is in
    let size : length c.push.new.self ≡ length c.items.items + 1 = ap length c.in_ok-push.ensures.ok ∙ length-append c.items.items _ in
    record {
      read = rw c.in_ok-push.ensures.ok (many_next peripheral.read c.args.count c.items._item c.items.items c.items.rest.now c.in-Some.behind.now c.in-Some.item _ c.items-test.true read c.items.invariant.read);
      counted = size ∙ ap (λ n. n + 1) c.items.invariant.counted;
    }
