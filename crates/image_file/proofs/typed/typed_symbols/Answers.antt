use Rattle.std.proofs.Common.{◌≡◌, ◌∙◌, ◌+◌, ap, length, length-append, arith}
use Rattle.image_file.proofs.TypedLemmas.{symbols_next, symbols_end, symbols_all}
use Rattle.image_file.proofs.typed.typed_symbols.Goals as goal

pub returns-in_default-clause-typed : goal.returns-in_default-clause-typed
returns-in_default-clause-typed c = symbols_end c.args.raws.now c.raws.typed c.raws.raw-index c.raw-item.result c.raws-test.true c.raw-item.is c.in_default.ensures c.raws.invariant.typed

pub raws-preserved : goal.raws-preserved
raws-preserved c =
    let size : length c.push.new.self ≡ length c.raws.typed + 1 = ap length c.in_ok-push.ensures.ok ∙ length-append c.raws.typed _ in
    record {
      typed = rw c.in_ok-push.ensures.ok (symbols_next c.args.raws.now c.raws.typed c.raws.raw-index c.raw-item.result c.in-Some.kind c.in_ok-from_slice.field-0
          c.raws-test.true c.raw-item.is c.in-Some.ensures (c.in_ok-from_slice.ensures ∙ c.as_slice.ensures) c.raws.invariant.typed);
      few = omega (arith, size, c.raws.invariant.few);
    }

pub returns-clause-typed : goal.returns-clause-typed
returns-clause-typed c = symbols_all c.args.raws.now c.raws.typed c.raws.raw-index c.raws-test.false c.raws.invariant.typed
