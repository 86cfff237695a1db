use Rattle.std.proofs.Common.{◌≡◌, ◌∙◌, ◌+◌, ap, length, length-append, arith}
use Rattle.image_file.proofs.TypedLemmas.{marks_next, marks_end, marks_all}
use Rattle.image_file.proofs.typed.typed_marks.Goals as goal

pub returns-in_default-clause-typed : goal.returns-in_default-clause-typed
returns-in_default-clause-typed c = marks_end c.args.raws.now c.raws.typed c.raws.raw-index c.raws-test.true c.in_default.ensures c.raws.invariant.typed

pub raws-preserved : goal.raws-preserved
raws-preserved c =
    let size : length c.push.new.self ≡ length c.raws.typed + 1 = ap length c.in_ok-push.ensures.ok ∙ length-append c.raws.typed _ in
    record {
      typed = rw c.in_ok-push.ensures.ok (marks_next c.args.raws.now c.raws.typed c.raws.raw-index c.in-Some.kind c.raws-test.true c.in-Some.ensures c.raws.invariant.typed);
      few = omega (arith, size, c.raws.invariant.few);
    }

pub returns-clause-typed : goal.returns-clause-typed
returns-clause-typed c = marks_all c.args.raws.now c.raws.typed c.raws.raw-index c.raws-test.false c.raws.invariant.typed
