-- Each array is there with as many words, and is refreshed in its turn.
use Rattle.std.proofs.Common.{◌∙◌, ap, sym}
use Rattle.walk_run.specs.Arrays.{with_fresh}
use Rattle.walk_run.proofs.Shapes.{stands, fresh_next, shape_there, shape_fresh}
use Rattle.walk_run.proofs.arrays.Arrays.refresh.Goals as goal

pub refresh_one-requires-clause-length : goal.refresh_one-requires-clause-length
refresh_one-requires-clause-length c =
    (shape_there c.args.arrays.now c.arrays.self c.arrays.number _ c.arrays.invariant.shape (stands _ _ _ _ c.arrays-test.true c.index-arrays-number.is)).1

pub arrays-preserved : goal.arrays-preserved
arrays-preserved c =
    let there = stands c.args.arrays.now c.arrays.number _ _ c.arrays-test.true c.index-arrays-number.is in
    record {
      so_far = c.refresh_one.ensures ∙ ap (with_fresh c.index-arrays-number.result c.arrays.number) c.arrays.invariant.so_far
          ∙ sym (fresh_next c.args.arrays.now c.args.self.now c.arrays.number _ there);
      shape = rw c.refresh_one.ensures (shape_fresh c.args.arrays.now c.arrays.self c.arrays.number _ c.arrays.invariant.shape there);
    }
