-- Each array is taken over in its turn.
use Rattle.std.proofs.Common.{◌∙◌, ◌<◌, length, ap, sym, arith}
use Rattle.std.proofs.lemmas.List.{length-map}
use Rattle.walk_run.proofs.Shapes.{lengths_alike}
use Rattle.walk_run.proofs.ArrayWrites.{taken_over}
use Rattle.walk_run.proofs.arrays.Arrays.set_to.Goals as goal

pub reset-requires-clause-length : goal.reset-requires-clause-length
reset-requires-clause-length c =
    lengths_alike c.arrays.self c.args.other.now c.arrays.number c.arrays.invariant.shape ∙ ap length (sym c.words.ensures)

pub arrays-preserved : goal.arrays-preserved
arrays-preserved c =
    let there : c.arrays.number < length c.args.other.now =
    omega (arith, c.arrays-test.true, c.len-number-end.ensures, ap length c.other.view_is, length-map c.other.inside.arrays.items (λ v. v.items)) in
    let step = taken_over c.arrays.self c.args.other.now c.reset.new.self c.arrays.number _ there c.arrays.invariant.shape c.arrays.invariant.so_far c.words.ensures c.reset.ensures in
    record { so_far = step.0; shape = step.1 }
