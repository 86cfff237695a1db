-- The words that are set, as arrays are seen.
use Rattle.std.proofs.Common.{subst, sym}
use Rattle.walk_run.specs.Arrays.{IsNarrow}
use Rattle.walk_run.proofs.ArrayWrites.{view_reset, narrow_set}
use Rattle.walk_run.proofs.arrays.Arrays.reset.Goals as goal

pub invariant_of-self : goal.invariant_of-self
invariant_of-self c =
    let seen = view_reset (λ v. v.items) c.self.inside.arrays.items _ c.args.number c.args.first.now c.args.self.now c.self.view_is c.copy_from_slice.ensures.items in
    subst IsNarrow (sym seen) (narrow_set c.args.self.now c.args.number c.args.first.now (sym c.requires.length) (subst IsNarrow c.self.view_is c.self.invariant))

pub returns : goal.returns
returns c = view_reset (λ v. v.items) c.self.inside.arrays.items _ c.args.number c.args.first.now c.args.self.now c.self.view_is c.copy_from_slice.ensures.items
