-- The write, as arrays are seen.
use Rattle.std.proofs.Common.{◌∙◌, ◌<◌, map, length, ap, refl, subst, sym, arith}
use Rattle.std.proofs.lemmas.List.{length-map}
use Rattle.walk_run.specs.Arrays.{IsNarrow}
use Rattle.walk_run.specs.Store.{place, with_word}
use Rattle.walk_run.proofs.ArrayWrites.{view_written, narrow_written, array_is_there}
use Rattle.walk_run.proofs.arrays.Arrays.write.Goals as goal

pub invariant_of-self : goal.invariant_of-self
invariant_of-self c =
    let arrays = c.self.inside.arrays.items in
    let there : c.args.array < length arrays =
    omega (arith, array_is_there c.args.self.now c.args.array c.args.index c.requires, ap length c.self.view_is, length-map arrays (λ v. v.items)) in
    let seen = view_written (λ v. v.items) arrays _ _ _ c.args.array c.args.index c.args.word there c.index_mut-words.ensures.value refl in
    subst IsNarrow (sym seen) (narrow_written (map (λ v. v.items) arrays) c.args.array c.args.index c.args.word c.self.invariant)

pub returns : goal.returns
returns c =
    let arrays = c.self.inside.arrays.items in
    let there : c.args.array < length arrays =
    omega (arith, array_is_there c.args.self.now c.args.array c.args.index c.requires, ap length c.self.view_is, length-map arrays (λ v. v.items)) in
    view_written (λ v. v.items) arrays _ _ _ c.args.array c.args.index c.args.word there c.index_mut-words.ensures.value refl
    ∙ ap (λ words. with_word (place c.args.array c.args.index) c.args.word words) c.self.view_is
