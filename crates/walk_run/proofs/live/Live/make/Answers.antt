-- The store that a program starts with.
use Rattle.std.proofs.Common.{map, subst, sym}
use Rattle.walk_run.specs.Arrays.{IsNarrow}
use Rattle.walk_run.proofs.Stores.{narrow_declared, made_fits}
use Rattle.walk_run.proofs.live.Live.make.Goals as goal

pub declared-requires : goal.declared-requires
declared-requires c = record { narrow = subst (λ arrays. IsNarrow (map (λ a. a.first) arrays)) (sym c.as_slice.ensures) (narrow_declared c.args.c.now c.requires) }

pub returns-clause-fits : goal.returns-clause-fits
returns-clause-fits c = made_fits c.args.c.now _ _ _ _ c.as_slice.ensures c.as_slice-2.ensures c.in_ok-arrays.ensures c.in_ok-pointers.ensures
