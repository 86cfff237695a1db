-- The store when a task begins.
use Rattle.std.proofs.Common.{refl, subst, sym}
use Rattle.walk_run.specs.Store.{Fits}
use Rattle.walk_run.proofs.Stores.{begun, fits_fresh}
use Rattle.walk_run.proofs.live.Live.begin.Goals as goal

pub returns-clause-fresh : goal.returns-clause-fresh
returns-clause-fresh c =
    begun c.args.c.now c.args.self.now _ _ _ _ _ _ c.self.view_is c.requires c.as_slice.ensures c.refresh.ensures refl c.unset_all.ensures

pub returns-clause-fits : goal.returns-clause-fits
returns-clause-fits c =
    let is = begun c.args.c.now c.args.self.now _ _ _ _ _ _ c.self.view_is c.requires c.as_slice.ensures c.refresh.ensures refl c.unset_all.ensures in
    subst (Fits c.args.c.now) (sym is) (fits_fresh c.args.c.now c.args.self.now c.requires)
