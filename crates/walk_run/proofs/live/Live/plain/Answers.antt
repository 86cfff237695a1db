-- What a statement leaves is a store of each program that the store before was one of.
use Rattle.walk_run.proofs.Fitting.{plain_fits}
use Rattle.walk_run.proofs.live.Live.plain.Goals as goal

pub returns-clause-fits : goal.returns-clause-fits
returns-clause-fits c = plain_fits c.args.s.now c.args.self.now _ _ c.do_one.ensures
