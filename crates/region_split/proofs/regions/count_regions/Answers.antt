-- Copies are at most as many as sites.
use Rattle.std.proofs.Common.{length, take, arith}
use Rattle.std.proofs.lemmas.List.{length-take}
use Rattle.region_split.proofs.Alike.{copies_few}
use Rattle.region_split.proofs.regions.count_regions.Goals as goal

pub overflow_add-count : goal.overflow_add-count
overflow_add-count c = omega (arith, c.sites.invariant, copies_few (take c.sites.site-index c.args.sites.now), length-take c.sites.site-index c.args.sites.now, c.requires)
