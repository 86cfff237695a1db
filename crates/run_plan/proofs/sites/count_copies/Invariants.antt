-- The copies so far.
use Rattle.std.proofs.Common.{◌≡◌, min, take}
use Rattle.region_split.specs.Regions.{copies}
use Rattle.run_plan.proofs.sites.count_copies.Given as goal

abbrev pub invariant-sites : goal.invariant-sites
invariant-sites l = l.count ≡ min (copies (take l.site-index l.sites)) 4294967295
