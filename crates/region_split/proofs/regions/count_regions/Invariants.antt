-- The copies so far.
use Rattle.std.proofs.Common.{◌≡◌, ◌+◌, take}
use Rattle.region_split.specs.Regions.{copies}
use Rattle.region_split.proofs.regions.count_regions.Given as goal

abbrev pub invariant-sites : goal.invariant-sites
invariant-sites l = l.count ≡ copies (take l.site-index l.sites) + 1
