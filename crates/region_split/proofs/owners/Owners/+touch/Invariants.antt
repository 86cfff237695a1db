-- What is left gives what the whole gives.
use Rattle.std.proofs.Common.{◌≡◌, drop}
use Rattle.io_depend.specs.Rows.{listed}
use Rattle.region_split.specs.Owners.{all_touched}
use Rattle.region_split.proofs.owners.Owners.+touch.Given as goal

abbrev pub invariant-touch-statements : goal.invariant-touch-statements
invariant-touch-statements l = all_touched (listed l.d.points) (drop l.s-index l.body) l.self ≡ all_touched (listed l.d.points) l.body l.initial.self
