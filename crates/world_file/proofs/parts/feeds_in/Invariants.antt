-- The feeds so far, and those of the readings that are left, are those of all readings.
use Rattle.std.proofs.Common.{◌≡◌, ◌++◌, map}
use Rattle.std.specs.List.{All}
use Rattle.devices.specs.World.{IsFeed}
use Rattle.world_file.specs.Document.{pair_of}
use Rattle.world_file.specs.WorldFile.{feed_of}
use Rattle.world_file.proofs.parts.feeds_in.Given as goal

abbrev pub invariant-pairs : goal.invariant-pairs
invariant-pairs l = (l.feeds ++ map (λ e. feed_of l.names (pair_of e)) l.key-iterator ≡ map (λ e. feed_of l.names (pair_of e)) l.readings.entries) × All IsFeed l.feeds
