-- Which reading an issue of a peripheral takes (docs/MACHINE.md, "Readings").
use Rattle.std.specs.Prelude.{ℕ, ◌-◌, List, [], ◌∷◌, ◌==◌, length, min, slice_index, if◌then◌else◌}
use Rattle.devices.specs.declared.world.Feed.{Feed}

-- the k-th reading of a list, from 1: past the end the last one, and 0 where there is none
unfoldable pub reading : List ℕ → ℕ → ℕ
reading values k = slice_index values (min k (length values) - 1)

-- the list of a peripheral: that of the first feed with its number, empty where there is none
unfoldable pub values_in : List Feed → ℕ → List ℕ
values_in [] p = []
values_in (feed ∷ feeds) p = if feed.number == p then feed.values else values_in feeds p

-- what the k-th issue of a peripheral takes, from 1, over all boots of a run with these feeds
abbrev pub reading_in : List Feed → ℕ → ℕ → ℕ
reading_in feeds p k = reading (values_in feeds p) k
