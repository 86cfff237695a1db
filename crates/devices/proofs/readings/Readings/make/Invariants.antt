-- Each peripheral has the list that the feeds so far give it, and none is taken.
use Rattle.std.proofs.Common.{◌≡◌, ℕ, take, vec_len}
use Rattle.devices.specs.Reading.{values_in}
use Rattle.devices.specs.Readings.{values_of, issued_of}
use Rattle.devices.proofs.readings.Readings.make.Given as goal

abbrev pub invariant-feeds : goal.invariant-feeds
invariant-feeds l = record {
  count : vec_len l.series ≡ 256;
  values : (p : ℕ) → values_of l.series.items p ≡ values_in (take l.feed-index l.feeds) p;
  issued : (p : ℕ) → issued_of l.series.items p ≡ 0;
}
