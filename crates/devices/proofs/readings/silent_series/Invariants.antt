-- So many series are made as there were turns, all of them silent.
use Rattle.std.proofs.Common.{◌≡◌, ℕ, get_or, vec_len}
use Rattle.devices.specs.Readings.{silent}
use Rattle.devices.proofs.readings.silent_series.Given as goal

abbrev pub invariant-peripherals : goal.invariant-peripherals
invariant-peripherals l = record {
  count : vec_len l.series ≡ l._number;
  silent : (k : ℕ) → get_or l.series.items k silent ≡ silent;
}
