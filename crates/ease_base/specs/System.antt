-- What the adapters over the system count.
use Rattle.std.specs.Prelude.{ℕ, Result, Ok, Err}
use Rattle.ease_base.specs.declared.error.FetchError.{FetchError}
use Rattle.ease_base.specs.declared.error.FetchError.TheVariants.{Failed, TooLong, NoMemory}
use Rattle.ease_base.specs.Count.{raised}

-- the errors of the system, and the files that were too long
pub record FileCounts : Type 0 where
  pub faults : ℕ
  pub long_contents : ℕ

-- the count of faults after an answer: each Failed raises it, nothing else changes it
abbrev pub faulted : ℕ → Result (Unit {0}) FetchError → ℕ
faulted count (Err Failed) = raised count
faulted count (Err TooLong) = count
faulted count (Err NoMemory) = count
faulted count (Ok done) = count
