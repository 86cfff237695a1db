-- A kept count that stands still at the end of the list tells the reading and the count of every later issue.
use Rattle.std.specs.Prelude.{◌≡◌, ℕ, ◌+◌, ◌-◌, List, length, min}
use Rattle.std.proofs.Common.{ap, get_or, arith}
use Rattle.devices.specs.Reading.{reading}
use Rattle.devices.specs.Readings.{one_more}

-- the reading behind so many issues is the one behind the kept count
pub reading_kept : (values : List ℕ) (k : ℕ) → reading values (min k (length values) + 1) ≡ reading values (k + 1)
unfolding reading
reading_kept values k =
    let place : min (min k (length values) + 1) (length values) - 1 ≡ min (k + 1) (length values) - 1 = omega arith in
    ap (λ i. get_or values i 0) place

-- one more of the kept count is the kept count of one more
pub count_kept : (values : List ℕ) (k : ℕ) → one_more values (min k (length values)) ≡ min (k + 1) (length values)
count_kept values k = omega arith
