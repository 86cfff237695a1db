-- The world of a soak is within the limits.
use Rattle.std.specs.Prelude.{◌^◌, ◌<◌, ◌≤◌, All, nat_eq}
use Rattle.std.specs.List.{IsDistinct}
use Rattle.std.proofs.Common.{ℕ, zero, suc, ◌+◌, ◌*◌, [], ◌∷◌, refl, arith}
use Rattle.std.proofs.lemmas.List.Sums.{sum_by-cons}
use Rattle.std.proofs.lemmas.List.Elements.{All-cons, All-nil}
use Rattle.std.proofs.lemmas.Map.Keys.{IsDistinct-cons}
use Rattle.devices.specs.World.{AreWords, IsFeed, IsRow, IsWithinLimits, steps_of, ticks_of}
use Rattle.devices.specs.declared.world.Feed.{Feed}
use Rattle.devices.specs.declared.world.PowerRow.{PowerRow}
use Rattle.soak_case.specs.Draws.{drawn_below, state_behind}
use Rattle.soak_case.specs.Readings.{readings_drawn, row_drawn, rows_drawn, world_from}

less_thousand : (s : ℕ) → drawn_below 1000 s < 1000
less_thousand s = omega arith

less_two_thousand : (s : ℕ) → drawn_below 2000 s < 2000
less_two_thousand s = omega arith

less_half_word : (s : ℕ) → drawn_below 65536 s < 65536
less_half_word s = omega arith

row_within : (s : ℕ) → IsRow (row_drawn s)
row_within s = record {
  on = omega (arith, less_two_thousand (state_behind 1 s));
  off = omega (arith, less_two_thousand (state_behind 2 s));
  fill = omega (arith, less_half_word (state_behind 3 s));
}

rows_within : (n s : ℕ) → All IsRow (rows_drawn n s)
unfolding rows_drawn
rows_within zero s = All-nil IsRow
rows_within (suc n) s = All-cons IsRow (row_drawn s) (rows_drawn n (state_behind 3 s)) (row_within s) (rows_within n (state_behind 3 s))

-- each row is of fewer than 10,000 steps and fewer than 12,000 ticks
steps_few : (n s : ℕ) → steps_of (rows_drawn n s) ≤ n * 9999
unfolding rows_drawn
steps_few zero s = omega arith
steps_few (suc n) s = omega (arith, sum_by-cons (λ (row : PowerRow). row.on) (row_drawn s) (rows_drawn n (state_behind 3 s)), less_two_thousand (state_behind 1 s), steps_few n (state_behind 3 s))

ticks_few : (n s : ℕ) → ticks_of (rows_drawn n s) ≤ n * 11998
unfolding rows_drawn
ticks_few zero s = omega arith
ticks_few (suc n) s =
    omega (arith, sum_by-cons (λ (row : PowerRow). row.on + row.off) (row_drawn s) (rows_drawn n (state_behind 3 s)), less_two_thousand (state_behind 1 s), less_two_thousand (state_behind 2 s), ticks_few n (state_behind 3 s))

readings_within : (n s : ℕ) → AreWords (readings_drawn n s)
unfolding readings_drawn
readings_within zero s = All-nil (λ (word : ℕ). word < 2 ^ 32)
readings_within (suc n) s =
    All-cons (λ (word : ℕ). word < 2 ^ 32) (drawn_below 1000 (state_behind 1 s)) (readings_drawn n (state_behind 1 s)) (omega (arith, less_thousand (state_behind 1 s))) (readings_within n (state_behind 1 s))

pub world_within : (s : ℕ) → IsWithinLimits (world_from s)
unfolding IsDistinct
world_within s = record {
  distinct = IsDistinct-cons nat_eq 0 (1 ∷ []) (refl, tt) (IsDistinct-cons nat_eq 1 [] tt tt);
  feeds = All-cons IsFeed first (second ∷ []) (record { number = omega arith; values = readings_within 64 (state_behind 1200 s) })
      (All-cons IsFeed second [] (record { number = omega arith; values = readings_within 16 (state_behind 64 (state_behind 1200 s)) }) (All-nil IsFeed));
  rows = rows_within 400 s;
  retained = All-nil (λ (word : ℕ). word < 2 ^ 32);
  steps = omega (arith, steps_few 400 s);
  ticks = omega (arith, ticks_few 400 s);
}
  where
    first : Feed
    first = record { number = 0; values = readings_drawn 64 (state_behind 1200 s) }

    second : Feed
    second = record { number = 1; values = readings_drawn 16 (state_behind 64 (state_behind 1200 s)) }
