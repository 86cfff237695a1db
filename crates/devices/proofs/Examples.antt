-- The definitions on small cases, computed; the values on the right were worked out by hand.
use Rattle.std.proofs.Common.{◌≡◌, zero, suc, [], ◌∷◌, All, refl, lit<, lit≤, arith}
use Rattle.std.specs.List.{IsDistinct}
use Rattle.devices.specs.declared.world.Feed.{Feed}
use Rattle.devices.specs.declared.world.PowerRow.{PowerRow}
use Rattle.devices.specs.declared.world.World.{World}
use Rattle.devices.specs.Clock.{clock_at}
use Rattle.devices.specs.Reading.{reading, reading_in, values_in}
use Rattle.devices.specs.Readings.{one_more}
use Rattle.devices.specs.World.{IsRow, IsFeed, IsWithinLimits, AreWords, steps_of, ticks_of}

-- the readings of a list in order, and the last again and again
first_reading : reading (20 ∷ 21 ∷ []) 1 ≡ 20
unfolding reading
first_reading = refl

last_reading : reading (20 ∷ 21 ∷ []) 2 ≡ 21
unfolding reading
last_reading = refl

reading_past_the_end : reading (20 ∷ 21 ∷ []) 9 ≡ 21
unfolding reading
reading_past_the_end = refl

reading_of_none : reading [] 3 ≡ 0
unfolding reading
reading_of_none = refl

-- a kept count rises to the length of the list, and stays there
kept_count : one_more (20 ∷ 21 ∷ []) 1 ≡ 2
kept_count = refl

kept_count_stays : one_more (20 ∷ 21 ∷ []) 2 ≡ 2
kept_count_stays = refl

-- two failures after 3 and 0 steps, and two peripherals, 7 without readings
small_world : World
small_world = record {
  power = record { on = 3; off = 10; fill = 0 } ∷ record { on = 0; off = 5; fill = 1 } ∷ record { on = 10; off = 2; fill = 0 } ∷ [];
  feeds = record { number = 7; values = [] } ∷ record { number = 2; values = 8 ∷ 9 ∷ [] } ∷ [];
  retained = [];
}

reading_of_peripheral_2 : reading_in small_world.feeds 2 1 ≡ 8
unfolding reading values_in small_world
reading_of_peripheral_2 = refl

reading_of_peripheral_7 : reading_in small_world.feeds 7 1 ≡ 0
unfolding reading values_in small_world
reading_of_peripheral_7 = refl

reading_without_feed : reading_in small_world.feeds 0 1 ≡ 0
unfolding reading values_in small_world
reading_without_feed = refl

-- the clock before the first step, before the last one of the first row, and before the one behind both failures
clock_at_first_step : clock_at small_world.power 1 ≡ 0
unfolding small_world
clock_at_first_step = refl

clock_before_failures : clock_at small_world.power 3 ≡ 2
unfolding small_world
clock_before_failures = refl

clock_behind_failures : clock_at small_world.power 4 ≡ 18
unfolding small_world
clock_behind_failures = refl

clock_at_last_step : clock_at small_world.power 13 ≡ 27
unfolding small_world
clock_at_last_step = refl

-- behind the last row no failure follows
clock_behind_the_end : clock_at small_world.power 14 ≡ 28
unfolding small_world
clock_behind_the_end = refl

-- all steps, and all ticks, those behind the last row among them
steps_of_world : steps_of small_world.power ≡ 13
unfolding small_world
steps_of_world = refl

ticks_of_world : ticks_of small_world.power ≡ 30
unfolding small_world
ticks_of_world = refl

-- a world of one row and one feed is within the limits
one_row : PowerRow
one_row = record { on = 4194304; off = 4290772991; fill = 4294967295 }

one_feed : Feed
one_feed = record { number = 255; values = 4294967295 ∷ [] }

-- its words, its row and its feed
last_word : AreWords (4294967295 ∷ [])
last_word zero d h = lit< tt
last_word (suc k) d h = absurd (omega arith)

row_within : All IsRow (one_row ∷ [])
unfolding one_row
row_within zero d h = record { on = lit< tt; off = lit< tt; fill = lit< tt }
row_within (suc k) d h = absurd (omega arith)

feed_within : All IsFeed (one_feed ∷ [])
unfolding one_feed
feed_within zero d h = record { number = lit< tt; values = last_word }
feed_within (suc k) d h = absurd (omega arith)

largest_world : IsWithinLimits (record { power = one_row ∷ []; feeds = one_feed ∷ []; retained = 4294967295 ∷ [] })
unfolding one_row one_feed IsDistinct
largest_world = record {
  distinct = (tt, tt);
  feeds = feed_within;
  rows = row_within;
  retained = last_word;
  steps = lit≤ tt;
  ticks = lit≤ tt;
}
