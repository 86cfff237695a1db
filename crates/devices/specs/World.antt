-- Which worlds are within the limits (docs/MACHINE.md, "Worlds").
use Rattle.std.specs.Prelude.{ℕ, ◌+◌, ◌<◌, ◌≤◌, ◌^◌, List, All, map, nat_eq, sum_by}
use Rattle.std.specs.List.{IsDistinct}
use Rattle.devices.specs.declared.world.Feed.{Feed}
use Rattle.devices.specs.declared.world.PowerRow.{PowerRow}
use Rattle.devices.specs.declared.world.World.{World}

-- no two feeds are of one peripheral
abbrev pub AreDistinct : List Feed → Type 0
AreDistinct feeds = IsDistinct nat_eq (map (λ feed. feed.number) feeds)

-- every number of the list is a word
abbrev pub AreWords : List ℕ → Type 0
AreWords words = All (λ word. word < 2 ^ 32) words

-- the three numbers of a power row are words
pub record IsRow (row : PowerRow) : Type 0 where
  pub on : row.on < 2 ^ 32
  pub off : row.off < 2 ^ 32
  pub fill : row.fill < 2 ^ 32

-- a feed is of a peripheral from 0 to 255, and its readings are words
pub record IsFeed (feed : Feed) : Type 0 where
  pub number : feed.number < 256
  pub values : AreWords feed.values

-- all steps that the power rows last
abbrev pub steps_of : List PowerRow → ℕ
steps_of rows = sum_by (λ row. row.on) rows

-- all ticks that the power rows and the failures behind them last
abbrev pub ticks_of : List PowerRow → ℕ
ticks_of rows = sum_by (λ row. row.on + row.off) rows

-- a world within the limits: distinct peripherals, words, at most 4194304 steps and at most 4294967295 ticks
pub record IsWithinLimits (world : World) : Type 0 where
  pub distinct : AreDistinct world.feeds
  pub feeds : All IsFeed world.feeds
  pub rows : All IsRow world.power
  pub retained : AreWords world.retained
  pub steps : steps_of world.power ≤ 4194304
  pub ticks : ticks_of world.power ≤ 4294967295
