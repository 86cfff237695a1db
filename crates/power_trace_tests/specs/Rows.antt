-- Short lists of short power rows.
use Rattle.std.specs.Prelude.{◌<◌, ◌≤◌, List, All, length}
use Rattle.devices.specs.declared.world.PowerRow.{PowerRow}

-- a row of few steps and ticks
pub record IsShort (row : PowerRow) : Type 0 where
  pub on : row.on < 65536
  pub off : row.off < 65536
  pub fill : row.fill < 65536

-- at most two of these
pub record AreShort (rows : List PowerRow) : Type 0 where
  pub few : length rows ≤ 2
  pub each : All IsShort rows
