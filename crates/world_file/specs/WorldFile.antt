-- The world that bytes are, or the first test that they fail (docs/FORMATS.md, "World files").
use Rattle.std.specs.Prelude.{◌≡◌, ◌≢◌, ◌⊎◌, String, ℕ, not, List, [], map, codes, min, nat_lt, Option, Some, None, Result, Ok, Err, unwrap_or, if◌then◌else◌}
use Rattle.std.specs.Option.{option_map, option_map_or, is_none}
use Rattle.std.specs.BTreeMap.{BTreeMap}
use Rattle.std.specs.declared.alloc.Global.{Global}
use Rattle.toml.specs.View.{table_view}
use Rattle.toml.specs.declared.value.Value.{Value}
use Rattle.toml.specs.Data.{Data, Members, no_members, as_array, as_table, get_member}
use Rattle.ease_base.specs.declared.place.Peripheral.{Peripheral}
use Rattle.devices.specs.World.{steps_of, ticks_of}
use Rattle.devices.specs.declared.world.PowerRow.{PowerRow}
use Rattle.devices.specs.declared.world.Feed.{Feed}
use Rattle.devices.specs.declared.world.World.{World}
use Rattle.world_file.specs.Document.{document, values_of, values_at, pairs_at, word_in}
use Rattle.world_file.specs.Tests.{has_known_keys, has_good_values, has_known_names, number_of}
use Rattle.world_file.specs.declared.error.WorldError.{WorldError}
use Rattle.world_file.specs.declared.error.WorldError.TheVariants.{NotToml, BadKey, BadValue, UnknownPeripheral, TooManySteps, TooManyTicks, NoMemory}

-- ---- the parts of a table that passes the tests

-- a value as a word; 0 for any other
abbrev pub word_of : Data → ℕ
word_of d = unwrap_or (word_in d) 0

-- the word at a key; 0 where none is
abbrev pub word_at : List ℕ → Members → ℕ
word_at key ms = option_map_or word_of (get_member key ms) 0

-- the power row of a table
abbrev pub row_in : Members → PowerRow
row_in ms = record { on = word_at (codes "on") ms; off = word_at (codes "off") ms; fill = word_at (codes "fill") ms }

-- the power row of a value
abbrev pub row_of : Data → PowerRow
row_of d = row_in (unwrap_or (as_table d) no_members)

-- the words of a value; none where it is no array
abbrev pub words_of : Data → List ℕ
words_of d = map word_of (option_map_or values_of (as_array d) [])

-- the feed of a reading
abbrev pub feed_of : List Peripheral → List ℕ × Data → Feed
feed_of names p = record { number = unwrap_or (number_of names p.0) 0; values = words_of p.1 }

-- the power rows, in the file's order
abbrev pub rows_of : Members → List PowerRow
rows_of top = map row_of (values_at (codes "power") top)

-- the feeds, in ascending order of their names' bytes
abbrev pub feeds_of : List Peripheral → Members → List Feed
feeds_of names top = map (feed_of names) (pairs_at (codes "readings") top)

-- the world of the top table
abbrev pub table_world : List Peripheral → Members → World
table_world names top = record { power = rows_of top; feeds = feeds_of names top; retained = map word_of (values_at (codes "retained") top) }

-- ---- the tests in their order

-- a sum as it is told: at most the greatest number of 64 bits
abbrev pub told : ℕ → ℕ
told n = min n 18446744073709551615

-- the first sum that is too great
unfoldable pub sums_fault : List PowerRow → Option WorldError
sums_fault rows =
    if nat_lt 4194304 (steps_of rows) then Some (TooManySteps (told (steps_of rows)))
    else if nat_lt 4294967295 (ticks_of rows) then Some (TooManyTicks (told (ticks_of rows))) else None

-- the first test that the top table fails
unfoldable pub table_fault : List Peripheral → Members → Option WorldError
table_fault names top =
    if not (has_known_keys top) then Some BadKey
    else if not (has_good_values top) then Some BadValue
    else if not (has_known_names names top) then Some UnknownPeripheral else sums_fault (rows_of top)

-- the first test that fails, where the bytes are a table or none
abbrev pub document_fault : List Peripheral → Option Members → Option WorldError
document_fault names None = Some NotToml
document_fault names (Some top) = table_fault names top

-- the first test that the bytes fail
unfoldable pub world_fault : List ℕ → List Peripheral → Option WorldError
world_fault bytes names = document_fault names (document bytes)

-- the world that the bytes are, where they fail no test
unfoldable pub world_of : List ℕ → List Peripheral → Option World
world_of bytes names = if is_none (world_fault bytes names) then option_map (table_world names) (document bytes) else None

-- what a call answers: a value of which P holds where nothing is wrong, else what is wrong; want of memory is free
abbrev pub Answers : {T : Type 0} → Option WorldError → (T → Type 0) → Result T WorldError → Type 0
Answers fault P (Ok v) = (fault ≡ None) × P v
Answers fault P (Err e) = e ≢ NoMemory → fault ≡ Some e

-- the top table, where the bytes are one; else only two causes refuse
abbrev pub IsTop : Option Members → Result (BTreeMap (String Global) Value) WorldError → Type 0
IsTop found (Ok top) = found ≡ Some (table_view top)
IsTop found (Err fault) = (fault ≡ NoMemory) ⊎ ((fault ≡ NotToml) × (found ≡ None))
