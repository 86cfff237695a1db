-- A world whose sums pass is within the limits: its numbers are words whatever the table says.
use Rattle.std.proofs.Common.{◌≡◌, ◌≤◌, refl, ◌<◌, ◌^◌, ℕ, Bool, true, false, List, map, Option, Some, None, cond, nat_lt, pos, negsuc, arith, unwrap_or, get_or, lit<, codes, sym, subst}
use Rattle.std.proofs.lemmas.Bool.Decides.{nat_tests}
use Rattle.std.proofs.lemmas.List.Elements.{All-map}
use Rattle.std.specs.List.{All}
use Rattle.std.specs.Option.{option_map_or}
use Rattle.toml.specs.Data.{Data, string, integer, float, boolean, datetime, array, table, Members, as_table, no_members, get_member}
use Rattle.devices.specs.World.{AreDistinct, AreWords, IsRow, IsFeed, IsWithinLimits, steps_of, ticks_of}
use Rattle.devices.specs.declared.world.PowerRow.{PowerRow}
use Rattle.devices.specs.declared.world.World.{World}
use Rattle.ease_base.specs.declared.place.Peripheral.{Peripheral}
use Rattle.world_file.specs.Document.{values_at}
use Rattle.world_file.specs.WorldFile.{word_of, row_of, row_in, table_world, told, sums_fault}
use Rattle.world_file.specs.declared.error.WorldError.TheVariants.{TooManySteps, TooManyTicks}

-- a number that is no word is left out
below : (n : ℕ) → unwrap_or (cond (nat_lt n (2 ^ 32)) (Some n) None) 0 < 2 ^ 32
below n = by_test (nat_lt n (2 ^ 32)) refl
  where
    by_test : (t : Bool) → nat_lt n (2 ^ 32) ≡ t → unwrap_or (cond t (Some n) None) 0 < 2 ^ 32
    by_test true is = grind (arith, nat_tests)
    by_test false is = lit< tt

-- a value as a word
pub word_fits : (d : Data) → word_of d < 2 ^ 32
word_fits (string s) = lit< tt
word_fits (integer (pos n)) = below n
word_fits (integer (negsuc n)) = lit< tt
word_fits (float x) = lit< tt
word_fits (boolean b) = lit< tt
word_fits (datetime dt) = lit< tt
word_fits (array ds) = lit< tt
word_fits (table ms) = lit< tt

-- what stands at a key
at_fits : (o : Option Data) → option_map_or word_of o 0 < 2 ^ 32
at_fits None = lit< tt
at_fits (Some d) = word_fits d

-- a power row
row_fits : (ms : Members) → IsRow (row_in ms)
row_fits ms = record { on = at_fits (get_member (codes "on") ms); off = at_fits (get_member (codes "off") ms); fill = at_fits (get_member (codes "fill") ms) }

-- all values of an array
pub words_fit : (ds : List Data) → AreWords (map word_of ds)
words_fit ds = All-map (λ word. word < 2 ^ 32) word_of ds (λ i d h. word_fits (get_or ds i d))

rows_fit : (ds : List Data) → All IsRow (map row_of ds)
rows_fit ds = All-map IsRow row_of ds (λ i d h. row_fits (unwrap_or (as_table (get_or ds i d)) no_members))

-- sums that pass
sums_fit : (rows : List PowerRow) → sums_fault rows ≡ None → (steps_of rows ≤ 4194304) × (ticks_of rows ≤ 4294967295)
unfolding sums_fault
sums_fit rows passes = by_tests (nat_lt 4194304 (steps_of rows)) (nat_lt 4294967295 (ticks_of rows)) refl refl passes
  where
    by_tests : (s t : Bool) → nat_lt 4194304 (steps_of rows) ≡ s → nat_lt 4294967295 (ticks_of rows) ≡ t
        → cond s (Some (TooManySteps (told (steps_of rows)))) (cond t (Some (TooManyTicks (told (ticks_of rows)))) None) ≡ None → (steps_of rows ≤ 4194304) × (ticks_of rows ≤ 4294967295)
    by_tests true t steps ticks e = absurd (grind arith)
    by_tests false true steps ticks e = absurd (grind arith)
    by_tests false false steps ticks e = (grind (arith, nat_tests), grind (arith, nat_tests))

-- a world whose feeds are good
pub world_fits : (names : List Peripheral) (top : Members) (w : World) → w ≡ table_world names top → sums_fault w.power ≡ None → AreDistinct w.feeds → All IsFeed w.feeds → IsWithinLimits w
world_fits names top w made passes distinct feeds =
    let sums = sums_fit w.power passes in
    record {
      distinct = distinct;
      feeds = feeds;
      rows = subst (λ v. All IsRow v.power) (sym made) (rows_fit (values_at (codes "power") top));
      retained = subst (λ v. AreWords v.retained) (sym made) (words_fit (values_at (codes "retained") top));
      steps = sums.0;
      ticks = sums.1;
    }
