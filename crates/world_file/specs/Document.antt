-- What `toml` makes of bytes: a table. Its pairs stand in ascending order of their keys' bytes.
use Rattle.std.specs.Prelude.{String, string_bytes, ℕ, Bool, false, List, [], ◌∷◌, Option, Some, None, nat_lt, pos, ◌^◌, if◌then◌else◌}
use Rattle.std.specs.List.{list_all}
use Rattle.std.specs.Option.{option_map_or, option_and_then}
use Rattle.std.specs.Str.{is_utf8}
use Rattle.std.specs.declared.alloc.Global.{Global}
use Rattle.toml.specs.View.{view}
use Rattle.toml.specs.declared.value.Value.{Value}
use Rattle.toml.specs.Data.{Data, integer, Items, no_items, item, Members, no_members, member, as_array, as_table, get_member}
use Rattle.toml.specs.Parse.{parse_document}

-- the table that a text in UTF-8 is
abbrev pub document : List ℕ → Option Members
document bytes = if is_utf8 bytes then parse_document bytes else None

-- the values of an array, in order
abbrev pub values_of : Items → List Data
values_of no_items = []
values_of (item d ds) = d ∷ values_of ds

-- the keys of a table with their values, in order
abbrev pub pairs_of : Members → List (List ℕ × Data)
pairs_of no_members = []
pairs_of (member key d ms) = (key, d) ∷ pairs_of ms

-- the values of the array that stands at a key; none where there is no array
abbrev pub values_at : List ℕ → Members → List Data
values_at key top = option_map_or values_of (option_and_then as_array (get_member key top)) []

-- the pairs of the table that stands at a key; none where there is no table
abbrev pub pairs_at : List ℕ → Members → List (List ℕ × Data)
pairs_at key top = option_map_or pairs_of (option_and_then as_table (get_member key top)) []

-- an array whose values all pass a test; false of any other value
abbrev pub all_values : (Data → Bool) → Data → Bool
all_values test d = option_map_or (λ ds. list_all test (values_of ds)) (as_array d) false

-- a table whose pairs all pass a test; false of any other value
abbrev pub all_pairs : (List ℕ × Data → Bool) → Data → Bool
all_pairs test d = option_map_or (λ ms. list_all test (pairs_of ms)) (as_table d) false

-- a whole number from 0 to 4294967295; None of any other value
abbrev pub word_in : Data → Option ℕ
word_in (integer (pos n)) = if nat_lt n (2 ^ 32) then Some n else None
word_in _ = None

-- an entry of a map, as its key and its value
abbrev pub pair_of : String Global × Value → List ℕ × Data
pair_of e = (string_bytes e.0, view e.1)
