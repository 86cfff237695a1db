-- What is looked for in the table of a world file, test by test (docs/FORMATS.md, "World files").
use Rattle.std.specs.Prelude.{ℕ, Bool, true, ◌&&◌, ◌||◌, List, codes, Option}
use Rattle.std.specs.List.{list_all, find}
use Rattle.std.specs.Option.{option_map, option_map_or, is_some}
use Rattle.std.specs.Str.{bytes_eq}
use Rattle.toml.specs.Data.{Data, Members, as_table, get_member}
use Rattle.ease_base.specs.declared.place.Peripheral.{Peripheral}
use Rattle.world_file.specs.Document.{pairs_of, values_at, pairs_at, all_values, all_pairs, word_in}

-- ---- keys

-- the keys of the top table
abbrev pub is_top_key : List ℕ → Bool
is_top_key key = bytes_eq key (codes "retained") || bytes_eq key (codes "power") || bytes_eq key (codes "readings")

-- the keys of a power row
abbrev pub is_row_key : List ℕ → Bool
is_row_key key = bytes_eq key (codes "on") || bytes_eq key (codes "off") || bytes_eq key (codes "fill")

-- a table has `on`, and no key but the three
abbrev pub are_row_keys : Members → Bool
are_row_keys ms = list_all (λ p. is_row_key p.0) (pairs_of ms) && is_some (get_member (codes "on") ms)

-- a power row that is a table has such keys
abbrev pub has_row_keys : Data → Bool
has_row_keys d = option_map_or are_row_keys (as_table d) true

-- no key of the top table or of a power row is unknown, and no row lacks `on`
abbrev pub has_known_keys : Members → Bool
has_known_keys top = list_all (λ p. is_top_key p.0) (pairs_of top) && list_all has_row_keys (values_at (codes "power") top)

-- ---- values

-- the value is a word
abbrev pub is_word : Data → Bool
is_word d = is_some (word_in d)

-- the value is an array of words
abbrev pub are_words : Data → Bool
are_words d = all_values is_word d

-- the value is a table whose values are words
abbrev pub is_row : Data → Bool
is_row d = all_pairs (λ p. is_word p.1) d

-- the value is an array of such tables
abbrev pub are_rows : Data → Bool
are_rows d = all_values is_row d

-- the value is a table whose values are arrays of words
abbrev pub are_readings : Data → Bool
are_readings d = all_pairs (λ p. are_words p.1) d

-- each of the three is absent or what it has to be
abbrev pub has_good_values : Members → Bool
has_good_values top =
    option_map_or are_rows (get_member (codes "power") top) true && option_map_or are_words (get_member (codes "retained") top) true
    && option_map_or are_readings (get_member (codes "readings") top) true

-- ---- names

-- the number of the peripheral of this name
abbrev pub number_of : List Peripheral → List ℕ → Option ℕ
number_of names key = option_map (λ p. p.number) (find (λ p. bytes_eq p.name key) names)

-- each key of the readings is a peripheral's name
abbrev pub has_known_names : List Peripheral → Members → Bool
has_known_names names top = list_all (λ p. is_some (number_of names p.0)) (pairs_at (codes "readings") top)
