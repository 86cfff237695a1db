-- Tests and lists of the tree, as those of the vector and the map that code walks.
use Rattle.std.proofs.Common.{◌≡◌, ℕ, Bool, List, [], ◌∷◌, map, String, Global, refl, ap, ◌∙◌}
use Rattle.std.specs.List.{list_all}
use Rattle.std.proofs.lemmas.List.Folds.{list_all-map}
use Rattle.std.proofs.Common.{sym, Option, Some, Vec, BTreeMap, false}
use Rattle.std.specs.Option.{option_map_or, option_and_then}
use Rattle.toml.specs.Data.{Data, Items, Members, as_array, as_table, get_member}
use Rattle.toml.specs.View.{view, items_view, members_view, array_view, table_view}
use Rattle.toml.specs.declared.value.Value.{Value}
use Rattle.world_file.specs.Document.{pair_of, values_of, pairs_of, all_values, all_pairs, values_at, pairs_at}

pub values_seen : (vs : List Value) → values_of (items_view vs) ≡ map view vs
values_seen [] = refl
values_seen (v ∷ vs) = ap (λ ds. view v ∷ ds) (values_seen vs)

pub pairs_seen : (es : List (String Global × Value)) → pairs_of (members_view es) ≡ map pair_of es
pairs_seen [] = refl
pairs_seen (e ∷ es) = ap (λ ps. pair_of e ∷ ps) (pairs_seen es)

-- a test of each value
pub all_values_seen : (test : Data → Bool) (vs : List Value) → list_all test (values_of (items_view vs)) ≡ list_all (λ v. test (view v)) vs
all_values_seen test vs = ap (list_all test) (values_seen vs) ∙ list_all-map test view vs

-- a test of each key and value
pub all_pairs_seen : (test : List ℕ × Data → Bool) (es : List (String Global × Value)) → list_all test (pairs_of (members_view es)) ≡ list_all (λ e. test (pair_of e)) es
all_pairs_seen test es = ap (list_all test) (pairs_seen es) ∙ list_all-map test pair_of es

-- a test of all values of an array that code has found in a value, and of all pairs of such a table
pub values_told : (test : Data → Bool) (d : Data) (array : Vec Value Global) → as_array d ≡ Some (array_view array) → list_all (λ v. test (view v)) array.items ≡ all_values test d
values_told test d array told = sym (ap (λ (o : Option Items). option_map_or (λ ds. list_all test (values_of ds)) o false) told ∙ all_values_seen test array.items)

pub pairs_told : (test : List ℕ × Data → Bool) (d : Data) (map : BTreeMap (String Global) Value) → as_table d ≡ Some (table_view map) → list_all (λ e. test (pair_of e)) map.entries ≡ all_pairs test d
pairs_told test d map told = sym (ap (λ (o : Option Members). option_map_or (λ ms. list_all test (pairs_of ms)) o false) told ∙ all_pairs_seen test map.entries)

-- the same of an array and of a table that code has found at a key
pub values_told_at : (test : Data → Bool) (key : List ℕ) (top : Members) (array : Vec Value Global) → option_and_then as_array (get_member key top) ≡ Some (array_view array) → list_all (λ v. test (view v)) array.items ≡ list_all test (values_at key top)
values_told_at test key top array told = sym (ap (λ (o : Option Items). list_all test (option_map_or values_of o [])) told ∙ all_values_seen test array.items)

pub pairs_told_at : (test : List ℕ × Data → Bool) (key : List ℕ) (top : Members) (map : BTreeMap (String Global) Value) → option_and_then as_table (get_member key top) ≡ Some (table_view map) → list_all (λ e. test (pair_of e)) map.entries ≡ list_all test (pairs_at key top)
pairs_told_at test key top map told = sym (ap (λ (o : Option Members). list_all test (option_map_or pairs_of o [])) told ∙ all_pairs_seen test map.entries)

map_seen : {A B C : Type 0} (f : B → C) (g : A → B) (xs : List A) → map f (map g xs) ≡ map (λ x. f (g x)) xs
map_seen f g [] = refl
map_seen f g (x ∷ xs) = ap (λ ys. f (g x) ∷ ys) (map_seen f g xs)

-- what is made of all values of such an array, and of all pairs of such a table
pub mapped_values : {A : Type 0} (f : Data → A) (o : Option Items) (array : Vec Value Global) → o ≡ Some (array_view array) → map (λ v. f (view v)) array.items ≡ map f (option_map_or values_of o [])
mapped_values f o array told = sym (ap (λ (p : Option Items). map f (option_map_or values_of p [])) told ∙ ap (map f) (values_seen array.items) ∙ map_seen f view array.items)

pub mapped_pairs : {A : Type 0} (f : List ℕ × Data → A) (o : Option Members) (m : BTreeMap (String Global) Value) → o ≡ Some (table_view m) → map (λ e. f (pair_of e)) m.entries ≡ map f (option_map_or pairs_of o [])
mapped_pairs f o m told = sym (ap (λ (p : Option Members). map f (option_map_or pairs_of p [])) told ∙ ap (map f) (pairs_seen m.entries) ∙ map_seen f pair_of m.entries)
