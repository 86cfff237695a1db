-- Feeds of different names have different numbers, where the peripherals are apart.
use Rattle.std.proofs.Common.{◌≡◌, refl, sym, ap, ◌∙◌, subst, ℕ, Bool, true, false, cond, nat_eq, List, [], ◌∷◌, ◌++◌, append_assoc, map, Option, Some, None, unwrap_or, is_some, String, Global, string_bytes, nat_cmp, Less, Equal, bytes_eq, arith}
use Rattle.std.proofs.lemmas.Bool.{and_parts}
use Rattle.std.proofs.lemmas.Bool.Decides.{nat_tests}
use Rattle.std.proofs.lemmas.Cmp.{nat_list_cmp_total}
use Rattle.std.proofs.lemmas.Slice.Eq.{bytes_eq-Decides}
use Rattle.std.specs.Cmp.{tied_itself}
use Rattle.std.specs.Cmp.Lexicographic.{slice_cmp}
use Rattle.std.specs.List.{AllByRecursion, IsDistinct, list_all, find}
use Rattle.std.specs.List.Sorted.{IsStrictlySortedBy}
use Rattle.std.specs.Map.{keys_of}
use Rattle.std.specs.Option.{option_map}
use Rattle.std.specs.String.{string_cmp}
use Rattle.devices.specs.World.{AreDistinct}
use Rattle.devices.specs.declared.world.Feed.{Feed}
use Rattle.ease_base.specs.declared.place.Peripheral.{Peripheral}
use Rattle.toml.specs.declared.value.Value.{Value}
use Rattle.world_file.specs.Document.{pair_of}
use Rattle.world_file.specs.Tests.{number_of}
use Rattle.world_file.specs.WorldFile.{feed_of}

abbrev pub Entry : Type 0
Entry = String Global × Value

-- the numbers of peripherals
abbrev numbers : List Peripheral → List ℕ
numbers names = map (λ p. p.number) names

-- a number that none of the peripherals has is none that a name has
number_differs : (n : ℕ) (names : List Peripheral) (key : List ℕ) (m : ℕ) → AllByRecursion (λ y. nat_eq n y ≡ false) (numbers names) → number_of names key ≡ Some m → nat_eq n m ≡ false
number_differs n [] key m apart found = grind arith
number_differs n (p ∷ ps) key m apart found =
    by_test (bytes_eq p.name key) (λ e. number_differs n ps key m apart.1 e) found
  where
    by_test : (t : Bool) → (number_of ps key ≡ Some m → nat_eq n m ≡ false) → option_map (λ (q : Peripheral). q.number) (cond t (Some p) (find (λ q. bytes_eq q.name key) ps)) ≡ Some m → nat_eq n m ≡ false
    by_test true rest e = let h = apart.0 in grind arith
    by_test false rest e = rest e

-- one number belongs to one name
same_name : (names : List Peripheral) (k l : List ℕ) (n : ℕ) → IsDistinct nat_eq (numbers names) → number_of names k ≡ Some n → number_of names l ≡ Some n → k ≡ l
unfolding IsDistinct
same_name [] k l n apart one other = absurd (grind arith)
same_name (p ∷ ps) k l n apart one other =
    by_tests (bytes_eq p.name k) (bytes_eq p.name l) refl refl one other (number_differs p.number ps k n apart.0) (number_differs p.number ps l n apart.0) (same_name ps k l n apart.1)
  where
    by_tests : (s t : Bool) → bytes_eq p.name k ≡ s → bytes_eq p.name l ≡ t
        → option_map (λ (q : Peripheral). q.number) (cond s (Some p) (find (λ q. bytes_eq q.name k) ps)) ≡ Some n
        → option_map (λ (q : Peripheral). q.number) (cond t (Some p) (find (λ q. bytes_eq q.name l) ps)) ≡ Some n
        → (number_of ps k ≡ Some n → nat_eq p.number n ≡ false) → (number_of ps l ≡ Some n → nat_eq p.number n ≡ false)
        → (number_of ps k ≡ Some n → number_of ps l ≡ Some n → k ≡ l) → k ≡ l
    by_tests true true first second e f no_k no_l rest = sym ((bytes_eq-Decides p.name k).0 first) ∙ (bytes_eq-Decides p.name l).0 second
    by_tests true false first second e f no_k no_l rest = let h = no_l f in absurd (grind (arith, nat_tests))
    by_tests false true first second e f no_k no_l rest = let h = no_k e in absurd (grind (arith, nat_tests))
    by_tests false false first second e f no_k no_l rest = rest e f

-- a test that can't be true is false
not_true : (t : Bool) → (t ≡ true → ⊥) → t ≡ false
not_true true h = absurd (h refl)
not_true false h = refl

-- the numbers of two known names, of which one comes first
numbers_differ : (names : List Peripheral) (k l : List ℕ) (m n : Option ℕ) → IsDistinct nat_eq (numbers names) → number_of names k ≡ m → number_of names l ≡ n → is_some m ≡ true → is_some n ≡ true
    → slice_cmp nat_cmp k l ≡ Less → nat_eq (unwrap_or m 0) (unwrap_or n 0) ≡ false
numbers_differ names k l None n apart one other known also order = absurd (grind arith)
numbers_differ names k l (Some m) None apart one other known also order = absurd (grind arith)
numbers_differ names k l (Some m) (Some n) apart one other known also order = not_true (nat_eq m n) (λ even.
    let same : m ≡ n = grind (arith, nat_tests) in
    let name : k ≡ l = same_name names k l n apart (one ∙ ap Some same) other in
    let tied : slice_cmp nat_cmp k l ≡ Equal = subst (λ l'. slice_cmp nat_cmp k l' ≡ Equal) name (tied_itself nat_list_cmp_total k) in
    grind arith)

-- the number of a feed differs from those of all later feeds
later_differ : (names : List Peripheral) (e : Entry) (es : List Entry) → IsDistinct nat_eq (numbers names) → is_some (number_of names (string_bytes e.0)) ≡ true
    → list_all (λ e. is_some (number_of names (string_bytes e.0))) es ≡ true → AllByRecursion (λ y. string_cmp e.0 y ≡ Less) (keys_of es)
    → AllByRecursion (λ y. nat_eq (feed_of names (pair_of e)).number y ≡ false) (map (λ f. f.number) (map (λ e. feed_of names (pair_of e)) es))
later_differ names e [] apart known also order = tt
later_differ names e (f ∷ es) apart known also order =
    let (here, more) = and_parts (is_some (number_of names (string_bytes f.0))) (list_all (λ e. is_some (number_of names (string_bytes e.0))) es) also in
    (numbers_differ names (string_bytes e.0) (string_bytes f.0) _ _ apart refl refl known here order.0, later_differ names e es apart known more order.1)

-- so the feeds of a table's entries are of different peripherals
pub feeds_differ : (names : List Peripheral) (es : List Entry) → IsDistinct nat_eq (numbers names) → list_all (λ e. is_some (number_of names (string_bytes e.0))) es ≡ true
    → IsStrictlySortedBy string_cmp (keys_of es) → AreDistinct (map (λ e. feed_of names (pair_of e)) es)
unfolding IsDistinct IsStrictlySortedBy
feeds_differ names [] apart known order = tt
feeds_differ names (e ∷ es) apart known order =
    let (here, more) = and_parts (is_some (number_of names (string_bytes e.0))) (list_all (λ e. is_some (number_of names (string_bytes e.0))) es) known in
    (later_differ names e es apart here more order.0, feeds_differ names es apart more order.1)

-- one more feed in front of those that are left
pub one_more : (names : List Peripheral) (feeds more : List Feed) (feed : Feed) (left : List Entry) (e : Entry) (rest all : List Entry)
    → feeds ++ map (λ e. feed_of names (pair_of e)) left ≡ map (λ e. feed_of names (pair_of e)) all → left ≡ e ∷ rest → more ≡ feeds ++ feed ∷ [] → feed ≡ feed_of names (pair_of e)
    → more ++ map (λ e. feed_of names (pair_of e)) rest ≡ map (λ e. feed_of names (pair_of e)) all
one_more names feeds more feed left e rest all so_far is put made =
    rw (put, made, append_assoc feeds (feed_of names (pair_of e) ∷ []) (map (λ e. feed_of names (pair_of e)) rest)) (rw is at so_far)
