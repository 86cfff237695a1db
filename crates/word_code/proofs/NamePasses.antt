-- Names and numbers that differ, as the tests of an image ask.
use Rattle.std.specs.Prelude.{◌≡◌, ℕ, suc, ◌≤◌, Bool, true, false, not, ◌&&◌, ◌||◌, ◌==◌, nat_le, cond, List, [], ◌∷◌, ◌++◌, length, map, Option, Some, None, refl}
use Rattle.std.specs.List.{AllByRecursion, list_any}
use Rattle.std.specs.Option.{is_some, option_map}
use Rattle.std.specs.Str.{bytes_eq}
use Rattle.std.proofs.Common.{ap, sym, ◌∙◌, arith}
use Rattle.std.proofs.lemmas.Bool.{le-leb}
use Rattle.std.proofs.lemmas.Bool.Decides.{nat_tests}
use Rattle.std.proofs.lemmas.Slice.Eq.{bytes_eq-Decides}
use Rattle.op_table.specs.Places.{place_of, repeats}
use Rattle.op_table.specs.PlaceLemmas.{place_found}
use Rattle.op_table.specs.Reserved.{IsReserved, reserved_words}
use Rattle.task_ast.specs.NameToken.{IsNameToken}
use Rattle.word_isa.specs.Names.{is_name_token, is_reserved, is_symbol_name}

-- ---- what stands before an item of a list without repetition

or_false : (a b : Bool) → (a || b) ≡ false → (a ≡ false) × (b ≡ false)
or_false true b e = cc
or_false false b e = (refl, e)

cond_none : (b : Bool) (o : Option ℕ) → is_some (cond b (Some 0) (option_map suc o)) ≡ false → (b ≡ false) × (is_some o ≡ false)
cond_none true o e = cc
cond_none false None e = (refl, refl)
cond_none false (Some k) e = cc

none_same : {A : Type 0} (same : A → A → Bool) (x : A) (front : List A) (y : A) (behind : List A) → is_some (place_of same x (front ++ y ∷ behind)) ≡ false → same y x ≡ false
unfolding place_of
none_same same x [] y behind e = (cond_none (same y x) (place_of same x behind) e).0
none_same same x (z ∷ front) y behind e = none_same same x front y behind (cond_none (same z x) (place_of same x (front ++ y ∷ behind)) e).1

pub differ_at : {A : Type 0} (same : A → A → Bool) (front : List A) (y : A) (behind : List A) → repeats same (front ++ y ∷ behind) ≡ false → AllByRecursion (λ x. same y x ≡ false) front
unfolding repeats
differ_at same [] y behind e = tt
differ_at same (x ∷ front) y behind e =
    let both = or_false (is_some (place_of same x (front ++ y ∷ behind))) (repeats same (front ++ y ∷ behind)) e in
    (none_same same x front y behind both.0, differ_at same front y behind both.1)

pub all_front : {A : Type 0} (P : A → Type 0) (xs ys : List A) → AllByRecursion P (xs ++ ys) → AllByRecursion P xs
all_front P [] ys h = tt
all_front P (x ∷ xs) ys h = (h.0, all_front P xs ys h.1)

pub all_back : {A : Type 0} (P : A → Type 0) (xs ys : List A) → AllByRecursion P (xs ++ ys) → AllByRecursion P ys
all_back P [] ys h = h
all_back P (x ∷ xs) ys h = all_back P xs ys h.1

-- one item further
pub further : {A B : Type 0} (f : A → B) (earlier : List A) (x : A) (behind : List B) → map f (earlier ++ x ∷ []) ++ behind ≡ map f earlier ++ f x ∷ behind
further f [] x behind = refl
further f (e ∷ earlier) x behind = ap (λ (ys : List _). f e ∷ ys) (further f earlier x behind)

-- none of the items before has the name, or the number
turned : (x y : List ℕ) → bytes_eq y x ≡ false → bytes_eq x y ≡ false
turned x y e = by_test (bytes_eq x y) refl
  where
    by_test : (b : Bool) → bytes_eq x y ≡ b → b ≡ false
    by_test true is =
        let same : x ≡ y = (bytes_eq-Decides x y).0 is in
        let back : bytes_eq y x ≡ true = (bytes_eq-Decides y x).1 (sym same) in
        absurd cc
    by_test false is = refl

pub no_name : {A : Type 0} (name : A → List ℕ) (y : List ℕ) (xs : List A) → AllByRecursion (λ x. bytes_eq y x ≡ false) (map name xs) → list_any (λ x. bytes_eq (name x) y) xs ≡ false
no_name name y [] all = refl
no_name name y (x ∷ xs) all = (λ i. turned (name x) y all.0 i || list_any (λ z. bytes_eq (name z) y) xs) ∙ no_name name y xs all.1

pub no_number : {A : Type 0} (number : A → ℕ) (n : ℕ) (xs : List A) → AllByRecursion (λ m. (n == m) ≡ false) (map number xs) → list_any (λ x. number x == n) xs ≡ false
no_number number n [] all = refl
no_number number n (x ∷ xs) all =
    let here : (number x == n) ≡ false = turned_number (number x) n all.0 in
    (λ i. here i || list_any (λ z. number z == n) xs) ∙ no_number number n xs all.1
  where
    turned_number : (a b : ℕ) → (b == a) ≡ false → (a == b) ≡ false
    turned_number a b e = grind (arith, nat_tests)

-- ---- names that may stand

reserved_found : (name : List ℕ) (o : Option ℕ) → place_of bytes_eq name reserved_words ≡ o → (IsReserved name → ⊥) → is_some o ≡ false
reserved_found name None is free = refl
reserved_found name (Some k) is free = absurd (free (k, place_found bytes_eq bytes_eq-Decides name reserved_words k is))

unreserved : (name : List ℕ) → (IsReserved name → ⊥) → is_reserved name ≡ false
unfolding is_reserved
unreserved name free = reserved_found name (place_of bytes_eq name reserved_words) refl free

three_true : (p q r : Bool) → p ≡ true → q ≡ true → r ≡ true → (p && q && r) ≡ true
three_true p q r one two three = rw (one, two, three) refl

pub name_stands : (name : List ℕ) → IsNameToken name → length name ≤ 32 → is_symbol_name name ≡ true
unfolding is_symbol_name is_name_token
name_stands name token short =
    three_true (is_name_token name) (nat_le (length name) 32) (not (is_reserved name)) token.0 (le-leb (length name) 32 short) (ap not (unreserved name token.1))
