-- What is in lists that are made of others.
use Rattle.std.proofs.Common.{◌≡◌, ◌∙◌, ℕ, Bool, true, false, ◌||◌, ◌&&◌, ◌==◌, cond, List, [], ◌∷◌, ◌++◌, refl, sym, ap}
use Rattle.std.specs.List.{list_any, AllByRecursion}
use Rattle.std.proofs.lemmas.Bool.{eqb-true, true≢false}
use Rattle.std.proofs.lemmas.List.Folds.{list_any-append}
use Rattle.io_depend.specs.Sets.{has, with_one, joined, has_some}

-- facts on two or three tests, by cases
pub or_swapped : (a b : Bool) → (a || b) ≡ (b || a)
or_swapped true true = refl
or_swapped true false = refl
or_swapped false true = refl
or_swapped false false = refl

pub or_none : (a : Bool) → (a || false) ≡ a
or_none true = refl
or_none false = refl

pub and_none : (a : Bool) → (a && false) ≡ false
and_none true = refl
and_none false = refl

pub and_all : (a : Bool) → (a && true) ≡ a
and_all true = refl
and_all false = refl

pub or_grouped : (a b c : Bool) → (a || (b || c)) ≡ ((a || b) || c)
or_grouped true b c = refl
or_grouped false b c = refl

-- one more number, by whether it is there
one_more : (n m : ℕ) (xs : List ℕ) (there equal : Bool) → has xs n ≡ there → (n == m) ≡ equal → has (cond there xs (n ∷ xs)) m ≡ (equal || has xs m)
one_more n m xs true true there equal = ap (has xs) (sym (eqb-true n m equal)) ∙ there
one_more n m xs true false there equal = refl
one_more n m xs false equal there is = ap (λ t. t || has xs m) is

has_with_one : (n m : ℕ) (xs : List ℕ) → has (with_one n xs) m ≡ ((n == m) || has xs m)
has_with_one n m xs = one_more n m xs (has xs n) (n == m) refl refl

-- what is in one of two lists
pub has_joined : (xs ys : List ℕ) (m : ℕ) → has (joined xs ys) m ≡ (has xs m || has ys m)
has_joined [] ys m = refl
has_joined (x ∷ xs) ys m = has_with_one x m (joined xs ys) ∙ ap (λ t. (x == m) || t) (has_joined xs ys m) ∙ or_grouped (x == m) (has xs m) (has ys m)

pub has_append : (xs ys : List ℕ) (m : ℕ) → has (xs ++ ys) m ≡ (has xs m || has ys m)
has_append xs ys m = list_any-append (λ x. x == m) xs ys

-- whether there is a number at all
pub some_append : (xs ys : List ℕ) → has_some (xs ++ ys) ≡ (has_some xs || has_some ys)
some_append [] ys = refl
some_append (x ∷ xs) ys = refl

some_if_there : (n : ℕ) (xs : List ℕ) (there : Bool) → has xs n ≡ there → has_some (cond there xs (n ∷ xs)) ≡ true
some_if_there n [] true there = absurd (true≢false (sym there))
some_if_there n (x ∷ xs) true there = refl
some_if_there n xs false there = refl

pub some_joined : (xs ys : List ℕ) → has_some (joined xs ys) ≡ (has_some xs || has_some ys)
some_joined [] ys = refl
some_joined (x ∷ xs) ys = some_if_there x (joined xs ys) (has (joined xs ys) x) refl

-- a list that has a number has some
pub some_from_has : (xs : List ℕ) (n : ℕ) → has xs n ≡ true → has_some xs ≡ true
some_from_has [] n there = there
some_from_has (x ∷ xs) n there = refl

-- two tests that agree on a list find the same
pub same_any : (f g : ℕ → Bool) (P : ℕ → Type 0) → ((x : ℕ) → P x → f x ≡ g x) → (xs : List ℕ) → AllByRecursion P xs → list_any f xs ≡ list_any g xs
same_any f g P same [] all = refl
same_any f g P same (x ∷ xs) all = λ i. same x all.0 i || same_any f g P same xs all.1 i
