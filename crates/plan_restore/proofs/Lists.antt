-- Claims on each item of lists that stand one behind another, and what is in lists of numbers.
use Rattle.std.proofs.Common.{◌≡◌, ◌∙◌, ℕ, Bool, true, false, ◌==◌, ◌||◌, List, [], ◌∷◌, ◌++◌, map, refl, sym, ap}
use Rattle.std.specs.List.{AllByRecursion}
use Rattle.std.proofs.lemmas.Bool.{or_left, or_right, eq-eqb}
use Rattle.io_depend.specs.Sets.{has}

-- of one list behind another
pub all_joined : {X : Type 0} (P : X → Type 0) (xs ys : List X) → AllByRecursion P xs → AllByRecursion P ys → AllByRecursion P (xs ++ ys)
all_joined P [] ys front behind = behind
all_joined P (x ∷ xs) ys front behind = (front.0, all_joined P xs ys front.1 behind)

-- and of both parts
pub all_parts : {X : Type 0} (P : X → Type 0) (xs ys : List X) → AllByRecursion P (xs ++ ys) → AllByRecursion P xs × AllByRecursion P ys
all_parts P [] ys all = (tt, all)
all_parts P (x ∷ xs) ys all = let rest = all_parts P xs ys all.1 in ((all.0, rest.0), rest.1)

-- a weaker claim
pub all_weaker : {X : Type 0} (P Q : X → Type 0) (xs : List X) → ((x : X) → P x → Q x) → AllByRecursion P xs → AllByRecursion Q xs
all_weaker P Q [] step all = tt
all_weaker P Q (x ∷ xs) step all = (step x all.0, all_weaker P Q xs step all.1)

-- of what a list becomes
pub all_mapped : {X Y : Type 0} (P : X → Type 0) (Q : Y → Type 0) (f : X → Y) (xs : List X) → ((x : X) → P x → Q (f x)) → AllByRecursion P xs → AllByRecursion Q (map f xs)
all_mapped P Q f [] step all = tt
all_mapped P Q f (x ∷ xs) step all = (step x all.0, all_mapped P Q f xs step all.1)

-- of every list
pub all_of : {X : Type 0} (P : X → Type 0) (xs : List X) → ((x : X) → P x) → AllByRecursion P xs
all_of P [] each = tt
all_of P (x ∷ xs) each = (each x, all_of P xs each)

-- a number is itself
pub is_itself : (n : ℕ) → (n == n) ≡ true
is_itself n = eq-eqb n n refl

-- what is in one of two lists is in both together
pub has_front : (xs ys : List ℕ) (a : ℕ) → has xs a ≡ true → has (xs ++ ys) a ≡ true
has_front [] ys a there = absurd (cc there)
has_front (x ∷ xs) ys a there = by_test (x == a) refl (has_front xs ys a)
  where
    by_test : (b : Bool) → (x == a) ≡ b → (has xs a ≡ true → has (xs ++ ys) a ≡ true) → ((x == a) || has (xs ++ ys) a) ≡ true
    by_test true is more = or_left (x == a) (has (xs ++ ys) a) is
    by_test false is more = or_right (x == a) (has (xs ++ ys) a) (more (sym (ap (λ t. t || has xs a) is) ∙ there))

pub has_behind : (xs ys : List ℕ) (a : ℕ) → has ys a ≡ true → has (xs ++ ys) a ≡ true
has_behind [] ys a there = there
has_behind (x ∷ xs) ys a there = or_right (x == a) (has (xs ++ ys) a) (has_behind xs ys a there)
