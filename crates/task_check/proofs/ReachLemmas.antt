-- Lists of arrays that hold the same ones have the same reach.
use Rattle.std.proofs.Common.{◌≡◌, ◌∙◌, ℕ, ◌≤◌, Bool, true, false, ◌||◌, ◌==◌, List, [], ◌∷◌, refl, sym, ap, arith, true≢false, subst, zero, suc}
use Rattle.std.specs.Prelude.{slice_get}
use Rattle.std.specs.List.{AllByRecursion, list_any}
use Rattle.std.proofs.Math.Path.{fun_ext}
use Rattle.task_ast.specs.declared.core_form.Array.{Array}
use Rattle.task_ast.specs.declared.core_form.CoreStmt.{CoreStmt}
use Rattle.task_ast.specs.CoreSites.{longest, room}
use Rattle.task_ast.specs.Pointing.{all_addresses}
use Rattle.task_ast.specs.WellFormed.{is_turning}
use Rattle.task_check.specs.Reach.{reach_of, is_const}
use Rattle.task_check.specs.Table.{held, row, reached, with_addresses}

-- a number is among these
abbrev pub IsIn : List ℕ → ℕ → Type 0
IsIn xs a = is_turning xs a ≡ true

or_cases : (a b : Bool) → (a || b) ≡ true → (a ≡ false → b ≡ true)
or_cases true b h none = absurd (true≢false none)
or_cases false b h none = h

or_right : (a b : Bool) → b ≡ true → (a || b) ≡ true
or_right true b h = refl
or_right false b h = h

same_is : (x a : ℕ) → (x == a) ≡ true → x ≡ a
same_is x a h = grind arith

is_same : (a : ℕ) → (a == a) ≡ true
is_same a = grind arith

-- what holds of each number among these holds of all
pub all_in : (Q : ℕ → Type 0) (xs : List ℕ) → ((a : ℕ) → IsIn xs a → Q a) → AllByRecursion Q xs
all_in Q [] h = tt
all_in Q (x ∷ xs) h = (h x (ap (λ b. b || is_turning xs x) (is_same x)), all_in Q xs (λ a k. h a (or_right (x == a) (is_turning xs a) k)))

-- what holds of all holds of each among these
pub in_all : (Q : ℕ → Type 0) (xs : List ℕ) (a : ℕ) → AllByRecursion Q xs → IsIn xs a → Q a
in_all Q [] a h k = absurd (true≢false (sym k))
in_all Q (x ∷ xs) a h k = by (λ m. in_all Q xs a h.1 m) (x == a) refl
  where
    by : (IsIn xs a → Q a) → (b : Bool) → (x == a) ≡ b → Q a
    by rest true e = subst Q (same_is x a e) h.0
    by rest false e = rest (or_cases (x == a) (is_turning xs a) k e)

-- a test that one among these passes
pub any_in : (f : ℕ → Bool) (xs : List ℕ) (a : ℕ) → IsIn xs a → f a ≡ true → list_any f xs ≡ true
any_in f [] a k h = absurd (true≢false (sym k))
any_in f (x ∷ xs) a k h = by (λ m. any_in f xs a m h) (x == a) refl
  where
    by : (IsIn xs a → list_any f xs ≡ true) → (b : Bool) → (x == a) ≡ b → (f x || list_any f xs) ≡ true
    by rest true e = ap (λ b. b || list_any f xs) (ap f (same_is x a e) ∙ h)
    by rest false e = or_right (f x) (list_any f xs) (rest (or_cases (x == a) (is_turning xs a) k e))

any_sub : (f : ℕ → Bool) (xs ys : List ℕ) → ((a : ℕ) → IsIn xs a → IsIn ys a) → list_any f xs ≡ true → list_any f ys ≡ true
any_sub f [] ys sub h = absurd (true≢false (sym h))
any_sub f (x ∷ xs) ys sub h = by (λ m. any_sub f xs ys (λ a k. sub a (or_right (x == a) (is_turning xs a) k)) m) (f x) refl
  where
    by : (list_any f xs ≡ true → list_any f ys ≡ true) → (b : Bool) → f x ≡ b → list_any f ys ≡ true
    by rest true e = any_in f ys x (sub x (ap (λ b. b || is_turning xs x) (is_same x))) e
    by rest false e = rest (or_cases (f x) (list_any f xs) h e)

both_ways : (a b : Bool) → (a ≡ true → b ≡ true) → (b ≡ true → a ≡ true) → a ≡ b
both_ways true b f g = sym (f refl)
both_ways false true f g = g refl
both_ways false false f g = refl

room_in : (arrays : List Array) (xs : List ℕ) (a : ℕ) → IsIn xs a → room (slice_get arrays a) ≤ longest arrays xs
room_in arrays [] a k = absurd (true≢false (sym k))
room_in arrays (x ∷ xs) a k = by (λ m. room_in arrays xs a m) (x == a) refl
  where
    by : (IsIn xs a → room (slice_get arrays a) ≤ longest arrays xs) → (b : Bool) → (x == a) ≡ b → room (slice_get arrays a) ≤ longest arrays (x ∷ xs)
    by rest true e = let same : room (slice_get arrays x) ≡ room (slice_get arrays a) = ap (λ n. room (slice_get arrays n)) (same_is x a e) in omega (arith, same)
    by rest false e = let h = rest (or_cases (x == a) (is_turning xs a) k e) in omega (arith, h)

longest_sub : (arrays : List Array) (xs ys : List ℕ) → ((a : ℕ) → IsIn xs a → IsIn ys a) → longest arrays xs ≤ longest arrays ys
longest_sub arrays [] ys sub = omega arith
longest_sub arrays (x ∷ xs) ys sub =
    let first = room_in arrays ys x (sub x (ap (λ b. b || is_turning xs x) (is_same x))) in
    let rest = longest_sub arrays xs ys (λ a k. sub a (or_right (x == a) (is_turning xs a) k)) in
    omega (arith, first, rest)

-- lists that hold the same numbers reach the same
pub same_reach : (arrays : List Array) (xs ys : List ℕ) → is_turning xs ≡ is_turning ys → reach_of arrays xs ≡ reach_of arrays ys
same_reach arrays xs ys same =
    let there : (a : ℕ) → IsIn xs a → IsIn ys a = λ a k. sym (ap (λ (f : ℕ → Bool). f a) same) ∙ k in
    let back : (a : ℕ) → IsIn ys a → IsIn xs a = λ a k. ap (λ (f : ℕ → Bool). f a) same ∙ k in
    let at_const : list_any (is_const arrays) xs ≡ list_any (is_const arrays) ys = both_ways _ _ (any_sub (is_const arrays) xs ys there) (any_sub (is_const arrays) ys xs back) in
    let at_longest : longest arrays xs ≡ longest arrays ys = let h = longest_sub arrays xs ys there in let k = longest_sub arrays ys xs back in omega (arith, h, k) in
    λ i. record { constant = at_const i; holds = same i; longest = at_longest i }

-- what pointers reach by the table of a body's addresses
pub reach_is : (rows : List (List ℕ)) (arrays : List Array) (body : List CoreStmt) → held rows ≡ with_addresses (held []) body → reached rows arrays ≡ (λ p. reach_of arrays (all_addresses p body))
reach_is rows arrays body h = fun_ext (λ p. same_reach arrays (row rows p) (all_addresses p body) (fun_ext (λ a. ap (λ f. f p a) h ∙ none p a)))
  where
    none : (p a : ℕ) → with_addresses (held []) body p a ≡ is_turning (all_addresses p body) a
    none zero a = refl
    none (suc p) a = refl
