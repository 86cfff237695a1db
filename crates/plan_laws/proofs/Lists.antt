-- Claims on each item of lists that stand one behind another.
use Rattle.std.proofs.Common.{ℕ, zero, suc, ◌+◌, ◌<◌, ◌≤◌, List, [], ◌∷◌, ◌++◌, map, arith}
use Rattle.std.specs.List.{AllByRecursion, range_with_len}

-- of one list behind another
pub all_joined : {X : Type 0} (P : X → Type 0) (xs ys : List X) → AllByRecursion P xs → AllByRecursion P ys → AllByRecursion P (xs ++ ys)
all_joined P [] ys front behind = behind
all_joined P (x ∷ xs) ys front behind = (front.0, all_joined P xs ys front.1 behind)

-- of what a list becomes
pub all_mapped : {X Y : Type 0} (P : X → Type 0) (Q : Y → Type 0) (f : X → Y) (xs : List X) → ((x : X) → P x → Q (f x)) → AllByRecursion P xs → AllByRecursion Q (map f xs)
all_mapped P Q f [] step all = tt
all_mapped P Q f (x ∷ xs) step all = (step x all.0, all_mapped P Q f xs step all.1)

-- of a range
pub all_in_range : (P : ℕ → Type 0) (m n : ℕ) → ((k : ℕ) → m ≤ k → k < m + n → P k) → AllByRecursion P (range_with_len m n)
all_in_range P m zero all = tt
all_in_range P m (suc n) all = (all m (omega arith) (omega arith), all_in_range P (m + 1) n (λ k low high. all k (omega arith) (omega arith)))
