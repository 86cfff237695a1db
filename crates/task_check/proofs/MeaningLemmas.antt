-- What holds of every declared meaning holds of what is found.
use Rattle.std.proofs.Common.{ℕ, Bool, true, false, List, [], ◌∷◌, ◌++◌, Some, IfSome, if◌then◌else◌, bytes_eq}
use Rattle.std.specs.List.{AllByRecursion}
use Rattle.task_check.specs.declared.names.Meaning.{Meaning}
use Rattle.task_check.specs.Names.{Declared, look_up}

-- what holds of two lists holds of both behind one another
pub all-append : {X : Type 0} (P : X → Type 0) (xs ys : List X) → AllByRecursion P xs → AllByRecursion P ys → AllByRecursion P (xs ++ ys)
all-append P [] ys p q = q
all-append P (x ∷ xs) ys p q = (p.0, all-append P xs ys p.1 q)

-- what holds of each declared meaning holds of a found one
pub found_holds : (P : Meaning → Type 0) (ds : List Declared) → AllByRecursion (λ d. P d.1) ds → (q : List ℕ) → IfSome (look_up ds q) P
found_holds P [] h q = tt
found_holds P (d ∷ ds) h q = by (bytes_eq q d.0) (found_holds P ds h.1 q)
  where
    by : (b : Bool) → IfSome (look_up ds q) P → IfSome (if b then Some d.1 else look_up ds q) P
    by true rest = h.0
    by false rest = rest
