-- What laws on dependence say.
use Rattle.std.specs.Prelude.{◌≡◌, ◌<◌, ℕ, true, List, [], ◌∷◌}
use Rattle.std.specs.List.{AllByRecursion}
use Rattle.io_depend.specs.Sets.{has}
use Rattle.io_depend.specs.Flow.{Carrying}

-- what carries, goes on carrying, and a site that is found, stays found
pub record Grows (before after : Carrying) : Type 0 where
  pub arrays : (array : ℕ) → has before.arrays array ≡ true → has after.arrays array ≡ true
  pub pointers : (pointer : ℕ) → has before.pointers pointer ≡ true → has after.pointers pointer ≡ true
  pub sites : (site : ℕ) → has before.sites site ≡ true → has after.sites site ≡ true

-- each of these numbers is less than those behind it, so none stands twice
abbrev pub Ascends : List ℕ → Type 0
Ascends [] = Unit {0}
Ascends (x ∷ xs) = AllByRecursion (λ y. x < y) xs × Ascends xs
