-- Lists of numbers as sets.
use Rattle.std.specs.Prelude.{ℕ, Bool, true, false, ◌==◌, cond, List, [], ◌∷◌}
use Rattle.std.specs.List.{list_any}

-- whether a number is in a list
abbrev pub has : List ℕ → ℕ → Bool
has xs n = list_any (λ x. x == n) xs

-- a list with one more number, unless it is there
abbrev pub with_one : ℕ → List ℕ → List ℕ
with_one n xs = cond (has xs n) xs (n ∷ xs)

-- the numbers that are in one of two lists
abbrev pub joined : List ℕ → List ℕ → List ℕ
joined [] ys = ys
joined (x ∷ xs) ys = with_one x (joined xs ys)

-- whether a list has a number
abbrev pub has_some : List ℕ → Bool
has_some [] = false
has_some (x ∷ xs) = true
