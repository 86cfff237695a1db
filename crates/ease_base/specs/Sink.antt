-- What a sink took.
use Rattle.std.specs.Prelude.{◌≡◌, ℕ, ◌≤◌, List, ◌++◌, length, take, Option, Some, None}

-- the bytes taken so far with more behind them, where they are told
abbrev pub extended : Option (List ℕ) → List ℕ → Option (List ℕ)
extended None more = None
extended (Some taken) more = Some (taken ++ more)

-- from old to new the sink took a front of these bytes
abbrev pub TookFront : Option (List ℕ) → Option (List ℕ) → List ℕ → Type 0
TookFront old new bytes = (n : ℕ) × (n ≤ length bytes) × (new ≡ extended old (take n bytes))
