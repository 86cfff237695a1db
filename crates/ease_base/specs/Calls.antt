-- Calls that are counted from 1, and those among them that are to fail.
use Rattle.std.specs.Prelude.{ℕ, Bool, List, ◌==◌}
use Rattle.std.specs.List.{list_any}
use Rattle.ease_base.specs.Count.{raised}

-- whether the call after so many calls stands among those that are to fail
abbrev pub fails_next : List ℕ → ℕ → Bool
fails_next fails calls = list_any (λ call. call == raised calls) fails
