-- The lines of a journal, and what its first lines tell: each boot has a line, and each event.
use Rattle.std.specs.Prelude.{ℕ, zero, suc, ◌+◌, ◌-◌, ◌<◌, ◌≤◌, List, [], ◌∷◌, length, take}
use Rattle.devices.specs.Journal.{Boot}

-- how many lines boots have
abbrev pub lines_of : List Boot → ℕ
lines_of [] = 0
lines_of (b ∷ bs) = suc (length b.events) + lines_of bs

-- a boot of which so many events are told
abbrev pub shortened : ℕ → Boot → Boot
shortened n b = record b { events = take n b.events }

-- the boots that so many first lines tell
abbrev pub front : ℕ → List Boot → List Boot
front zero bs = []
front (suc n) [] = []
front (suc n) (b ∷ bs) = shortened n b ∷ front (n - length b.events) bs

-- A claim on boots holds of their first lines up to so many, and of no more of them.
pub record Reaches (P : List Boot → Type 0) (boots : List Boot) (n : ℕ) : Type 0 where
  pub within : n ≤ lines_of boots
  pub holds : (m : ℕ) → m ≤ n → P (front m boots)
  pub ends : (m : ℕ) → n < m → m ≤ lines_of boots → P (front m boots) → ⊥
