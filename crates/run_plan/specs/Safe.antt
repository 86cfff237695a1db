-- The states from which a boot finds the words that an instance began with.
use Rattle.std.specs.Prelude.{◌≡◌, ◌≢◌, ℕ, Bool, true, false, List, [], ◌∷◌}
use Rattle.std.specs.List.{AllByRecursion}
use Rattle.task_ast.specs.declared.core_form.Core.{Core}
use Rattle.walk_run.specs.declared.place.Place.{Place}
use Rattle.walk_run.specs.Store.{word_at}
use Rattle.run_plan.specs.Cells.{State, CellWrite, after_write, aside_at}
use Rattle.run_plan.specs.Small.{Doing, lock_holds}
use Rattle.run_plan.specs.Words.{first_places}
use Rattle.run_plan.specs.Runs.{Smalls}

-- at these places there are these words
abbrev pub Are : (words : Place → ℕ) → (entry : Place → ℕ) → List Place → Type 0
Are words entry places = AllByRecursion (λ at. words at ≡ entry at) places

-- where the lock holds the copies are the entry's words, else the homes are
abbrev pub SafeBy : (held : Bool) → State → (entry : Place → ℕ) → List Place → Type 0
SafeBy true s entry places = Are (aside_at s) entry places
SafeBy false s entry places = Are (word_at s.store) entry places

-- a region is safe
abbrev pub IsSafeAt : Doing → (entry : Place → ℕ) → (region : ℕ) → State → Type 0
IsSafeAt d entry r s = SafeBy (lock_holds s r) s entry (first_places d r)

-- no place of one list is in an array of another
abbrev pub AreApart : List Place → List Place → Type 0
AreApart ps qs = AllByRecursion (λ q. AllByRecursion (λ p. p.array ≢ q.array) ps) qs

-- the states after each of some writes, and that after all
abbrev pub states_along : Core → List CellWrite → State → List State
states_along c [] s = []
states_along c (w ∷ writes) s = let after = after_write c.arrays w s in after ∷ states_along c writes after

abbrev pub all_written : Core → List CellWrite → State → State
all_written c [] s = s
all_written c (w ∷ writes) s = all_written c writes (after_write c.arrays w s)

-- a claim on each state of small steps
abbrev pub Always : (State → Type 0) → Smalls → Type 0
Always P xs = AllByRecursion (λ x. P x.after) xs
