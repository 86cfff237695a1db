-- A plan's run against the log of the rules: the same events in order, each within the steps that the rules allow.
use Rattle.std.specs.Prelude.{◌≡◌, ⊤, ◌≤◌, [], ◌∷◌, Option, Some, None}
use Rattle.devices.specs.Journal.{JournalEvent}
use Rattle.word_isa.specs.declared.parts.Scheme.{Scheme}
use Rattle.task_attempts.specs.State.{Here, Log}
use Rattle.run_plan.specs.Runs.{Small, Smalls, At}

-- a small step without an event is passed over; one with an event meets the next of the log
abbrev pub ShowsAt : Scheme → Option JournalEvent → Small → Log → (Log → Type 0) → Type 0
ShowsAt scheme None x log behind = behind log
ShowsAt scheme (Some e) x [] behind = ⊥
ShowsAt scheme (Some e) x (l ∷ log) behind = (e ≡ l.event) × (x.weights ≤ l.steps scheme) × behind log

-- nothing is left of a log
abbrev pub IsEnd : Log → Type 0
IsEnd [] = ⊤
IsEnd (l ∷ log) = ⊥

-- small steps show a log to its end
abbrev pub Shows : Scheme → Smalls → Log → Type 0
Shows scheme [] = IsEnd
Shows scheme (x ∷ xs) = λ log. ShowsAt scheme x.atom.event x log (Shows scheme xs)

-- between two acts the plan has the attempt's store, and its weights are within the steps
pub record Related (scheme : Scheme) (at : At) (here : Here) : Type 0 where
  pub store : at.state.store ≡ here.store
  pub weights : at.weights ≤ here.steps scheme
