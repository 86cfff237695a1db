-- Behind an event whose record must be sealed, what the rules tell next, and by when a machine tells something.
use Rattle.std.specs.Prelude.{◌≡◌, ◌≢◌, ◌⊎◌, ⊤, ℕ, zero, suc, List, [], ◌∷◌, IfSome}
use Rattle.std.specs.List.{AllByRecursion}
use Rattle.devices.specs.Journal.{JournalEvent, Place, seals}
use Rattle.task_ast.specs.declared.core_form.Core.{Core}
use Rattle.task_attempts.specs.Sound.{to_seal}
use Rattle.word_machine.specs.Runs.{journal_event}
use Rattle.word_machine.specs.State.{Program, State}
use Rattle.word_machine.specs.Step.{step}

-- ---- which event

-- the next event, if there is one, is a site's seal
abbrev pub SealsNext : (site : ℕ) → List JournalEvent → Type 0
SealsNext k [] = ⊤
SealsNext k (e ∷ es) = e ≡ seals k

-- so it is behind each event of a boot behind which a record must be sealed
abbrev pub AreSealedNext : Core → List JournalEvent → Type 0
AreSealedNext c [] = ⊤
AreSealedNext c (e ∷ es) = IfSome (to_seal c e) (λ s. SealsNext s.0 es) × AreSealedNext c es

-- ---- and when

-- within so many steps a machine tells something
unfoldable pub TellsSoon : (ℕ → Place) → Program → (steps : ℕ) → State → Type 0
TellsSoon place_of p zero s = ⊥
TellsSoon place_of p (suc n) s = (journal_event place_of p s ≢ []) ⊎ TellsSoon place_of p n (step p s)

-- behind an event whose record must be sealed it does so within the steps that the seal may take
abbrev pub FollowsSoon : Core → (ℕ → Place) → Program → (behind : State) → JournalEvent → Type 0
FollowsSoon c place_of p behind e = IfSome (to_seal c e) (λ s. TellsSoon place_of p s.1 behind)

-- so it is of what a step tells, and along so many steps
abbrev pub StepFollows : Core → (ℕ → Place) → Program → State → Type 0
StepFollows c place_of p s = AllByRecursion (FollowsSoon c place_of p (step p s)) (journal_event place_of p s)

unfoldable pub AllFollow : Core → (ℕ → Place) → Program → (steps : ℕ) → State → Type 0
AllFollow c place_of p zero s = ⊤
AllFollow c place_of p (suc n) s = StepFollows c place_of p s × AllFollow c place_of p n (step p s)
