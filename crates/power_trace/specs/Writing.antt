-- What a call that writes leaves of its sink.
use Rattle.std.specs.Prelude.{◌≡◌, ℕ, ◌≤◌, List, Option, Result, Ok, Err}
use Rattle.ease_base.specs.Count.{HasRisen}
use Rattle.ease_base.specs.Sink.{extended, TookFront}
use Rattle.ease_base.specs.declared.error.Failed.{Failed}

-- the sink took this text, and no write failed
abbrev pub Wrote : (old new : Option (List ℕ)) → (faults_before faults_after : ℕ) → (text : List ℕ) → Type 0
Wrote old new faults_before faults_after text = (new ≡ extended old text) × (faults_after ≡ faults_before)

-- the sink took a front of this text, and then its count of faults rose
abbrev pub BrokeOff : (old new : Option (List ℕ)) → (faults_before faults_after : ℕ) → (text : List ℕ) → Type 0
BrokeOff old new faults_before faults_after text = TookFront old new text × HasRisen faults_before faults_after × (faults_before ≤ faults_after)

-- one of the two, by the call's answer
abbrev pub Writes : {A : Type 0} → Result A Failed → (old new : Option (List ℕ)) → (faults_before faults_after : ℕ) → (text : List ℕ) → Type 0
Writes (Ok x) old new faults_before faults_after text = Wrote old new faults_before faults_after text
Writes (Err e) old new faults_before faults_after text = BrokeOff old new faults_before faults_after text
