-- How many lines of boots a walk goes along, by recursion on the boots.
use Rattle.std.specs.Prelude.{ℕ, suc, ◌+◌, ◌-◌, List, [], ◌∷◌, length, map}
use Rattle.audit_check.specs.declared.around.Around.{Around}
use Rattle.audit_check.specs.declared.journal.TimedEvent.{TimedEvent}
use Rattle.audit_check.specs.declared.journal.ReportBoot.{ReportBoot}
use Rattle.audit_check.specs.Walking.{Walking}
use Rattle.audit_check.specs.Booted.{boot_walked}
use Rattle.audit_check.specs.Tracks.{events}
use Rattle.audit_laws.specs.Expected.{Events}

-- the lines of a boot of so many events, if the walk leaves these, and those behind it
abbrev pub followed_by : (events : ℕ) → (left : List TimedEvent) → (rest : ℕ) → ℕ
followed_by n [] rest = suc n + rest
followed_by n (e ∷ es) rest = suc (n - suc (length es))

abbrev pub followed : List Around → List ReportBoot → Walking → ℕ
followed tasks [] w = 0
followed tasks (b ∷ bs) w = followed_by (length b.events) (boot_walked tasks b w).rest (followed tasks bs (boot_walked tasks b w))

-- the events of told boots
abbrev pub told : List ReportBoot → Events
told boots = map (λ b. events b.events) boots
