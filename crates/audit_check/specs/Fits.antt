-- When the steps of a journal's boots fit a world's power, and when its looks show the clock (docs/ATTEMPTS.md, "What a right
-- journal is").
use Rattle.std.specs.Prelude.{◌≡◌, ℕ, ◌+◌, ◌<◌, ◌≤◌, ⊤, Bool, true, false, ◌||◌, List, [], ◌∷◌}
use Rattle.std.specs.List.{AllByRecursion}
use Rattle.devices.specs.declared.world.PowerRow.{PowerRow}
use Rattle.devices.specs.declared.world.World.{World}
use Rattle.devices.specs.Journal.{JournalEvent, traps, Boot}
use Rattle.task_attempts.specs.Sound.{IsTimed}

-- whether an event is a trap
abbrev pub is_trap : JournalEvent → Bool
is_trap (traps code) = true
is_trap e = false

-- whether one of a boot's events is
abbrev pub has_trap : List (ℕ × JournalEvent) → Bool
has_trap [] = false
has_trap (e ∷ es) = is_trap e.1 || has_trap es

-- The steps of events rise from those that are done, up to the last that there are. No event follows a trap.
abbrev pub EventsFit : (done last : ℕ) → List (ℕ × JournalEvent) → Type 0
EventsFit done last [] = ⊤
EventsFit done last (e ∷ es) = (done < e.0) × (e.0 ≤ last) × (is_trap e.1 ≡ true → es ≡ []) × EventsFit e.0 last es

-- Each boot has a power row; it begins where the rows before it end, and its events lie within it. No boot follows a trap.
abbrev pub BootsFit : (done : ℕ) → List PowerRow → List Boot → Type 0
BootsFit done rows [] = ⊤
BootsFit done [] (b ∷ bs) = ⊥
BootsFit done (row ∷ rows) (b ∷ bs) =
    (b.begun_at ≡ done) × EventsFit done (done + row.on) b.events × (has_trap b.events ≡ true → bs ≡ []) × BootsFit (done + row.on) rows bs

-- each look shows the clock before its step
abbrev pub LooksFit : World → List Boot → Type 0
LooksFit world boots = AllByRecursion (λ b. AllByRecursion (λ e. IsTimed world e.0 e.1) b.events) boots

-- steps and looks of boots fit a world
pub record BootsFitWorld (world : World) (boots : List Boot) : Type 0 where
  pub steps : BootsFit 0 world.power boots
  pub looks : LooksFit world boots
