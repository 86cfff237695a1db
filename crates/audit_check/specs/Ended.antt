-- When a run may end as a journal says (docs/ATTEMPTS.md, "What a right journal is"), and the test of that.
use Rattle.std.specs.Prelude.{◌≡◌, ℕ, ◌-◌, ◌<◌, ◌≤◌, Bool, false, ◌&&◌, not, ◌==◌, nat_lt, nat_le, List, [], ◌∷◌, length, take, Option, Some, None, slice_get}
use Rattle.std.specs.List.{AllByRecursion, list_all}
use Rattle.devices.specs.declared.world.PowerRow.{PowerRow}
use Rattle.devices.specs.declared.event.RunEnd.{RunEnd}
use Rattle.devices.specs.declared.event.RunEnd.TheVariants.{Halted, Trapped, Power}
use Rattle.devices.specs.World.{steps_of}
use Rattle.devices.specs.Journal.{JournalEvent, commits, traps, Boot}
use Rattle.task_attempts.specs.Laws.{EndsWith}
use Rattle.audit_check.specs.declared.journal.ReportEvent.{ReportEvent}
use Rattle.audit_check.specs.declared.journal.ReportEvent.TheVariants as event
use Rattle.audit_check.specs.declared.journal.TimedEvent.{TimedEvent}
use Rattle.audit_check.specs.declared.journal.ReportBoot.{ReportBoot}
use Rattle.audit_check.specs.Journal.{event_of}
use Rattle.audit_check.specs.Same.{same}
use Rattle.audit_check.specs.Fits.{has_trap}
use Rattle.audit_check.specs.Fitting.{traps_here}

-- ---- what is asked

-- the task that is next behind events, and behind boots
abbrev pub next_by : (next : ℕ) → JournalEvent → ℕ
next_by next (commits task) = task
next_by next e = next

abbrev pub next_behind : (next : ℕ) → List (ℕ × JournalEvent) → ℕ
next_behind next [] = next
next_behind next (e ∷ es) = next_behind (next_by next e.1) es

abbrev pub next_of_all : (next : ℕ) → List Boot → ℕ
next_of_all next [] = next
next_of_all next (b ∷ bs) = next_of_all (next_behind next b.events) bs

-- a boot's last event is this trap, at this step
abbrev pub TrapsAt : (steps code : ℕ) → Boot → Type 0
TrapsAt steps code b = EndsWith (λ e. (e.0 ≡ steps) × (e.1 ≡ traps code)) b.events

-- a boot and its events come before this step
abbrev pub ComesBefore : (steps : ℕ) → Boot → Type 0
ComesBefore steps b = (b.begun_at < steps) × AllByRecursion (λ e. e.0 < steps) b.events

-- A run of these boots may end with so many steps. With its power it ends where all rows are spent, and nothing trapped. It
-- traps with the last event of its last boot. It halts in its last boot, within its power, where no task is next.
abbrev pub EndFits : List PowerRow → List Boot → (steps : ℕ) → RunEnd → Type 0
EndFits rows boots steps Power = (length boots ≡ length rows) × (steps ≡ steps_of rows) × AllByRecursion (λ b. has_trap b.events ≡ false) boots
EndFits rows boots steps (Trapped code) = EndsWith (TrapsAt steps code) boots
EndFits rows boots steps Halted = (next_of_all 1 boots ≡ 0) × EndsWith (ComesBefore steps) boots × (steps ≤ steps_of (take (length boots) rows))

-- ---- the test

-- the last of some things
abbrev pub last_of : {A : Type 0} → List A → Option A
last_of xs = slice_get xs (length xs - 1)

-- the task that is next behind an event, behind events, and behind boots
abbrev pub told_next : (next : ℕ) → ReportEvent → ℕ
told_next next (event.Commit task) = task
told_next next _ = next

abbrev pub told_behind : (next : ℕ) → List TimedEvent → ℕ
told_behind next [] = next
told_behind next (e ∷ es) = told_behind (told_next next e.event) es

abbrev pub told_last : (next : ℕ) → List ReportBoot → ℕ
told_last next [] = next
told_last next (b ∷ bs) = told_last (told_behind next b.events) bs

-- whether no event traps, and none of any boot
abbrev pub none_traps : List TimedEvent → Bool
none_traps es = list_all (λ (e : TimedEvent). not (traps_here e.event)) es

abbrev pub nothing_traps : List ReportBoot → Bool
nothing_traps bs = list_all (λ (b : ReportBoot). none_traps b.events) bs

-- whether an event, and the last event of a boot, is this trap at this step
abbrev pub is_trap_at : (steps code : ℕ) → Option TimedEvent → Bool
is_trap_at steps code None = false
is_trap_at steps code (Some e) = e.step == steps && same (event_of e.event) (traps code)

abbrev pub traps_last : (steps code : ℕ) → Option ReportBoot → Bool
traps_last steps code None = false
traps_last steps code (Some b) = is_trap_at steps code (last_of b.events)

-- whether events, and a boot with its events, come before this step
abbrev pub are_before : (steps : ℕ) → List TimedEvent → Bool
are_before steps es = list_all (λ (e : TimedEvent). nat_lt e.step steps) es

abbrev pub is_before : (steps : ℕ) → Option ReportBoot → Bool
is_before steps None = false
is_before steps (Some b) = nat_lt b.begun_at steps && are_before steps b.events

-- whether a run may end so
abbrev pub end_fits : List PowerRow → List ReportBoot → (steps : ℕ) → RunEnd → Bool
end_fits rows boots steps Power = length boots == length rows && (steps == steps_of rows && nothing_traps boots)
end_fits rows boots steps (Trapped code) = traps_last steps code (last_of boots)
end_fits rows boots steps Halted = told_last 1 boots == 0 && (is_before steps (last_of boots) && nat_le steps (steps_of (take (length boots) rows)))
