-- Runs over power rows: boot by boot, the journal, and the state after so many steps (docs/MACHINE.md, "The journal").
use Rattle.std.specs.Prelude.{ℕ, zero, suc, ◌+◌, ◌-◌, min, Bool, true, false, nat_le, List, [], ◌∷◌, ◌++◌, Some, None, map, if◌then◌else◌}
use Rattle.devices.specs.Journal.{Place, JournalEvent, traps, placed, Boot, Journal}
use Rattle.devices.specs.declared.event.RunEnd.{RunEnd}
use Rattle.devices.specs.declared.event.RunEnd.TheVariants as ended
use Rattle.devices.specs.declared.world.PowerRow.{PowerRow}
use Rattle.word_machine.specs.Events.{stepped_next}
use Rattle.word_machine.specs.State.{Program, State}
use Rattle.word_machine.specs.Step.{step, exec, fail}
use Rattle.word_machine.specs.declared.ending.Ending.{Ending}
use Rattle.word_machine.specs.declared.ending.Ending.TheVariants.{Running, Halted, Trapped}
use Rattle.word_machine.specs.declared.stepped.Stepped.{Stepped}
use Rattle.word_machine.specs.declared.stepped.Stepped.TheVariants as stepped

-- the failure behind a power row, where the machine goes on
abbrev pub fail_behind_at : Ending → PowerRow → State → State
fail_behind_at Running row s = record (fail row.fill s) { clock = s.clock + row.off }
fail_behind_at Halted row s = s
fail_behind_at (Trapped code) row s = s

abbrev pub fail_behind : PowerRow → State → State
fail_behind row s = fail_behind_at s.ending row s

-- the machine goes on
abbrev pub is_running : Ending → Bool
is_running Running = true
is_running Halted = false
is_running (Trapped code) = false

-- the state after so many steps on these power rows; a failure follows the last step of each row but the last
unfoldable pub powered : Program → List PowerRow → ℕ → State → State
powered p [] n s = s
powered p (row ∷ []) n s = exec p (min n row.on) s
powered p (row ∷ next ∷ rows) n s =
    if nat_le row.on n then powered p (next ∷ rows) (n - row.on) (fail_behind row (exec p row.on s)) else exec p n s

-- what a step of a machine that goes on adds to a journal
abbrev pub told_event : (ℕ → Place) → Stepped → List JournalEvent
told_event place_of (stepped.Ran None) = []
told_event place_of (stepped.Ran (Some e)) = placed place_of e ∷ []
told_event place_of stepped.Halted = []
told_event place_of (stepped.Trapped code) = traps code ∷ []

-- an ended machine adds nothing
abbrev pub journal_event : (ℕ → Place) → Program → State → List JournalEvent
journal_event place_of p s = if is_running s.ending then told_event place_of (stepped_next p s) else []

-- the events of so many steps, each with the number of its step, where so many were done before
unfoldable pub numbered : (ℕ → Place) → Program → (before n : ℕ) → State → List (ℕ × JournalEvent)
numbered place_of p before zero s = []
numbered place_of p before (suc n) s =
    map (λ e. (suc before, e)) (journal_event place_of p s) ++ numbered place_of p (suc before) n (step p s)

-- how many of so many steps are done; an ended machine does none
unfoldable pub steps_done : Program → ℕ → State → ℕ
steps_done p zero s = 0
steps_done p (suc n) s = if is_running s.ending then suc (steps_done p n (step p s)) else 0

-- a boot for each power row, up to the row in which the machine ends
unfoldable pub boots : (ℕ → Place) → Program → List PowerRow → (before : ℕ) → State → List Boot
boots place_of p [] before s = []
boots place_of p (row ∷ rows) before s =
    let after = exec p row.on s in
    record { begun_at = before; events = numbered place_of p before row.on s } ∷ (if is_running after.ending then boots place_of p rows (before + row.on) (fail_behind row after) else [])

-- the steps of all power rows that are done
unfoldable pub total_steps : Program → List PowerRow → State → ℕ
total_steps p [] s = 0
total_steps p (row ∷ rows) s = steps_done p row.on s + total_steps p rows (fail_behind row (exec p row.on s))

-- how a run ends: a machine that goes on ends with the power
abbrev pub end_of : Ending → RunEnd
end_of Running = ended.Power
end_of Halted = ended.Halted
end_of (Trapped code) = ended.Trapped code

-- how the machine is behind all power rows
unfoldable pub last_ending : Program → List PowerRow → State → Ending
last_ending p [] s = s.ending
last_ending p (row ∷ rows) s = last_ending p rows (fail_behind row (exec p row.on s))

-- the journal of a run
abbrev pub journal : (ℕ → Place) → Program → List PowerRow → State → Journal
journal place_of p rows s = record { boots = boots place_of p rows 0 s; steps = total_steps p rows s; ending = end_of (last_ending p rows s) }
