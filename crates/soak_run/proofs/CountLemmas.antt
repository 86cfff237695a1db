-- What is counted step by step is what the journal counts.
use Rattle.std.specs.Prelude.{map, if◌then◌else◌}
use Rattle.std.proofs.Common.{◌≡◌, ◌∙◌, ℕ, zero, suc, ◌+◌, Bool, true, false, List, [], ◌∷◌, ◌++◌, Some, None, refl, ap}
use Rattle.devices.specs.Journal.{Place, JournalEvent, placed}
use Rattle.devices.specs.declared.event.Event.{Event}
use Rattle.devices.specs.declared.event.Event.TheVariants.{Begin, Look, Kept, Dropped, Issued, Sealed, Copied, Commit}
use Rattle.devices.specs.declared.world.PowerRow.{PowerRow}
use Rattle.soak_run.specs.Counts.{with_boot, with_event, with_events, with_boots}
use Rattle.soak_run.specs.Steps.{with_shown, with_told, with_steps, with_rows}
use Rattle.soak_run.specs.declared.counts.Counts.{Counts}
use Rattle.word_machine.specs.Events.{stepped_next}
use Rattle.word_machine.specs.Runs.{is_running, told_event, journal_event, numbered, boots, fail_behind}
use Rattle.word_machine.specs.State.{Program, State}
use Rattle.word_machine.specs.Step.{step, exec}
use Rattle.word_machine.specs.declared.stepped.Stepped.{Stepped}
use Rattle.word_machine.specs.declared.stepped.Stepped.TheVariants as stepped

-- whatever the places of addresses
shown_placed : (f : ℕ → Place) (e : Event) (c : Counts) → with_event (placed f e) c ≡ with_shown e c
shown_placed f (Begin task) c = refl
shown_placed f (Look site time) c = refl
shown_placed f (Kept site value) c = refl
shown_placed f (Dropped site) c = refl
shown_placed f (Issued site peripheral args reading) c = refl
shown_placed f (Sealed site) c = refl
shown_placed f (Copied site from to words) c = refl
shown_placed f (Commit next) c = refl

told_counts : (f : ℕ → Place) (n : ℕ) (a : Stepped) (c : Counts) → with_events (map (λ (e : JournalEvent). (n, e)) (told_event f a)) c ≡ with_told a c
told_counts f n (stepped.Ran None) c = refl
told_counts f n (stepped.Ran (Some e)) c = shown_placed f e c
told_counts f n stepped.Halted c = refl
told_counts f n (stepped.Trapped code) c = refl

events_more : (a b : List (ℕ × JournalEvent)) (c : Counts) → with_events (a ++ b) c ≡ with_events b (with_events a c)
events_more [] b c = refl
events_more (e ∷ a) b c = events_more a b (with_event e.1 c)

-- one step
one_counts : (f : ℕ → Place) (p : Program) (n : ℕ) (s : State) (c : Counts)
    → with_events (map (λ (e : JournalEvent). (n, e)) (journal_event f p s)) c ≡ (if is_running s.ending then with_told (stepped_next p s) c else c)
one_counts f p n s c = by (is_running s.ending)
  where
    by : (b : Bool) → with_events (map (λ (e : JournalEvent). (n, e)) (if b then told_event f (stepped_next p s) else [])) c ≡ (if b then with_told (stepped_next p s) c else c)
    by true = told_counts f n (stepped_next p s) c
    by false = refl

-- so many steps
pub steps_count : (f : ℕ → Place) (p : Program) (before n : ℕ) (s : State) (c : Counts) → with_events (numbered f p before n s) c ≡ with_steps p n s c
unfolding numbered with_steps
steps_count f p before zero s c = refl
steps_count f p before (suc n) s c =
    events_more (map (λ (e : JournalEvent). (suc before, e)) (journal_event f p s)) (numbered f p (suc before) n (step p s)) c
    ∙ ap (with_events (numbered f p (suc before) n (step p s))) (one_counts f p (suc before) s c)
    ∙ steps_count f p (suc before) n (step p s) (if is_running s.ending then with_told (stepped_next p s) c else c)

-- all rows
pub rows_count : (f : ℕ → Place) (p : Program) (rows : List PowerRow) (before : ℕ) (s : State) (c : Counts) → with_boots (boots f p rows before s) c ≡ with_rows p rows s c
unfolding boots with_rows
rows_count f p [] before s c = refl
rows_count f p (row ∷ rows) before s c =
    ap (with_boots (if is_running (exec p row.on s).ending then boots f p rows (before + row.on) (fail_behind row (exec p row.on s)) else [])) (steps_count f p before row.on s (with_boot c))
    ∙ by (is_running (exec p row.on s).ending) (rows_count f p rows (before + row.on) (fail_behind row (exec p row.on s)) (with_steps p row.on s (with_boot c)))
  where
    by : (b : Bool) → with_boots (boots f p rows (before + row.on) (fail_behind row (exec p row.on s))) (with_steps p row.on s (with_boot c))
        ≡ with_rows p rows (fail_behind row (exec p row.on s)) (with_steps p row.on s (with_boot c))
        → with_boots (if b then boots f p rows (before + row.on) (fail_behind row (exec p row.on s)) else []) (with_steps p row.on s (with_boot c))
        ≡ (if b then with_rows p rows (fail_behind row (exec p row.on s)) (with_steps p row.on s (with_boot c)) else with_steps p row.on s (with_boot c))
    by true h = h
    by false h = refl
