-- The steps of a machine's journal fit its power.
use Rattle.std.specs.Prelude.{◌||◌, if◌then◌else◌, map}
use Rattle.std.proofs.Common.{◌≡◌, ◌∙◌, ℕ, zero, suc, ◌+◌, ◌<◌, ◌≤◌, Bool, true, false, List, [], ◌∷◌, ◌++◌, Option, Some, None, refl, sym, ap, arith}
use Rattle.std.proofs.lemmas.Bool.{false≢true}
use Rattle.devices.specs.Journal.{Boot, JournalEvent, Place, placed}
use Rattle.devices.specs.declared.event.Event.{Event}
use Rattle.devices.specs.declared.event.Event.TheVariants as the
use Rattle.devices.specs.declared.world.PowerRow.{PowerRow}
use Rattle.audit_check.specs.Fits.{BootsFit, EventsFit, has_trap, is_trap}
use Rattle.word_machine.specs.Events.{event_next, stepped_next, told}
use Rattle.word_machine.specs.Runs.{boots, fail_behind, is_running, journal_event, numbered, told_event}
use Rattle.word_machine.specs.State.{Program, State}
use Rattle.word_machine.specs.Step.{exec, step}
use Rattle.word_machine.specs.declared.ending.Ending.{Ending}
use Rattle.word_machine.specs.declared.ending.Ending.TheVariants.{Running, Halted, Trapped}
use Rattle.journal_fits.proofs.Ended.{ended_shows, ended_stays}

-- no event of a step that goes on is a trap
pub no_trap : (place_of : ℕ → Place) (e : Event) → is_trap (placed place_of e) ≡ false
no_trap place_of (the.Begin task) = refl
no_trap place_of (the.Look site time) = refl
no_trap place_of (the.Kept site value) = refl
no_trap place_of (the.Dropped site) = refl
no_trap place_of (the.Issued site q args reading) = refl
no_trap place_of (the.Sealed site) = refl
no_trap place_of (the.Copied site from to words) = refl
no_trap place_of (the.Commit next) = refl

-- ---- the events of a boot

-- what a step shows, by how the machine is behind it, in front of events that fit
told_fits : (place_of : ℕ → Place) (done before last : ℕ) (ending : Ending) (e : Option Event) (rest : List (ℕ × JournalEvent)) → done ≤ before → before < last → (is_running ending ≡ false → rest ≡ [])
    → EventsFit done last rest → EventsFit (suc before) last rest → EventsFit done last (map (λ e. (suc before, e)) (told_event place_of (told ending e)) ++ rest)
told_fits place_of done before last Running None rest low high ended here behind = here
told_fits place_of done before last Running (Some e) rest low high ended here behind = (omega (arith, low), high, λ traps. absurd (false≢true (sym (no_trap place_of e) ∙ traps)), behind)
told_fits place_of done before last Halted e rest low high ended here behind = here
told_fits place_of done before last (Trapped code) e rest low high ended here behind = (omega (arith, low), high, λ traps. ended refl, behind)

-- of a machine that goes on, or doesn't
shown_fits : (place_of : ℕ → Place) (p : Program) (done before last : ℕ) (s : State) (rest : List (ℕ × JournalEvent)) → done ≤ before → before < last → (is_running (step p s).ending ≡ false → rest ≡ [])
    → EventsFit done last rest → EventsFit (suc before) last rest → EventsFit done last (map (λ e. (suc before, e)) (journal_event place_of p s) ++ rest)
unfolding stepped_next
shown_fits place_of p done before last s rest low high ended here behind = by (is_running s.ending)
  where
    by : (b : Bool) → EventsFit done last (map (λ e. (suc before, e)) (if b then told_event place_of (stepped_next p s) else []) ++ rest)
    by true = told_fits place_of done before last (step p s).ending (event_next p s) rest low high ended here behind
    by false = here

pub events_fit : (place_of : ℕ → Place) (p : Program) (done before last n : ℕ) (s : State) → done ≤ before → before + n ≤ last → EventsFit done last (numbered place_of p before n s)
unfolding numbered
events_fit place_of p done before last zero s low high = tt
events_fit place_of p done before last (suc n) s low high =
    shown_fits place_of p done before last s (numbered place_of p (suc before) n (step p s)) low (omega (arith, high)) (ended_shows place_of p (suc before) n (step p s))
    (events_fit place_of p done (suc before) last n (step p s) (omega (arith, low)) (omega (arith, high)))
    (events_fit place_of p (suc before) (suc before) last n (step p s) (omega arith) (omega (arith, high)))

-- ---- a trap is the last event

told_traps : (place_of : ℕ → Place) (number : ℕ) (ending : Ending) (e : Option Event) (rest : List (ℕ × JournalEvent))
    → has_trap (map (λ e. (number, e)) (told_event place_of (told ending e)) ++ rest) ≡ true → is_running ending ≡ true → has_trap rest ≡ true
told_traps place_of number Running None rest h on = h
told_traps place_of number Running (Some e) rest h on = sym (ap (λ b. b || has_trap rest) (no_trap place_of e)) ∙ h
told_traps place_of number Halted e rest h on = h
told_traps place_of number (Trapped code) e rest h on = absurd (false≢true on)

-- of a machine that goes on
shown_traps : (place_of : ℕ → Place) (p : Program) (number : ℕ) (s : State) (rest : List (ℕ × JournalEvent)) → is_running s.ending ≡ true → is_running (step p s).ending ≡ true
    → has_trap (map (λ e. (number, e)) (journal_event place_of p s) ++ rest) ≡ true → has_trap rest ≡ true
unfolding stepped_next
shown_traps place_of p number s rest on still h =
    let told_here : has_trap (map (λ (e : JournalEvent). (number, e)) (told_event place_of (told (step p s).ending (event_next p s))) ++ rest) ≡ true =
    sym (ap (λ b. has_trap (map (λ (e : JournalEvent). (number, e)) (if b then told_event place_of (told (step p s).ending (event_next p s)) else []) ++ rest)) on) ∙ h in
    told_traps place_of number (step p s).ending (event_next p s) rest told_here still

-- a boot in which the machine traps is its last
pub trap_ends : (place_of : ℕ → Place) (p : Program) (before n : ℕ) (s : State) → has_trap (numbered place_of p before n s) ≡ true → is_running (exec p n s).ending ≡ false
unfolding numbered exec
trap_ends place_of p before zero s h = absurd (false≢true h)
trap_ends place_of p before (suc n) s h =
    by (is_running s.ending) refl (is_running (step p s).ending) refl (λ on still. trap_ends place_of p (suc before) n (step p s) (shown_traps place_of p (suc before) s (numbered place_of p (suc before) n (step p s)) on still h))
  where
    by : (a : Bool) → is_running s.ending ≡ a → (b : Bool) → is_running (step p s).ending ≡ b → (is_running s.ending ≡ true → is_running (step p s).ending ≡ true → is_running (exec p n (step p s)).ending ≡ false)
        → is_running (exec p n (step p s)).ending ≡ false
    by false ended b is rest = ap (λ t. is_running t.ending) (ended_stays p (suc n) s ended) ∙ ended
    by true on false ended rest = ap (λ t. is_running t.ending) (ended_stays p n (step p s) ended) ∙ ended
    by true on true still rest = rest on still

-- ---- all boots

none_if : (b : Bool) (bs : List Boot) → b ≡ false → (if b then bs else []) ≡ []
none_if b bs ended = ap (λ b. if b then bs else []) ended

boots_if : (done : ℕ) (rows : List PowerRow) (b : Bool) (bs : List Boot) → (b ≡ true → BootsFit done rows bs) → BootsFit done rows (if b then bs else [])
boots_if done rows true bs h = h refl
boots_if done rows false bs h = tt

pub boots_fit : (place_of : ℕ → Place) (p : Program) (rows : List PowerRow) (before : ℕ) (s : State) → BootsFit before rows (boots place_of p rows before s)
unfolding boots
boots_fit place_of p [] before s = tt
boots_fit place_of p (row ∷ rows) before s =
    let after = exec p row.on s in (
      refl,
      events_fit place_of p before before (before + row.on) row.on s (omega arith) (omega arith),
      λ traps. none_if (is_running after.ending) (boots place_of p rows (before + row.on) (fail_behind row after)) (trap_ends place_of p before row.on s traps),
      boots_if (before + row.on) rows (is_running after.ending) (boots place_of p rows (before + row.on) (fail_behind row after)) (λ on. boots_fit place_of p rows (before + row.on) (fail_behind row after)),
    )
