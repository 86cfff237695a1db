-- The events of a journal's boots are those that are seen step by step.
use Rattle.std.specs.Prelude.{map, flat_map, Option, Some, None}
use Rattle.std.proofs.Common.{◌≡◌, ◌∙◌, ℕ, zero, suc, ◌+◌, ◌==◌, Bool, true, false, List, [], ◌∷◌, ◌++◌, refl, sym, ap, append_assoc, if◌then◌else◌}
use Rattle.devices.specs.declared.event.Event.{Event}
use Rattle.devices.specs.Journal.{JournalEvent, Place, placed, begins, looks, keeps, drops, issues, seals, copies, commits, traps}
use Rattle.devices.specs.declared.world.PowerRow.{PowerRow}
use Rattle.fram_ram.specs.Engine.{next_destination, next_source}
use Rattle.fram_ram.specs.Memories.{is_fram}
use Rattle.task_attempts.specs.Journals.{look_time}
use Rattle.word_isa.specs.declared.instr.Instr.{Instr}
use Rattle.word_isa.specs.declared.instr.Instr.TheVariants.{St}
use Rattle.word_machine.specs.Events.{event_at, event_next, stepped_next, told}
use Rattle.word_machine.specs.Instructions.{address, fault}
use Rattle.word_machine.specs.RunLaws.{stays_halted, stays_trapped}
use Rattle.word_machine.specs.Runs.{fail_behind, fail_behind_at, journal_event, numbered, told_event}
use Rattle.word_machine.specs.State as machine
use Rattle.word_machine.specs.State.{Program, all_registers}
use Rattle.word_machine.specs.Step.{can_move, exec, fail, fail_at, step, step_at}
use Rattle.word_machine.specs.Straight.{live}
use Rattle.word_machine.specs.Traces as trace
use Rattle.word_machine.specs.Traces.{fetched_writes, moved_writes, noted, seen, shows, unless_trap, writes, writes_at, writes_next}
use Rattle.word_machine.specs.declared.ending.Ending.{Ending}
use Rattle.word_machine.specs.declared.ending.Ending.TheVariants.{Running, Halted, Trapped}
use Rattle.word_machine.specs.declared.stepped.Stepped.TheVariants as stepped
use Rattle.act_refines.specs.Seen.{Seen, puts, tells, trace_seen}
use Rattle.code_cuts.specs.Boots.{time_in, times_in}
use Rattle.code_cuts.specs.Runs.{end_seen}
use Rattle.power_runs.specs.Due.{HaltsUnmarked}
use Rattle.power_runs.specs.Followed.{begun_again}
use Rattle.power_runs.specs.Quiet.{halt_quiet, trap_quiet}

-- the events among what is seen
abbrev pub tells_in : List Seen → List JournalEvent
tells_in [] = []
tells_in (puts at word ∷ xs) = tells_in xs
tells_in (tells e ∷ xs) = e ∷ tells_in xs

-- ---- what is seen, split

pub seen_more : (place_of : ℕ → Place) (a b : List trace.Atom) → trace_seen place_of (a ++ b) ≡ trace_seen place_of a ++ trace_seen place_of b
seen_more place_of [] b = refl
seen_more place_of (trace.wrote at word ∷ a) b = ap (λ (xs : List Seen). puts at word ∷ xs) (seen_more place_of a b)
seen_more place_of (trace.showed e ∷ a) b = ap (λ (xs : List Seen). tells (placed place_of e) ∷ xs) (seen_more place_of a b)

pub tells_more : (a b : List Seen) → tells_in (a ++ b) ≡ tells_in a ++ tells_in b
tells_more [] b = refl
tells_more (puts at word ∷ a) b = tells_more a b
tells_more (tells e ∷ a) b = ap (λ (xs : List JournalEvent). e ∷ xs) (tells_more a b)

-- the times of looks among events
time_of : (e : JournalEvent) (times : List ℕ) → look_time e ++ times ≡ time_in e times
time_of (begins t) times = refl
time_of (looks k t) times = refl
time_of (keeps k value) times = refl
time_of (drops k) times = refl
time_of (issues k q args reading) times = refl
time_of (seals k) times = refl
time_of (copies k from to n) times = refl
time_of (commits next) times = refl
time_of (traps code) times = refl

pub times_told : (xs : List Seen) → flat_map look_time (tells_in xs) ≡ times_in xs
times_told [] = refl
times_told (puts at word ∷ xs) = times_told xs
times_told (tells e ∷ xs) = ap (λ (ts : List ℕ). look_time e ++ ts) (times_told xs) ∙ time_of e (times_in xs)

-- ---- a step's writes are no events

module _ (place_of : ℕ → Place) where
  -- what is told of a trace
  abbrev Told : List trace.Atom → List JournalEvent
  Told atoms = tells_in (trace_seen place_of atoms)

  noted_untold : (at word : ℕ) (more : List trace.Atom) → Told (noted at word ++ more) ≡ Told more
  noted_untold at word more = by (is_fram at)
    where
      by : (b : Bool) → Told ((if b then trace.wrote at word ∷ [] else []) ++ more) ≡ Told more
      by true = refl
      by false = refl

  instr_untold : (i : Instr) (s : machine.State) (more : List trace.Atom) → Told (writes i s ++ more) ≡ Told more
  instr_untold (St a b n) s more = noted_untold (address s b n) (s.regs a) more
  instr_untold _ s more = refl

  fetched_untold : (i : Option Instr) (s : machine.State) (more : List trace.Atom) → Told (fetched_writes i s ++ more) ≡ Told more
  fetched_untold None s more = refl
  fetched_untold (Some i) s more = by (fault i s)
    where
      by : (f : Option ℕ) → Told (unless_trap f (writes i s) ++ more) ≡ Told more
      by None = instr_untold i s more
      by (Some code) = refl

  moved_untold : (s : machine.State) (more : List trace.Atom) → Told (moved_writes s ++ more) ≡ Told more
  moved_untold s more = by (can_move s)
    where
      by : (b : Bool) → Told ((if b then noted (next_destination s.engine) (s.store (next_source s.engine)) else []) ++ more) ≡ Told more
      by true = noted_untold (next_destination s.engine) (s.store (next_source s.engine)) more
      by false = refl

  writes_untold : (p : Program) (s : machine.State) (more : List trace.Atom) → Told (writes_next p s ++ more) ≡ Told more
  unfolding writes_next
  writes_untold p s more = by s.ending
    where
      at_work : (b : Bool) → Told ((if b then fetched_writes (p.instr s.pc) s else moved_writes s) ++ more) ≡ Told more
      at_work true = fetched_untold (p.instr s.pc) s more
      at_work false = moved_untold s more

      by : (ending : Ending) → Told (writes_at p ending s ++ more) ≡ Told more
      by Running = at_work (s.engine.left == 0)
      by Halted = refl
      by (Trapped code) = refl

-- ---- steps

-- events without the numbers of their steps
abbrev pub unnumbered : List (ℕ × JournalEvent) → List JournalEvent
unnumbered events = map (λ e. e.1) events

numbers_off : (k : ℕ) (es : List JournalEvent) (rest : List (ℕ × JournalEvent)) → unnumbered (map (λ e. (k, e)) es ++ rest) ≡ es ++ unnumbered rest
numbers_off k [] rest = refl
numbers_off k (e ∷ es) rest = ap (λ (xs : List JournalEvent). e ∷ xs) (numbers_off k es rest)

-- an event that the machine goes on behind
abbrev pub shown_of : (ℕ → Place) → Option Event → List JournalEvent
shown_of place_of e = told_event place_of (stepped.Ran e)

event_told : (place_of : ℕ → Place) (e : Option Event) → tells_in (trace_seen place_of (shows e)) ≡ shown_of place_of e
event_told place_of None = refl
event_told place_of (Some e) = refl

module _ (p : Program) (place_of : ℕ → Place) where
  -- a step tells its event
  pub step_told : (s : machine.State) → tells_in (trace_seen place_of (seen p s)) ≡ shown_of place_of (event_next p s)
  step_told s = writes_untold place_of p s (shows (event_next p s)) ∙ event_told place_of (event_next p s)

  -- an ended machine shows nothing
  halted_numbers : (before n : ℕ) (s : machine.State) → s.ending ≡ Halted → unnumbered (numbered place_of p before n s) ≡ []
  unfolding numbered step
  halted_numbers before zero s is = refl
  halted_numbers before (suc n) s is =
      let nothing : journal_event place_of p s ≡ [] = rw is in
      let stays : step_at p s.ending s ≡ s = rw is in
      (λ i. unnumbered (map (λ e. (suc before, e)) (nothing i) ++ numbered place_of p (suc before) n (stays i))) ∙ halted_numbers (suc before) n s is

  trapped_numbers : (before n code : ℕ) (s : machine.State) → s.ending ≡ Trapped code → unnumbered (numbered place_of p before n s) ≡ []
  unfolding numbered step
  trapped_numbers before zero code s is = refl
  trapped_numbers before (suc n) code s is =
      let nothing : journal_event place_of p s ≡ [] = rw is in
      let stays : step_at p s.ending s ≡ s = rw is in
      (λ i. unnumbered (map (λ e. (suc before, e)) (nothing i) ++ numbered place_of p (suc before) n (stays i))) ∙ trapped_numbers (suc before) n code s is

  halted_trace : (n : ℕ) (s : machine.State) → s.ending ≡ Halted → trace.trace p n s ≡ []
  unfolding trace.trace step writes_next event_next
  halted_trace zero s is = refl
  halted_trace (suc n) s is =
      let stays : step_at p s.ending s ≡ s = rw is in
      (λ i. (writes_at p (is i) s ++ shows (event_at p (is i) s)) ++ trace.trace p n (stays i)) ∙ halted_trace n s is

  trapped_trace : (n code : ℕ) (s : machine.State) → s.ending ≡ Trapped code → trace.trace p n s ≡ []
  unfolding trace.trace step writes_next event_next
  trapped_trace zero code s is = refl
  trapped_trace (suc n) code s is =
      let stays : step_at p s.ending s ≡ s = rw is in
      (λ i. (writes_at p (is i) s ++ shows (event_at p (is i) s)) ++ trace.trace p n (stays i)) ∙ trapped_trace n code s is

  -- the events of steps from a state on
  abbrev Events : (n : ℕ) → machine.State → List JournalEvent
  Events n s = tells_in (trace_seen place_of (trace.trace p n s) ++ end_seen (exec p n s).ending)

  abbrev Shown : Option Event → List JournalEvent
  Shown e = shown_of place_of e

  shown_first : (e : Option Event) (more : List trace.Atom) → tells_in (trace_seen place_of (shows e ++ more)) ≡ Shown e ++ tells_in (trace_seen place_of more)
  shown_first None more = refl
  shown_first (Some e) more = refl

  -- those of the first step come first
  one_told : (s : machine.State) (atoms : List trace.Atom) (ends : List Seen) → tells_in (trace_seen place_of (seen p s ++ atoms) ++ ends) ≡ Shown (event_next p s) ++ tells_in (trace_seen place_of atoms ++ ends)
  one_told s atoms ends =
      let e : Option Event = event_next p s in
      tells_more (trace_seen place_of (seen p s ++ atoms)) ends
      ∙ ap (λ xs. tells_in (trace_seen place_of xs) ++ tells_in ends) (append_assoc (writes_next p s) (shows e) atoms)
      ∙ ap (λ xs. xs ++ tells_in ends) (writes_untold place_of p s (shows e ++ atoms) ∙ shown_first e atoms)
      ∙ append_assoc (Shown e) (tells_in (trace_seen place_of atoms)) (tells_in ends)
      ∙ ap (λ xs. Shown e ++ xs) (sym (tells_more (trace_seen place_of atoms) ends))

  told_now : (s : machine.State) → s.ending ≡ Running → journal_event place_of p s ≡ told_event place_of (told (step p s).ending (event_next p s))
  unfolding stepped_next
  told_now s on = rw on

  -- behind a step that goes on, and behind one that ends the machine
  on_told : (before n : ℕ) (s : machine.State) → s.ending ≡ Running → (step p s).ending ≡ Running → unnumbered (numbered place_of p before n (step p s)) ≡ Events n (step p s)
      → journal_event place_of p s ++ unnumbered (numbered place_of p before n (step p s)) ≡ Shown (event_next p s) ++ Events n (step p s)
  on_told before n s on is rest =
      let first : journal_event place_of p s ≡ Shown (event_next p s) = told_now s on ∙ ap (λ e. told_event place_of (told e (event_next p s))) is in
      λ i. first i ++ rest i

  halted_told : HaltsUnmarked p → (before n : ℕ) (s : machine.State) → s.ending ≡ Running → (step p s).ending ≡ Halted
      → journal_event place_of p s ++ unnumbered (numbered place_of p before n (step p s)) ≡ Shown (event_next p s) ++ Events n (step p s)
  halted_told unmarked before n s on is =
      let first : journal_event place_of p s ≡ [] = told_now s on ∙ ap (λ e. told_event place_of (told e (event_next p s))) is in
      let quiet : event_next p s ≡ None = halt_quiet p unmarked s on is in
      let none : trace.trace p n (step p s) ≡ [] = halted_trace n (step p s) is in
      let ended : (exec p n (step p s)).ending ≡ Halted = ap (λ e. e.ending) (stays_halted p n (step p s) is) ∙ is in
      (λ i. first i ++ halted_numbers before n (step p s) is i) ∙ sym (λ i. Shown (quiet i) ++ tells_in (trace_seen place_of (none i) ++ end_seen (ended i)))

  trapped_told : (before n code : ℕ) (s : machine.State) → s.ending ≡ Running → (step p s).ending ≡ Trapped code
      → journal_event place_of p s ++ unnumbered (numbered place_of p before n (step p s)) ≡ Shown (event_next p s) ++ Events n (step p s)
  trapped_told before n code s on is =
      let first : journal_event place_of p s ≡ traps code ∷ [] = told_now s on ∙ ap (λ e. told_event place_of (told e (event_next p s))) is in
      let quiet : event_next p s ≡ None = trap_quiet p s code on is in
      let none : trace.trace p n (step p s) ≡ [] = trapped_trace n code (step p s) is in
      let ended : (exec p n (step p s)).ending ≡ Trapped code = ap (λ e. e.ending) (stays_trapped p n code (step p s) is) ∙ is in
      (λ i. first i ++ trapped_numbers before n code (step p s) is i) ∙ sym (λ i. Shown (quiet i) ++ tells_in (trace_seen place_of (none i) ++ end_seen (ended i)))

  by_end : HaltsUnmarked p → (before n : ℕ) (s : machine.State) → s.ending ≡ Running → (ending : Ending) → (step p s).ending ≡ ending
      → ((step p s).ending ≡ Running → unnumbered (numbered place_of p before n (step p s)) ≡ Events n (step p s))
      → journal_event place_of p s ++ unnumbered (numbered place_of p before n (step p s)) ≡ Shown (event_next p s) ++ Events n (step p s)
  by_end unmarked before n s on Running is rest = on_told before n s on is (rest is)
  by_end unmarked before n s on Halted is rest = halted_told unmarked before n s on is
  by_end unmarked before n s on (Trapped code) is rest = trapped_told before n code s on is

  -- the events of a boot's steps are those that are seen of them, a trap as the machine ends
  pub events_seen : HaltsUnmarked p → (before n : ℕ) (s : machine.State) → s.ending ≡ Running → unnumbered (numbered place_of p before n s) ≡ Events n s
  unfolding numbered trace.trace exec
  events_seen unmarked before zero s on = ap (λ e. tells_in (end_seen e)) (sym on)
  events_seen unmarked before (suc n) s on =
      numbers_off (suc before) (journal_event place_of p s) (numbered place_of p (suc before) n (step p s))
      ∙ by_end unmarked (suc before) n s on (step p s).ending refl (λ is. events_seen unmarked (suc before) n (step p s) is)
      ∙ sym (one_told s (trace.trace p n (step p s)) (end_seen (exec p n (step p s)).ending))

-- ---- power rows

-- behind a failure the machine begins again
pub fails_live : (row : PowerRow) (e : machine.State) → e.ending ≡ Running → fail_behind row e ≡ live (begun_again row e)
unfolding fail
fails_live row e on =
    ap (λ k. fail_behind_at k row e) on
    ∙ ap (λ k. record (fail_at k row.fill e) { clock = e.clock + row.off }) on
    ∙ ap (λ k. record (live (begun_again row e)) { ending = k }) on
