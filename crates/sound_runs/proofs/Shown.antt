-- Boot by boot the machine's journal shows what the plan's run shows.
use Rattle.std.specs.Prelude.{map, if◌then◌else◌, Option, Some, None}
use Rattle.std.proofs.Common.{◌≡◌, ◌∙◌, ℕ, suc, ◌+◌, false, List, [], ◌∷◌, ◌++◌, length, refl, sym, ap}
use Rattle.devices.specs.Journal.{JournalEvent, Place}
use Rattle.devices.specs.declared.world.PowerRow.{PowerRow}
use Rattle.task_ast.specs.declared.core_form.Core.{Core}
use Rattle.task_attempts.specs.Journals.{events_of}
use Rattle.word_isa.specs.declared.parts.Scheme.{Scheme}
use Rattle.word_machine.specs.Runs.{boots, fail_behind, is_running, numbered}
use Rattle.word_machine.specs.State.{Program}
use Rattle.word_machine.specs.Step.{exec}
use Rattle.word_machine.specs.Straight.{Spot, live}
use Rattle.word_machine.specs.declared.ending.Ending.{Ending}
use Rattle.word_machine.specs.declared.ending.Ending.TheVariants.{Running, Halted, Trapped}
use Rattle.run_plan.specs.Cells as cells
use Rattle.run_plan.specs.Cells.{CellWrite, State}
use Rattle.run_plan.specs.Runs.{Planned, Small, Smalls, after, at_event, boot_run, boots_run, cut_run, left_by, shown_events}
use Rattle.run_plan.specs.Small.{after_shown}
use Rattle.run_plan.specs.Sound.{shown}
use Rattle.act_refines.specs.Seen.{Seen, event_seen, write_seen}
use Rattle.code_cuts.specs.Lasting.{Lasts}
use Rattle.code_cuts.specs.Runs.{Cut, smalls_seen}
use Rattle.power_runs.specs.Due.{HaltsUnmarked}
use Rattle.power_runs.specs.Followed.{AreFollowed, begun_again}
use Rattle.power_runs.specs.Journals.{events_seen, fails_live, tells_in, unnumbered}
use Rattle.sound_runs.specs.Keeps.{ShowsRun}
use Rattle.sound_runs.proofs.Longer.{front_cut}

-- ---- the events of small steps are those that are seen of them

one_small : (c : Core) (scheme : Scheme) (s : State) (w : Option CellWrite) (e : Option JournalEvent) (x : Small) (more : List Seen) (es : List JournalEvent) → tells_in more ≡ es
    → tells_in (write_seen c scheme s w ++ event_seen e ++ more) ≡ at_event (λ e x. e) e x es
one_small c scheme s None None x more es h = h
one_small c scheme s None (Some e) x more es h = ap (λ (ys : List JournalEvent). e ∷ ys) h
one_small c scheme s (Some w) None x more es h = h
one_small c scheme s (Some w) (Some e) x more es h = ap (λ (ys : List JournalEvent). e ∷ ys) h

pub smalls_told : (c : Core) (scheme : Scheme) (xs : Smalls) (s : State) → tells_in (smalls_seen c scheme xs s) ≡ shown_events xs
smalls_told c scheme [] s = refl
smalls_told c scheme (x ∷ xs) s = one_small c scheme (after_shown x.atom.event s) x.atom.write x.atom.event x (smalls_seen c scheme xs x.after) (shown_events xs) (smalls_told c scheme xs x.after)

-- ---- boots

module _ (p : Program) (place_of : ℕ → Place) (unmarked : HaltsUnmarked p) (x : Planned) where
  -- how a boot is followed behind so many steps
  abbrev pub Cuts : ℕ → Spot → State → Type 0
  Cuts n m s = Cut p place_of x.rules.core x.plan.scheme (Lasts p x.rules x.plan.scheme) n 0 m s (boot_run x (suc n) s)

  pub boot_told : (before n : ℕ) (m : Spot) (s : State) (cut : Cuts n m s) → unnumbered (numbered place_of p before n (live m)) ≡ shown_events cut.front
  boot_told before n m s cut = events_seen p place_of unmarked before n (live m) refl ∙ ap tells_in cut.shown ∙ smalls_told x.rules.core x.plan.scheme cut.front s

  -- boots of so many small steps show what the machine's show
  record Shows (rows : List PowerRow) (before : ℕ) (m : Spot) (s : State) : Type 0 where
    pub numbers : List ℕ
    pub events : map events_of (boots place_of p rows before (live m)) ≡ shown (boots_run x numbers s)

  -- where one boot leaves the plan
  pub left_behind : (n : ℕ) (m : Spot) (s : State) (cut : Cuts n m s) → left_by x (length cut.front) s ≡ cells.failed x.rules.core (after s cut.front)
  left_behind n m s cut = ap (λ xs. cells.failed x.rules.core (after s xs)) (front_cut x (suc n) s cut.front cut.rest cut.whole)

  pub first_told : (before n : ℕ) (m : Spot) (s : State) (cut : Cuts n m s) → unnumbered (numbered place_of p before n (live m)) ≡ shown_events (cut_run x (length cut.front) s)
  first_told before n m s cut = boot_told before n m s cut ∙ ap shown_events (sym (front_cut x (suc n) s cut.front cut.rest cut.whole))

  goes_on : (row : PowerRow) (rows : List PowerRow) (before : ℕ) (m : Spot) (s : State) (cut : Cuts row.on m s) → (exec p row.on (live m)).ending ≡ Running
      → Shows rows (before + row.on) (begun_again row (exec p row.on (live m))) (cells.failed x.rules.core (after s cut.front)) → Shows (row ∷ rows) before m s
  unfolding boots boots_run
  goes_on row rows before m s cut on later =
      let tail : map events_of (if is_running (exec p row.on (live m)).ending then boots place_of p rows (before + row.on) (fail_behind row (exec p row.on (live m))) else [])
      ≡ shown (boots_run x later.numbers (left_by x (length cut.front) s)) =
      (λ i. map events_of (if is_running (on i) then boots place_of p rows (before + row.on) (fails_live row (exec p row.on (live m)) on i) else []))
      ∙ later.events ∙ ap (λ t. shown (boots_run x later.numbers t)) (sym (left_behind row.on m s cut)) in
      record { numbers = length cut.front ∷ later.numbers; events = λ i. first_told before row.on m s cut i ∷ tail i }

  stops : (row : PowerRow) (rows : List PowerRow) (before : ℕ) (m : Spot) (s : State) (cut : Cuts row.on m s) → is_running (exec p row.on (live m)).ending ≡ false → Shows (row ∷ rows) before m s
  unfolding boots boots_run
  stops row rows before m s cut over =
      let tail : map events_of (if is_running (exec p row.on (live m)).ending then boots place_of p rows (before + row.on) (fail_behind row (exec p row.on (live m))) else []) ≡ [] =
      ap (λ b. map events_of (if b then boots place_of p rows (before + row.on) (fail_behind row (exec p row.on (live m))) else [])) over in
      record { numbers = length cut.front ∷ []; events = λ i. first_told before row.on m s cut i ∷ tail i }

  by_end : (row : PowerRow) (rows : List PowerRow) (before : ℕ) (m : Spot) (s : State) (cut : Cuts row.on m s) (e : Ending) → (exec p row.on (live m)).ending ≡ e
      → ((exec p row.on (live m)).ending ≡ Running → Shows rows (before + row.on) (begun_again row (exec p row.on (live m))) (cells.failed x.rules.core (after s cut.front))) → Shows (row ∷ rows) before m s
  by_end row rows before m s cut Running is later = goes_on row rows before m s cut is (later is)
  by_end row rows before m s cut Halted is later = stops row rows before m s cut (ap is_running is)
  by_end row rows before m s cut (Trapped code) is later = stops row rows before m s cut (ap is_running is)

  shows : (rows : List PowerRow) (before : ℕ) (m : Spot) (s : State) → AreFollowed p place_of x rows m s → Shows rows before m s
  unfolding boots boots_run
  shows [] before m s h = record { numbers = []; events = refl }
  shows (row ∷ rows) before m s h =
      by_end row rows before m s h.last (exec p row.on (live m)).ending refl
      (λ on. shows rows (before + row.on) (begun_again row (exec p row.on (live m))) (cells.failed x.rules.core (after s h.last.front)) (h.rest on))

pub journal_shows : (p : Program) (place_of : ℕ → Place) → HaltsUnmarked p → (x : Planned) (rows : List PowerRow) (m : Spot) (s : State) → AreFollowed p place_of x rows m s → ShowsRun p place_of x rows m s
journal_shows p place_of unmarked x rows m s h = let all = shows p place_of unmarked x rows 0 m s h in record { numbers = all.numbers; events = all.events }
