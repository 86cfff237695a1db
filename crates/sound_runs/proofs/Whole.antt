-- Over all power rows: what the journal shows and what the machine commits are those of one run of the plan.
use Rattle.std.specs.Prelude.{flat_map, map, if◌then◌else◌}
use Rattle.std.proofs.Common.{◌≡◌, ◌∙◌, ℕ, suc, ◌+◌, ◌<◌, false, List, [], ◌∷◌, length, refl, sym, ap, subst, arith}
use Rattle.devices.specs.Journal.{Place}
use Rattle.devices.specs.declared.world.PowerRow.{PowerRow}
use Rattle.devices.specs.declared.world.World.{World}
use Rattle.task_ast.specs.declared.core_form.Core.{Core}
use Rattle.task_attempts.specs.Journals.{events_of, looks_of}
use Rattle.walk_run.specs.declared.walked.State as walked
use Rattle.word_isa.specs.declared.parts.Scheme.{Scheme}
use Rattle.word_machine.specs.Runs.{boots, fail_behind, is_running, journal}
use Rattle.word_machine.specs.State as machine
use Rattle.word_machine.specs.State.{Program}
use Rattle.word_machine.specs.Step.{exec}
use Rattle.word_machine.specs.Straight.{Spot, live}
use Rattle.word_machine.specs.declared.ending.Ending.{Ending}
use Rattle.word_machine.specs.declared.ending.Ending.TheVariants.{Running, Halted, Trapped}
use Rattle.run_plan.specs.Cells as cells
use Rattle.run_plan.specs.Cells.{State}
use Rattle.run_plan.specs.Runs.{Planned, Smalls, after, boot_run, boots_run, commit_states, cut_run, left_by, plan_run, started}
use Rattle.run_plan.specs.Sound.{IsSoundRun, shown}
use Rattle.code_cuts.specs.Lasting.{Lasts}
use Rattle.code_cuts.specs.Runs.{Cut}
use Rattle.plan_restore.specs.Kept.{planned}
use Rattle.power_runs.specs.Due.{HaltsUnmarked}
use Rattle.power_runs.specs.Followed.{AreFollowed, begun_again}
use Rattle.power_runs.specs.Journals.{fails_live}
use Rattle.sound_runs.specs.Committed.{AreCommitted, commits_in, committed_on}
use Rattle.sound_runs.specs.Keeps.{IsSoundOn}
use Rattle.sound_runs.proofs.BootCommits.{boot_commits}
use Rattle.sound_runs.proofs.CommitsOn.{committed_more}
use Rattle.sound_runs.proofs.Keeping.{keeps_events}
use Rattle.sound_runs.proofs.Longer.{front_cut}
use Rattle.sound_runs.proofs.Shown.{first_told, left_behind}
use Rattle.sound_runs.proofs.TrapsLast.{traps_last}

module _ (c : Core) (world : World) (scheme : Scheme) (p : Program) (place_of : ℕ → Place) (unmarked : HaltsUnmarked p) where
  abbrev x : Planned
  x = planned c world scheme

  abbrev Cuts : ℕ → Spot → State → Type 0
  Cuts n m s = Cut p place_of c scheme (Lasts p x.rules scheme) n 0 m s (boot_run x (suc n) s)

  -- the states at the commits of a run
  abbrev States : List Smalls → List walked.State
  States run = flat_map (commit_states x) run

  -- boots of so many small steps show what the machine's show, and commit what it commits
  record Shows (rows : List PowerRow) (before : ℕ) (m : Spot) (s : State) : Type 0 where
    pub numbers : List ℕ
    pub events : map events_of (boots place_of p rows before (live m)) ≡ shown (boots_run x numbers s)
    pub committed : AreCommitted p x.rules scheme (committed_on p rows (live m)) (States (boots_run x numbers s))

  -- what one boot commits
  abbrev Commits : (n : ℕ) → (m : Spot) (s : State) → Cuts n m s → Type 0
  Commits n m s cut = AreCommitted p x.rules scheme (commits_in p n (live m)) (commit_states x cut.front)

  first_committed : (n : ℕ) (m : Spot) (s : State) (cut : Cuts n m s) → Commits n m s cut → AreCommitted p x.rules scheme (commits_in p n (live m)) (commit_states x (cut_run x (length cut.front) s))
  first_committed n m s cut h = subst (λ xs. AreCommitted p x.rules scheme (commits_in p n (live m)) (commit_states x xs)) (sym (front_cut x (suc n) s cut.front cut.rest cut.whole)) h

  goes_on : (row : PowerRow) (rows : List PowerRow) (before : ℕ) (m : Spot) (s : State) (cut : Cuts row.on m s) → Commits row.on m s cut → (exec p row.on (live m)).ending ≡ Running
      → Shows rows (before + row.on) (begun_again row (exec p row.on (live m))) (cells.failed c (after s cut.front)) → Shows (row ∷ rows) before m s
  unfolding boots boots_run committed_on
  goes_on row rows before m s cut commits on later =
      let e : machine.State = exec p row.on (live m) in
      let left : left_by x (length cut.front) s ≡ cells.failed c (after s cut.front) = left_behind p place_of unmarked x row.on m s cut in
      let tail : map events_of (if is_running e.ending then boots place_of p rows (before + row.on) (fail_behind row e) else []) ≡ shown (boots_run x later.numbers (left_by x (length cut.front) s)) =
      (λ i. map events_of (if is_running (on i) then boots place_of p rows (before + row.on) (fails_live row e on i) else []))
      ∙ later.events ∙ ap (λ t. shown (boots_run x later.numbers t)) (sym left) in
      let states : AreCommitted p x.rules scheme (committed_on p rows (live (begun_again row e))) (States (boots_run x later.numbers (left_by x (length cut.front) s))) =
      subst (λ t. AreCommitted p x.rules scheme (committed_on p rows (live (begun_again row e))) (States (boots_run x later.numbers t))) (sym left) later.committed in
      let behind : (if is_running e.ending then committed_on p rows (fail_behind row e) else []) ≡ committed_on p rows (live (begun_again row e)) =
      (λ i. if is_running (on i) then committed_on p rows (fails_live row e on i) else []) in
      record {
        numbers = length cut.front ∷ later.numbers;
        events = λ i. first_told p place_of unmarked x before row.on m s cut i ∷ tail i;
        committed = committed_more p x.rules scheme (commits_in p row.on (live m)) (if is_running e.ending then committed_on p rows (fail_behind row e) else [])
            (commit_states x (cut_run x (length cut.front) s)) (States (boots_run x later.numbers (left_by x (length cut.front) s)))
            (first_committed row.on m s cut commits)
            (subst (λ xs. AreCommitted p x.rules scheme xs (States (boots_run x later.numbers (left_by x (length cut.front) s)))) (sym behind) states);
      }

  stops : (row : PowerRow) (rows : List PowerRow) (before : ℕ) (m : Spot) (s : State) (cut : Cuts row.on m s) → Commits row.on m s cut → is_running (exec p row.on (live m)).ending ≡ false → Shows (row ∷ rows) before m s
  unfolding boots boots_run committed_on
  stops row rows before m s cut commits over =
      let e : machine.State = exec p row.on (live m) in
      let tail : map events_of (if is_running e.ending then boots place_of p rows (before + row.on) (fail_behind row e) else []) ≡ [] =
      ap (λ b. map events_of (if b then boots place_of p rows (before + row.on) (fail_behind row e) else [])) over in
      let behind : (if is_running e.ending then committed_on p rows (fail_behind row e) else []) ≡ [] = ap (λ b. if b then committed_on p rows (fail_behind row e) else []) over in
      record {
        numbers = length cut.front ∷ [];
        events = λ i. first_told p place_of unmarked x before row.on m s cut i ∷ tail i;
        committed = committed_more p x.rules scheme (commits_in p row.on (live m)) (if is_running e.ending then committed_on p rows (fail_behind row e) else []) (commit_states x (cut_run x (length cut.front) s)) []
            (first_committed row.on m s cut commits) (subst (λ xs. AreCommitted p x.rules scheme xs []) (sym behind) tt);
      }

  by_end : (row : PowerRow) (rows : List PowerRow) (before : ℕ) (m : Spot) (s : State) (cut : Cuts row.on m s) → Commits row.on m s cut → (k : Ending) → (exec p row.on (live m)).ending ≡ k
      → ((exec p row.on (live m)).ending ≡ Running → Shows rows (before + row.on) (begun_again row (exec p row.on (live m))) (cells.failed c (after s cut.front))) → Shows (row ∷ rows) before m s
  by_end row rows before m s cut commits Running is later = goes_on row rows before m s cut commits is (later is)
  by_end row rows before m s cut commits Halted is later = stops row rows before m s cut commits (ap is_running is)
  by_end row rows before m s cut commits (Trapped code) is later = stops row rows before m s cut commits (ap is_running is)

  shows : (rows : List PowerRow) (before : ℕ) (m : Spot) (s : State) → AreFollowed p place_of x rows m s → Shows rows before m s
  unfolding boots boots_run committed_on
  shows [] before m s h = record { numbers = []; events = refl; committed = tt }
  shows (row ∷ rows) before m s h =
      by_end row rows before m s h.last (boot_commits c world scheme p place_of unmarked row.on m s (λ n less. h.cuts n (suc n) (let few : n < row.on = less in omega (arith, few)) (omega arith)) row.on (omega arith) h.last) (exec p row.on (live m)).ending refl
      (λ on. shows rows (before + row.on) (begun_again row (exec p row.on (live m))) (cells.failed c (after s h.last.front)) (h.rest on))

  -- from the plan's first state on
  pub sound_on : ((numbers looks : List ℕ) → IsSoundRun x numbers looks) → (rows : List PowerRow) (m : Spot) → AreFollowed p place_of x rows m (started x (looks_of (journal place_of p rows (live m)))) → IsSoundOn p place_of x rows m
  sound_on sound rows m h =
      let times : List ℕ = looks_of (journal place_of p rows (live m)) in
      let all : Shows rows 0 m (started x times) = shows rows 0 m (started x times) h in
      record {
        numbers = all.numbers;
        states = States (plan_run x all.numbers times);
        events = all.events;
        keeps = keeps_events x (journal place_of p rows (live m)) all.numbers all.events (traps_last p place_of unmarked rows 0 m) (sound all.numbers times);
        committed = all.committed;
      }
