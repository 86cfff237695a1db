-- The acts of statements without sites, of conditions and of exits tell what the rules say, if what comes behind them does.
use Rattle.std.proofs.Common.{◌≡◌, ◌∙◌, ℕ, zero, suc, ◌+◌, ◌*◌, ◌≤◌, Bool, true, false, cond, List, [], ◌∷◌, length, map, Result, Ok, Err, refl, sym, ap, subst, arith}
use Rattle.std.specs.Prelude.{Some, None}
use Rattle.std.specs.List.{AllByRecursion}
use Rattle.task_ast.specs.declared.core_form.CoreExpr.{CoreExpr}
use Rattle.task_ast.specs.declared.core_form.CoreStmt.{CoreStmt}
use Rattle.task_ast.specs.declared.core_form.CoreExit.{CoreExit, end_of-CoreExit, more_of-CoreExit}
use Rattle.task_ast.specs.declared.core_form.CoreExit.TheVariants as exit
use Rattle.task_ast.specs.declared.core_form.CoreTask.{CoreTask}
use Rattle.task_ast.specs.declared.core_form.Core.{Core}
use Rattle.task_ast.specs.Pointing.{pointing, addresses}
use Rattle.task_ast.specs.WellFormed.{Scope, IsCoreExit}
use Rattle.io_depend.specs.Sets.{has}
use Rattle.region_split.specs.Regions.{touches}
use Rattle.walk_run.specs.declared.trap.Trap.{Trap}
use Rattle.walk_run.specs.Trap.{code_of}
use Rattle.walk_run.specs.declared.place.Place.{Place}
use Rattle.walk_run.specs.Store.{Store, word_at, put_word, put_pointer}
use Rattle.walk_run.specs.StoreLaws.{rooms_stay}
use Rattle.walk_run.specs.Value.{value_of}
use Rattle.walk_run.specs.Plain.{Ran, done, trapped, store_left, chosen, plain_done}
use Rattle.walk_run.specs.PlainWrites.{Write, sets, points, after_writes, plain_writes}
use Rattle.walk_run.specs.PlainSteps.{plain_steps, condition_steps}
use Rattle.walk_run.specs.WriteLaws.{plain_gives}
use Rattle.devices.specs.Journal.{traps, commits}
use Rattle.task_attempts.specs.State.{Account, Here, Rest}
use Rattle.task_attempts.specs.Changes.{with_store, spent}
use Rattle.task_attempts.specs.Told.{unless_trap}
use Rattle.task_attempts.specs.Values.{branch, from_ran, plain_log}
use Rattle.task_attempts.specs.Boots.{task_of}
use Rattle.task_attempts.specs.Attempts.{committed_by, commit, exit_log}
use Rattle.run_plan.specs.declared.act.Act.{Act}
use Rattle.run_plan.specs.declared.act.Act.TheVariants as act
use Rattle.run_plan.specs.Cells.{Frame, State, puts_aside, puts_lock, puts_state, after_write}
use Rattle.run_plan.specs.Small.{Doing, first_way, second_way, silent, showing, does, unless_fails, same, with_volatile, lock_holds}
use Rattle.run_plan.specs.Deeds.{plain_ends, next_bank}
use Rattle.run_plan.specs.Words.{first_places, home_writes, save_writes}
use Rattle.run_plan.specs.Weights.{region_words, weight}
use Rattle.run_plan.specs.Safe.{all_written}
use Rattle.run_plan.specs.PlanOf.{exit_act}
use Rattle.run_plan.specs.Runs.{Small, At, Onward, Planned, with_state, doing, act_end, deed, act_steps, straight, by_way, nothing, act_run, acts_run}
use Rattle.run_plan.specs.RunRows.{run_test}
use Rattle.plan_restore.proofs.Puts.{NotConst}
use Rattle.plan_restore.proofs.Writing.{TouchMay, WriteMay, plain_writes_may}
use Rattle.site_events.specs.Records.{view}
use Rattle.site_events.specs.Standing.{FitsIn, sites_in, sites_of, StandsAt}
use Rattle.site_events.specs.Follows.{Known, Related, Follows, PointsWithin, Goes}
use Rattle.site_events.proofs.Places.{homes_unseen, saves_unseen, all_view, all_frame, all_stand, lock_stands, commit_stands}
use Rattle.site_events.proofs.Stores.{writes_leave}
use Rattle.site_events.proofs.Telling.{silent_goes, silents_go, writes_go, shown_goes, end_goes, trap_goes}

-- saving writes no home
saves_leave : (c : Core) (v : Place → ℕ) (places : List Place) (s : State) → (all_written c (map (λ at. puts_aside at (v at)) places) s).store ≡ s.store
saves_leave c v [] s = refl
saves_leave c v (at ∷ places) s = saves_leave c v places (after_write c.arrays (puts_aside at (v at)) s)

at_most : (held : Bool) (words : ℕ) → cond held 0 words ≤ words
at_most true words = omega arith
at_most false words = omega arith

-- a write leaves each array as long as it was
pub put_fits : (c : Core) (at : Place) (w : ℕ) (store : Store) → FitsIn c store → FitsIn c (put_word at w store)
put_fits c at w store fits a = rooms_stay at w store a ∙ fits a

pub writes_fit : (c : Core) (writes : List Write) (store : Store) → FitsIn c store → FitsIn c (after_writes writes store)
writes_fit c [] store fits = fits
writes_fit c (points q at ∷ writes) store fits = writes_fit c writes (put_pointer q at store) fits
writes_fit c (sets at w ∷ writes) store fits = writes_fit c writes (put_word at w store) (put_fits c at w store fits)

pub no_spare : (spare a b : ℕ) → a + spare ≤ b → a ≤ b
no_spare spare a b le = omega (arith, le)

module _ (p : Planned) (Sees : Store → Small → Type 0) (fuel number : ℕ) (t : CoreTask) (there : task_of p.rules.core number ≡ Some t) (again : Onward) where
  abbrev pub c : Core
  c = p.rules.core

  abbrev pub d : Doing
  d = doing p number t

  -- places of this attempt, and what comes behind them
  abbrev pub Pair : (spare : ℕ) → At → Here → Type 0
  Pair spare at here = Related p Sees fuel number t spare at here

  abbrev pub Go : Known → (spare : ℕ) → Onward → Rest → Type 0
  Go K spare go rest = Follows p Sees fuel number t K spare go rest

  -- the sites are those of the task
  pub sites_are : (spare : ℕ) (at : At) (here : Here) → Pair spare at here → sites_of c at.state.task ≡ t.sites
  sites_are spare at here related = ap sites_in (ap (task_of c) (related.stands.next ∙ related.running) ∙ there)

  ends_go : (K : Known) (spare : ℕ) (a : Act) (go : Onward) (rest : Rest) → Go K spare go rest → (writes : List Write) (r : Ran) → AllByRecursion (WriteMay (NotConst c)) writes → PointsWithin (pointing t) (store_left r) → FitsIn c (store_left r)
      → (at : At) (here : Here) → after_writes writes at.state.store ≡ store_left r → at.state.frame.mode ≡ Some here.mode → here.standing.next ≡ number → StandsAt c (view at.state) here.standing
      → at.weights + spare ≤ here.steps p.plan.scheme → K at.state.frame here.standing.account
      → Goes p Sees fuel at.state.store here.standing (deed c a (plain_ends c (map silent (home_writes c writes)) r) (straight go) at) (from_ran r rest here)
  ends_go K spare a go rest follows writes (done store) may within fits at here gives mode running stands few known =
      let homes = home_writes c writes in
      let unseen = homes_unseen c writes in
      let s = all_written c homes at.state in
      let stands' = subst (λ v. StandsAt c v here.standing) (sym (all_view c homes unseen at.state)) stands in
      let frame = all_frame c homes unseen at.state in
      writes_go p Sees fuel a homes (act_end c a (with_volatile c store) go) at here.standing (rest (with_store store here)) (all_stand p Sees fuel here.standing homes unseen at.state stands)
      (end_goes p Sees fuel a (with_volatile c store) go (with_state s at) s.store here.standing (rest (with_store store here)) stands'
      (λ seen. follows (with_state (with_volatile c store s) at) (with_store store here) (record {
        store = ap (λ st. (with_volatile c st s).store) (sym gives) ∙ writes_leave c writes may at.state ∙ gives;
        mode = ap (λ f. f.mode) frame ∙ mode;
        running = running;
        stands = stands';
        weights = few;
        within = within;
        fits = fits;
      }) (subst (λ f. K f here.standing.account) (sym frame) known)))
  ends_go K spare a go rest follows writes (trapped why store) may within fits at here gives mode running stands few known =
      let homes = home_writes c writes in
      let unseen = homes_unseen c writes in
      let s = all_written c homes at.state in
      let stands' = subst (λ v. StandsAt c v here.standing) (sym (all_view c homes unseen at.state)) stands in
      silents_go p Sees fuel a homes (showing (traps (code_of why)) ∷ []) nothing at here.standing _ (all_stand p Sees fuel here.standing homes unseen at.state stands)
      (trap_goes p Sees fuel s.store a why (with_state s at) (with_store store here) stands' (no_spare spare _ _ few))

  -- what a part gives to pointers, they may point to
  abbrev pub Given : (ℕ → List ℕ) → Type 0
  Given given = (q x : ℕ) → has (given q) x ≡ true → has (pointing t q) x ≡ true

  -- a statement without sites
  pub plain_follows : (K : Known) (spare : ℕ) (s : CoreStmt) → AllByRecursion (TouchMay (NotConst c)) (touches (pointing t) s) → Given (λ q. addresses q s) → (go : Onward) (rest : Rest) → Go K spare go rest
      → Go K spare (act_steps d (act.Plain s) (straight go)) (plain_log s rest)
  plain_follows K spare s all given go rest follows at here related known =
      let steps = plain_steps s at.state.store in
      let begun : At = record at { weights = at.weights + steps } in
      let within = subst (PointsWithin (pointing t)) (sym related.store) related.within in
      let fits = subst (FitsIn c) (plain_gives s at.state.store) (writes_fit c (plain_writes s at.state.store) at.state.store (subst (FitsIn c) (sym related.store) related.fits)) in
      let may = plain_writes_may c (pointing t) (NotConst c) (λ a h. h) s all given at.state.store within in
      let told = ends_go K spare (act.Plain s) go rest follows (plain_writes s at.state.store) (plain_done s at.state.store) may.writable may.within fits begun (spent steps here)
      (plain_gives s at.state.store) related.mode related.running related.stands (let few = related.weights in omega (arith, few)) known in
      subst (λ store. Goes p Sees fuel at.state.store here.standing (act_steps d (act.Plain s) (straight go) at) (from_ran (plain_done s store) rest (spent (plain_steps s store) here))) related.store told

  -- an act that changes nothing at its end
  pub same_goes : (K : Known) (spare : ℕ) (a : Act) (go : Onward) (rest : Rest) → Go K spare go rest → (at : At) (here : Here) → Pair spare at here → K at.state.frame here.standing.account
      → Goes p Sees fuel at.state.store here.standing (act_end c a same go at) (rest here)
  same_goes K spare a go rest follows at here related known = end_goes p Sees fuel a same go at at.state.store here.standing (rest here) related.stands (λ seen. follows at here related known)

  -- a condition, and the way that it takes
  value_goes : (K : Known) (spare : ℕ) (a : Act) (x y go : Onward) (front other : Rest) → Go K spare x front → Go K spare y other → (r : Result ℕ Trap) (at : At) (here : Here) → Pair spare at here → K at.state.frame here.standing.account
      → Goes p Sees fuel at.state.store here.standing (deed c a (unless_fails r (λ word. does [] same (chosen word first_way second_way))) (by_way x y go go) at) (unless_trap r (λ word. chosen word front other) here)
  value_goes K spare a x y go front other fx fy (Ok zero) at here related known = same_goes K spare a y other fy at here related known
  value_goes K spare a x y go front other fx fy (Ok (suc n)) at here related known = same_goes K spare a x front fx at here related known
  value_goes K spare a x y go front other fx fy (Err why) at here related known = trap_goes p Sees fuel at.state.store a why at here related.stands (no_spare spare _ _ related.weights)

  pub test_follows : (K : Known) (spare : ℕ) (e : CoreExpr) (ys ns : List Act) (go : Onward) (front other : Rest) → Go K spare (acts_run d again ys go) front → Go K spare (acts_run d again ns go) other
      → Go K spare (act_run d again (act.Test e ys ns) go) (branch e front other)
  test_follows K spare e ys ns go front other fx fy =
      subst (λ (f : Onward). Go K spare f (branch e front other)) (sym (run_test d again e ys ns go))
      (λ at here related known.
      let begun : At = record at { weights = at.weights + condition_steps e } in
      let told = value_goes K spare (act.Test e ys ns) (acts_run d again ys go) (acts_run d again ns go) go front other fx fy (value_of e at.state.store) begun (spent (condition_steps e) here)
      (record { store = related.store; mode = related.mode; running = related.running; stands = related.stands; weights = (let few = related.weights in omega (arith, few)); within = related.within; fits = related.fits }) known in
      subst (λ store. Goes p Sees fuel at.state.store here.standing (act_steps d (act.Test e ys ns) (by_way (acts_run d again ys go) (acts_run d again ns go) go go) at)
      (unless_trap (value_of e store) (λ word. chosen word front other) (spent (condition_steps e) here))) related.store told)

  -- ---- saving

  -- what a region may write first is copied aside, unless its lock holds
  pub save_follows : (K : Known) (spare r : ℕ) (go : Onward) (rest : Rest) → Go K spare go rest → Go K (spare + (6 + 12 * region_words d r)) (act_steps d (act.Save r) (straight go)) rest
  save_follows K spare r go rest follows at here related known =
      let places = cond (lock_holds at.state r) [] (first_places d r) in
      let writes = save_writes at.state places in
      let unseen = saves_unseen at.state places in
      let s = all_written c writes at.state in
      let begun : At = record at { weights = at.weights + weight d (act.Save r) at.state } in
      let stands = subst (λ v. StandsAt c v here.standing) (sym (all_view c writes unseen at.state)) related.stands in
      let frame = all_frame c writes unseen at.state in
      let held = at_most (lock_holds at.state r) (region_words d r) in
      writes_go p Sees fuel (act.Save r) writes (act_end c (act.Save r) same go) begun here.standing (rest here) (all_stand p Sees fuel here.standing writes unseen at.state related.stands)
      (same_goes K spare (act.Save r) go rest follows (with_state s begun) here (record {
        store = saves_leave c (word_at at.state.store) places at.state ∙ related.store;
        mode = ap (λ f. f.mode) frame ∙ related.mode;
        running = related.running;
        stands = stands;
        weights = (let few = related.weights in omega (arith, few, held));
        within = related.within;
        fits = related.fits;
      }) (subst (λ f. K f here.standing.account) (sym frame) known))

  -- the lock of a region that was reached, or of the one behind
  pub lock_follows : (K : Known) (spare r : ℕ) → ((f : Frame) (acc : Account) → K f acc → r ≤ acc.furthest + 1) → (go : Onward) (rest : Rest) → Go K spare go rest → Go K (spare + 2) (act_steps d (act.Lock r) (straight go)) rest
  lock_follows K spare r reached go rest follows at here related known =
      let begun : At = record at { weights = at.weights + 2 } in
      let s = after_write c.arrays (puts_lock r at.state.epoch) at.state in
      let stands = lock_stands c at.state here related.stands r (reached at.state.frame here.standing.account known) in
      silent_goes p Sees fuel (act.Lock r) (puts_lock r at.state.epoch) (act_end c (act.Lock r) same go) begun here.standing (rest here) stands
      (same_goes K spare (act.Lock r) go rest follows (with_state s begun) here (record {
        store = related.store;
        mode = related.mode;
        running = related.running;
        stands = stands;
        weights = (let few = related.weights in omega (arith, few));
        within = related.within;
        fits = related.fits;
      }) known)

  -- ---- exits

  -- what goes on behind a commit tells what the rules say
  abbrev pub Again : Rest → Type 0
  Again rest = (at : At) (here : Here) → StandsAt c (view at.state) here.standing → at.weights ≤ here.steps p.plan.scheme → Goes p Sees fuel at.state.store here.standing (again at) (rest here)

  module _ (rest : Rest) (follows : Again rest) (K : Known) where
    commit_follows : (n : ℕ) → n ≤ length c.tasks → (go : Onward) → Go K 0 (act_run d again (act.Commit n) go) (commit rest n)
    commit_follows n few go at here related known =
        let bank = next_bank p.plan.scheme at.state.bank in
        let s = after_write c.arrays (puts_state (at.state.epoch + 1) n bank) at.state in
        let begun : At = record at { weights = at.weights + 32 } in
        let later : At = record { state = s; weights = at.weights + 32 } in
        let stands = commit_stands c at.state here related.stands n bank few related.fits in
        let few = related.weights in
        let enough : at.weights + 32 ≤ here.steps p.plan.scheme + 32 = omega (arith, few) in
        shown_goes p Sees fuel (act.Commit n) (Some (puts_state (at.state.epoch + 1) n bank)) (commits n) (act_end c (act.Commit n) same again) begun here.standing
        (record { event = commits n; after = (committed_by n here).standing; steps = (committed_by n here).steps; followed = None }) (rest (committed_by n here))
        (record { event = refl; weights = enough; committed = related.store; stands = stands; leads = refl })
        (end_goes p Sees fuel (act.Commit n) same again later s.store (committed_by n here).standing (rest (committed_by n here)) stands (λ seen. follows later (committed_by n here) stands enough))

    pub exit_follows : (scope : Scope) (level : ℕ) (x : CoreExit) → IsCoreExit scope (length c.tasks) level x → (go : Onward) → Go K 0 (act_run d again (exit_act x) go) (exit_log x (commit rest))
    exit_follows scope level (exit.Next n) w go = commit_follows n w.1 go
    exit_follows scope level exit.Stop w go = commit_follows 0 (omega arith) go
    exit_follows scope level (exit.Choose' e u (more_of-CoreExit x end_of-CoreExit) v (more_of-CoreExit y end_of-CoreExit)) w go =
        test_follows K 0 e (exit_act x ∷ []) (exit_act y ∷ []) go (exit_log x (commit rest)) (exit_log y (commit rest)) (exit_follows scope (1 + level) x w.2 go) (exit_follows scope (1 + level) y w.3 go)
