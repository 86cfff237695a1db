-- Small steps of acts tell a log, if what comes behind them does.
use Rattle.std.proofs.Common.{◌≡◌, inl, inr, ℕ, zero, suc, ◌≤◌, List, [], ◌∷◌, ◌++◌, map, take, refl, subst, arith}
use Rattle.std.specs.Prelude.{Option, Some, None}
use Rattle.walk_run.specs.declared.trap.Trap.{Trap}
use Rattle.walk_run.specs.Trap.{code_of}
use Rattle.walk_run.specs.Store.{Store}
use Rattle.devices.specs.Journal as journal
use Rattle.devices.specs.Journal.{JournalEvent, copies, traps}
use Rattle.task_attempts.specs.State.{Standing, Here, Logged, Log}
use Rattle.task_attempts.specs.Told.{trap}
use Rattle.run_plan.specs.declared.act.Act.{Act}
use Rattle.run_plan.specs.Cells.{State, CellWrite, after_write}
use Rattle.run_plan.specs.Small.{Atom, silent, showing, ending, shown_last, after_written, after_shown}
use Rattle.run_plan.specs.Runs.{Small, Smalls, At, Onward, Planned, with_state, nothing, small, small_steps, act_end}
use Rattle.run_plan.specs.Safe.{all_written}
use Rattle.plan_restore.specs.Kept.{committed_by}
use Rattle.site_events.specs.Records.{view}
use Rattle.site_events.specs.Standing.{StandsAt}
use Rattle.site_events.specs.Telling.{Meets}
use Rattle.site_events.specs.Follows.{AreSeen, Goes}

module _ (p : Planned) (Sees : Store → Small → Type 0) (fuel : ℕ) where
  -- what is told up to a number of small steps
  abbrev pub GoesOn : (left : Store) → Standing → Smalls → Log → Type 0
  GoesOn left st xs log = Goes p Sees fuel left st xs log

  -- no small step, where no task is next
  pub nothing_goes : (left : Store) (st : Standing) (log : Log) → st.next ≡ 0 → GoesOn left st [] log
  nothing_goes left st log none zero low seen = tt
  nothing_goes left st log none (suc m) low seen = none

  -- what comes behind, from a state on, tells a log
  abbrev pub Behind : Standing → State → Onward → At → Log → Type 0
  Behind st s go at log = GoesOn s.store st (go (with_state s at)) log

  -- a write that shows nothing
  pub silent_goes : (a : Act) (w : CellWrite) (go : Onward) (at : At) (st : Standing) (log : Log) → StandsAt p.rules.core (view (after_write p.rules.core.arrays w at.state)) st
      → Behind st (after_write p.rules.core.arrays w at.state) go at log → GoesOn at.state.store st (small p.rules.core a (silent w) go at) log
  silent_goes a w go at st log stands goes zero low seen = tt
  silent_goes a w go at st log stands goes (suc m) low seen = (stands, goes m (omega (arith, low)) seen.1)

  -- the plan stands there behind each of some writes
  abbrev pub AllStand : Standing → List CellWrite → State → Type 0
  AllStand st [] s = Unit {0}
  AllStand st (w ∷ writes) s = let after = after_write p.rules.core.arrays w s in StandsAt p.rules.core (view after) st × AllStand st writes after

  -- writes, and what else comes before what comes behind
  pub silents_go : (a : Act) (writes : List CellWrite) (atoms : List Atom) (go : Onward) (at : At) (st : Standing) (log : Log) → AllStand st writes at.state
      → Behind st (all_written p.rules.core writes at.state) (small_steps p.rules.core a atoms go) at log → GoesOn at.state.store st (small_steps p.rules.core a (map silent writes ++ atoms) go at) log
  silents_go a [] atoms go at st log stand goes = goes
  silents_go a (w ∷ writes) atoms go at st log stand goes =
      silent_goes a w (small_steps p.rules.core a (map silent writes ++ atoms) go) at st log stand.0
      (silents_go a writes atoms go (with_state (after_write p.rules.core.arrays w at.state) at) st log stand.1 goes)

  pub writes_go : (a : Act) (writes : List CellWrite) (go : Onward) (at : At) (st : Standing) (log : Log) → AllStand st writes at.state
      → Behind st (all_written p.rules.core writes at.state) go at log → GoesOn at.state.store st (small_steps p.rules.core a (map silent writes) go at) log
  writes_go a [] go at st log stand goes = goes
  writes_go a (w ∷ writes) go at st log stand goes =
      silent_goes a w (small_steps p.rules.core a (map silent writes) go) at st log stand.0
      (writes_go a writes go (with_state (after_write p.rules.core.arrays w at.state) at) st log stand.1 goes)

  -- an event, with a write or without
  abbrev pub shown_after : Option CellWrite → JournalEvent → State → State
  shown_after w e s = after_written p.rules.core w (after_shown (Some e) s)

  -- it is a small step itself
  pub first_goes : (a : Act) (w : Option CellWrite) (e : JournalEvent) (go : Onward) (at : At) (st : Standing) (l : Logged) (log : Log)
      → Meets p e (committed_by (Some e) at.state.store st.committed) (record { act = a; atom = record { write = w; event = Some e }; after = shown_after w e at.state; weights = at.weights }) l
      → Behind l.after (shown_after w e at.state) go at log → Goes p Sees (suc fuel) at.state.store st (small p.rules.core a (record { write = w; event = Some e }) go at) (l ∷ log)
  first_goes a w e go at st l log meets goes zero low seen = tt
  first_goes a w e go at st l log meets goes (suc m) low seen =
      let s = shown_after w e at.state in
      (meets, inr (goes m (omega (arith, low)) (subst (λ now. AreSeen Sees now s.store (take m (go (with_state s at)))) meets.committed seen.1)))

  pub shown_goes : (a : Act) (w : Option CellWrite) (e : JournalEvent) (go : Onward) (at : At) (st : Standing) (l : Logged) (log : Log)
      → Meets p e (committed_by (Some e) at.state.store st.committed) (record { act = a; atom = record { write = w; event = Some e }; after = shown_after w e at.state; weights = at.weights }) l
      → Behind l.after (shown_after w e at.state) go at log → GoesOn at.state.store st (small p.rules.core a (record { write = w; event = Some e }) go at) (l ∷ log)
  shown_goes a w e go at st l log meets goes m low = first_goes a w e go at st l log meets goes m (omega (arith, low))

  -- writes, the last of which shows a copy
  pub last_goes : (a : Act) (writes : List CellWrite) (k : ℕ) (from to : journal.Place) (n : ℕ) (go : Onward) (at : At) (st : Standing) (l : Logged) (log : Log) → AllStand st writes at.state
      → copies k from to n ≡ l.event → at.weights ≤ l.steps p.plan.scheme → st.committed ≡ l.after.committed → StandsAt p.rules.core (view (all_written p.rules.core writes at.state)) l.after
      → Behind l.after (all_written p.rules.core writes at.state) go at log → GoesOn at.state.store st (small_steps p.rules.core a (shown_last writes (copies k from to n)) go at) (l ∷ log)
  last_goes a [] k from to n go at st l log stand event few committed stands goes =
      shown_goes a None (copies k from to n) go at st l log (record { event = event; weights = few; committed = committed; stands = stands; leads = tt }) goes
  last_goes a (w ∷ []) k from to n go at st l log stand event few committed stands goes =
      shown_goes a (Some w) (copies k from to n) go at st l log (record { event = event; weights = few; committed = committed; stands = stands; leads = tt }) goes
  last_goes a (w ∷ v ∷ writes) k from to n go at st l log stand event few committed stands goes =
      silent_goes a w (small_steps p.rules.core a (shown_last (v ∷ writes) (copies k from to n)) go) at st (l ∷ log) stand.0
      (last_goes a (v ∷ writes) k from to n go (with_state (after_write p.rules.core.arrays w at.state) at) st l log stand.1 event few committed stands goes)

  -- an act's end
  pub end_goes : (a : Act) (change : State → State) (go : Onward) (at : At) (left : Store) (st : Standing) (log : Log) → StandsAt p.rules.core (view (change at.state)) st
      → (Sees st.committed (record { act = a; atom = ending; after = change at.state; weights = at.weights }) → Behind st (change at.state) go at log)
      → GoesOn left st (act_end p.rules.core a change go at) log
  end_goes a change go at left st log stands goes zero low seen = tt
  end_goes a change go at left st log stands goes (suc m) low seen = (stands, goes seen.0 m (omega (arith, low)) seen.1)

  -- a trap, behind which nothing comes
  pub trap_goes : (left : Store) (a : Act) (why : Trap) (at : At) (here : Here) → StandsAt p.rules.core (view at.state) here.standing → at.weights ≤ here.steps p.plan.scheme
      → GoesOn left here.standing (small_steps p.rules.core a (showing (traps (code_of why)) ∷ []) nothing at) (trap why here)
  trap_goes left a why at here stands few zero low seen = tt
  trap_goes left a why at here stands few (suc m) low seen = (
    record { event = refl; weights = few; committed = refl; stands = stands; leads = tt },
    inl (record { trap = tt; none = refl }),
  )
