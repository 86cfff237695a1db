-- Acts and lists of acts from a state on: what holds behind each small step, by what each act kept.
use Rattle.std.proofs.Common.{◌≡◌, ℕ, List, [], ◌∷◌, ◌++◌, refl, sym, subst}
use Rattle.std.specs.Prelude.{Option, Some, None}
use Rattle.std.specs.List.{AllByRecursion}
use Rattle.walk_run.specs.Trap.{code_of}
use Rattle.walk_run.specs.Store.{fresh, shown_words, Store}
use Rattle.devices.specs.Journal.{JournalEvent, begins, looks, keeps, drops, issues, seals, copies, commits, traps}
use Rattle.word_isa.specs.declared.parts.Scheme.TheVariants.{Bank}
use Rattle.run_plan.specs.declared.act.Act.{Act}
use Rattle.run_plan.specs.declared.act.Act.TheVariants as act
use Rattle.run_plan.specs.Cells.{State, CellWrite}
use Rattle.run_plan.specs.Small.{Doing, Atom, Way, ahead, first_way, second_way, third_way, Done, does, fails, stuck, silent, showing, writing, ending, after_atom, core_of}
use Rattle.run_plan.specs.Deeds.{act_done}
use Rattle.run_plan.specs.Runs.{committed_words, Small, Smalls, At, Onward, Planned, with_state, small_steps, act_end, deed, nothing, act_steps, by_way}
use Rattle.plan_restore.specs.Kept.{committed_by, EndsBegin, IsCommit, IsAside}

-- an event is no commit
abbrev pub IsNoCommit : Option JournalEvent → Type 0
IsNoCommit (Some (commits next)) = ⊥
IsNoCommit event = Unit {0}

pub no_commit : (event : Option JournalEvent) (left e : Store) → IsNoCommit event → committed_by event left e ≡ e
no_commit None left e none = refl
no_commit (Some (begins t)) left e none = refl
no_commit (Some (looks k t)) left e none = refl
no_commit (Some (keeps k value)) left e none = refl
no_commit (Some (drops k)) left e none = refl
no_commit (Some (issues k q args reading)) left e none = refl
no_commit (Some (seals k)) left e none = refl
no_commit (Some (copies k from to n)) left e none = refl
no_commit (Some (commits next)) left e none = absurd none
no_commit (Some (traps code)) left e none = refl

commits_not : (event : Option JournalEvent) → IsNoCommit event → IsCommit event → ⊥
commits_not (Some (commits next)) none is = none
commits_not event none is = is

-- what a small step that writes or shows something is not: the end of a beginning
pub no_end : (a : Act) (w : CellWrite) (event : Option JournalEvent) → EndsBegin a (record { write = Some w; event = event }) → ⊥
no_end (act.Begin t) w event h = h
no_end a w event h = h

pub no_shown_end : (a : Act) (e : JournalEvent) → EndsBegin a (showing e) → ⊥
no_shown_end (act.Begin t) e h = h
no_shown_end a e h = h

-- the state after small steps
abbrev pub atoms_done : (d : Doing) → List Atom → State → State
atoms_done d [] s = s
atoms_done d (x ∷ atoms) s = atoms_done d atoms (after_atom (core_of d) x s)

module _ (p : Planned) (Safe : Store → State → Type 0) where
  -- what is carried along behind each small step
  pub record IsFine (e : Store) (x : Small) : Type 0 where
    pub safe : Safe e x.after
    pub begun : EndsBegin x.act x.atom → x.after.store ≡ fresh p.rules.core e
    pub commit : IsCommit x.atom.event → committed_words p.plan.scheme p.rules.core x.after ≡ shown_words p.rules.core.arrays e.words
    pub bank : p.plan.scheme ≡ Bank → IsAside x.atom.write → ⊥

  abbrev pub AreFine : (committed left : Store) → Smalls → Type 0
  AreFine e left [] = Unit {0}
  AreFine e left (x ∷ xs) = let now = committed_by x.atom.event left e in IsFine now x × AreFine now x.after.store xs

  -- a small step that is no commit, and under `bank` writes nothing aside
  pub record IsQuiet (a : Act) (x : Atom) : Type 0 where
    pub no_commit : IsNoCommit x.event
    pub bank : p.plan.scheme ≡ Bank → IsAside x.write → ⊥
    pub begun : EndsBegin a x → ⊥

  -- a claim that holds behind each of some small steps
  abbrev pub AtomsGo : (d : Doing) (a : Act) → (State → Type 0) → List Atom → State → Type 0
  AtomsGo d a I [] s = Unit {0}
  AtomsGo d a I (x ∷ atoms) s = IsQuiet a x × I (after_atom (core_of d) x s) × AtomsGo d a I atoms (after_atom (core_of d) x s)

  -- what comes behind is fine from each state of a claim, with a committed store
  abbrev pub Holds : Store → (State → Type 0) → Onward → Type 0
  Holds e I go = (at : At) → I at.state → AreFine e at.state.store (go at)

  steps_fine : (d : Doing) (a : Act) (e : Store) (I : State → Type 0) → ((s : State) → I s → Safe e s) → (atoms : List Atom) (go : Onward) (at : At) → AtomsGo d a I atoms at.state
      → AreFine e (atoms_done d atoms at.state).store (go (with_state (atoms_done d atoms at.state) at)) → AreFine e at.state.store (small_steps (core_of d) a atoms go at)
  steps_fine d a e I safe [] go at all behind = behind
  steps_fine d a e I safe (x ∷ atoms) go at all behind =
      let s = after_atom (core_of d) x at.state in
      subst (λ now. IsFine now (record { act = a; atom = x; after = s; weights = at.weights }) × AreFine now s.store (small_steps (core_of d) a atoms go (with_state s at)))
      (sym (no_commit x.event at.state.store e all.0.no_commit))
      (record { safe = safe s all.1; begun = λ h. absurd (all.0.begun h); commit = λ h. absurd (commits_not x.event all.0.no_commit h); bank = all.0.bank }, steps_fine d a e I safe atoms go (with_state s at) all.2 behind)

  -- what an act does, from a state: a claim behind each small step, and one behind its end, by the way that it goes
  abbrev pub DoneGoes : (d : Doing) (a : Act) (e : Store) (I : State → Type 0) (Q : Way → State → Type 0) → Done → State → Type 0
  DoneGoes d a e I Q (does atoms change way) s =
      let end = change (atoms_done d atoms s) in
      AtomsGo d a I atoms s × Q way end × (EndsBegin a ending → end.store ≡ fresh p.rules.core e)
  DoneGoes d a e I Q (fails atoms why) s = AtomsGo d a I (atoms ++ showing (traps (code_of why)) ∷ []) s
  DoneGoes d a e I Q stuck s = Unit {0}

  ends_fine : (d : Doing) (a : Act) (e : Store) (I : State → Type 0) → ((s : State) → I s → Safe e s) → (change : State → State) (go : Onward) → Holds e I go → (at : At) → I (change at.state)
      → (EndsBegin a ending → (change at.state).store ≡ fresh p.rules.core e) → AreFine e at.state.store (act_end (core_of d) a change go at)
  ends_fine d a e I safe change go holds at h begun =
      let end = change at.state in
      (record { safe = safe end h; begun = begun; commit = λ none. absurd none; bank = λ is aside. aside }, holds (with_state end at) h)

  deed_fine : (d : Doing) (a : Act) (e : Store) (I : State → Type 0) (Q : Way → State → Type 0) → ((s : State) → I s → Safe e s) → ((w : Way) (s : State) → Q w s → Safe e s) → (done : Done) (go : Way → Onward)
      → ((w : Way) → Holds e (Q w) (go w)) → (at : At) → DoneGoes d a e I Q done at.state → AreFine e at.state.store (deed (core_of d) a done go at)
  deed_fine d a e I Q safe safe_end (does atoms change way) go holds at goes =
      let s = atoms_done d atoms at.state in
      steps_fine d a e I safe atoms (act_end (core_of d) a change (go way)) at goes.0
      (ends_fine d a e (Q way) (safe_end way) change (go way) (holds way) (with_state s at) goes.1 goes.2)
  deed_fine d a e I Q safe safe_end (fails atoms why) go holds at goes = steps_fine d a e I safe (atoms ++ showing (traps (code_of why)) ∷ []) nothing at goes tt
  deed_fine d a e I Q safe safe_end stuck go holds at goes = tt

  -- an act: what it does from each state of a claim
  pub act_fine : (d : Doing) (a : Act) (e : Store) (P I : State → Type 0) (Q : Way → State → Type 0) → ((s : State) → I s → Safe e s) → ((w : Way) (s : State) → Q w s → Safe e s)
      → ((s : State) → P s → DoneGoes d a e I Q (act_done d a s) s) → (go : Way → Onward) → ((w : Way) → Holds e (Q w) (go w)) → Holds e P (act_steps d a go)
  act_fine d a e P I Q safe safe_end goes go holds at h = deed_fine d a e I Q safe safe_end (act_done d a at.state) go holds (record at { weights = _ }) (goes at.state h)

  pub by_ways : (e : Store) (Q : Way → State → Type 0) (first second third behind : Onward) → Holds e (Q first_way) first → Holds e (Q second_way) second → Holds e (Q third_way) third → Holds e (Q ahead) behind
      → (w : Way) → Holds e (Q w) (by_way first second third behind w)
  by_ways e Q first second third behind f s t b ahead = b
  by_ways e Q first second third behind f s t b first_way = f
  by_ways e Q first second third behind f s t b second_way = s
  by_ways e Q first second third behind f s t b third_way = t

  -- ---- small steps that keep a claim from each state

  -- a small step kept a claim
  abbrev pub Keeps : (d : Doing) (a : Act) → (State → Type 0) → Atom → Type 0
  Keeps d a I x = IsQuiet a x × ((s : State) → I s → I (after_atom (core_of d) x s))

  pub all_go : (d : Doing) (a : Act) (I : State → Type 0) (atoms : List Atom) → AllByRecursion (Keeps d a I) atoms → (s : State) → I s → AtomsGo d a I atoms s × I (atoms_done d atoms s)
  all_go d a I [] kept s h = (tt, h)
  all_go d a I (x ∷ atoms) kept s h =
      let after = after_atom (core_of d) x s in
      let h' = kept.0.1 s h in
      let rest = all_go d a I atoms kept.1 after h' in
      ((kept.0.0, h', rest.0), rest.1)

  -- what an act does kept a claim up to its end
  abbrev pub DoneKeeps : (d : Doing) (a : Act) (I : State → Type 0) (Q : Way → State → Type 0) → Done → Type 0
  DoneKeeps d a I Q (does atoms change way) = AllByRecursion (Keeps d a I) atoms × ((s : State) → I s → Q way (change s)) × (EndsBegin a ending → ⊥)
  DoneKeeps d a I Q (fails atoms why) = AllByRecursion (Keeps d a I) atoms
  DoneKeeps d a I Q stuck = Unit {0}

  trap_quiet : (a : Act) (code : ℕ) → IsQuiet a (showing (traps code))
  trap_quiet a code = record { no_commit = tt; bank = λ is aside. aside; begun = no_shown_end a (traps code) }

  with_trap : (d : Doing) (a : Act) (I : State → Type 0) (atoms : List Atom) (code : ℕ) → AllByRecursion (Keeps d a I) atoms → (s : State) → I s → AtomsGo d a I (atoms ++ showing (traps code) ∷ []) s
  with_trap d a I [] code kept s h = (trap_quiet a code, h, tt)
  with_trap d a I (x ∷ atoms) code kept s h = let h' = kept.0.1 s h in (kept.0.0, h', with_trap d a I atoms code kept.1 (after_atom (core_of d) x s) h')

  pub done_goes : (d : Doing) (a : Act) (e : Store) (I : State → Type 0) (Q : Way → State → Type 0) (done : Done) → DoneKeeps d a I Q done → (s : State) → I s → DoneGoes d a e I Q done s
  done_goes d a e I Q (does atoms change way) kept s h = let all = all_go d a I atoms kept.0 s h in (all.0, kept.1 (atoms_done d atoms s) all.1, λ b. absurd (kept.2 b))
  done_goes d a e I Q (fails atoms why) kept s h = with_trap d a I atoms (code_of why) kept s h
  done_goes d a e I Q stuck kept s h = tt

  -- an act that kept a claim, whatever it does from a state
  pub act_keeps : (d : Doing) (a : Act) (e : Store) (P : State → Type 0) (Q : Way → State → Type 0) → ((s : State) → P s → Safe e s) → ((w : Way) (s : State) → Q w s → Safe e s)
      → ((s : State) → P s → DoneKeeps d a P Q (act_done d a s)) → (go : Way → Onward) → ((w : Way) → Holds e (Q w) (go w)) → Holds e P (act_steps d a go)
  act_keeps d a e P Q safe safe_end kept go holds = act_fine d a e P P Q safe safe_end (λ s h. done_goes d a e P Q (act_done d a s) (kept s h) s h) go holds

  -- ---- lists of small steps

  pub silent_quiet : (a : Act) (w : CellWrite) → (p.plan.scheme ≡ Bank → IsAside (Some w) → ⊥) → IsQuiet a (silent w)
  silent_quiet a w bank = record { no_commit = tt; bank = bank; begun = no_end a w None }

  pub shown_quiet : (a : Act) (e : JournalEvent) → IsNoCommit (Some e) → IsQuiet a (showing e)
  shown_quiet a e none = record { no_commit = none; bank = λ is aside. aside; begun = no_shown_end a e }

  pub writing_quiet : (a : Act) (w : CellWrite) (e : JournalEvent) → IsNoCommit (Some e) → (p.plan.scheme ≡ Bank → IsAside (Some w) → ⊥) → IsQuiet a (writing w e)
  writing_quiet a w e none bank = record { no_commit = none; bank = bank; begun = no_end a w (Some e) }
