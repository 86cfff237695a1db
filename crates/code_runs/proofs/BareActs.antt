-- Each act without sites runs at its place, and keeps what is known.
use Rattle.std.specs.Prelude.{cond, map, slice_index_or, length, Some, None, Result, Ok, Err}
use Rattle.std.proofs.Common.{◌≡◌, ◌∙◌, ℕ, zero, suc, ◌+◌, ◌-◌, ◌^◌, ◌<◌, ◌≤◌, Bool, true, false, ◌==◌, List, [], ◌∷◌, refl, sym, subst, arith}
use Rattle.devices.specs.Journal.{Place}
use Rattle.io_flow.specs.Written.{AllWithin, Covers, IsWithin}
use Rattle.task_ast.specs.Pointing.{addresses, pointing}
use Rattle.task_ast.specs.WellFormed.{IsCoreStmt, IsOver, IsWellFormed, scope_of}
use Rattle.task_ast.specs.declared.core_form.Core.{Core}
use Rattle.task_ast.specs.declared.core_form.CoreExpr.{CoreExpr}
use Rattle.task_ast.specs.declared.core_form.CoreStmt.{CoreStmt}
use Rattle.task_ast.specs.declared.core_form.CoreTask.{CoreTask}
use Rattle.task_attempts.specs.Boots.{task_of}
use Rattle.walk_run.specs.declared.place.Place as walked
use Rattle.walk_run.specs.declared.trap.Trap.{Trap}
use Rattle.walk_run.specs.Plain.{Ran, chosen, done, plain_done, trapped}
use Rattle.walk_run.specs.PlainSteps.{plain_steps}
use Rattle.walk_run.specs.PlainWrites.{plain_writes}
use Rattle.walk_run.specs.Store.{Store, unset}
use Rattle.walk_run.specs.Value.{value_of}
use Rattle.io_annot.specs.declared.choice.Mode.TheVariants.{Own}
use Rattle.word_isa.specs.declared.parts.Scheme.{Scheme}
use Rattle.word_isa.specs.declared.parts.Scheme.TheVariants.{Undo, Bank}
use Rattle.word_machine.specs.State as machine
use Rattle.word_machine.specs.State.{Program}
use Rattle.word_machine.specs.Straight.{Spot}
use Rattle.line_code.specs.Fitting.{IsShort}
use Rattle.line_laws.specs.Standing.{Lie}
use Rattle.run_plan.specs.declared.act.Act.{Act}
use Rattle.run_plan.specs.declared.act.Act.TheVariants as act
use Rattle.run_plan.specs.Cells.{CellWrite, State, after_write, no_frame, puts_aside, puts_class, puts_flag, puts_from, puts_home, puts_kept, puts_length, puts_lock, puts_stamp, puts_state, puts_to, puts_value, turned}
use Rattle.run_plan.specs.Deeds.{begin_writes, plain_ends}
use Rattle.run_plan.specs.Small.{Atom, Doing, core_of, does, first_way, lock_holds, same, second_way, silent, unless_fails}
use Rattle.run_plan.specs.Weights.{weight}
use Rattle.run_plan.specs.Words.{first_places, home_writes, restore_writes, save_writes}
use Rattle.word_code.specs.ActCode.{act_code}
use Rattle.act_refines.specs.Between.{AreRelated}
use Rattle.act_refines.specs.Does.{AreHomes, MayCommit, Nothing, StatementFits, frame_of}
use Rattle.act_refines.specs.Seen.{behind, steps_seen}
use Rattle.code_cuts.specs.Lasting.{task_behind}
use Rattle.code_runs.specs.Claims.{Common, IsClaim}
use Rattle.code_runs.specs.Following.{AnyWay, RunsAt, RunsIn, commit_most}
use Rattle.code_runs.proofs.Commons.{common_to}
use Rattle.code_runs.proofs.BareLaws.{BareLaws}
use Rattle.code_runs.proofs.Placing.{DoesIn, Gone, Keeps, Known, Stood, known_behind, later, placed, silent_task}
use Rattle.code_runs.proofs.Words.{IsSound}
use Rattle.code_runs.proofs.Writes.{Good, statement_good}

-- ---- what is kept

-- words that go aside leave the store
aside_store : (c : Core) (from s : State) (places : List walked.Place) → (behind c (map silent (save_writes from places)) s).store ≡ s.store
aside_store c from s [] = refl
aside_store c from s (at ∷ places) = aside_store c from _ places

-- pointers at nothing
nowhere : {A : Type 0} (names : List A) (q : ℕ) → slice_index_or (unset names) q None ≡ None
nowhere [] zero = refl
nowhere [] (suc q) = refl
nowhere (x ∷ names) zero = refl
nowhere (x ∷ names) (suc q) = nowhere names q

module _ (p : Program) (place_of : ℕ → Place) (law : BareLaws p place_of) (d : Doing) (number : ℕ) (well : IsWellFormed (core_of d)) (here : task_of (core_of d) number ≡ Some d.setting.task) where
  abbrev c : Core
  c = core_of d

  abbrev t : CoreTask
  t = d.setting.task

  abbrev Now : machine.State → State → Type 0
  Now = Stood p place_of d number

  abbrev Ready : ℕ → Spot → State → Type 0
  Ready = Known p place_of d number

  -- ---- before an attempt

  pub restore_runs : (r at next : ℕ) → r ≤ 128 → r < length d.firsts → d.scheme ≡ Undo → AreHomes c (slice_index_or d.firsts r []) → Lie p at (act_code (frame_of d number) false (act.Restore r) at next)
      → RunsAt p place_of d number Now Ready (AnyWay Ready) (act.Restore r) at next
  restore_runs r at next few there undo homes has =
      placed p place_of d number well here false Ready (AnyWay Ready) Nothing Nothing (weight d (act.Restore r)) (act.Restore r) at next (law.restores d number r few there undo homes) (law.restores_cut d number r homes) (λ n m s known. known)
      (λ n m s related known. (tt, tt))
      (λ n m s related known steps there gone. known_behind p place_of d number n steps m there _ s _ known gone (silent_task c d.scheme (restore_writes s (cond (lock_holds s r) (first_places d r) [])) s s.task)) has

  begin_does : (task : ℕ) (scheme : Scheme) → d.scheme ≡ scheme → DoesIn p place_of d number false (weight d (act.Begin task)) (act.Begin task) Nothing
  begin_does task Undo is = law.begins d number task is
  begin_does task Bank is = law.begins_banks d number task is

  -- an attempt's beginning leaves this: what it makes is the mode Own
  abbrev pub Starts : (Well : ℕ → Spot → State → Type 0) → Type 0
  Starts Well = (n : ℕ) (m : Spot) (s : State) → Ready n m s → AllWithin (pointing t) s.store → s.frame ≡ record no_frame { mode = Some Own } → Well n m s

  pub begin_runs : (Well : ℕ → Spot → State → Type 0) → Starts Well → (task at next : ℕ) → Lie p at (act_code (frame_of d number) false (act.Begin task) at next) → RunsAt p place_of d number Now Ready (AnyWay Well) (act.Begin task) at next
  begin_runs Well starts task at next has =
      placed p place_of d number well here false Ready (AnyWay Well) Nothing Nothing (weight d (act.Begin task)) (act.Begin task) at next (begin_does task d.scheme refl) (law.begins_cut d number task) (λ n m s known. known) (λ n m s related known. (tt, tt))
      (λ n m s related known steps there gone.
      starts (n - steps) there _ (known_behind p place_of d number n steps m there _ s _ known gone (silent_task c d.scheme (begin_writes d.scheme c s) s s.task)) (λ q. subst (IsWithin (pointing t q)) (sym (nowhere c.pointers q)) tt) refl) has

  -- ---- in an attempt

  module _ (Well : ℕ → Spot → State → Type 0) (claim : IsClaim p place_of d.setting.rules d.scheme number t Well) where
    -- what lives between acts but the store is as it was
    kept : (n steps : ℕ) (m there : Spot) (atoms : List Atom) (s to : State) → Well n m s → Gone p place_of d number n steps m there atoms s to → task_behind (steps_seen c d.scheme atoms s) s.task ≡ s.task → to.frame ≡ s.frame
        → AllWithin (pointing t) to.store → Well (n - steps) there to
    kept n steps m there atoms s to goes gone same frame within =
        claim.kept n (n - steps) m there s to goes (later p place_of d number n steps m there atoms s to gone) frame (known_behind p place_of d number n steps m there atoms s to (claim.common n m s goes) gone same) within

    silent_frame : (writes : List CellWrite) (s : State) → (behind c (map silent writes) s).frame ≡ s.frame
    silent_frame [] s = refl
    silent_frame (w ∷ writes) s = silent_frame writes _ ∙ written_frame w
      where
        turned_frame : (same : Bool) → (turned same c.arrays s).frame ≡ s.frame
        turned_frame true = refl
        turned_frame false = refl

        written_frame : (w : CellWrite) → (after_write c.arrays w s).frame ≡ s.frame
        written_frame (puts_home at word) = refl
        written_frame (puts_aside at word) = refl
        written_frame (puts_lock r e) = refl
        written_frame (puts_flag k e) = refl
        written_frame (puts_value k word) = refl
        written_frame (puts_stamp k u) = refl
        written_frame (puts_class k x) = refl
        written_frame (puts_to k at) = refl
        written_frame (puts_from k at) = refl
        written_frame (puts_length k n) = refl
        written_frame (puts_kept n word) = refl
        written_frame (puts_state e u b) = turned_frame (b == s.bank)

    pub save_runs : (r at next : ℕ) → r ≤ 128 → d.scheme ≡ Undo → AreHomes c (slice_index_or d.firsts r []) → Lie p at (act_code (frame_of d number) false (act.Save r) at next)
        → RunsAt p place_of d number Now Well (AnyWay Well) (act.Save r) at next
    save_runs r at next few undo homes has =
        placed p place_of d number well here false Well (AnyWay Well) Nothing Nothing (weight d (act.Save r)) (act.Save r) at next (law.saves d number r few undo homes) (law.saves_cut d number r homes) claim.common (λ n m s related goes. (tt, tt))
        (λ n m s related goes steps there gone.
        let places : List walked.Place = cond (lock_holds s r) [] (first_places d r) in
        kept n steps m there _ s _ goes gone (silent_task c d.scheme (save_writes s places) s s.task) (silent_frame (save_writes s places) s)
        (subst (AllWithin (pointing t)) (sym (aside_store c s s places)) (claim.within n m s goes))) has

    pub lock_runs : (r at next : ℕ) → r ≤ 128 → Lie p at (act_code (frame_of d number) false (act.Lock r) at next) → RunsAt p place_of d number Now Well (AnyWay Well) (act.Lock r) at next
    lock_runs r at next few has =
        placed p place_of d number well here false Well (AnyWay Well) Nothing Nothing (weight d (act.Lock r)) (act.Lock r) at next (law.locks d number r few) (law.locks_cut d number r few) claim.common (λ n m s related goes. (tt, tt))
        (λ n m s related goes steps there gone. kept n steps m there _ s _ goes gone refl refl (claim.within n m s goes)) has

    -- a test
    test_keeps : (n : ℕ) (m : Spot) (s : State) (r : Result ℕ Trap) → Well n m s → Keeps p place_of d number (AnyWay Well) n m s (unless_fails r (λ word. does [] same (chosen word first_way second_way)))
    test_keeps n m s (Ok word) goes = λ steps there gone. kept n steps m there [] s s goes gone refl refl (claim.within n m s goes)
    test_keeps n m s (Err why) goes = tt

    pub test_runs : (e : CoreExpr) (first second : List Act) (at next : ℕ) → IsOver (scope_of c t) e → IsShort 0 e → Lie p at (act_code (frame_of d number) false (act.Test e first second) at next)
        → RunsAt p place_of d number Now Well (AnyWay Well) (act.Test e first second) at next
    test_runs e first second at next over short has =
        placed p place_of d number well here false Well (AnyWay Well) Nothing Nothing (weight d (act.Test e first second)) (act.Test e first second) at next (law.tests d number e first second over short) (law.tests_cut d number e first second) claim.common
        (λ n m s related goes. (tt, tt)) (λ n m s related goes. test_keeps n m s (value_of e s.store) goes) has

    -- a statement
    sound : (n : ℕ) (m : Spot) (s : State) → AreRelated p d true m s → Well n m s → IsSound c (pointing t) s.store
    sound n m s related goes =
        let r = law.relates d m s well related in
        record { rooms = λ a. (r.arrays a).rooms; fits = λ a i low. ((r.arrays a).cells i low).fits; within = claim.within n m s goes }

    plain_keeps : (n : ℕ) (m : Spot) (s : State) (x : CoreStmt) (ran : Ran) → Well n m s → Good c t (plain_writes x s.store) ran → Keeps p place_of d number (AnyWay Well) n m s (plain_ends c (map silent (home_writes c (plain_writes x s.store))) ran)
    plain_keeps n m s x (done store) goes good = λ steps there gone.
        let writes : List CellWrite = home_writes c (plain_writes x s.store) in
        kept n steps m there _ s _ goes gone (silent_task c d.scheme writes s s.task) (silent_frame writes s) good.sound.within
    plain_keeps n m s x (trapped why store) goes good = tt

    pub plain_runs : (level : ℕ) (branched : Bool) (x : CoreStmt) (at next : ℕ) → IsCoreStmt (scope_of c t) level branched [] x → Covers (pointing t) (λ q. addresses q x) → ((store : Store) → 0 < plain_steps x store)
        → Lie p at (act_code (frame_of d number) false (act.Plain x) at next) → RunsAt p place_of d number Now Well (AnyWay Well) (act.Plain x) at next
    plain_runs level branched x at next formed covers some has =
        placed p place_of d number well here false Well (AnyWay Well) (StatementFits d x) (StatementFits d x) (weight d (act.Plain x)) (act.Plain x) at next (law.plains d number level branched [] x formed covers) (law.plains_cut d number x) claim.common
        (λ n m s related goes.
        let fits : StatementFits d x m s = record { some = some s.store; within = claim.within n m s goes; well = (statement_good c t x level branched [] formed covers s.store (sound n m s related goes)).well } in
        (fits, fits))
        (λ n m s related goes. plain_keeps n m s x (plain_done x s.store) goes (statement_good c t x level branched [] formed covers s.store (sound n m s related goes))) has

    -- a commit
    pub commit_runs : (task at next : ℕ) → task < 128 → task ≤ length c.tasks → Lie p at (act_code (frame_of d number) false (act.Commit task) at next)
        → RunsIn p place_of d number Now Well (AnyWay (Common p place_of d.setting.rules d.scheme task)) commit_most (act.Commit task) at next
    commit_runs task at next small there has =
        placed p place_of d number well here false Well (AnyWay (Common p place_of d.setting.rules d.scheme task)) MayCommit MayCommit commit_most (act.Commit task) at next (law.commits d number task small) (law.commits_cut d number task small there) claim.common
        (λ n m s related goes. let room : s.epoch + n + 1 < 2 ^ 24 = (claim.common n m s goes).room in let fits : s.epoch + 1 < 2 ^ 24 = omega (arith, room) in (fits, fits))
        (λ n m s related goes steps at_stub gone. common_to p place_of d.setting.rules d.scheme number task n steps m at_stub _ s _ (claim.common n m s goes) gone refl) has
