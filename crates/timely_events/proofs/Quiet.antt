-- No small step of an act but a commit changes the next task.
use Rattle.std.specs.Prelude.{⊤, map, Option, Some, None, Result, Ok, Err}
use Rattle.std.specs.List.{AllByRecursion}
use Rattle.std.proofs.Common.{◌≡◌, ◌∙◌, ℕ, ◌+◌, List, [], ◌∷◌, refl}
use Rattle.devices.specs.Journal.{JournalEvent, begins, looks, keeps, drops, issues, seals, copies, commits, traps}
use Rattle.task_ast.specs.declared.tree.Kind.{Kind}
use Rattle.task_ast.specs.declared.tree.Kind.TheVariants.{Nv, Const, Vol}
use Rattle.task_ast.specs.declared.core_form.CoreStmt.{CoreStmt}
use Rattle.task_ast.specs.declared.core_form.CoreStmt.TheVariants as stmt
use Rattle.task_ast.specs.declared.core_form.Core.{Core}
use Rattle.task_ast.specs.declared.core_form.Site.{Site}
use Rattle.task_ast.specs.declared.core_form.Site.TheVariants as site
use Rattle.task_attempts.specs.Copies.{words_at}
use Rattle.task_attempts.specs.State.{Setting}
use Rattle.walk_run.specs.declared.place.Place.{Place}
use Rattle.walk_run.specs.declared.trap.Trap.{Trap}
use Rattle.walk_run.specs.Plain.{Ran, done, trapped}
use Rattle.walk_run.specs.PlainWrites.{Write, points, sets}
use Rattle.walk_run.specs.Store.{first_if_shown}
use Rattle.word_isa.specs.declared.parts.Scheme.{Scheme}
use Rattle.word_isa.specs.declared.parts.Scheme.TheVariants.{Undo, Bank}
use Rattle.run_plan.specs.declared.act.Leg.{Leg}
use Rattle.run_plan.specs.declared.act.Leg.TheVariants.{Across, ToKept, FromKept}
use Rattle.run_plan.specs.Cells.{CellWrite, State, after_write, puts_home, puts_aside, puts_lock, puts_flag, puts_value, puts_stamp, puts_class, puts_to, puts_from, puts_length, puts_kept, puts_state}
use Rattle.run_plan.specs.Deeds.{all_values, begin_writes, choose_done, copy_found, issue_done, plain_ends, seal_done, target_found, transfer_done, value_done, write_done}
use Rattle.run_plan.specs.Small.{Atom, Doing, Done, does, fails, have, shown_last, silent, stuck, after_atom, after_event, core_of, unless_fails}
use Rattle.run_plan.specs.Words.{home_places, home_writes, keep_writes, kept_at, kind_at, move_writes, put_writes, recorded_words, restore_writes, save_writes}
use Rattle.code_cuts.specs.Lasting.{task_by}

-- ---- what is next, by the events

abbrev pub task_at : Option JournalEvent → ℕ → ℕ
task_at None task = task
task_at (Some e) task = task_by e task

abbrev pub task_told : List JournalEvent → ℕ → ℕ
task_told [] task = task
task_told (e ∷ es) task = task_told es (task_by e task)

-- ---- small steps that don't commit

abbrev NoCommit : Option JournalEvent → Type 0
NoCommit (Some (commits next)) = ⊥
NoCommit e = ⊤

abbrev NoState : Option CellWrite → Type 0
NoState (Some (puts_state epoch task bank)) = ⊥
NoState w = ⊤

abbrev pub Quiet : Atom → Type 0
Quiet a = NoState a.write × NoCommit a.event

abbrev pub AllQuiet : List Atom → Type 0
AllQuiet atoms = AllByRecursion Quiet atoms

written : (c : Core) (w : CellWrite) (s : State) → NoState (Some w) → (after_write c.arrays w s).task ≡ s.task
written c (puts_home at word) s h = refl
written c (puts_aside at word) s h = refl
written c (puts_lock r e) s h = refl
written c (puts_flag k e) s h = refl
written c (puts_value k word) s h = refl
written c (puts_stamp k t) s h = refl
written c (puts_class k class) s h = refl
written c (puts_to k at) s h = refl
written c (puts_from k at) s h = refl
written c (puts_length k n) s h = refl
written c (puts_kept at word) s h = refl
written c (puts_state e t b) s h = absurd h

shown : (e : JournalEvent) (s : State) → NoCommit (Some e) → (after_event e s).task ≡ task_by e s.task
shown (begins t) s h = refl
shown (looks k t) s h = refl
shown (keeps k value) s h = refl
shown (drops k) s h = refl
shown (issues k p args reading) s h = refl
shown (seals k) s h = refl
shown (copies k from to n) s h = refl
shown (commits next) s h = absurd h
shown (traps code) s h = refl

pub quiet_told : (c : Core) (w : Option CellWrite) (e : Option JournalEvent) (s : State) → NoState w → NoCommit e → (after_atom c (record { write = w; event = e }) s).task ≡ task_at e s.task
quiet_told c None None s h g = refl
quiet_told c None (Some e) s h g = shown e s g
quiet_told c (Some w) None s h g = written c w s h
quiet_told c (Some w) (Some e) s h g = written c w (after_event e s) h ∙ shown e s g

-- no small step of an act commits, and its end leaves the next task
abbrev pub Still : Done → Type 0
Still (does atoms change way) = AllQuiet atoms × ((s : State) → (change s).task ≡ s.task)
Still (fails atoms why) = AllQuiet atoms
Still stuck = ⊤

-- ---- writes

abbrev NoStates : List CellWrite → Type 0
NoStates writes = AllByRecursion (λ w. NoState (Some w)) writes

pub silent_quiet : (writes : List CellWrite) → NoStates writes → AllQuiet (map silent writes)
silent_quiet [] h = tt
silent_quiet (w ∷ writes) h = ((h.0, tt), silent_quiet writes h.1)

last_quiet : (writes : List CellWrite) (e : JournalEvent) → NoStates writes → NoCommit (Some e) → AllQuiet (shown_last writes e)
last_quiet [] e h g = ((tt, g), tt)
last_quiet (w ∷ []) e h g = ((h.0, g), tt)
last_quiet (w ∷ v ∷ writes) e h g = ((h.0, tt), last_quiet (v ∷ writes) e h.1 g)

shown_states : (k : Kind) (at : Place) (word : ℕ) (writes : List CellWrite) → NoStates writes → NoStates (first_if_shown k (puts_home at word) writes)
shown_states Nv at word writes h = (tt, h)
shown_states Const at word writes h = h
shown_states Vol at word writes h = h

pub homes : (c : Core) (writes : List Write) → NoStates (home_writes c writes)
homes c [] = tt
homes c (points q at ∷ writes) = homes c writes
homes c (sets at word ∷ writes) = shown_states (kind_at c at) at word (home_writes c writes) (homes c writes)

pub saves : (s : State) (places : List Place) → NoStates (save_writes s places)
saves s [] = tt
saves s (at ∷ places) = (tt, saves s places)

pub restores : (s : State) (places : List Place) → NoStates (restore_writes s places)
restores s [] = tt
restores s (at ∷ places) = (tt, restores s places)

pub keeps_states : (at : ℕ) (words : List ℕ) → NoStates (keep_writes at words)
keeps_states at [] = tt
keeps_states at (word ∷ words) = (tt, keeps_states (at + 1) words)

pub begins_states : (scheme : Scheme) (c : Core) (s : State) → NoStates (begin_writes scheme c s)
begins_states Undo c s = tt
begins_states Bank c s = restores s (home_places c)

-- ---- acts

pub have_still : {A : Type 0} (o : Option A) (go : A → Done) → ((x : A) → Still (go x)) → Still (have o go)
have_still None go h = tt
have_still (Some x) go h = h x

pub unless_still : {A : Type 0} (r : Result A Trap) (go : A → Done) → ((x : A) → Still (go x)) → Still (unless_fails r go)
unless_still (Ok x) go h = h x
unless_still (Err why) go h = tt

pub plain_still : (c : Core) (atoms : List Atom) (r : Ran) → AllQuiet atoms → Still (plain_ends c atoms r)
plain_still c atoms (done store) h = (h, λ s. refl)
plain_still c atoms (trapped why store) h = h

pub value_still : (setting : Setting) (o : Option CoreStmt) (s : State) → Still (value_done setting o s)
value_still setting (Some (stmt.Assign x e)) s = tt
value_still setting (Some (stmt.Point q array i)) s = tt
value_still setting (Some (stmt.If' c m yes_row n no_row)) s = tt
value_still setting (Some (stmt.Loop' i turns m row)) s = tt
value_still setting (Some (stmt.Io k target q args)) s = unless_still (target_found target s.store) _ (λ at. unless_still (all_values args s.store) _ (λ words. (tt, λ s. refl)))
value_still setting (Some (stmt.Block' k m row)) s = tt
value_still setting (Some (stmt.Copy k to from words)) s = unless_still (copy_found setting to from words s.store) _ (λ v. (tt, λ s. refl))
value_still setting None s = tt

pub choose_still : (o : Option Site) (k : ℕ) (s : State) → Still (choose_done o k s)
choose_still (Some (site.Io ann)) k s = have_still s.frame.mode _ (λ m. have_still s.frame.time _ (λ t. (tt, λ s. refl)))
choose_still (Some (site.Block ann)) k s = tt
choose_still (Some (site.Copy n)) k s = (tt, λ s. refl)
choose_still None k s = tt

pub issue_still : (setting : Setting) (o : Option CoreStmt) (k : ℕ) (s : State) → Still (issue_done setting o k s)
issue_still setting (Some (stmt.Assign x e)) k s = tt
issue_still setting (Some (stmt.Point q array i)) k s = tt
issue_still setting (Some (stmt.If' c m yes_row n no_row)) k s = tt
issue_still setting (Some (stmt.Loop' i turns m row)) k s = tt
issue_still setting (Some (stmt.Io i target q args)) k s = have_still s.frame.args _ (λ words. (((tt, tt), tt), λ s. refl))
issue_still setting (Some (stmt.Block' i m row)) k s = tt
issue_still setting (Some (stmt.Copy i to from n)) k s = tt
issue_still setting None k s = tt

pub seal_still : (o : Option Site) (k : ℕ) (s : State) → Still (seal_done o k s)
seal_still (Some (site.Io ann)) k s = have_still s.frame.word _ (λ word. have_still s.frame.time _ (λ t. (last_quiet (puts_value k word ∷ puts_stamp k t ∷ puts_flag k s.epoch ∷ []) (seals k) (tt, (tt, (tt, tt))) tt, λ s. refl)))
seal_still (Some (site.Block ann)) k s = have_still (s.frame.begun k) _ (λ t. (last_quiet (puts_stamp k t ∷ puts_flag k s.epoch ∷ []) (seals k) (tt, (tt, tt)) tt, λ s. refl))
seal_still (Some (site.Copy n)) k s = have_still s.frame.copy _ (λ v. (last_quiet (puts_class k v.class ∷ puts_to k v.to ∷ puts_from k v.from ∷ puts_length k v.length ∷ puts_flag k s.epoch ∷ []) (seals k) (tt, (tt, (tt, (tt, (tt, tt))))) tt, λ s. refl))
seal_still None k s = tt

pub write_still : (c : Core) (o : Option Place) (s : State) → Still (write_done c o s)
write_still c None s = (tt, λ s. refl)
write_still c (Some at) s = have_still s.frame.word _ (λ word. (silent_quiet _ (homes c (sets at word ∷ [])), λ s. refl))

pub transfer_still : (d : Doing) (leg : Leg) (k : ℕ) (s : State) → Still (transfer_done d leg k s)
transfer_still d Across k s = have_still s.frame.copy _ (λ v. (last_quiet _ _ (homes (core_of d) (move_writes v.length v.to v.from s.store)) tt, λ s. refl))
transfer_still d ToKept k s = have_still s.frame.copy _ (λ v. (last_quiet _ _ (keeps_states (kept_at d k) (words_at s.store v.from v.length)) tt, λ s. refl))
transfer_still d FromKept k s = have_still (s.cells.to k) _ (λ to. (last_quiet _ _ (homes (core_of d) (put_writes to (recorded_words d k s))) tt, λ s. refl))
