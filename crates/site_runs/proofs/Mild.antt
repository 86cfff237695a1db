-- Small steps that write neither a flag nor the state word, and commit nothing: what stays behind them.
use Rattle.std.specs.Prelude.{map, Option, Some, None, ⊤}
use Rattle.std.specs.List.{AllByRecursion}
use Rattle.std.proofs.Common.{◌≡◌, ◌∙◌, ℕ, zero, suc, ◌+◌, List, [], ◌∷◌, ◌++◌, refl, ap}
use Rattle.devices.specs.Journal.{JournalEvent, begins, looks, keeps, drops, issues, seals, copies, commits, traps}
use Rattle.task_ast.specs.declared.core_form.Core.{Core}
use Rattle.task_ast.specs.declared.tree.Kind.{Kind}
use Rattle.task_ast.specs.declared.tree.Kind.TheVariants.{Nv, Const, Vol}
use Rattle.walk_run.specs.declared.place.Place.{Place}
use Rattle.walk_run.specs.PlainWrites.{Write, points, sets}
use Rattle.walk_run.specs.Store.{first_if_shown, word_at}
use Rattle.word_isa.specs.declared.parts.Scheme.{Scheme}
use Rattle.run_plan.specs.Cells.{CellWrite, State, after_write, puts_aside, puts_class, puts_flag, puts_from, puts_home, puts_kept, puts_length, puts_lock, puts_stamp, puts_state, puts_to, puts_value}
use Rattle.run_plan.specs.Small.{Atom, after_event, after_shown, after_written, shown_last, silent}
use Rattle.run_plan.specs.Words.{home_writes, keep_writes, kind_at, save_writes}
use Rattle.act_refines.specs.Seen.{Seen, behind, event_seen, steps_seen, write_seen}
use Rattle.code_cuts.specs.Lasting.{task_behind, task_by}

-- ---- small steps

abbrev pub IsMildWrite : CellWrite → Type 0
IsMildWrite (puts_home at word) = ⊤
IsMildWrite (puts_aside at word) = ⊤
IsMildWrite (puts_lock r e) = ⊤
IsMildWrite (puts_flag k e) = ⊥
IsMildWrite (puts_value k word) = ⊤
IsMildWrite (puts_stamp k u) = ⊤
IsMildWrite (puts_class k x) = ⊤
IsMildWrite (puts_to k at) = ⊤
IsMildWrite (puts_from k at) = ⊤
IsMildWrite (puts_length k n) = ⊤
IsMildWrite (puts_kept n word) = ⊤
IsMildWrite (puts_state e u b) = ⊥

abbrev pub IsMildEvent : JournalEvent → Type 0
IsMildEvent (begins t) = ⊤
IsMildEvent (looks k t) = ⊤
IsMildEvent (keeps k value) = ⊤
IsMildEvent (drops k) = ⊤
IsMildEvent (issues k p args reading) = ⊤
IsMildEvent (seals k) = ⊤
IsMildEvent (copies k from to n) = ⊤
IsMildEvent (commits next) = ⊥
IsMildEvent (traps code) = ⊤

abbrev pub WritesMildly : Option CellWrite → Type 0
WritesMildly None = ⊤
WritesMildly (Some w) = IsMildWrite w

abbrev pub ShowsMildly : Option JournalEvent → Type 0
ShowsMildly None = ⊤
ShowsMildly (Some e) = IsMildEvent e

abbrev pub AreMild : List Atom → Type 0
AreMild atoms = AllByRecursion (λ (a : Atom). WritesMildly a.write × ShowsMildly a.event) atoms

-- ---- what stays

-- what lives between acts, the flags and the epoch, and where pointers point
pub record Stays (s to : State) : Type 0 where
  pub frame : to.frame ≡ s.frame
  pub flags : to.cells.flag ≡ s.cells.flag
  pub epoch : to.epoch ≡ s.epoch
  pub pointers : to.store.pointers ≡ s.store.pointers

pub stays_itself : (s : State) → Stays s s
stays_itself s = record { frame = refl; flags = refl; epoch = refl; pointers = refl }

stays_both : (s t u : State) → Stays s t → Stays t u → Stays s u
stays_both s t u a b = record { frame = b.frame ∙ a.frame; flags = b.flags ∙ a.flags; epoch = b.epoch ∙ a.epoch; pointers = b.pointers ∙ a.pointers }

write_stays : (c : Core) (w : CellWrite) (s : State) → IsMildWrite w → Stays s (after_write c.arrays w s)
write_stays c (puts_home at word) s mild = record { frame = refl; flags = refl; epoch = refl; pointers = refl }
write_stays c (puts_aside at word) s mild = record { frame = refl; flags = refl; epoch = refl; pointers = refl }
write_stays c (puts_lock r e) s mild = record { frame = refl; flags = refl; epoch = refl; pointers = refl }
write_stays c (puts_flag k e) s mild = absurd mild
write_stays c (puts_value k word) s mild = record { frame = refl; flags = refl; epoch = refl; pointers = refl }
write_stays c (puts_stamp k u) s mild = record { frame = refl; flags = refl; epoch = refl; pointers = refl }
write_stays c (puts_class k x) s mild = record { frame = refl; flags = refl; epoch = refl; pointers = refl }
write_stays c (puts_to k at) s mild = record { frame = refl; flags = refl; epoch = refl; pointers = refl }
write_stays c (puts_from k at) s mild = record { frame = refl; flags = refl; epoch = refl; pointers = refl }
write_stays c (puts_length k n) s mild = record { frame = refl; flags = refl; epoch = refl; pointers = refl }
write_stays c (puts_kept n word) s mild = record { frame = refl; flags = refl; epoch = refl; pointers = refl }
write_stays c (puts_state e u b) s mild = absurd mild

event_stays : (e : JournalEvent) (s : State) → Stays s (after_event e s)
event_stays (begins t) s = stays_itself s
event_stays (looks k t) s = record { frame = refl; flags = refl; epoch = refl; pointers = refl }
event_stays (keeps k value) s = stays_itself s
event_stays (drops k) s = stays_itself s
event_stays (issues k p args reading) s = record { frame = refl; flags = refl; epoch = refl; pointers = refl }
event_stays (seals k) s = stays_itself s
event_stays (copies k from to n) s = stays_itself s
event_stays (commits next) s = stays_itself s
event_stays (traps code) s = stays_itself s

shown_stays : (e : Option JournalEvent) (s : State) → Stays s (after_shown e s)
shown_stays None s = stays_itself s
shown_stays (Some e) s = event_stays e s

written_stays : (c : Core) (w : Option CellWrite) (s : State) → WritesMildly w → Stays s (after_written c w s)
written_stays c None s mild = stays_itself s
written_stays c (Some w) s mild = write_stays c w s mild

pub behind_stays : (c : Core) (atoms : List Atom) (s : State) → AreMild atoms → Stays s (behind c atoms s)
behind_stays c [] s mild = stays_itself s
behind_stays c (a ∷ atoms) s mild =
    let shown : State = after_shown a.event s in
    let here : State = after_written c a.write shown in
    stays_both s here (behind c atoms here) (stays_both s shown here (shown_stays a.event s) (written_stays c a.write shown mild.0.0)) (behind_stays c atoms here mild.1)

-- ---- the next task

event_task : (e : JournalEvent) (task : ℕ) → IsMildEvent e → task_by e task ≡ task
event_task (begins t) task mild = refl
event_task (looks k t) task mild = refl
event_task (keeps k value) task mild = refl
event_task (drops k) task mild = refl
event_task (issues k p args reading) task mild = refl
event_task (seals k) task mild = refl
event_task (copies k from to n) task mild = refl
event_task (commits next) task mild = absurd mild
event_task (traps code) task mild = refl

one_task : (c : Core) (scheme : Scheme) (s : State) (w : Option CellWrite) (e : Option JournalEvent) (more : List Seen) (task : ℕ) → ShowsMildly e → task_behind (write_seen c scheme s w ++ event_seen e ++ more) task ≡ task_behind more task
one_task c scheme s None None more task mild = refl
one_task c scheme s None (Some e) more task mild = ap (task_behind more) (event_task e task mild)
one_task c scheme s (Some w) None more task mild = refl
one_task c scheme s (Some w) (Some e) more task mild = ap (task_behind more) (event_task e task mild)

pub mild_task : (c : Core) (scheme : Scheme) (atoms : List Atom) (s : State) (task : ℕ) → AreMild atoms → task_behind (steps_seen c scheme atoms s) task ≡ task
mild_task c scheme [] s task mild = refl
mild_task c scheme (a ∷ atoms) s task mild =
    let shown : State = after_shown a.event s in
    let here : State = after_written c a.write shown in
    one_task c scheme shown a.write a.event (steps_seen c scheme atoms here) task mild.0.1 ∙ mild_task c scheme atoms here task mild.1

-- ---- lists of small steps

abbrev pub AreMildWrites : List CellWrite → Type 0
AreMildWrites writes = AllByRecursion IsMildWrite writes

pub mild_silent : (writes : List CellWrite) → AreMildWrites writes → AreMild (map silent writes)
mild_silent [] mild = tt
mild_silent (w ∷ writes) mild = ((mild.0, tt), mild_silent writes mild.1)

pub mild_shown : (writes : List CellWrite) (e : JournalEvent) → AreMildWrites writes → IsMildEvent e → AreMild (shown_last writes e)
mild_shown [] e mild quiet = ((tt, quiet), tt)
mild_shown (w ∷ []) e mild quiet = ((mild.0, quiet), tt)
mild_shown (w ∷ v ∷ writes) e mild quiet = ((mild.0, tt), mild_shown (v ∷ writes) e mild.1 quiet)

mild_if : (kind : Kind) (w : CellWrite) (writes : List CellWrite) → IsMildWrite w → AreMildWrites writes → AreMildWrites (first_if_shown kind w writes)
mild_if Nv w writes here rest = (here, rest)
mild_if Const w writes here rest = rest
mild_if Vol w writes here rest = rest

pub mild_homes : (c : Core) (writes : List Write) → AreMildWrites (home_writes c writes)
mild_homes c [] = tt
mild_homes c (sets at word ∷ writes) = mild_if (kind_at c at) (puts_home at word) (home_writes c writes) tt (mild_homes c writes)
mild_homes c (points p at ∷ writes) = mild_homes c writes

pub mild_keeps : (at : ℕ) (words : List ℕ) → AreMildWrites (keep_writes at words)
mild_keeps at [] = tt
mild_keeps at (word ∷ words) = (tt, mild_keeps (at + 1) words)

pub mild_saves : (s : State) (places : List Place) → AreMildWrites (save_writes s places)
mild_saves s [] = tt
mild_saves s (at ∷ places) = (tt, mild_saves s places)
