-- Small steps whose writes the cells have room for: behind each front of them memory stands for the plan's state, and what is
-- recorded may be followed.
use Rattle.std.specs.Prelude.{◌==◌, cond, drop, length, min, ⊤, if◌then◌else◌}
use Rattle.std.proofs.Common.{◌≡◌, ◌∙◌, ℕ, ◌+◌, Bool, true, false, List, [], ◌∷◌, ◌++◌, Option, Some, None, refl, sym, ap, subst, arith, eqb-true}
use Rattle.devices.specs.Journal.{JournalEvent, begins, looks, keeps, drops, issues, seals, copies, commits, traps}
use Rattle.devices.specs.Readings.{issued_after, one_more}
use Rattle.task_ast.specs.declared.core_form.Core.{Core}
use Rattle.task_ast.specs.WellFormed.{IsWellFormed}
use Rattle.task_attempts.specs.Changes as changes
use Rattle.word_isa.specs.declared.parts.Scheme.{Scheme}
use Rattle.word_machine.specs.State.{Program}
use Rattle.run_plan.specs.Cells.{CellWrite, State, puts_state}
use Rattle.run_plan.specs.Small.{Atom, Doing, after_atom, after_shown, after_written, core_of}
use Rattle.cell_laws.specs.Standing.{Fits}
use Rattle.act_refines.specs.Between.{HasReadings, MemoryStands, WordFits}
use Rattle.act_refines.specs.Seen.{Seen, behind, event_seen, steps_seen, tells, write_seen}
use Rattle.act_refines.proofs.Simple.{WritesKeep}
use Rattle.code_cuts.specs.Lasting.{MayFollow, bank_behind, bank_by, looks_behind, looks_by, task_behind}
use Rattle.code_cuts.proofs.Following.{RecordFits, follows_later, write_follows}
use Rattle.code_cuts.proofs.Memories.{count_if, count_seen, counts_first, put_seen, puts_first}

-- ---- what is asked of small steps but a commit's

-- no event of theirs is a commit
abbrev pub EventFits : Option JournalEvent → Type 0
EventFits None = ⊤
EventFits (Some (begins t)) = ⊤
EventFits (Some (looks k t)) = ⊤
EventFits (Some (keeps k value)) = ⊤
EventFits (Some (drops k)) = ⊤
EventFits (Some (issues k q args reading)) = ⊤
EventFits (Some (seals k)) = ⊤
EventFits (Some (copies k from to n)) = ⊤
EventFits (Some (commits next)) = ⊥
EventFits (Some (traps code)) = ⊤

abbrev pub WriteFits : Doing → (now : ℕ) → (ℕ → ℕ) → State → Option CellWrite → Type 0
WriteFits d now m s None = ⊤
WriteFits d now m s (Some w) = Fits (core_of d) d.scheme d.setting.task m s w × WordFits s w × RecordFits d now s w

-- each in the state and the memory before it
abbrev pub AllFit : Doing → (now : ℕ) → (ℕ → ℕ) → List Atom → State → Type 0
AllFit d now m [] s = ⊤
AllFit d now m (a ∷ atoms) s =
    EventFits a.event × WriteFits d now m (after_shown a.event s) a.write × AllFit d now (put_seen (write_seen (core_of d) d.scheme (after_shown a.event s) a.write) m) atoms (after_atom (core_of d) a s)

pub fit_front : (d : Doing) (now : ℕ) (front left : List Atom) (m : ℕ → ℕ) (s : State) → AllFit d now m (front ++ left) s → AllFit d now m front s
fit_front d now [] left m s fit = tt
fit_front d now (a ∷ front) left m s fit =
    (fit.0, fit.1, fit_front d now front left (put_seen (write_seen (core_of d) d.scheme (after_shown a.event s) a.write) m) (after_atom (core_of d) a s) fit.2)

-- ---- memory behind them

min_more : (i n : ℕ) → min (min i n + 1) n ≡ min (i + 1) n
min_more i n = omega arith

-- an issue is counted by both
readings_after : (p : Program) (d : Doing) (counts issued : ℕ → ℕ) (q : ℕ) → HasReadings p d counts issued → HasReadings p d (issued_after p.values counts q) (changes.put q (issued q + 1) issued)
readings_after p d counts issued q h = record { values = h.values; counts = λ r. by_test r (q == r) refl }
  where
    by_test : (r : ℕ) (b : Bool) → (q == r) ≡ b → (if b then one_more (p.values q) (counts q) else counts r) ≡ min (cond b (issued q + 1) (issued r)) (length (p.values r))
    by_test r true is =
        ap (λ c. one_more (p.values q) c) (h.counts q) ∙ min_more (issued q) (length (p.values q)) ∙ ap (λ j. min (issued q + 1) (length (p.values j))) (eqb-true q r is)
    by_test r false is = h.counts r

-- looks and issues are no cells
rest_stands : (p : Program) (d : Doing) (m counts later : ℕ → ℕ) (s : State) (times : List ℕ) (issued : ℕ → ℕ) → HasReadings p d later issued → MemoryStands p d false m counts s
    → MemoryStands p d false m later (record s { looks = times; issued = issued })
rest_stands p d m counts later s times issued readings h = record {
  cells = record {
    store = record { state = h.cells.store.state; homes = h.cells.store.homes; aside = h.cells.store.aside };
    cells = record { locks = h.cells.cells.locks; flags = h.cells.cells.flags; kept = h.cells.cells.kept; records = h.cells.cells.records };
  };
  constants = h.constants;
  ram = tt;
  readings = readings;
  tidy = record {
    shape = record { homes = h.tidy.shape.homes; others = h.tidy.shape.others };
    homes = h.tidy.homes;
    aside = h.tidy.aside;
    words = h.tidy.words;
    flags = h.tidy.flags;
    started = h.tidy.started;
    bank = h.tidy.bank;
  };
}

event_stands : (p : Program) (d : Doing) (m counts : ℕ → ℕ) (s : State) (e : Option JournalEvent) → MemoryStands p d false m counts s → MemoryStands p d false m (count_if p e counts) (after_shown e s)
event_stands p d m counts s None h = h
event_stands p d m counts s (Some (begins t)) h = h
event_stands p d m counts s (Some (looks k t)) h = rest_stands p d m counts counts s (drop 1 s.looks) s.issued h.readings h
event_stands p d m counts s (Some (keeps k value)) h = h
event_stands p d m counts s (Some (drops k)) h = h
event_stands p d m counts s (Some (issues k q args reading)) h =
    rest_stands p d m counts (issued_after p.values counts q) s s.looks (changes.put q (s.issued q + 1) s.issued) (readings_after p d counts s.issued q h.readings) h
event_stands p d m counts s (Some (seals k)) h = h
event_stands p d m counts s (Some (copies k from to n)) h = h
event_stands p d m counts s (Some (commits next)) h = h
event_stands p d m counts s (Some (traps code)) h = h

write_stands : WritesKeep → (p : Program) (d : Doing) (now : ℕ) (m counts : ℕ → ℕ) (s : State) (w : Option CellWrite) → IsWellFormed (core_of d) → WriteFits d now m s w → MemoryStands p d false m counts s
    → MemoryStands p d false (put_seen (write_seen (core_of d) d.scheme s w) m) counts (after_written (core_of d) w s)
write_stands keep p d now m counts s None well fit h = h
write_stands keep p d now m counts s (Some w) well fit h = keep p d false m counts s w well h fit.0 fit.1

-- behind all of them memory stands for the state behind them
pub all_stand : WritesKeep → (p : Program) (d : Doing) (now : ℕ) → IsWellFormed (core_of d) → (atoms : List Atom) (m counts : ℕ → ℕ) (s : State) → AllFit d now m atoms s → MemoryStands p d false m counts s
    → MemoryStands p d false (put_seen (steps_seen (core_of d) d.scheme atoms s) m) (count_seen p (steps_seen (core_of d) d.scheme atoms s) counts) (behind (core_of d) atoms s)
all_stand keep p d now well [] m counts s fit h = h
all_stand keep p d now well (a ∷ atoms) m counts s fit h =
    let c : Core = core_of d in
    let t : State = after_shown a.event s in
    let n : ℕ → ℕ = put_seen (write_seen c d.scheme t a.write) m in
    let rest : List Seen = steps_seen c d.scheme atoms (after_atom c a s) in
    let next : MemoryStands p d false n (count_if p a.event counts) (after_atom c a s) = write_stands keep p d now m (count_if p a.event counts) t a.write well fit.1 (event_stands p d m counts s a.event h) in
    subst (λ x. MemoryStands p d false x (count_seen p (write_seen c d.scheme t a.write ++ event_seen a.event ++ rest) counts) (behind c atoms (after_atom c a s))) (sym (puts_first c d.scheme t a.write a.event rest m))
    (subst (λ x. MemoryStands p d false (put_seen rest n) x (behind c atoms (after_atom c a s))) (sym (counts_first p c d.scheme t a.write a.event rest counts))
    (all_stand keep p d now well atoms n (count_if p a.event counts) (after_atom c a s) fit.2 next))

-- ---- what may be followed behind them

event_follows : (d : Doing) (now : ℕ) (s : State) (e : Option JournalEvent) → MayFollow d now s → MayFollow d now (after_shown e s)
event_follows d now s None h = h
event_follows d now s (Some (begins t)) h = h
event_follows d now s (Some (looks k t)) h = follows_later d now now s (after_shown (Some (looks k t)) s) refl refl (omega arith) h
event_follows d now s (Some (keeps k value)) h = h
event_follows d now s (Some (drops k)) h = h
event_follows d now s (Some (issues k q args reading)) h = follows_later d now now s (after_shown (Some (issues k q args reading)) s) refl refl (omega arith) h
event_follows d now s (Some (seals k)) h = h
event_follows d now s (Some (copies k from to n)) h = h
event_follows d now s (Some (commits next)) h = h
event_follows d now s (Some (traps code)) h = h

step_follows : (d : Doing) (now : ℕ) (m : ℕ → ℕ) (s : State) (w : Option CellWrite) → WriteFits d now m s w → MayFollow d now s → MayFollow d now (after_written (core_of d) w s)
step_follows d now m s None fit h = h
step_follows d now m s (Some w) fit h = write_follows d now s h m w fit.0 fit.2

pub all_follow : (d : Doing) (now : ℕ) (atoms : List Atom) (m : ℕ → ℕ) (s : State) → AllFit d now m atoms s → MayFollow d now s → MayFollow d now (behind (core_of d) atoms s)
all_follow d now [] m s fit h = h
all_follow d now (a ∷ atoms) m s fit h =
    let c : Core = core_of d in
    let t : State = after_shown a.event s in
    all_follow d now atoms (put_seen (write_seen c d.scheme t a.write) m) (after_atom c a s) fit.2 (step_follows d now m t a.write fit.1 (event_follows d now s a.event h))

-- ---- how far they go

-- the same state word, and these looks
pub record Stays (s t : State) (times : List ℕ) : Type 0 where
  pub epoch : t.epoch ≡ s.epoch
  pub task : t.task ≡ s.task
  pub bank : t.bank ≡ s.bank
  pub looks : t.looks ≡ times

write_stays : (d : Doing) (now : ℕ) (m : ℕ → ℕ) (s : State) (w : Option CellWrite) → WriteFits d now m s w → Stays s (after_written (core_of d) w s) s.looks
write_stays d now m s None fit = record { epoch = refl; task = refl; bank = refl; looks = refl }
write_stays d now m s (Some (puts_state e t b)) fit = absurd fit.0
write_stays d now m s (Some _) fit = record { epoch = refl; task = refl; bank = refl; looks = refl }

abbrev pub looks_if : Option JournalEvent → List ℕ → List ℕ
looks_if None times = times
looks_if (Some e) times = looks_by e times

event_stays : (s : State) (e : Option JournalEvent) → Stays s (after_shown e s) (looks_if e s.looks)
event_stays s None = record { epoch = refl; task = refl; bank = refl; looks = refl }
event_stays s (Some (begins t)) = record { epoch = refl; task = refl; bank = refl; looks = refl }
event_stays s (Some (looks k t)) = record { epoch = refl; task = refl; bank = refl; looks = refl }
event_stays s (Some (keeps k value)) = record { epoch = refl; task = refl; bank = refl; looks = refl }
event_stays s (Some (drops k)) = record { epoch = refl; task = refl; bank = refl; looks = refl }
event_stays s (Some (issues k q args reading)) = record { epoch = refl; task = refl; bank = refl; looks = refl }
event_stays s (Some (seals k)) = record { epoch = refl; task = refl; bank = refl; looks = refl }
event_stays s (Some (copies k from to n)) = record { epoch = refl; task = refl; bank = refl; looks = refl }
event_stays s (Some (commits next)) = record { epoch = refl; task = refl; bank = refl; looks = refl }
event_stays s (Some (traps code)) = record { epoch = refl; task = refl; bank = refl; looks = refl }

looks_first : (c : Core) (scheme : Scheme) (s : State) (w : Option CellWrite) (e : Option JournalEvent) (rest : List Seen) (times : List ℕ) → looks_behind (write_seen c scheme s w ++ event_seen e ++ rest) times ≡ looks_behind rest (looks_if e times)
looks_first c scheme s None None rest times = refl
looks_first c scheme s None (Some e) rest times = refl
looks_first c scheme s (Some w) None rest times = refl
looks_first c scheme s (Some w) (Some e) rest times = refl

-- what is seen names no other task
task_kept : (e : JournalEvent) (rest : List Seen) (task : ℕ) → EventFits (Some e) → task_behind (tells e ∷ rest) task ≡ task_behind rest task
task_kept (begins t) rest task fit = refl
task_kept (looks k t) rest task fit = refl
task_kept (keeps k value) rest task fit = refl
task_kept (drops k) rest task fit = refl
task_kept (issues k q args reading) rest task fit = refl
task_kept (seals k) rest task fit = refl
task_kept (copies k from to n) rest task fit = refl
task_kept (commits next) rest task fit = absurd fit
task_kept (traps code) rest task fit = refl

task_first : (c : Core) (scheme : Scheme) (s : State) (w : Option CellWrite) (e : Option JournalEvent) (rest : List Seen) (task : ℕ) → EventFits e → task_behind (write_seen c scheme s w ++ event_seen e ++ rest) task ≡ task_behind rest task
task_first c scheme s None None rest task fit = refl
task_first c scheme s None (Some e) rest task fit = task_kept e rest task fit
task_first c scheme s (Some w) None rest task fit = refl
task_first c scheme s (Some w) (Some e) rest task fit = task_kept e rest task fit

pub tasks_stay : (d : Doing) (now : ℕ) (atoms : List Atom) (m : ℕ → ℕ) (s : State) (task : ℕ) → AllFit d now m atoms s → task_behind (steps_seen (core_of d) d.scheme atoms s) task ≡ task
tasks_stay d now [] m s task fit = refl
tasks_stay d now (a ∷ atoms) m s task fit =
    let c : Core = core_of d in
    let t : State = after_shown a.event s in
    task_first c d.scheme t a.write a.event (steps_seen c d.scheme atoms (after_atom c a s)) task fit.0 ∙ tasks_stay d now atoms (put_seen (write_seen c d.scheme t a.write) m) (after_atom c a s) task fit.2

-- and no other bank
bank_kept : (scheme : Scheme) (e : JournalEvent) (bank : ℕ) → EventFits (Some e) → bank_by scheme e bank ≡ bank
bank_kept scheme (begins t) bank fit = refl
bank_kept scheme (looks k t) bank fit = refl
bank_kept scheme (keeps k value) bank fit = refl
bank_kept scheme (drops k) bank fit = refl
bank_kept scheme (issues k q args reading) bank fit = refl
bank_kept scheme (seals k) bank fit = refl
bank_kept scheme (copies k from to n) bank fit = refl
bank_kept scheme (commits next) bank fit = absurd fit
bank_kept scheme (traps code) bank fit = refl

bank_first : (c : Core) (scheme : Scheme) (s : State) (w : Option CellWrite) (e : Option JournalEvent) (rest : List Seen) (bank : ℕ) → EventFits e → bank_behind scheme (write_seen c scheme s w ++ event_seen e ++ rest) bank ≡ bank_behind scheme rest bank
bank_first c scheme s None None rest bank fit = refl
bank_first c scheme s None (Some e) rest bank fit = ap (bank_behind scheme rest) (bank_kept scheme e bank fit)
bank_first c scheme s (Some w) None rest bank fit = refl
bank_first c scheme s (Some w) (Some e) rest bank fit = ap (bank_behind scheme rest) (bank_kept scheme e bank fit)

pub banks_stay : (d : Doing) (now : ℕ) (atoms : List Atom) (m : ℕ → ℕ) (s : State) (bank : ℕ) → AllFit d now m atoms s → bank_behind d.scheme (steps_seen (core_of d) d.scheme atoms s) bank ≡ bank
banks_stay d now [] m s bank fit = refl
banks_stay d now (a ∷ atoms) m s bank fit =
    let c : Core = core_of d in
    let t : State = after_shown a.event s in
    bank_first c d.scheme t a.write a.event (steps_seen c d.scheme atoms (after_atom c a s)) bank fit.0 ∙ banks_stay d now atoms (put_seen (write_seen c d.scheme t a.write) m) (after_atom c a s) bank fit.2

pub all_stay : (d : Doing) (now : ℕ) (atoms : List Atom) (m : ℕ → ℕ) (s : State) → AllFit d now m atoms s → Stays s (behind (core_of d) atoms s) (looks_behind (steps_seen (core_of d) d.scheme atoms s) s.looks)
all_stay d now [] m s fit = record { epoch = refl; task = refl; bank = refl; looks = refl }
all_stay d now (a ∷ atoms) m s fit =
    let c : Core = core_of d in
    let t : State = after_shown a.event s in
    let rest : List Seen = steps_seen c d.scheme atoms (after_atom c a s) in
    let one : Stays s t (looks_if a.event s.looks) = event_stays s a.event in
    let two : Stays t (after_atom c a s) t.looks = write_stays d now m t a.write fit.1 in
    let later : Stays (after_atom c a s) (behind c atoms (after_atom c a s)) (looks_behind rest (after_atom c a s).looks) = all_stay d now atoms (put_seen (write_seen c d.scheme t a.write) m) (after_atom c a s) fit.2 in
    record {
      epoch = later.epoch ∙ two.epoch ∙ one.epoch;
      task = later.task ∙ two.task ∙ one.task;
      bank = later.bank ∙ two.bank ∙ one.bank;
      looks = later.looks ∙ ap (looks_behind rest) (two.looks ∙ one.looks) ∙ sym (looks_first c d.scheme t a.write a.event rest s.looks);
    }
