-- Without a failure all readings are retained.
use Rattle.std.proofs.Common.{◌≡◌, ℕ, zero, suc, List, [], ◌∷◌, ◌++◌, take, refl, sym, ap, subst, ◌∙◌, append_assoc, append-nil}
use Rattle.task_ast.specs.declared.core_form.Core.{Core}
use Rattle.devices.specs.declared.world.World.{World}
use Rattle.devices.specs.Journal.{JournalEvent, begins, looks, keeps, drops, issues, seals, copies, commits, traps}
use Rattle.task_attempts.specs.State.{Logged, Log, start}
use Rattle.task_attempts.specs.Boots.{rules_of, boot_log, cut_boot, boots_from, events_in, expect}
use Rattle.task_attempts.specs.Journals.{Running, idle, run_on, given, reading_at, retained_in, retained, readings_in, readings}
use Rattle.task_attempts.specs.Laws.{IsCommit, EndsByCommit, IsLast, TrapsAreLast}
use Rattle.task_attempts.proofs.AttemptLaws.{boot_traps_last}

-- all readings of events, behind some that are held
abbrev AllHeld : Core → Running → List JournalEvent → Type 0
AllHeld c r es = retained_in c r es ≡ r.held ++ readings_in c r es

-- one more event in front, which gives nothing yet
held_after : (c : Core) (r : Running) (e : JournalEvent) (es : List JournalEvent) → (run_on c r e).held ≡ r.held ++ reading_at r.sites e → given r e ≡ [] → ((r : Running) → AllHeld c r es) → AllHeld c r (e ∷ es)
held_after c r e es held none all =
    ap (λ (x : List ℕ). x ++ retained_in c (run_on c r e) es) none ∙ all (run_on c r e) ∙ ap (λ (x : List ℕ). x ++ readings_in c (run_on c r e) es) held
    ∙ append_assoc r.held (reading_at r.sites e) (readings_in c (run_on c r e) es)

-- a commit alone
held_by_commit : (c : Core) (r : Running) (e : JournalEvent) → IsCommit e → AllHeld c r (e ∷ [])
held_by_commit c r (begins task) is = absurd is
held_by_commit c r (commits next) is = refl
held_by_commit c r (traps code) is = absurd is
held_by_commit c r (looks site time) is = absurd is
held_by_commit c r (keeps site value) is = absurd is
held_by_commit c r (drops site) is = absurd is
held_by_commit c r (issues site p args reading) is = absurd is
held_by_commit c r (seals site) is = absurd is
held_by_commit c r (copies site from to words) is = absurd is

-- one more event in front of events behind which all is held
held_by_more : (c : Core) (r : Running) (e : JournalEvent) (m : Logged) (log : Log) → IsLast e (m ∷ log) → ((r : Running) → AllHeld c r (events_in (m ∷ log))) → AllHeld c r (e ∷ events_in (m ∷ log))
held_by_more c r (begins task) m log last all = held_after c r (begins task) (events_in (m ∷ log)) (sym (append-nil r.held)) refl all
held_by_more c r (commits next) m log last all = ap (λ (x : List ℕ). r.held ++ x) (all idle)
held_by_more c r (traps code) m log last all = absurd (subst {A = Log} (λ log. elim log as (λ l. Type 0) [ [] ↦ ⊥ | _ ∷ _ ↦ Unit {0} ]) last tt)
held_by_more c r (looks site time) m log last all = held_after c r (looks site time) (events_in (m ∷ log)) refl refl all
held_by_more c r (keeps site value) m log last all = held_after c r (keeps site value) (events_in (m ∷ log)) refl refl all
held_by_more c r (drops site) m log last all = held_after c r (drops site) (events_in (m ∷ log)) refl refl all
held_by_more c r (issues site p args reading) m log last all = held_after c r (issues site p args reading) (events_in (m ∷ log)) refl refl all
held_by_more c r (seals site) m log last all = held_after c r (seals site) (events_in (m ∷ log)) refl refl all
held_by_more c r (copies site from to words) m log last all = held_after c r (copies site from to words) (events_in (m ∷ log)) refl refl all

all_held : (c : Core) (r : Running) (log : Log) → EndsByCommit log → TrapsAreLast log → AllHeld c r (events_in log)
all_held c r [] ends last = absurd ends
all_held c r (l ∷ []) ends last = held_by_commit c r l.event ends
all_held c r (l ∷ m ∷ log) ends last = held_by_more c r l.event m log last.0 (λ r. all_held c r (m ∷ log) ends last.1)

-- ---- what is taken of a log

take_none : (n : ℕ) → take {A = Logged} n [] ≡ []
take_none zero = refl
take_none (suc n) = refl

last_taken : (n : ℕ) (e : JournalEvent) (log : Log) → IsLast e log → IsLast e (take n log)
last_taken n (begins task) log last = tt
last_taken n (commits next) log last = tt
last_taken n (traps code) log last = ap (take n) last ∙ take_none n
last_taken n (looks site time) log last = tt
last_taken n (keeps site value) log last = tt
last_taken n (drops site) log last = tt
last_taken n (issues site p args reading) log last = tt
last_taken n (seals site) log last = tt
last_taken n (copies site from to words) log last = tt

all_taken : (n : ℕ) (log : Log) → TrapsAreLast log → TrapsAreLast (take n log)
all_taken zero log last = tt
all_taken (suc n) [] last = tt
all_taken (suc n) (l ∷ log) last = (last_taken n l.event log last.0, all_taken n log last.1)

-- a run of one boot that ends by a commit retains all its readings
pub unbroken_retains : (c : Core) (world : World) (cut : ℕ) (times : List ℕ) → EndsByCommit (cut_boot (rules_of c world) cut (start c times))
    → retained c (expect (rules_of c world) (cut ∷ []) times) ≡ readings c (expect (rules_of c world) (cut ∷ []) times)
unfolding boots_from
unbroken_retains c world cut times ends =
    let rules = rules_of c world in
    let s = start c times in
    ap (λ (x : List ℕ). x ++ []) (all_held c idle (cut_boot rules cut s) ends (all_taken cut (boot_log rules cut s) (boot_traps_last rules cut s)))
