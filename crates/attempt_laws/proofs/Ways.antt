-- The two ways to read what is taken of a log: up to its commits, with so many tasks more and readings behind; or up to a
-- trap with which it ends.
use Rattle.std.proofs.Common.{◌≡◌, ℕ, zero, suc, ◌+◌, List, [], ◌∷◌, ◌++◌, take, Option, Some, refl, sym, ap, subst, ◌∙◌, append_assoc, append-nil, arith}
use Rattle.std.specs.Prelude.{⊤}
use Rattle.task_ast.specs.declared.core_form.Core.{Core}
use Rattle.walk_run.specs.declared.trap.Trap.{Trap}
use Rattle.walk_run.specs.declared.trap.Trap.TheVariants as cause
use Rattle.walk_run.specs.Trap.{code_of}
use Rattle.walk_run.specs.declared.walked.WalkEnd.TheVariants.{Trapped}
use Rattle.walk_run.specs.declared.walked.Walked.{Walked}
use Rattle.walk_run.specs.Store.{Store}
use Rattle.walk_run.specs.Walk.{ends, walk_from}
use Rattle.devices.specs.Journal.{JournalEvent, begins, looks, keeps, drops, issues, seals, copies, commits, traps}
use Rattle.task_attempts.specs.State.{Logged, Log, Here}
use Rattle.task_attempts.specs.Along.{IsInner}
use Rattle.task_attempts.specs.Boots.{events_in}
use Rattle.task_attempts.specs.Told.{trap}
use Rattle.task_attempts.specs.Journals.{reading_at, Running, retained_in, trapped_in}
use Rattle.attempt_laws.specs.Runs.{EndsByTrap, counted, commits_in}

-- some commit, and how many behind the first one
abbrev pub IsSome : ℕ → Type 0
IsSome zero = ⊥
IsSome (suc n) = ⊤

abbrev pub before : ℕ → ℕ
before zero = zero
before (suc n) = n

pub data Way : Type 0 where
  committing : (tasks : ℕ) → (more : List ℕ) → Way
  trapping : Trap → Way

-- what is taken of a log is of this way
abbrev pub IsOf : Way → Log → Type 0
IsOf (committing m more) log = IsSome (commits_in log)
IsOf (trapping why) log = EndsByTrap (code_of why) log

-- the same from between two attempts
abbrev pub IsOfBoot : Way → Log → Type 0
IsOfBoot (committing m more) log = ⊤
IsOfBoot (trapping why) log = EndsByTrap (code_of why) log

-- its readings, those behind it, how many tasks the run does with them, and how it ends
abbrev pub reads : Way → Core → Running → List JournalEvent → List ℕ
reads (committing m more) c r es = retained_in c r es
reads (trapping why) c r es = retained_in c r es ++ trapped_in c r es

abbrev pub more_of : Way → List ℕ
more_of (committing m more) = more
more_of (trapping why) = []

abbrev pub all_tasks : Way → (commits : ℕ) → ℕ
all_tasks (committing m more) n = n + m
all_tasks (trapping why) n = n + 1

-- how many behind the first
abbrev pub tasks_behind : Way → (commits : ℕ) → ℕ
tasks_behind (committing m more) n = before n + m
tasks_behind (trapping why) zero = 0
tasks_behind (trapping why) (suc n) = n + 1

abbrev pub end_of : Way → Core → (next : ℕ) → Store → Walked
end_of (committing m more) c next base = walk_from c m next base more
end_of (trapping why) c next base = ends (Trapped why)

-- ---- what holds of each way

inner_trap : (e : JournalEvent) (code : ℕ) → IsInner e → {A : Type 0} → e ≡ traps code → A
inner_trap e code inner is = absurd (subst IsInner is inner)

-- behind an event that is no trap
trap_behind : (code : ℕ) (l : Logged) (log : Log) → (l.event ≡ traps code → ⊥) → EndsByTrap code (l ∷ log) → EndsByTrap code log
trap_behind code l [] other ends = absurd (other ends)
trap_behind code l (m ∷ log) other ends = ends

pub of_behind : (way : Way) (l : Logged) (log : Log) → IsInner l.event → ((n : ℕ) → counted l.event n ≡ n) → IsOf way (l ∷ log) → IsOf way log
of_behind (committing m more) l log inner counts some = subst IsSome (counts (commits_in log)) some
of_behind (trapping why) l log inner counts ends = trap_behind (code_of why) l log (λ is. inner_trap l.event (code_of why) inner is) ends

-- behind an event that is neither a trap
pub of_boot_behind : (way : Way) (l : Logged) (log : Log) → ((code : ℕ) → l.event ≡ traps code → ⊥) → IsOfBoot way (l ∷ log) → IsOfBoot way log
of_boot_behind (committing m more) l log other is = tt
of_boot_behind (trapping why) l log other ends = trap_behind (code_of why) l log (other (code_of why)) ends

pub none_of : (way : Way) → IsOf way [] → ⊥
none_of (committing m more) is = is
none_of (trapping why) is = is

-- an event inside an attempt, with what it reads
pub reads_event : (way : Way) (c : Core) (r : Running) (e : JournalEvent) (es : List JournalEvent) → IsInner e → reads way c r (e ∷ es) ≡ reads way c (record r { held = r.held ++ reading_at r.sites e }) es
reads_event way c r (begins task) es inner = absurd inner
reads_event way c r (commits next) es inner = absurd inner
reads_event way c r (traps code) es inner = absurd inner
reads_event (committing m more) c r (looks site time) es inner = refl
reads_event (committing m more) c r (keeps site v) es inner = refl
reads_event (committing m more) c r (drops site) es inner = refl
reads_event (committing m more) c r (issues site p args v) es inner = refl
reads_event (committing m more) c r (seals site) es inner = refl
reads_event (committing m more) c r (copies site from to n) es inner = refl
reads_event (trapping why) c r (looks site time) es inner = refl
reads_event (trapping why) c r (keeps site v) es inner = refl
reads_event (trapping why) c r (drops site) es inner = refl
reads_event (trapping why) c r (issues site p args v) es inner = refl
reads_event (trapping why) c r (seals site) es inner = refl
reads_event (trapping why) c r (copies site from to n) es inner = refl

-- a code tells its trap
abbrev trap_of : ℕ → Trap
trap_of zero = cause.Index
trap_of (suc zero) = cause.Index
trap_of (suc (suc zero)) = cause.Divisor
trap_of (suc (suc (suc zero))) = cause.Unset
trap_of (suc (suc (suc (suc n)))) = cause.Range

code_tells : (why : Trap) → trap_of (code_of why) ≡ why
code_tells cause.Index = refl
code_tells cause.Divisor = refl
code_tells cause.Unset = refl
code_tells cause.Range = refl

code_in : (code code' : ℕ) → traps code ≡ traps code' → code ≡ code'
code_in code code' is = cc is

pub same_trap : (why why' : Trap) → traps (code_of why) ≡ traps (code_of why') → why ≡ why'
same_trap why why' is = sym (code_tells why) ∙ ap trap_of (code_in (code_of why) (code_of why') is) ∙ code_tells why'
