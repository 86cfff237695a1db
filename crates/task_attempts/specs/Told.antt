-- One event of an attempt, and what comes behind it.
use Rattle.std.specs.Prelude.{ℕ, List, [], ◌∷◌, drop, Option, Some, None, Result, Ok, Err}
use Rattle.walk_run.specs.declared.trap.Trap.{Trap}
use Rattle.walk_run.specs.Trap.{code_of}
use Rattle.devices.specs.Journal.{JournalEvent, looks, drops, seals, traps}
use Rattle.task_attempts.specs.State.{Record, Here, Followed, Logged, Rest}
use Rattle.task_attempts.specs.Changes.{with_record, with_looks}

-- an event as it is logged here
abbrev pub logged : JournalEvent → Option Followed → Here → Logged
logged event followed here = record { event = event; after = here.standing; steps = here.steps; followed = followed }

-- an event that is told here, and what comes behind it
abbrev pub told : JournalEvent → Rest → Rest
told event go here = logged event None here ∷ go here

-- an event that follows a record
abbrev pub told_following : Followed → JournalEvent → Rest → Rest
told_following f event go here = logged event (Some f) here ∷ go here

-- a trap is the last event
abbrev pub trap : Trap → Rest
trap why here = told (traps (code_of why)) (λ end. []) here

-- goes on with what was found, or traps
abbrev pub unless_trap : {A : Type 0} → Result A Trap → (A → Rest) → Rest
unless_trap (Ok x) go here = go x here
unless_trap (Err why) go here = trap why here

-- a site's record is dropped, whether or not it is there
abbrev pub drop_one : (site : ℕ) → Rest → Rest
drop_one k go here = told (drops k) go (with_record k None here)

-- the records of these sites are dropped, one after another
abbrev pub drop_all : List ℕ → Rest → Rest
drop_all [] go = go
drop_all (k ∷ ks) go = drop_one k (drop_all ks go)

-- a site's record is sealed: it stands from here on
abbrev pub seal : (site : ℕ) → Record → Rest → Rest
seal k r go here = told (seals k) go (with_record k (Some r) here)

-- the next of the looks; 0 where they are used up
abbrev pub next_look : List ℕ → ℕ
next_look [] = 0
next_look (t ∷ ts) = t

-- a site looks at the clock
abbrev pub look : (site : ℕ) → (ℕ → Rest) → Rest
look k go here =
    let left = here.standing.account.looks in
    let t = next_look left in
    told (looks k t) (go t) (with_looks (drop 1 left) here)
