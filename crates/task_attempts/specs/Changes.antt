-- A place inside an attempt with something new.
use Rattle.std.specs.Prelude.{ℕ, ◌+◌, ◌==◌, cond, max, List, Option}
use Rattle.io_annot.specs.declared.choice.Mode.{Mode}
use Rattle.walk_run.specs.Store.{Store}
use Rattle.task_attempts.specs.State.{Steps, Record, Account, Here}

-- a function with another value at one number
abbrev pub put : {A : Type 0} → ℕ → A → (ℕ → A) → ℕ → A
put k x f = λ j. cond (k == j) x (f j)

-- another store
abbrev pub with_store : Store → Here → Here
with_store store here = record here { store = store }

-- another mode
abbrev pub with_mode : Mode → Here → Here
with_mode mode here = record here { mode = mode }

-- other steps
abbrev pub with_steps : Steps → Here → Here
with_steps steps here = record here { steps = steps }

-- a part begins that may take so many steps, by the scheme
abbrev pub spent_by : Steps → Here → Here
spent_by n here = with_steps (λ scheme. here.steps scheme + n scheme) here

-- a part begins that may take so many steps under either scheme
abbrev pub spent : ℕ → Here → Here
spent n here = spent_by (λ scheme. n) here

-- another account
abbrev pub with_account : Account → Here → Here
with_account a here = record here { standing = record here.standing { account = a } }

-- the record of a site, or none
abbrev pub with_record : (site : ℕ) → Option Record → Here → Here
with_record k r here = let a = here.standing.account in with_account (record a { records = put k r a.records }) here

-- other looks that are left
abbrev pub with_looks : List ℕ → Here → Here
with_looks looks here = let a = here.standing.account in with_account (record a { looks = looks }) here

-- one more issue of a peripheral, by its number
abbrev pub with_issue : (peripheral : ℕ) → Here → Here
with_issue p here = let a = here.standing.account in with_account (record a { issued = put p (a.issued p + 1) a.issued }) here

-- the copy that begins a region gives an event
abbrev pub with_region : (region : ℕ) → Here → Here
with_region r here = let a = here.standing.account in with_account (record a { furthest = max a.furthest r }) here
