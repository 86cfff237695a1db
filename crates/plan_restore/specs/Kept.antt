-- What holds of the committed store behind each small step of a plan's run, over power failures (docs/PLAN.md, "What a
-- boot finds").
use Rattle.std.specs.Prelude.{◌≡◌, ⊤, ℕ, List, [], ◌∷◌, length, Option, Some, None}
use Rattle.task_ast.specs.declared.core_form.Core.{Core}
use Rattle.walk_run.specs.declared.place.Place.{Place}
use Rattle.walk_run.specs.Store.{Store, word_at, shown_words, fresh}
use Rattle.walk_run.specs.Laws.{AreAlike}
use Rattle.devices.specs.Journal.{JournalEvent, commits}
use Rattle.devices.specs.declared.world.World.{World}
use Rattle.word_isa.specs.declared.parts.Scheme.{Scheme}
use Rattle.word_isa.specs.declared.parts.Scheme.TheVariants.{Bank}
use Rattle.task_attempts.specs.Boots.{rules_of}
use Rattle.run_plan.specs.declared.act.Act.{Act}
use Rattle.run_plan.specs.declared.act.Act.TheVariants as act
use Rattle.run_plan.specs.Cells.{State, CellWrite, puts_aside}
use Rattle.run_plan.specs.Small.{Atom}
use Rattle.run_plan.specs.PlanOf.{plan_of}
use Rattle.run_plan.specs.Runs.{Small, Smalls, Planned, after, cut_run, committed_words}
use Rattle.plan_restore.specs.Found.{IsHome, found}

-- the run of a program's plan in a world
abbrev pub planned : Core → World → Scheme → Planned
planned c world scheme = record { rules = rules_of c world; plan = plan_of c scheme }

-- the committed store behind an event: a commit's is the store that the acts have left, and all else leaves it as it was
abbrev pub committed_by : Option JournalEvent → (left committed : Store) → Store
committed_by (Some (commits next)) left committed = left
committed_by event left committed = committed

-- a small step is an act's end
abbrev pub IsEnd : Option CellWrite → Option JournalEvent → Type 0
IsEnd None None = ⊤
IsEnd None (Some e) = ⊥
IsEnd (Some w) event = ⊥

-- it is the end of a beginning
abbrev pub EndsBegin : Act → Atom → Type 0
EndsBegin (act.Begin t) x = IsEnd x.write x.event
EndsBegin a x = ⊥

-- it shows a commit
abbrev pub IsCommit : Option JournalEvent → Type 0
IsCommit (Some (commits next)) = ⊤
IsCommit event = ⊥

-- it writes a word aside
abbrev pub IsAside : Option CellWrite → Type 0
IsAside (Some (puts_aside at w)) = ⊤
IsAside write = ⊥

-- What holds behind a small step: a boot finds the committed words; where an attempt has begun its store is the one with
-- which a task begins from the committed store; where one was committed the run shows its words; and under `bank` no word of
-- the committed bank was written.
pub record IsKept (p : Planned) (committed : Store) (x : Small) : Type 0 where
  pub finds : (at : Place) → IsHome p.rules.core at → found p x.after at ≡ word_at committed at
  pub begun : EndsBegin x.act x.atom → x.after.store ≡ fresh p.rules.core committed
  pub commit : IsCommit x.atom.event → committed_words p.plan.scheme p.rules.core x.after ≡ shown_words p.rules.core.arrays committed.words
  pub bank : p.plan.scheme ≡ Bank → IsAside x.atom.write → ⊥

-- what holds behind each small step from a store on, with the store that is committed there
abbrev pub AreKept : Planned → (committed left : Store) → Smalls → Type 0
AreKept p committed left [] = ⊤
AreKept p committed left (x ∷ xs) =
    let now = committed_by x.atom.event left committed in
    IsKept p now x × AreKept p now x.after.store xs

-- the committed store behind small steps
abbrev pub committed_after : (committed left : Store) → Smalls → Store
committed_after committed left [] = committed
committed_after committed left (x ∷ xs) = committed_after (committed_by x.atom.event left committed) x.after.store xs

-- What a failure may leave: the words of FRAM, homes, constants and those aside, the cells and the state word as they were,
-- and anything in volatile arrays, in pointers and in what lives between acts.
pub record IsLeft (c : Core) (before left : State) : Type 0 where
  pub alike : AreAlike c left.store before.store
  pub arrays : length left.store.words ≡ length before.store.words
  pub aside : left.aside ≡ before.aside
  pub cells : left.cells ≡ before.cells
  pub epoch : left.epoch ≡ before.epoch
  pub task : left.task ≡ before.task
  pub bank : left.bank ≡ before.bank

-- so it is in each of some boots, one of so many small steps behind another, whatever each failure leaves
abbrev pub BootsKeep : Planned → (numbers : List ℕ) → (committed : Store) → State → Type 0
BootsKeep p [] committed s = ⊤
BootsKeep p (n ∷ numbers) committed s =
    let run = cut_run p n s in
    AreKept p committed s.store run
    × ((left : State) → IsLeft p.rules.core (after s run) left → BootsKeep p numbers (committed_after committed s.store run) left)
