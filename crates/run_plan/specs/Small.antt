-- Small steps of acts: each writes one cell, or shows an event, or both; and an act's end, which does neither.
use Rattle.std.specs.Prelude.{ℕ, ◌+◌, ◌==◌, Bool, List, [], ◌∷◌, map, drop, Option, Some, None, Result, Ok, Err}
use Rattle.task_ast.specs.declared.core_form.Core.{Core}
use Rattle.walk_run.specs.declared.trap.Trap.{Trap}
use Rattle.walk_run.specs.Store.{Store}
use Rattle.devices.specs.Journal.{JournalEvent, begins, looks, keeps, drops, issues, seals, copies, commits, traps}
use Rattle.word_isa.specs.declared.parts.Scheme.{Scheme}
use Rattle.task_attempts.specs.State.{Setting}
use Rattle.task_attempts.specs.Changes.{put}
use Rattle.run_plan.specs.Cells.{Frame, State, CellWrite, joined, after_write}

-- what the acts of an attempt go by
pub record Doing : Type 0 where
  pub setting : Setting
  pub scheme : Scheme
  pub firsts : List (List ℕ)

-- a small step: what it writes, and what it shows
pub record Atom : Type 0 where
  pub write : Option CellWrite
  pub event : Option JournalEvent

-- the list of acts that goes on: what comes behind the act, or one of its own lists before that
pub data Way : Type 0 where
  ahead : Way
  first_way : Way
  second_way : Way
  third_way : Way

-- An act does small steps, then its end changes what is volatile; or it traps behind its small steps; or it misses
-- something that no act before it has made.
pub data Done : Type 0 where
  does : List Atom → (State → State) → Way → Done
  fails : List Atom → Trap → Done
  stuck : Done

-- a write without an event, an event without a write, and both
abbrev pub silent : CellWrite → Atom
silent w = record { write = Some w; event = None }

abbrev pub showing : JournalEvent → Atom
showing e = record { write = None; event = Some e }

abbrev pub writing : CellWrite → JournalEvent → Atom
writing w e = record { write = Some w; event = Some e }

-- an act's end
abbrev pub ending : Atom
ending = record { write = None; event = None }

-- ---- what a small step leaves

-- a look is used up, an issue counted
abbrev pub after_event : JournalEvent → State → State
after_event (begins t) s = s
after_event (looks k t) s = record s { looks = drop 1 s.looks }
after_event (keeps k value) s = s
after_event (drops k) s = s
after_event (issues k p args reading) s = record s { issued = put p (s.issued p + 1) s.issued }
after_event (seals k) s = s
after_event (copies k from to n) s = s
after_event (commits next) s = s
after_event (traps code) s = s

-- the state after what a small step shows, if it does, and after what it writes, if it does
abbrev pub after_shown : Option JournalEvent → State → State
after_shown None s = s
after_shown (Some e) s = after_event e s

abbrev pub after_written : Core → Option CellWrite → State → State
after_written c None s = s
after_written c (Some w) s = after_write c.arrays w s

-- the state after a small step
abbrev pub after_atom : Core → Atom → State → State
after_atom c a s = after_written c a.write (after_shown a.event s)

-- ---- small words for what acts do

-- goes on with what is there, or misses it
abbrev pub have : {A : Type 0} → Option A → (A → Done) → Done
have None go = stuck
have (Some x) go = go x

-- goes on with what was valued, or traps
abbrev pub unless_fails : {A : Type 0} → Result A Trap → (A → Done) → Done
unless_fails (Ok x) go = go x
unless_fails (Err why) go = fails [] why

-- nothing changes at an act's end
abbrev pub same : State → State
same s = s

-- no small step but the act's end, which changes what lives between acts
abbrev pub sets_frame : Frame → Done
sets_frame f = does [] (λ s. record s { frame = f }) ahead

-- one small step, and behind it the same
abbrev pub one : Atom → Done
one a = does (a ∷ []) same ahead

-- writes, none of which shows an event
abbrev pub silently : List CellWrite → Done
silently writes = does (map silent writes) same ahead

-- writes, the last of which shows an event; without writes the event alone
abbrev pub shown_last : List CellWrite → JournalEvent → List Atom
shown_last [] e = showing e ∷ []
shown_last (w ∷ []) e = writing w e ∷ []
shown_last (w ∷ v ∷ writes) e = silent w ∷ shown_last (v ∷ writes) e

-- the volatile words and the pointers are those of another store
abbrev pub with_volatile : Core → Store → State → State
with_volatile c store s = record s { store = record { words = joined c.arrays s.store.words store.words; pointers = store.pointers } }

-- whether a lock holds, and whether a flag does
abbrev pub lock_holds : State → (region : ℕ) → Bool
lock_holds s r = s.cells.lock r == s.epoch

abbrev pub flag_holds : State → (site : ℕ) → Bool
flag_holds s k = s.cells.flag k == s.epoch

-- the program
abbrev pub core_of : Doing → Core
core_of d = d.setting.rules.core
