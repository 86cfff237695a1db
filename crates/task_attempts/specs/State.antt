-- What the rules of attempts keep: records, what outlives a power failure, the standing between two events, and a place
-- inside an attempt (docs/ATTEMPTS.md, "What is remembered").
use Rattle.std.specs.Prelude.{ℕ, List, Option, None}
use Rattle.task_ast.specs.declared.core_form.CoreTask.{CoreTask}
use Rattle.task_ast.specs.declared.core_form.Core.{Core}
use Rattle.io_annot.specs.declared.choice.Mode.{Mode}
use Rattle.region_split.specs.declared.class.DmaClass.{DmaClass}
use Rattle.walk_run.specs.declared.place.Place.{Place}
use Rattle.walk_run.specs.Store.{Store, declared_store}
use Rattle.devices.specs.declared.world.World.{World}
use Rattle.devices.specs.Journal.{JournalEvent}
use Rattle.word_isa.specs.declared.parts.Scheme.{Scheme}

-- what a run goes by
pub record Rules : Type 0 where
  pub core : Core
  pub world : World

-- what an attempt goes by
pub record Setting : Type 0 where
  pub rules : Rules
  pub task : CoreTask

-- how many machine steps something may take: by the scheme, since that saves and restores
abbrev pub Steps : Type 0
Steps = Scheme → ℕ

-- what a site was valued at: the arguments of a call, or a copy's ends and the words that it leaves at its destination
pub data Valued : Type 0 where
  arguments : List ℕ → Valued
  range : (to from : Place) → (words : List ℕ) → Valued

-- The record of a site. A reading's has its value, the time of its look, and the arguments that it was issued with; a
-- block's has the time of its look; a copy's has its class, its two ends and its kept words.
pub data Record : Type 0 where
  of_reading : (value stamp : ℕ) → (args : List ℕ) → Record
  of_block : (stamp : ℕ) → Record
  of_copy : DmaClass → (to from : Place) → (words : List ℕ) → Record

-- What outlives a power failure beside the committed store: the records by site, the looks that are left, how often each
-- peripheral was issued, and the greatest region whose copy gave an event in this instance.
pub record Account : Type 0 where
  pub records : ℕ → Option Record
  pub looks : List ℕ
  pub issued : ℕ → ℕ
  pub furthest : ℕ

-- between two events: the store as the last commit left it, the next task, and the account
pub record Standing : Type 0 where
  pub committed : Store
  pub next : ℕ
  pub account : Account

-- inside an attempt; `steps` are those of the boot and of all its parts that have begun
pub record Here : Type 0 where
  pub standing : Standing
  pub store : Store
  pub mode : Mode
  pub steps : Steps

-- a record that was followed: what it was made with, and what its site is valued at now
pub record Followed : Type 0 where
  pub made_with : Valued
  pub valued : Valued

-- an event, the standing after it, the steps by which it must have come, and the record that it follows, if any
pub record Logged : Type 0 where
  pub event : JournalEvent
  pub after : Standing
  pub steps : Steps
  pub followed : Option Followed

-- a log: events with what the rules say of each
abbrev pub Log : Type 0
Log = List Logged

-- the log from a place inside an attempt on
abbrev pub Rest : Type 0
Rest = Here → Log

-- no records, and no region reached: an instance begins
abbrev pub new_instance : Account → Account
new_instance a = record a { records = λ k. None; furthest = 0 }

-- before the first boot: the declared words, task 1, no record and no issue
abbrev pub start : Core → (looks : List ℕ) → Standing
start c looks = record {
  committed = declared_store c;
  next = 1;
  account = record { records = λ k. None; looks = looks; issued = λ p. 0; furthest = 0 };
}
