-- What the records of an instance say: each was made in a run of the task, and nothing that flows into its site has
-- another reading since.
use Rattle.std.specs.Prelude.{◌≡◌, ℕ, ◌+◌, ◌≤◌, true, false, ⊤, List, [], ◌∷◌, ◌++◌, length, IfSome, Option, Some, None}
use Rattle.std.specs.List.{AllByRecursion, range_with_len}
use Rattle.task_ast.specs.declared.core_form.CoreStmt.{CoreStmt, Row_of-CoreStmt, end_of-CoreStmt, more_of-CoreStmt}
use Rattle.task_ast.specs.declared.core_form.CoreStmt.TheVariants as stmt
use Rattle.task_ast.specs.declared.core_form.CoreTask.{CoreTask}
use Rattle.task_ast.specs.declared.core_form.Core.{Core}
use Rattle.walk_run.specs.declared.place.Place.{Place}
use Rattle.walk_run.specs.Store.{Store, words_of, fresh}
use Rattle.walk_run.specs.Walk.{move_words}
use Rattle.io_depend.specs.Sets.{has}
use Rattle.io_depend.specs.Depend.{flow, dependents}
use Rattle.task_attempts.specs.State.{Valued, arguments, range, Record, of_reading, of_block, of_copy, Standing, Logged, Log}
use Rattle.task_attempts.specs.Copies.{words_at}
use Rattle.task_attempts.specs.Boots.{task_of}
use Rattle.io_flow.specs.Replay.{met, all_until, all_sites_in}
use Rattle.io_flow.specs.Laws.{PointsNowhere}

-- ---- how the sites of a task are numbered

-- no number is twice in a list
abbrev pub IsOnce : List ℕ → Type 0
IsOnce [] = ⊤
IsOnce (k ∷ ks) = (has ks k ≡ false) × IsOnce ks

abbrev mutual
  -- the I/O sites and copies of a statement, without its blocks
  pub acts_in : CoreStmt → List ℕ
  acts_in (stmt.Assign target e) = []
  acts_in (stmt.Point pointer array index) = []
  acts_in (stmt.If' c m yes_row n no_row) = row_acts_in yes_row ++ row_acts_in no_row
  acts_in (stmt.Loop' variable turns m row) = []
  acts_in (stmt.Io k target peripheral args) = k ∷ []
  acts_in (stmt.Block' k m row) = row_acts_in row
  acts_in (stmt.Copy k to from words) = k ∷ []

  -- those of a row's statements
  pub row_acts_in : {n : _} → Row_of-CoreStmt n → List ℕ
  row_acts_in end_of-CoreStmt = []
  row_acts_in (more_of-CoreStmt s rest) = acts_in s ++ row_acts_in rest

-- those of statements, one after another
abbrev pub all_acts_in : List CoreStmt → List ℕ
all_acts_in [] = []
all_acts_in (s ∷ rest) = acts_in s ++ all_acts_in rest

-- the sites are numbered 1, 2, 3 .. in the order of the text, a block before its members
abbrev pub IsInOrder : CoreTask → Type 0
IsInOrder t = all_sites_in t.body ≡ range_with_len 1 (length t.sites)

-- Each site is once in a task's text, and an I/O site or a copy that is found from an I/O site is one of its dependents:
-- it comes later.
pub record IsNumbered (t : CoreTask) : Type 0 where
  pub once : IsOnce (all_sites_in t.body)
  pub later : (a k : ℕ) → has (all_acts_in t.body) k ≡ true → has (flow t a).sites k ≡ true → has (dependents t a) k ≡ true

-- every task of a program is numbered
abbrev pub AreNumbered : Core → Type 0
AreNumbered c = (number : ℕ) (t : CoreTask) → task_of c number ≡ Some t → IsNumbered t

-- ---- what a record says

-- A run with some readings from the store with which an attempt begins meets the site at this; and at each I/O site from
-- which the site is found that reading is the last one that was issued.
pub record Made (t : CoreTask) (base : Store) (last : ℕ → ℕ) (k : ℕ) (made_with : Valued) : Type 0 where
  pub reading : ℕ → ℕ
  pub meets : all_until k reading t.body base ≡ met made_with
  pub same : (a : ℕ) → has (flow t a).sites k ≡ true → reading a ≡ last a

-- so many places from this one on are in its array
abbrev pub Fits : Store → Place → ℕ → Type 0
Fits store at n = at.index + n ≤ length (words_of store at.array)

-- A copy's record: the run meets the copy with the source words of some store, and the recorded words are those that
-- its move leaves.
pub record MadeCopy (t : CoreTask) (base : Store) (last : ℕ → ℕ) (k : ℕ) (to from : Place) (words : List ℕ) : Type 0 where
  pub store : Store
  pub many : ℕ
  pub to_fits : Fits store to many
  pub from_fits : Fits store from many
  pub made : Made t base last k (range to from (words_at store from many))
  pub moved : words_at (move_words many to from store) to many ≡ words

-- A record stands: the value of an I/O site's is the last one issued there, and it was made as said; a block's says
-- nothing.
abbrev pub Stands : CoreTask → (base : Store) → (last : ℕ → ℕ) → (k : ℕ) → Option Record → Type 0
Stands t base last k None = ⊤
Stands t base last k (Some (of_reading value stamp args)) = (value ≡ last k) × Made t base last k (arguments args)
Stands t base last k (Some (of_block stamp)) = ⊤
Stands t base last k (Some (of_copy class to from words)) = MadeCopy t base last k to from words

-- The records of an instance: some reading was the last one issued at each I/O site, and all records stand with that.
pub record AllStand (t : CoreTask) (base : Store) (records : ℕ → Option Record) : Type 0 where
  pub last : ℕ → ℕ
  pub unset : PointsNowhere base
  pub stand : (k : ℕ) → Stands t base last k (records k)

-- those of the task that is next, from the store with which its attempts begin
pub record Hold (c : Core) (base : Store) (next : ℕ) (records : ℕ → Option Record) : Type 0 where
  pub of_task : (t : CoreTask) → task_of c next ≡ Some t → AllStand t base records

-- those of a standing
abbrev pub Holds : Core → Standing → Type 0
Holds c s = Hold c (fresh c s.committed) s.next s.account.records

-- What holds of an event with what is logged: a followed record agrees; and the records hold, so also where the power
-- fails behind it.
abbrev pub HoldsAt : Core → Logged → Type 0
HoldsAt c l = IfSome l.followed (λ f. f.valued ≡ f.made_with) × Holds c l.after

-- along a log
abbrev pub AllHold : Core → Log → Type 0
AllHold c log = AllByRecursion (HoldsAt c) log
