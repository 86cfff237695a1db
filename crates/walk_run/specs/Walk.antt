-- The unbroken run: annotations are ignored, and each I/O call takes the next reading of one list.
use Rattle.std.specs.Prelude.{ℕ, zero, suc, ◌+◌, ◌-◌, List, [], ◌∷◌, Option, Some, None, Result, Ok, Err, slice_get}
use Rattle.task_ast.specs.declared.core_form.CoreExpr.{CoreExpr}
use Rattle.task_ast.specs.declared.core_form.CoreTarget.{CoreTarget}
use Rattle.task_ast.specs.declared.core_form.CoreEnd.{CoreEnd}
use Rattle.task_ast.specs.declared.core_form.CoreStmt.{CoreStmt, Row_of-CoreStmt, end_of-CoreStmt, more_of-CoreStmt}
use Rattle.task_ast.specs.declared.core_form.CoreStmt.TheVariants as stmt
use Rattle.task_ast.specs.declared.core_form.CoreExit.{CoreExit, end_of-CoreExit, more_of-CoreExit}
use Rattle.task_ast.specs.declared.core_form.CoreExit.TheVariants as exit
use Rattle.task_ast.specs.declared.core_form.CoreTask.{CoreTask}
use Rattle.task_ast.specs.declared.core_form.Core.{Core}
use Rattle.walk_run.specs.declared.trap.Trap.{Trap}
use Rattle.walk_run.specs.declared.place.Place.{Place}
use Rattle.walk_run.specs.declared.walked.EarlyEnd.{EarlyEnd}
use Rattle.walk_run.specs.declared.walked.EarlyEnd.TheVariants as early
use Rattle.walk_run.specs.declared.walked.WalkEnd.{WalkEnd}
use Rattle.walk_run.specs.declared.walked.WalkEnd.TheVariants.{Stopped, Limit, Trapped, NoReading}
use Rattle.walk_run.specs.declared.walked.State.{State}
use Rattle.walk_run.specs.declared.walked.Walked.{Walked}
use Rattle.walk_run.specs.Store.{Store, place, word_at, put_word, declared_store, fresh, shown_words}
use Rattle.walk_run.specs.Value.{value_of, target_place, end_place, with_room}
use Rattle.walk_run.specs.Plain.{Ran, done, trapped, chosen, assigned, pointed_at, turns_done, row_done}

-- what comes of a store and of the readings that are left
abbrev pub Onward : Type 0 → Type 0
Onward W = Store → (readings : List ℕ) → W

-- words are moved one by one, lowest place first
abbrev pub move_words : (words : ℕ) → (to from : Place) → Store → Store
move_words zero to from store = store
move_words (suc words) to from store =
    move_words words (place to.array (to.index + 1)) (place from.array (from.index + 1)) (put_word to (word_at store from) store)

-- The run of a part of a task and of what comes behind it. `halt` tells what comes of a run that ends within the task.
module _ {W : Type 0} (halt : EarlyEnd → Store → W) where
  -- goes on with what was found, or traps
  abbrev pub on_found : {A : Type 0} → Result A Trap → (A → Onward W) → Onward W
  on_found (Ok x) go store readings = go x store readings
  on_found (Err trap) go store readings = halt (early.Trapped trap) store

  -- from where statements without sites end
  abbrev pub from_ran : Ran → Onward W → (readings : List ℕ) → W
  from_ran (done store) go readings = go store readings
  from_ran (trapped trap store) go readings = halt (early.Trapped trap) store

  -- statements without sites
  abbrev pub plain_walk : (Store → Ran) → Onward W → Onward W
  plain_walk ran go store readings = from_ran (ran store) go readings

  -- a word is valued
  abbrev pub value_walk : CoreExpr → (ℕ → Onward W) → Onward W
  value_walk e go store readings = on_found (value_of e store) go store readings

  -- a condition is valued, and one of two ways taken
  abbrev pub branch_walk : CoreExpr → (yes_part no_part : Onward W) → Onward W
  branch_walk c yes_part no_part = value_walk c (λ word. chosen word yes_part no_part)

  -- arguments are valued from left to right; only their traps count
  abbrev pub each_valued : List CoreExpr → Onward W → Onward W
  each_valued [] go = go
  each_valued (e ∷ es) go = value_walk e (λ word. each_valued es go)

  -- the next reading is taken
  abbrev pub with_reading : (ℕ → Onward W) → Onward W
  with_reading go store [] = halt early.NoReading store
  with_reading go store (r ∷ readings) = go r store readings

  -- a call's target is found, then its arguments are valued, then a reading is taken and put to the place
  abbrev pub call_walk : Option CoreTarget → List CoreExpr → Onward W → Onward W
  call_walk None args go store readings = each_valued args (with_reading (λ r. go)) store readings
  call_walk (Some t) args go store readings =
      on_found (target_place t store) (λ at. each_valued args (with_reading (λ r after. go (put_word at r after)))) store readings

  -- a copy's end is found
  abbrev pub end_walk : CoreEnd → (Place → Onward W) → Onward W
  end_walk e go store readings = on_found (end_place e store) go store readings

  -- so many words from a place on are tested to be in its array
  abbrev pub room_walk : Place → (words : ℕ) → Onward W → Onward W
  room_walk at words go store readings = on_found (with_room store at words) (λ _. go) store readings

  -- a copy's ends are found and its length is valued, both ranges are tested, and the words are moved
  abbrev pub copy_walk : (to from : CoreEnd) → CoreExpr → Onward W → Onward W
  copy_walk to from words go =
      end_walk to (λ t. end_walk from (λ f. value_walk words (λ n. room_walk t n (room_walk f n (λ store. go (move_words n t f store))))))

  abbrev mutual
    -- a statement
    pub statement_walk : CoreStmt → Onward W → Onward W
    statement_walk (stmt.Assign target e) go = plain_walk (assigned target e) go
    statement_walk (stmt.Point pointer array index) go = plain_walk (pointed_at pointer array index) go
    statement_walk (stmt.If' c m yes_row n no_row) go = branch_walk c (row_walk yes_row go) (row_walk no_row go)
    statement_walk (stmt.Loop' variable turns m row) go = plain_walk (turns_done (row_done row) variable 0 turns) go
    statement_walk (stmt.Io site target peripheral args) go = call_walk target args go
    statement_walk (stmt.Block' site m row) go = row_walk row go
    statement_walk (stmt.Copy site to from words) go = copy_walk to from words go

    -- the statements of a row, one after another
    pub row_walk : {n : _} → Row_of-CoreStmt n → Onward W → Onward W
    row_walk end_of-CoreStmt go = go
    row_walk (more_of-CoreStmt s rest) go = statement_walk s (row_walk rest go)

  -- statements, one after another
  abbrev pub body_walk : List CoreStmt → Onward W → Onward W
  body_walk [] go = go
  body_walk (s ∷ rest) go = statement_walk s (body_walk rest go)

  -- an exit, which leads to a task or to 0 for STOP
  abbrev pub exit_walk : CoreExit → (ℕ → Onward W) → Onward W
  exit_walk (exit.Next t) go = go t
  exit_walk exit.Stop go = go 0
  exit_walk (exit.Choose' c u (more_of-CoreExit a end_of-CoreExit) v (more_of-CoreExit b end_of-CoreExit)) go = branch_walk c (exit_walk a go) (exit_walk b go)

  -- a task begins with volatile arrays as declared and pointers at nothing, and ends by its exit
  abbrev pub task_walk : Core → CoreTask → (ℕ → Onward W) → Onward W
  task_walk c t go store readings = body_walk t.body (exit_walk t.exit go) (fresh c store) readings

-- a run that ends here
abbrev pub ends : WalkEnd → Walked
ends end = record { states = []; end = end }

-- how a run ends that ends within a task
abbrev pub end_of : EarlyEnd → WalkEnd
end_of (early.Trapped trap) = Trapped trap
end_of early.NoReading = NoReading

-- such a run; its last task leaves no state
abbrev pub ends_early : EarlyEnd → Store → Walked
ends_early why store = ends (end_of why)

-- the state after a task: the next task, and the words that a state shows
abbrev pub state_of : Core → (next : ℕ) → Store → State
state_of c next store = record { next = next; words = shown_words c.arrays store.words }

-- a run with one more state at its front
abbrev pub with_state : State → Walked → Walked
with_state state w = record { states = state ∷ w.states; end = w.end }

-- the rest of a run, or its end after STOP
abbrev pub unless_stopped : (next : ℕ) → Walked → Walked
unless_stopped zero w = ends Stopped
unless_stopped (suc t) w = w

-- a task's end: its state, and then the next task
abbrev pub task_end : Core → (ℕ → Onward Walked) → (next : ℕ) → Onward Walked
task_end c go next store readings = with_state (state_of c next store) (unless_stopped next (go next store readings))

-- the next task, where there is one; no exit of a checked program leads to no task
abbrev pub task_if_there : Core → Option CoreTask → (ℕ → Onward Walked) → Onward Walked
task_if_there c None go store readings = ends Limit
task_if_there c (Some t) go store readings = task_walk ends_early c t (task_end c go) store readings

-- the run of at most so many tasks, from the one of this number, from 1, on
unfoldable pub walk_from : Core → (tasks number : ℕ) → Onward Walked
walk_from c zero number store readings = ends Limit
walk_from c (suc tasks) number store readings = task_if_there c (slice_get c.tasks (number - 1)) (walk_from c tasks) store readings

-- The unbroken run of at most so many tasks from the declared words, task 1 first.
unfoldable pub walk_of : Core → (readings : List ℕ) → (tasks : ℕ) → Walked
walk_of c readings tasks = walk_from c tasks 1 (declared_store c) readings
