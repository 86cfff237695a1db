-- The writes of statements without sites, in order, as data.
use Rattle.std.specs.Prelude.{ℕ, zero, suc, ◌+◌, List, [], ◌∷◌, ◌++◌, Result, Ok, Err}
use Rattle.task_ast.specs.declared.core_form.CoreExpr.{CoreExpr}
use Rattle.task_ast.specs.declared.core_form.CoreTarget.{CoreTarget}
use Rattle.task_ast.specs.declared.core_form.CoreStmt.{CoreStmt, Row_of-CoreStmt, end_of-CoreStmt, more_of-CoreStmt}
use Rattle.task_ast.specs.declared.core_form.CoreStmt.TheVariants as stmt
use Rattle.walk_run.specs.declared.trap.Trap.{Trap}
use Rattle.walk_run.specs.declared.place.Place.{Place}
use Rattle.walk_run.specs.Store.{Store, place, put_word, put_pointer}
use Rattle.walk_run.specs.Value.{value_of, cell_place, target_place}
use Rattle.walk_run.specs.Plain.{Ran, done, trapped, chosen, set_variable, plain_done, row_done}

-- one write: a word to a place, or a place to a pointer
pub data Write : Type 0 where
  sets : Place → (word : ℕ) → Write
  points : (pointer : ℕ) → Place → Write

-- the store after a write
abbrev pub after_write : Write → Store → Store
after_write (sets at word) store = put_word at word store
after_write (points pointer at) store = put_pointer pointer at store

-- the store after writes, the first one first
abbrev pub after_writes : List Write → Store → Store
after_writes [] store = store
after_writes (w ∷ writes) store = after_writes writes (after_write w store)

-- the writes of what goes on with what was found; a trap writes nothing
abbrev pub found_writes : {A : Type 0} → Result A Trap → (A → List Write) → List Write
found_writes (Ok x) go = go x
found_writes (Err trap) go = []

-- the writes of what goes on from where statements end
abbrev pub next_writes : Ran → (Store → List Write) → List Write
next_writes (done store) go = go store
next_writes (trapped trap store) go = []

-- the writes of an assignment, and of a pointer assignment
abbrev pub assignment_writes : CoreTarget → CoreExpr → Store → List Write
assignment_writes target e store = found_writes (target_place target store) (λ at. found_writes (value_of e store) (λ word. sets at word ∷ []))

abbrev pub pointing_writes : (pointer array : ℕ) → CoreExpr → Store → List Write
pointing_writes pointer array index store = found_writes (cell_place store array (value_of index store)) (λ at. points pointer at ∷ [])

-- the writes of the branch that a condition chooses
abbrev pub branch_writes : CoreExpr → (yes_part no_part : Store → List Write) → Store → List Write
branch_writes c yes_part no_part store = found_writes (value_of c store) (λ word. chosen word yes_part no_part store)

-- the writes of the turns that are left
abbrev pub turns_writes : (body : Store → Ran) → (writes : Store → List Write) → (variable number left : ℕ) → Store → List Write
turns_writes body writes variable number zero store = sets (place variable 0) number ∷ []
turns_writes body writes variable number (suc left) store =
    let set = set_variable variable number store in
    sets (place variable 0) number ∷ (writes set ++ next_writes (body set) (turns_writes body writes variable (number + 1) left))

abbrev mutual
  -- the writes of a statement without sites, up to its end or its trap
  pub plain_writes : CoreStmt → Store → List Write
  plain_writes (stmt.Assign target e) store = assignment_writes target e store
  plain_writes (stmt.Point pointer array index) store = pointing_writes pointer array index store
  plain_writes (stmt.If' c m yes_row n no_row) store = branch_writes c (row_writes yes_row) (row_writes no_row) store
  plain_writes (stmt.Loop' variable turns m row) store = turns_writes (row_done row) (row_writes row) variable 0 turns store
  plain_writes (stmt.Io site target peripheral args) store = []
  plain_writes (stmt.Block' site m row) store = []
  plain_writes (stmt.Copy site to from words) store = []

  -- the writes of a row's statements
  pub row_writes : {n : _} → Row_of-CoreStmt n → Store → List Write
  row_writes end_of-CoreStmt store = []
  row_writes (more_of-CoreStmt s rest) store = plain_writes s store ++ next_writes (plain_done s store) (row_writes rest)

-- the writes of statements one after another
abbrev pub all_writes : List CoreStmt → Store → List Write
all_writes [] store = []
all_writes (s ∷ rest) store = plain_writes s store ++ next_writes (plain_done s store) (all_writes rest)
