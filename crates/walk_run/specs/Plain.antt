-- What statements without sites do to a store.
use Rattle.std.specs.Prelude.{ℕ, zero, suc, ◌+◌, List, [], ◌∷◌, Result, Ok, Err}
use Rattle.task_ast.specs.declared.core_form.CoreExpr.{CoreExpr}
use Rattle.task_ast.specs.declared.core_form.CoreTarget.{CoreTarget}
use Rattle.task_ast.specs.declared.core_form.CoreStmt.{CoreStmt, Row_of-CoreStmt, end_of-CoreStmt, more_of-CoreStmt}
use Rattle.task_ast.specs.declared.core_form.CoreStmt.TheVariants as stmt
use Rattle.walk_run.specs.declared.trap.Trap.{Trap}
use Rattle.walk_run.specs.Store.{Store, place, put_word, put_pointer}
use Rattle.walk_run.specs.Value.{value_of, cell_place, target_place}

-- the store where statements end, or where they trap
pub data Ran : Type 0 where
  done : Store → Ran
  trapped : Trap → Store → Ran

-- the store that is left in either case
abbrev pub store_left : Ran → Store
store_left (done store) = store
store_left (trapped trap store) = store

-- goes on with what was found, or traps and leaves the store
abbrev pub if_found : {A : Type 0} → Result A Trap → Store → (A → Ran) → Ran
if_found (Ok x) store go = go x
if_found (Err trap) store go = trapped trap store

-- goes on from where statements end
abbrev pub and_then : Ran → (Store → Ran) → Ran
and_then (done store) go = go store
and_then (trapped trap store) go = trapped trap store

-- where a condition's word is not 0 the first, else the second
abbrev pub chosen : {A : Type 0} → (word : ℕ) → A → A → A
chosen zero yes_part no_part = no_part
chosen (suc n) yes_part no_part = yes_part

-- an assignment finds the target's place, then values the word, then writes it
abbrev pub assigned : CoreTarget → CoreExpr → Store → Ran
assigned target e store =
    if_found (target_place target store) store (λ at. if_found (value_of e store) store (λ word. done (put_word at word store)))

-- a pointer points to a place that is found as a target's is
abbrev pub pointed_at : (pointer array : ℕ) → CoreExpr → Store → Ran
pointed_at pointer array index store = if_found (cell_place store array (value_of index store)) store (λ at. done (put_pointer pointer at store))

-- a condition is valued, and one of two ways taken
abbrev pub branched : CoreExpr → (yes_part no_part : Store → Ran) → Store → Ran
branched c yes_part no_part store = if_found (value_of c store) store (λ word. chosen word yes_part no_part store)

-- a loop's variable is set to a number
abbrev pub set_variable : (variable number : ℕ) → Store → Store
set_variable variable number store = put_word (place variable 0) number store

-- The turns of a loop that are left, from the one of this number on: before each the variable is set to its number, and
-- behind the last to the number of all turns.
abbrev pub turns_done : (body : Store → Ran) → (variable number left : ℕ) → Store → Ran
turns_done body variable number zero store = done (set_variable variable number store)
turns_done body variable number (suc left) store = and_then (body (set_variable variable number store)) (turns_done body variable (number + 1) left)

abbrev mutual
  -- Where a statement without sites ends or traps. A call, a block and a copy are none of this recursion's, and do
  -- nothing here.
  pub plain_done : CoreStmt → Store → Ran
  plain_done (stmt.Assign target e) store = assigned target e store
  plain_done (stmt.Point pointer array index) store = pointed_at pointer array index store
  plain_done (stmt.If' c m yes_row n no_row) store = branched c (row_done yes_row) (row_done no_row) store
  plain_done (stmt.Loop' variable turns m row) store = turns_done (row_done row) variable 0 turns store
  plain_done (stmt.Io site target peripheral args) store = done store
  plain_done (stmt.Block' site m row) store = done store
  plain_done (stmt.Copy site to from words) store = done store

  -- the statements of a row, one after another
  pub row_done : {n : _} → Row_of-CoreStmt n → Store → Ran
  row_done end_of-CoreStmt store = done store
  row_done (more_of-CoreStmt s rest) store = and_then (plain_done s store) (row_done rest)

-- statements one after another
abbrev pub all_done : List CoreStmt → Store → Ran
all_done [] store = done store
all_done (s ∷ rest) store = and_then (plain_done s store) (all_done rest)
