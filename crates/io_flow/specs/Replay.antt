-- The run of a task in which each I/O site has a given reading: what attempts do, without annotations, events and records.
use Rattle.std.specs.Prelude.{ℕ, Bool, ◌==◌, if◌then◌else◌, List, [], ◌∷◌, ◌++◌, Option, Some, None, Result, Ok, Err}
use Rattle.ease_base.specs.Found.{with_found}
use Rattle.task_ast.specs.declared.core_form.CoreExpr.{CoreExpr}
use Rattle.task_ast.specs.declared.core_form.CoreTarget.{CoreTarget}
use Rattle.task_ast.specs.declared.core_form.CoreStmt.{CoreStmt, Row_of-CoreStmt, end_of-CoreStmt, more_of-CoreStmt}
use Rattle.task_ast.specs.declared.core_form.CoreStmt.TheVariants as stmt
use Rattle.walk_run.specs.declared.trap.Trap.{Trap}
use Rattle.walk_run.specs.declared.place.Place.{Place}
use Rattle.walk_run.specs.Store.{Store, put_word}
use Rattle.walk_run.specs.Value.{value_of, target_place, end_place, with_room}
use Rattle.walk_run.specs.Plain.{Ran, done, trapped, if_found, and_then, chosen, plain_done}
use Rattle.walk_run.specs.Copies.{copied}
use Rattle.walk_run.specs.Walk.{move_words}
use Rattle.task_attempts.specs.State.{Valued, arguments, range}
use Rattle.task_attempts.specs.Copies.{words_at}

-- the words of arguments, or the first trap
abbrev pub args_found : List CoreExpr → Store → Result (List ℕ) Trap
args_found [] store = Ok []
args_found (e ∷ es) store = with_found (value_of e store) (λ word. with_found (args_found es store) (λ words. Ok (word ∷ words)))

-- a target's place, where there is a target
abbrev pub place_found : Option CoreTarget → Store → Result (Option Place) Trap
place_found None store = Ok None
place_found (Some t) store = with_found (target_place t store) (λ at. Ok (Some at))

-- a word is put to a place, where there is one
abbrev pub put_if : Option Place → (word : ℕ) → Store → Store
put_if None word store = store
put_if (Some at) word store = put_word at word store

-- an I/O site takes its reading
abbrev pub io_replay : (reading : ℕ) → Option CoreTarget → List CoreExpr → Store → Ran
io_replay reading target args store =
    if_found (place_found target store) store (λ at. if_found (args_found args store) store (λ words. done (put_if at reading store)))

abbrev mutual
  -- where a statement ends or traps
  pub replay : (reading : ℕ → ℕ) → CoreStmt → Store → Ran
  replay reading (stmt.Assign target e) store = plain_done (stmt.Assign target e) store
  replay reading (stmt.Point pointer array index) store = plain_done (stmt.Point pointer array index) store
  replay reading (stmt.If' c m yes_row n no_row) store = if_found (value_of c store) store (λ word. chosen word (row_replay reading yes_row) (row_replay reading no_row) store)
  replay reading (stmt.Loop' variable turns m row) store = plain_done (stmt.Loop' variable turns m row) store
  replay reading (stmt.Io k target peripheral args) store = io_replay (reading k) target args store
  replay reading (stmt.Block' k m row) store = row_replay reading row store
  replay reading (stmt.Copy k to from words) store = copied to from words store

  -- where a row's statements do, one after another
  pub row_replay : (reading : ℕ → ℕ) → {n : _} → Row_of-CoreStmt n → Store → Ran
  row_replay reading end_of-CoreStmt store = done store
  row_replay reading (more_of-CoreStmt s rest) store = and_then (replay reading s store) (row_replay reading rest)

-- and where statements do
abbrev pub all_replay : (reading : ℕ → ℕ) → List CoreStmt → Store → Ran
all_replay reading [] store = done store
all_replay reading (s ∷ rest) store = and_then (replay reading s store) (all_replay reading rest)

-- ---- up to a site

-- a run that looks for a site: it is over without it, meets it with what it was valued at, or traps before it
pub data Upto : Type 0 where
  over : Store → Upto
  met : Valued → Upto
  stopped : Trap → Upto

-- a run that doesn't meet the site
abbrev pub unmet : Ran → Upto
unmet (done store) = over store
unmet (trapped trap store) = stopped trap

-- goes on with what was found, or traps
abbrev pub upto_found : {A : Type 0} → Result A Trap → (A → Upto) → Upto
upto_found (Ok x) go = go x
upto_found (Err trap) go = stopped trap

-- goes on where the site wasn't met
abbrev pub upto_then : Upto → (Store → Upto) → Upto
upto_then (over store) go = go store
upto_then (met v) go = met v
upto_then (stopped trap) go = stopped trap

-- the site is this one, or not
abbrev pub meets : Bool → Valued → Store → Upto
meets b v store = if b then met v else over store

abbrev mutual
  -- the run of a statement up to a site; a copy is met with its ends and the words of its source
  pub until : (k : ℕ) → (reading : ℕ → ℕ) → CoreStmt → Store → Upto
  until k reading (stmt.Assign target e) store = unmet (plain_done (stmt.Assign target e) store)
  until k reading (stmt.Point pointer array index) store = unmet (plain_done (stmt.Point pointer array index) store)
  until k reading (stmt.If' c m yes_row n no_row) store = upto_found (value_of c store) (λ word. chosen word (row_until k reading yes_row) (row_until k reading no_row) store)
  until k reading (stmt.Loop' variable turns m row) store = unmet (plain_done (stmt.Loop' variable turns m row) store)
  until k reading (stmt.Io j target peripheral args) store =
      upto_found (place_found target store) (λ at. upto_found (args_found args store) (λ words. meets (j == k) (arguments words) (put_if at (reading j) store)))
  until k reading (stmt.Block' j m row) store = row_until k reading row store
  until k reading (stmt.Copy j to from words) store =
      upto_found (end_place to store) (λ t. upto_found (end_place from store) (λ f. upto_found (value_of words store) (λ n.
      upto_found (with_room store t n) (λ _. upto_found (with_room store f n) (λ _. meets (j == k) (range t f (words_at store f n)) (move_words n t f store))))))

  -- that of a row's statements, one after another
  pub row_until : (k : ℕ) → (reading : ℕ → ℕ) → {n : _} → Row_of-CoreStmt n → Store → Upto
  row_until k reading end_of-CoreStmt store = over store
  row_until k reading (more_of-CoreStmt s rest) store = upto_then (until k reading s store) (row_until k reading rest)

-- and that of statements
abbrev pub all_until : (k : ℕ) → (reading : ℕ → ℕ) → List CoreStmt → Store → Upto
all_until k reading [] store = over store
all_until k reading (s ∷ rest) store = upto_then (until k reading s store) (all_until k reading rest)

abbrev mutual
  -- the sites that a statement may meet, in text order; a loop has none
  pub sites_in : CoreStmt → List ℕ
  sites_in (stmt.Assign target e) = []
  sites_in (stmt.Point pointer array index) = []
  sites_in (stmt.If' c m yes_row n no_row) = row_sites_in yes_row ++ row_sites_in no_row
  sites_in (stmt.Loop' variable turns m row) = []
  sites_in (stmt.Io k target peripheral args) = k ∷ []
  sites_in (stmt.Block' k m row) = k ∷ row_sites_in row
  sites_in (stmt.Copy k to from words) = k ∷ []

  -- those of a row's statements
  pub row_sites_in : {n : _} → Row_of-CoreStmt n → List ℕ
  row_sites_in end_of-CoreStmt = []
  row_sites_in (more_of-CoreStmt s rest) = sites_in s ++ row_sites_in rest

-- and those of statements
abbrev pub all_sites_in : List CoreStmt → List ℕ
all_sites_in [] = []
all_sites_in (s ∷ rest) = sites_in s ++ all_sites_in rest
