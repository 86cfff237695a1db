-- A statement without sites runs as it does by itself.
use Rattle.std.specs.Prelude.{◌≡◌, ◌≢◌, ℕ, zero, suc, List, [], ◌∷◌, ◌++◌, Result, Ok, Err, length}
use Rattle.std.proofs.Common.{refl, ap, suc-ne-zero, ◌∙◌}
use Rattle.task_ast.specs.declared.core_form.CoreStmt.{CoreStmt, Row_of-CoreStmt, end_of-CoreStmt, more_of-CoreStmt}
use Rattle.task_ast.specs.declared.core_form.CoreStmt.TheVariants as stmt
use Rattle.task_ast.specs.CoreSites.{site_numbers, row_numbers}
use Rattle.walk_run.specs.declared.trap.Trap.{Trap}
use Rattle.walk_run.specs.declared.walked.EarlyEnd.{EarlyEnd}
use Rattle.walk_run.specs.Store.{Store}
use Rattle.walk_run.specs.Value.{value_of}
use Rattle.walk_run.specs.Plain.{Ran, done, trapped, if_found, and_then, chosen, plain_done, row_done}
use Rattle.walk_run.specs.Walk.{Onward, on_found, from_ran, statement_walk, row_walk}

-- a list that has a first one isn't empty; where a joined list is empty, both parts are
pub some_is_none : {A : Type 0} (x : A) (xs : List A) → x ∷ xs ≢ []
some_is_none x xs e = suc-ne-zero (length xs) (ap length e)

pub none_in_front : {A : Type 0} (xs ys : List A) → xs ++ ys ≡ [] → xs ≡ []
none_in_front [] ys none = refl
none_in_front (x ∷ xs) ys none = absurd (some_is_none x (xs ++ ys) none)

pub none_behind : {A : Type 0} (xs ys : List A) → xs ++ ys ≡ [] → ys ≡ []
none_behind [] ys none = none
none_behind (x ∷ xs) ys none = absurd (some_is_none x (xs ++ ys) none)

module _ {W : Type 0} (halt : EarlyEnd → Store → W) where
  -- what statements do by themselves, and then what comes behind them
  then_runs : (r : Ran) (go : Onward W) (more : Store → Ran) (rest : Onward W) → ((s : Store) (readings : List ℕ) → rest s readings ≡ from_ran halt (more s) go readings)
      → (readings : List ℕ) → from_ran halt r rest readings ≡ from_ran halt (and_then r more) go readings
  then_runs (done store) go more rest runs readings = runs store readings
  then_runs (trapped trap store) go more rest runs readings = refl

  chosen_runs : (word : ℕ) (a b go : Onward W) (f g : Store → Ran) (store : Store) (readings : List ℕ)
      → a store readings ≡ from_ran halt (f store) go readings → b store readings ≡ from_ran halt (g store) go readings
      → chosen word a b store readings ≡ from_ran halt (chosen word f g store) go readings
  chosen_runs zero a b go f g store readings yes_runs no_runs = no_runs
  chosen_runs (suc n) a b go f g store readings yes_runs no_runs = yes_runs

  branch_runs : (r : Result ℕ Trap) (a b go : Onward W) (f g : Store → Ran) (store : Store) (readings : List ℕ)
      → a store readings ≡ from_ran halt (f store) go readings → b store readings ≡ from_ran halt (g store) go readings
      → on_found halt r (λ word. chosen word a b) store readings ≡ from_ran halt (if_found r store (λ word. chosen word f g store)) go readings
  branch_runs (Ok word) a b go f g store readings yes_runs no_runs = chosen_runs word a b go f g store readings yes_runs no_runs
  branch_runs (Err trap) a b go f g store readings yes_runs no_runs = refl

  mutual
    pub plain_runs : (s : CoreStmt) → site_numbers s ≡ [] → (go : Onward W) (store : Store) (readings : List ℕ) → statement_walk halt s go store readings ≡ from_ran halt (plain_done s store) go readings
    plain_runs (stmt.Assign target e) plain go store readings = refl
    plain_runs (stmt.Point pointer array index) plain go store readings = refl
    plain_runs (stmt.If' c m yes_row n no_row) plain go store readings =
        branch_runs (value_of c store) (row_walk halt yes_row go) (row_walk halt no_row go) go (row_done yes_row) (row_done no_row) store readings
        (plain_row_runs yes_row (none_in_front (row_numbers yes_row) (row_numbers no_row) plain) go store readings)
        (plain_row_runs no_row (none_behind (row_numbers yes_row) (row_numbers no_row) plain) go store readings)
    plain_runs (stmt.Loop' variable turns m row) plain go store readings = refl
    plain_runs (stmt.Io k target peripheral args) plain go store readings = absurd (some_is_none k [] plain)
    plain_runs (stmt.Block' k m row) plain go store readings = absurd (some_is_none k (row_numbers row) plain)
    plain_runs (stmt.Copy k to from words) plain go store readings = absurd (some_is_none k [] plain)

    plain_row_runs : {n : _} (row : Row_of-CoreStmt n) → row_numbers row ≡ [] → (go : Onward W) (store : Store) (readings : List ℕ) → row_walk halt row go store readings ≡ from_ran halt (row_done row store) go readings
    plain_row_runs end_of-CoreStmt plain go store readings = refl
    plain_row_runs (more_of-CoreStmt s rest) plain go store readings =
        plain_runs s (none_in_front (site_numbers s) (row_numbers rest) plain) (row_walk halt rest go) store readings
        ∙ then_runs (plain_done s store) go (row_done rest) (row_walk halt rest go) (plain_row_runs rest (none_behind (site_numbers s) (row_numbers rest) plain) go) readings
