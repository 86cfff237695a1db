-- A copy by itself, over the store alone.
use Rattle.std.specs.Prelude.{◌≡◌, ℕ, List, Result, Ok, Err}
use Rattle.std.proofs.Common.{refl}
use Rattle.task_ast.specs.declared.core_form.CoreExpr.{CoreExpr}
use Rattle.task_ast.specs.declared.core_form.CoreEnd.{CoreEnd}
use Rattle.walk_run.specs.declared.trap.Trap.{Trap}
use Rattle.walk_run.specs.declared.place.Place.{Place}
use Rattle.walk_run.specs.declared.walked.EarlyEnd.{EarlyEnd}
use Rattle.walk_run.specs.Store.{Store}
use Rattle.walk_run.specs.Value.{value_of, end_place, with_room}
use Rattle.walk_run.specs.Plain.{Ran, done, if_found}
use Rattle.walk_run.specs.Walk.{Onward, move_words, on_found, from_ran, copy_walk}

-- words are moved where both ranges are in their arrays, the destination tested first
abbrev pub moved : (words : ℕ) → (to from : Place) → Store → Ran
moved words to from store = if_found (with_room store to words) store (λ _. if_found (with_room store from words) store (λ _. done (move_words words to from store)))

-- a copy's destination and source are found, then its length is valued, then its words are moved
abbrev pub copied : (to from : CoreEnd) → (words : CoreExpr) → Store → Ran
copied to from words store =
    if_found (end_place to store) store (λ t. if_found (end_place from store) store (λ f. if_found (value_of words store) store (λ n. moved n t f store)))

module _ {W : Type 0} (halt : EarlyEnd → Store → W) where
  -- what goes on with what was found in a store goes on from there
  found_ran : {A : Type 0} (r : Result A Trap) (go : A → Onward W) (store : Store) (ran : A → Ran) (rest : Onward W) (readings : List ℕ)
      → ((x : A) → go x store readings ≡ from_ran halt (ran x) rest readings) → on_found halt r go store readings ≡ from_ran halt (if_found r store ran) rest readings
  found_ran (Ok x) go store ran rest readings h = h x
  found_ran (Err trap) go store ran rest readings h = refl

  -- a copy runs as it does by itself
  pub copy_runs : (to from : CoreEnd) (words : CoreExpr) (go : Onward W) (store : Store) (readings : List ℕ) → copy_walk halt to from words go store readings ≡ from_ran halt (copied to from words store) go readings
  copy_runs to from words go store readings =
      found_ran (end_place to store) _ store _ go readings (λ t. found_ran (end_place from store) _ store _ go readings (λ f. found_ran (value_of words store) _ store _ go readings (λ n.
      found_ran (with_room store t n) _ store _ go readings (λ _. found_ran (with_room store f n) _ store _ go readings (λ _. refl)))))
