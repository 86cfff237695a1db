-- Statements without sites show no event but a trap, in every world. task_attempts has this as a law for a world that is given;
-- its proof stands here again until that crate lends it.
use Rattle.std.proofs.Common.{◌≡◌, ℕ, zero, suc, ◌+◌, List, [], ◌∷◌, ◌++◌, Result, Ok, Err, refl, sym, ap, subst, ◌∙◌, add_assoc, add-zero}
use Rattle.task_ast.specs.declared.core_form.CoreStmt.{CoreStmt, Row_of-CoreStmt, end_of-CoreStmt, more_of-CoreStmt}
use Rattle.task_ast.specs.declared.core_form.CoreStmt.TheVariants as stmt
use Rattle.task_ast.specs.CoreSites.{site_numbers, row_numbers}
use Rattle.walk_run.specs.declared.trap.Trap.{Trap}
use Rattle.walk_run.specs.Store.{Store}
use Rattle.walk_run.specs.Value.{value_of}
use Rattle.walk_run.specs.Plain.{Ran, done, trapped, if_found, and_then, chosen, plain_done, row_done}
use Rattle.walk_run.specs.PlainSteps.{condition_steps, found_steps, next_steps, plain_steps, row_steps}
use Rattle.task_attempts.specs.State.{Setting, Here, Rest}
use Rattle.task_attempts.specs.Changes.{with_store, spent}
use Rattle.task_attempts.specs.Told.{trap, unless_trap}
use Rattle.task_attempts.specs.Values.{from_ran, plain_log}
use Rattle.task_attempts.specs.Attempts.{statement_log, row_log}

-- steps spent twice, and none spent
spent_twice : (n m : ℕ) (here : Here) → spent m (spent n here) ≡ spent (n + m) here
spent_twice n m here = λ i. record here { steps = λ scheme. add_assoc (here.steps scheme) n m i }

spent_none : (here : Here) → spent 0 here ≡ here
spent_none here = λ i. record here { steps = λ scheme. add-zero (here.steps scheme) i }

-- where an end tells the store, the one before doesn't matter
from_ran_anew : (r : Ran) (go : Rest) (store : Store) (here : Here) → from_ran r go (with_store store here) ≡ from_ran r go here
from_ran_anew (done after) go store here = refl
from_ran_anew (trapped why after) go store here = refl

-- the log of a row without sites
abbrev plain_row : {n : _} → Row_of-CoreStmt n → Rest → Rest
plain_row row go here = from_ran (row_done row here.store) go (spent (row_steps row here.store) here)

abbrev IsLogOf : (Rest → Rest) → (Rest → Rest) → Type 0
IsLogOf f g = (go : Rest) (here : Here) → f go here ≡ g go here

-- what goes on from an end, after steps that were spent before
after_end : (r : Ran) (k : ℕ) (f : Rest → Rest) {n : _} (row : Row_of-CoreStmt n) → IsLogOf f (plain_row row) → (go : Rest) (here : Here)
    → from_ran r (f go) (spent k here) ≡ from_ran (and_then r (row_done row)) go (spent (k + next_steps r (row_steps row)) here)
after_end (done store) k f row is go here =
    is go (with_store store (spent k here))
    ∙ from_ran_anew (row_done row store) go store (spent (row_steps row store) (spent k here))
    ∙ ap (from_ran (row_done row store) go) (spent_twice k (row_steps row store) here)
after_end (trapped why store) k f row is go here = ap (λ k. from_ran (trapped why store) go (spent k here)) (sym (add-zero k))

-- the branch that was chosen
after_choice : (word k : ℕ) (f g : Rest → Rest) {n m : _} (a : Row_of-CoreStmt n) (b : Row_of-CoreStmt m) → IsLogOf f (plain_row a) → IsLogOf g (plain_row b) → (go : Rest) (here : Here)
    → chosen word (f go) (g go) (spent k here) ≡ from_ran (chosen word (row_done a) (row_done b) here.store) go (spent (k + chosen word (row_steps a) (row_steps b) here.store) here)
after_choice zero k f g a b is_f is_g go here = is_g go (spent k here) ∙ ap (from_ran (row_done b here.store) go) (spent_twice k (row_steps b here.store) here)
after_choice (suc word) k f g a b is_f is_g go here = is_f go (spent k here) ∙ ap (from_ran (row_done a here.store) go) (spent_twice k (row_steps a here.store) here)

after_condition : (r : Result ℕ Trap) (k : ℕ) (f g : Rest → Rest) {n m : _} (a : Row_of-CoreStmt n) (b : Row_of-CoreStmt m) → IsLogOf f (plain_row a) → IsLogOf g (plain_row b) → (go : Rest) (here : Here)
    → unless_trap r (λ word. chosen word (f go) (g go)) (spent k here)
    ≡ from_ran (if_found r here.store (λ word. chosen word (row_done a) (row_done b) here.store)) go (spent (k + found_steps r (λ word. chosen word (row_steps a) (row_steps b) here.store)) here)
after_condition (Ok word) k f g a b is_f is_g go here = after_choice word k f g a b is_f is_g go here
after_condition (Err why) k f g a b is_f is_g go here = ap (λ k. trap why (spent k here)) (sym (add-zero k))

-- ---- no sites

-- a list with an item isn't empty
not_none : (k : ℕ) (ks : List ℕ) → k ∷ ks ≡ [] → ⊥
not_none k ks none = subst {A = List ℕ} (λ xs. elim xs as (λ l. Type 0) [ [] ↦ ⊥ | _ ∷ _ ↦ Unit {0} ]) none tt

-- where two lists together are empty, each is
none_in_front : (xs ys : List ℕ) → xs ++ ys ≡ [] → xs ≡ []
none_in_front [] ys none = refl
none_in_front (x ∷ xs) ys none = absurd (not_none x (xs ++ ys) none)

none_behind : (xs ys : List ℕ) → xs ++ ys ≡ [] → ys ≡ []
none_behind [] ys none = none
none_behind (x ∷ xs) ys none = absurd (not_none x (xs ++ ys) none)

mutual
  -- the log of a statement without sites
  pub plain_statement : (setting : Setting) (s : CoreStmt) → site_numbers s ≡ [] → (go : Rest) (here : Here) → statement_log setting s go here ≡ plain_log s go here
  plain_statement setting (stmt.Assign onto e) none go here = refl
  plain_statement setting (stmt.Point pointer array index) none go here = refl
  plain_statement setting (stmt.If' c m yes_row n no_row) none go here =
      after_condition (value_of c here.store) (condition_steps c) (row_log setting yes_row) (row_log setting no_row) yes_row no_row
      (plain_statements setting yes_row (none_in_front (row_numbers yes_row) (row_numbers no_row) none))
      (plain_statements setting no_row (none_behind (row_numbers yes_row) (row_numbers no_row) none)) go here
  plain_statement setting (stmt.Loop' variable turns m row) none go here = refl
  plain_statement setting (stmt.Io k onto p args) none go here = absurd (not_none k [] none)
  plain_statement setting (stmt.Block' k m row) none go here = absurd (not_none k (row_numbers row) none)
  plain_statement setting (stmt.Copy k to from words) none go here = absurd (not_none k [] none)

  -- and of a row's statements without sites, one after another
  plain_statements : (setting : Setting) {n : _} (row : Row_of-CoreStmt n) → row_numbers row ≡ [] → (go : Rest) (here : Here) → row_log setting row go here ≡ plain_row row go here
  plain_statements setting end_of-CoreStmt none go here = ap go (sym (spent_none here))
  plain_statements setting (more_of-CoreStmt s rest) none go here =
      plain_statement setting s (none_in_front (site_numbers s) (row_numbers rest) none) (row_log setting rest go) here
      ∙ after_end (plain_done s here.store) (plain_steps s here.store) (row_log setting rest) rest
      (plain_statements setting rest (none_behind (site_numbers s) (row_numbers rest) none)) go here
