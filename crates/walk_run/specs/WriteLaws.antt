-- The writes of statements without sites give the store that they leave, at their end and at a trap.
use Rattle.std.specs.Prelude.{◌≡◌, ℕ, zero, suc, ◌+◌, List, [], ◌∷◌, ◌++◌, Result, Ok, Err}
use Rattle.std.proofs.Common.{refl, ap, ◌∙◌}
use Rattle.task_ast.specs.declared.core_form.CoreExpr.{CoreExpr}
use Rattle.task_ast.specs.declared.core_form.CoreStmt.{CoreStmt, Row_of-CoreStmt, end_of-CoreStmt, more_of-CoreStmt}
use Rattle.task_ast.specs.declared.core_form.CoreStmt.TheVariants as stmt
use Rattle.walk_run.specs.declared.trap.Trap.{Trap}
use Rattle.walk_run.specs.Store.{Store, put_pointer}
use Rattle.walk_run.specs.Value.{value_of, cell_place, target_place}
use Rattle.walk_run.specs.Plain.{Ran, done, trapped, store_left, if_found, and_then, chosen, branched, set_variable, turns_done, plain_done, row_done, all_done}
use Rattle.walk_run.specs.PlainWrites.{Write, points, after_write, after_writes, found_writes, next_writes, branch_writes, turns_writes, plain_writes, row_writes, all_writes}

-- writes one after another
pub after_both : (a b : List Write) (store : Store) → after_writes (a ++ b) store ≡ after_writes b (after_writes a store)
after_both [] b store = refl
after_both (w ∷ a) b store = after_both a b (after_write w store)

-- writes give what statements leave
abbrev Gives : List Write → Store → Ran → Type 0
Gives writes store r = after_writes writes store ≡ store_left r

found_gives : {A : Type 0} (r : Result A Trap) (store : Store) (writes : A → List Write) (go : A → Ran) → ((x : A) → Gives (writes x) store (go x)) → Gives (found_writes r writes) store (if_found r store go)
found_gives (Ok x) store writes go gives = gives x
found_gives (Err trap) store writes go gives = refl

chosen_gives : (word : ℕ) (store : Store) (a b : Store → List Write) (f g : Store → Ran) → Gives (a store) store (f store) → Gives (b store) store (g store) → Gives (chosen word a b store) store (chosen word f g store)
chosen_gives zero store a b f g yes_gives no_gives = no_gives
chosen_gives (suc n) store a b f g yes_gives no_gives = yes_gives

branch_gives : (c : CoreExpr) (store : Store) (a b : Store → List Write) (f g : Store → Ran) → Gives (a store) store (f store) → Gives (b store) store (g store) → Gives (branch_writes c a b store) store (branched c f g store)
branch_gives c store a b f g yes_gives no_gives = found_gives (value_of c store) store _ _ (λ word. chosen_gives word store a b f g yes_gives no_gives)

next_gives : (r : Ran) (writes : Store → List Write) (go : Store → Ran) → ((s : Store) → Gives (writes s) s (go s)) → Gives (next_writes r writes) (store_left r) (and_then r go)
next_gives (done store) writes go gives = gives store
next_gives (trapped trap store) writes go gives = refl

-- a part and then what goes on from its end
then_gives : (front : List Write) (store : Store) (r : Ran) (writes : Store → List Write) (go : Store → Ran) → Gives front store r → ((s : Store) → Gives (writes s) s (go s)) → Gives (front ++ next_writes r writes) store (and_then r go)
then_gives front store r writes go first rest =
    after_both front (next_writes r writes) store ∙ ap (after_writes (next_writes r writes)) first ∙ next_gives r writes go rest

turns_give : (body : Store → Ran) (writes : Store → List Write) → ((s : Store) → Gives (writes s) s (body s)) → (variable number left : ℕ) (store : Store) → Gives (turns_writes body writes variable number left store) store (turns_done body variable number left store)
turns_give body writes gives variable number zero store = refl
turns_give body writes gives variable number (suc left) store =
    let set = set_variable variable number store in
    then_gives (writes set) set (body set) _ (turns_done body variable (number + 1) left) (gives set) (turns_give body writes gives variable (number + 1) left)

mutual
  -- the writes of a statement without sites, one after another, give the store where it ends or traps
  pub plain_gives : (s : CoreStmt) (store : Store) → after_writes (plain_writes s store) store ≡ store_left (plain_done s store)
  plain_gives (stmt.Assign target e) store = found_gives (target_place target store) store _ _ (λ at. found_gives (value_of e store) store _ _ (λ word. refl))
  plain_gives (stmt.Point pointer array index) store = found_gives (cell_place store array (value_of index store)) store (λ at. points pointer at ∷ []) (λ at. done (put_pointer pointer at store)) (λ at. refl)
  plain_gives (stmt.If' c m yes_row n no_row) store =
      branch_gives c store (row_writes yes_row) (row_writes no_row) (row_done yes_row) (row_done no_row) (row_gives yes_row store) (row_gives no_row store)
  plain_gives (stmt.Loop' variable turns m row) store = turns_give (row_done row) (row_writes row) (row_gives row) variable 0 turns store
  plain_gives (stmt.Io site target peripheral args) store = refl
  plain_gives (stmt.Block' site m row) store = refl
  plain_gives (stmt.Copy site to from words) store = refl

  row_gives : {n : _} (row : Row_of-CoreStmt n) (store : Store) → after_writes (row_writes row store) store ≡ store_left (row_done row store)
  row_gives end_of-CoreStmt store = refl
  row_gives (more_of-CoreStmt s rest) store = then_gives (plain_writes s store) store (plain_done s store) (row_writes rest) (row_done rest) (plain_gives s store) (row_gives rest)

-- and those of statements one after another
pub all_give : (body : List CoreStmt) (store : Store) → after_writes (all_writes body store) store ≡ store_left (all_done body store)
all_give [] store = refl
all_give (s ∷ rest) store = then_gives (plain_writes s store) store (plain_done s store) (all_writes rest) (all_done rest) (plain_gives s store) (all_give rest)
