-- A choice of exits, by its condition.
use Rattle.std.proofs.Common.{◌≡◌, ◌≢◌, ◌∙◌, ℕ, Result, Ok, Err, sym, ap}
use Rattle.ease_base.specs.Found.{with_found}
use Rattle.task_ast.specs.declared.core_form.CoreExpr.{CoreExpr}
use Rattle.task_ast.specs.declared.core_form.CoreExit.{CoreExit}
use Rattle.task_ast.specs.declared.core_form.CoreExit.TheVariants as exit
use Rattle.walk_run.specs.declared.trap.Trap.{Trap}
use Rattle.walk_run.specs.Store.{Store}
use Rattle.walk_run.specs.Value.{value_of}
use Rattle.walk_run.specs.Plain.{chosen}
use Rattle.walk_run.specs.Exits.{next_of, next_at_choose}
use Rattle.walk_run.proofs.Steps.{chosen_first}

choose_at : (e : CoreExit) (store : Store) (c : CoreExpr) (a b : CoreExit) (r : Result ℕ Trap) → e ≡ exit.Choose c a b → value_of c store ≡ r
    → next_of e store ≡ with_found r (λ word. chosen word (next_of a store) (next_of b store))
choose_at e store c a b r is v = next_at_choose e store c a b is ∙ ap (λ x. with_found x (λ word. chosen word (next_of a store) (next_of b store))) v

-- a condition that traps
pub choose_traps : (e : CoreExit) (store : Store) (c : CoreExpr) (a b : CoreExit) (trap : Trap) → e ≡ exit.Choose c a b → value_of c store ≡ Err trap → next_of e store ≡ Err trap
choose_traps e store c a b trap is v = choose_at e store c a b (Err trap) is v

-- where the word of the condition isn't 0, the first exit, and else the second
pub choose_holds : (e : CoreExit) (store : Store) (c : CoreExpr) (a b got : CoreExit) (word : ℕ) (r : Result ℕ Trap) → e ≡ exit.Choose c a b → value_of c store ≡ Ok word → word ≢ 0
    → got ≡ a → r ≡ next_of got store → r ≡ next_of e store
choose_holds e store c a b got word r is v some same gave =
    gave ∙ ap (λ x. next_of x store) same ∙ sym (choose_at e store c a b (Ok word) is v ∙ chosen_first word some (next_of a store) (next_of b store))

pub choose_fails : (e : CoreExit) (store : Store) (c : CoreExpr) (a b got : CoreExit) (word : ℕ) (r : Result ℕ Trap) → e ≡ exit.Choose c a b → value_of c store ≡ Ok word → word ≡ 0
    → got ≡ b → r ≡ next_of got store → r ≡ next_of e store
choose_fails e store c a b got word r is v none same gave =
    gave ∙ ap (λ x. next_of x store) same
    ∙ sym (choose_at e store c a b (Ok word) is v ∙ ap (λ w. chosen w (next_of a store) (next_of b store)) none)
