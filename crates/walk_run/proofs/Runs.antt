-- The outcome of a call, of an `if`, a block and a body, and of a task, by how their parts end.
use Rattle.std.proofs.Common.{◌≡◌, ◌≢◌, ◌∙◌, ℕ, ◌+◌, ◌<◌, List, ◌∷◌, length, get_or, drop, Option, Some, None, Result, Ok, refl, sym, ap}
use Rattle.std.proofs.lemmas.List.{at_drop_more}
use Rattle.task_ast.specs.declared.core_form.CoreExpr.{CoreExpr}
use Rattle.task_ast.specs.declared.core_form.CoreTarget.{CoreTarget}
use Rattle.task_ast.specs.declared.core_form.CoreStmt.{CoreStmt}
use Rattle.task_ast.specs.declared.core_form.CoreStmt.TheVariants as stmt
use Rattle.task_ast.specs.declared.core_form.CoreTask.{CoreTask}
use Rattle.task_ast.specs.declared.core_form.Core.{Core}
use Rattle.walk_run.specs.declared.trap.Trap.{Trap}
use Rattle.walk_run.specs.declared.place.Place.{Place}
use Rattle.walk_run.specs.declared.walked.EarlyEnd.{EarlyEnd}
use Rattle.walk_run.specs.Store.{Store, put_word, fresh}
use Rattle.walk_run.specs.Value.{value_of, target_place}
use Rattle.walk_run.specs.Plain.{chosen}
use Rattle.walk_run.specs.Exits.{next_of, exit_runs}
use Rattle.walk_run.specs.Walk.{Onward, on_found, each_valued, with_reading, call_walk, exit_walk}
use Rattle.walk_run.specs.WalkRows.{walk_if, walk_block}
use Rattle.walk_run.specs.WalkLaws.{values_continue, reading_continues, after_statement, after_body}
use Rattle.walk_run.specs.Outcome.{Outcome, ended, halted, outcome_of, from_outcome, statement_outcome, body_outcome, task_outcome}
use Rattle.walk_run.proofs.Steps.{chosen_first}

-- the outcome of what has ended
abbrev pub unit_ended : Onward (Outcome (Unit {0}))
unit_ended = ended tt

-- what a call does with its reading: nothing, or it is put to a place
abbrev pub dropped : ℕ → Onward (Outcome (Unit {0}))
dropped word = unit_ended

abbrev pub put_at : Place → ℕ → Onward (Outcome (Unit {0}))
put_at at word store = unit_ended (put_word at word store)

-- a call without a target, by how its reading was taken
pub call_drops : (target : Option CoreTarget) (args : List CoreExpr) (store : Store) (readings left : List ℕ) (r s : Result ℕ EarlyEnd)
    → target ≡ None → outcome_of r store left ≡ each_valued halted args (with_reading halted ended) store readings → r ≡ s
    → from_outcome halted (outcome_of s store left) dropped ≡ call_walk halted target args (ended tt) store readings
call_drops target args store readings left r s none ends was =
    ap (λ x. from_outcome halted (outcome_of x store left) dropped) (sym was)
    ∙ ap (λ x. from_outcome halted x dropped) ends
    ∙ sym (values_continue halted dropped args _ _ (reading_continues halted dropped _ _ (λ word after more. refl)) store readings)
    ∙ ap (λ t. call_walk halted t args (ended tt) store readings) (sym none)

-- and one with a target
pub call_puts : (target : Option CoreTarget) (t : CoreTarget) (at : Place) (args : List CoreExpr) (store : Store) (readings left : List ℕ) (r s : Result ℕ EarlyEnd)
    → target ≡ Some t → target_place t store ≡ Ok at → outcome_of r store left ≡ each_valued halted args (with_reading halted ended) store readings → r ≡ s
    → from_outcome halted (outcome_of s store left) (put_at at) ≡ call_walk halted target args (ended tt) store readings
call_puts target t at args store readings left r s some found ends was =
    ap (λ x. from_outcome halted (outcome_of x store left) (put_at at)) (sym was)
    ∙ ap (λ x. from_outcome halted x (put_at at)) ends
    ∙ sym (values_continue halted (put_at at) args _ _
    (reading_continues halted (put_at at) _ _ (λ word after more. refl)) store readings)
    ∙ ap (λ p. on_found halted p (λ p. each_valued halted args (with_reading halted (put_at p))) store readings) (sym found)
    ∙ ap (λ t. call_walk halted t args (ended tt) store readings) (sym some)

if_at : (s : CoreStmt) (store : Store) (readings : List ℕ) (c : CoreExpr) (yes_part no_part : List CoreStmt) (r : Result ℕ Trap) → s ≡ stmt.If c yes_part no_part → value_of c store ≡ r
    → statement_outcome s store readings ≡ on_found halted r (λ word. chosen word (body_outcome yes_part) (body_outcome no_part)) store readings
if_at s store readings c yes_part no_part r is v =
    ap (λ x. statement_outcome x store readings) is
    ∙ ap (λ f. f store readings) (walk_if halted c yes_part no_part (ended tt))
    ∙ ap (λ x. on_found halted x (λ word. chosen word (body_outcome yes_part) (body_outcome no_part)) store readings) v

-- where the word of the condition isn't 0, the first body runs
pub run_holds : (s : CoreStmt) (store : Store) (readings : List ℕ) (c : CoreExpr) (yes_part no_part got : List CoreStmt) (word : ℕ) (o : Outcome (Unit {0}))
    → s ≡ stmt.If c yes_part no_part → value_of c store ≡ Ok word → word ≢ 0 → got ≡ yes_part → o ≡ body_outcome got store readings → o ≡ statement_outcome s store readings
run_holds s store readings c yes_part no_part got word o is v some same ran =
    ran ∙ ap (λ b. body_outcome b store readings) same ∙ sym (if_at s store readings c yes_part no_part (Ok word) is v ∙ ap (λ f. f store readings) (chosen_first word some (body_outcome yes_part) (body_outcome no_part)))

-- and where it is 0, the second
pub run_fails : (s : CoreStmt) (store : Store) (readings : List ℕ) (c : CoreExpr) (yes_part no_part got : List CoreStmt) (word : ℕ) (o : Outcome (Unit {0}))
    → s ≡ stmt.If c yes_part no_part → value_of c store ≡ Ok word → word ≡ 0 → got ≡ no_part → o ≡ body_outcome got store readings → o ≡ statement_outcome s store readings
run_fails s store readings c yes_part no_part got word o is v none same ran =
    ran ∙ ap (λ b. body_outcome b store readings) same ∙ sym (if_at s store readings c yes_part no_part (Ok word) is v ∙ ap (λ w. chosen w (body_outcome yes_part) (body_outcome no_part) store readings) none)

-- a block
pub run_block : (s : CoreStmt) (store : Store) (readings : List ℕ) (site : ℕ) (body got : List CoreStmt) (o : Outcome (Unit {0}))
    → s ≡ stmt.Block site body → got ≡ body → o ≡ body_outcome got store readings → o ≡ statement_outcome s store readings
run_block s store readings site body got o is same ran =
    ran ∙ ap (λ b. body_outcome b store readings) same ∙ sym (ap (λ x. statement_outcome x store readings) is ∙ ap (λ f. f store readings) (walk_block halted site body (ended tt)))

-- the first statement of a body, by how it ended
pub first_ran : (s : CoreStmt) (rest : List CoreStmt) (store after : Store) (readings left : List ℕ) (r q : Result (Unit {0}) EarlyEnd)
    → outcome_of r after left ≡ statement_outcome s store readings → r ≡ q
    → body_outcome (s ∷ rest) store readings ≡ from_outcome halted (outcome_of q after left) (λ _. body_outcome rest)
first_ran s rest store after readings left r q ran was =
    after_statement halted s (body_outcome rest) store readings
    ∙ ap (λ o. from_outcome halted o (λ _. body_outcome rest)) (sym ran)
    ∙ ap (λ x. from_outcome halted (outcome_of x after left) (λ _. body_outcome rest)) was

-- a statement within a body, by how it ended
pub body_step : (body : List CoreStmt) (i : ℕ) (d s : CoreStmt) (store after : Store) (readings left : List ℕ) (r q : Result (Unit {0}) EarlyEnd)
    → i < length body → s ≡ get_or body i d → outcome_of r after left ≡ statement_outcome s store readings → r ≡ q
    → body_outcome (drop i body) store readings ≡ from_outcome halted (outcome_of q after left) (λ _. body_outcome (drop (i + 1) body))
body_step body i d s store after readings left r q there is ran was =
    at_drop_more (λ b. body_outcome b store readings) body i d there
    ∙ ap (λ x. body_outcome (x ∷ drop (i + 1) body) store readings) (sym is)
    ∙ first_ran s (drop (i + 1) body) store after readings left r q ran was

-- a task, by how its body ended
pub task_ran : (c : Core) (t : CoreTask) (store begun after : Store) (readings left : List ℕ) (r q : Result (Unit {0}) EarlyEnd)
    → begun ≡ fresh c store → outcome_of r after left ≡ body_outcome t.body begun readings → r ≡ q
    → task_outcome c t store readings ≡ from_outcome halted (outcome_of q after left) (λ _. exit_walk halted t.exit ended)
task_ran c t store begun after readings left r q is ran was =
    after_body halted t.body (exit_walk halted t.exit ended) (fresh c store) readings
    ∙ ap (λ s. from_outcome halted (body_outcome t.body s readings) (λ _. exit_walk halted t.exit ended)) (sym is)
    ∙ ap (λ o. from_outcome halted o (λ _. exit_walk halted t.exit ended)) (sym ran)
    ∙ ap (λ x. from_outcome halted (outcome_of x after left) (λ _. exit_walk halted t.exit ended)) was

-- and by how its exit ended
pub task_left : (c : Core) (t : CoreTask) (store begun after : Store) (readings left : List ℕ) (r : Result (Unit {0}) EarlyEnd) (unit : Unit {0}) (e q : Result ℕ Trap)
    → begun ≡ fresh c store → outcome_of r after left ≡ body_outcome t.body begun readings → r ≡ Ok unit → e ≡ next_of t.exit after → e ≡ q
    → task_outcome c t store readings ≡ on_found halted q ended after left
task_left c t store begun after readings left r unit e q is ran was leads ends =
    task_ran c t store begun after readings left r (Ok unit) is ran was
    ∙ exit_runs halted t.exit ended after left
    ∙ ap (λ x. on_found halted x ended after left) (sym leads ∙ ends)
