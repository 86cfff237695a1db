-- Stores of a program stay such over each statement and each task, and a task leads to a task that is there.
use Rattle.std.proofs.Common.{◌≡◌, ◌∙◌, ℕ, ◌+◌, ◌≤◌, List, [], ◌∷◌, length, Option, Some, None, Result, Ok, Err, refl, ap, subst, sym, arith}
use Rattle.std.specs.List.{AllByRecursion}
use Rattle.task_ast.specs.declared.core_form.CoreTarget.{CoreTarget}
use Rattle.task_ast.specs.declared.core_form.CoreTarget.TheVariants as target
use Rattle.task_ast.specs.declared.core_form.CoreEnd.{CoreEnd}
use Rattle.task_ast.specs.declared.core_form.CoreEnd.TheVariants as end
use Rattle.task_ast.specs.declared.core_form.CoreStmt.{CoreStmt, Row_of-CoreStmt, end_of-CoreStmt, more_of-CoreStmt}
use Rattle.task_ast.specs.declared.core_form.CoreStmt.TheVariants as stmt
use Rattle.task_ast.specs.declared.core_form.CoreExit.{CoreExit, end_of-CoreExit, more_of-CoreExit}
use Rattle.task_ast.specs.declared.core_form.CoreExit.TheVariants as exit
use Rattle.task_ast.specs.declared.core_form.CoreTask.{CoreTask}
use Rattle.task_ast.specs.declared.core_form.Core.{Core}
use Rattle.task_ast.specs.WellFormed.{Scope, IsCoreExit, IsCoreTask, scope_of}
use Rattle.walk_run.specs.declared.trap.Trap.{Trap}
use Rattle.walk_run.specs.Store.{Store, Fits, KeepsFit}
use Rattle.walk_run.specs.Plain.{store_left, plain_done}
use Rattle.walk_run.specs.Laws.{outcome_store}
use Rattle.walk_run.specs.Outcome.{Outcome, ended, halted, ran_of, task_outcome}
use Rattle.walk_run.proofs.Stores.{fits_word, fits_pointer, fits_fresh}
use Rattle.walk_run.proofs.Keeping.{Kept, MayPut, MayPutReading, MayMove, May, MayAll, LeadsBy, plain_keeps, body_good, exit_good}

-- each array may be written, and each pointer may point to each array
abbrev pub Any : ℕ → Type 0
Any array = Unit {0}

abbrev AnyTo : (pointer array : ℕ) → Type 0
AnyTo p array = Unit {0}

kept_fit : (c : Core) → Kept (Fits c) Any AnyTo
kept_fit c = record {
  word = λ at w s _. fits_word at w s c;
  pointer = λ p at s _ inside. fits_pointer p at s inside c;
  pointing = λ p at s is h. tt;
}

any_put : (x : CoreTarget) → MayPut Any AnyTo x
any_put (target.Cell array i) = tt
any_put (target.Through p i) = λ array _. tt

any_reading : (x : Option CoreTarget) → MayPutReading Any AnyTo x
any_reading None = tt
any_reading (Some x) = any_put x

any_move : (e : CoreEnd) → MayMove Any AnyTo e
any_move (end.Cell array i) = tt
any_move (end.Pointer p) = λ array _. tt

mutual
  any_may : (s : CoreStmt) → May Any AnyTo s
  any_may (stmt.Assign x e) = any_put x
  any_may (stmt.Point p array i) = tt
  any_may (stmt.If' c m yes_row n no_row) = (any_row yes_row, any_row no_row)
  any_may (stmt.Loop' variable turns m row) = (tt, any_row row)
  any_may (stmt.Io site x p args) = any_reading x
  any_may (stmt.Block' site m row) = any_row row
  any_may (stmt.Copy site to from n) = any_move to

  any_row : {n : _} (row : Row_of-CoreStmt n) → MayAll Any AnyTo row
  any_row end_of-CoreStmt = tt
  any_row (more_of-CoreStmt s rest) = (any_may s, any_row rest)

any_body : (body : List CoreStmt) → AllByRecursion (May Any AnyTo) body
any_body [] = tt
any_body (s ∷ rest) = (any_may s, any_body rest)

pub any_exit : (e : CoreExit) → LeadsBy Any e
any_exit (exit.Next t) = tt
any_exit exit.Stop = tt
any_exit (exit.Choose' c u (more_of-CoreExit a end_of-CoreExit) v (more_of-CoreExit b end_of-CoreExit)) = (any_exit a, any_exit b)

kept_nothing : Kept (λ _. Unit {0}) Any AnyTo
kept_nothing = record { word = λ at w s _ h. tt; pointer = λ p at s _ inside h. tt; pointing = λ p at s is h. tt }

-- the store that a call leaves
ran_left : (r : Result (Unit {0}) Trap) (after : Store) → store_left (ran_of r after) ≡ after
ran_left (Ok _) after = refl
ran_left (Err trap) after = refl

pub plain_fits : (s : CoreStmt) (store after : Store) (r : Result (Unit {0}) Trap) → ran_of r after ≡ plain_done s store → KeepsFit store after
plain_fits s store after r is c fits =
    subst (Fits c) (sym (ap store_left is) ∙ ran_left r after) (plain_keeps (Fits c) Any AnyTo (kept_fit c) s (any_may s) store fits)

-- a task's number, or 0
abbrev IsNext : Core → ℕ → Type 0
IsNext c t = t ≤ length c.tasks

leads : (c : Core) (s : Scope) (level : ℕ) (e : CoreExit) → IsCoreExit s (length c.tasks) level e → LeadsBy (IsNext c) e
leads c s level (exit.Next t) h = h.1
leads c s level exit.Stop h = omega arith
leads c s level (exit.Choose' e u (more_of-CoreExit a end_of-CoreExit) v (more_of-CoreExit b end_of-CoreExit)) h = (leads c s (1 + level) a h.2, leads c s (1 + level) b h.3)

-- what a task's outcome leaves
abbrev EndsWell : Core → Outcome ℕ → Type 0
EndsWell c (ended next s readings) = Fits c s × IsNext c next
EndsWell c (halted why s) = Fits c s

task_well : (c : Core) (t : CoreTask) → IsCoreTask c t → (store : Store) (readings : List ℕ) → Fits c store → EndsWell c (task_outcome c t store readings)
task_well c t h store readings fits =
    body_good (Fits c) Any AnyTo (kept_fit c) halted (EndsWell c) (λ why s g. g) t.body (any_body t.body) _
    (exit_good (Fits c) Any AnyTo (kept_fit c) halted (EndsWell c) (λ why s g. g) (IsNext c) t.exit (leads c (scope_of c t) 1 t.exit h.exit) ended (λ next there s more g. (g, there)))
    _ readings (fits_fresh c store fits)

-- where a task ended, its store is one of the program, and the next task is there
pub task_ends : (c : Core) (t : CoreTask) → IsCoreTask c t → (store : Store) (readings : List ℕ) → Fits c store
    → (next : ℕ) (after : Store) (left : List ℕ) → ended next after left ≡ task_outcome c t store readings → Fits c after × (next ≤ length c.tasks)
task_ends c t h store readings fits next after left is = subst (EndsWell c) (sym is) (task_well c t h store readings fits)

-- a store of a program stays one, whether or not the task ends
pub task_fits : (c : Core) (t : CoreTask) (store : Store) (readings : List ℕ) → Fits c store → Fits c (outcome_store (task_outcome c t store readings))
task_fits c t store readings fits =
    body_good (Fits c) Any AnyTo (kept_fit c) halted (λ o. Fits c (outcome_store o)) (λ why s g. g) t.body (any_body t.body) _
    (exit_good (Fits c) Any AnyTo (kept_fit c) halted (λ o. Fits c (outcome_store o)) (λ why s g. g) Any t.exit (any_exit t.exit) ended (λ next _ s more g. g))
    _ readings (fits_fresh c store fits)

-- a task leads to one that is there, or to 0
abbrev pub Leads : Core → Outcome ℕ → Type 0
Leads c (ended next s readings) = IsNext c next
Leads c (halted why s) = Unit {0}

pub task_leads : (c : Core) (t : CoreTask) → IsCoreTask c t → (store : Store) (readings : List ℕ) → Leads c (task_outcome c t store readings)
task_leads c t h store readings =
    body_good (λ _. Unit {0}) Any AnyTo kept_nothing halted (Leads c) (λ why s g. tt) t.body (any_body t.body) _
    (exit_good (λ _. Unit {0}) Any AnyTo kept_nothing halted (Leads c) (λ why s g. tt) (IsNext c) t.exit (leads c (scope_of c t) 1 t.exit h.exit) ended (λ next there s more g. there))
    _ readings tt
