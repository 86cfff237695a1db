-- When the stores of a walk are stores of its programs.
use Rattle.std.specs.Prelude.{◌≡◌, ℕ, List, map, length, slice_get, IfSome}
use Rattle.task_ast.specs.declared.core_form.Core.{Core}
use Rattle.walk_run.specs.Store.{Fits}
use Rattle.audit_check.specs.declared.around.Around.{Around}
use Rattle.audit_check.specs.Walking.{Walking}

-- Both stores of a walk are stores of a program.
abbrev pub AreStores : Core → Walking → Type 0
AreStores c w = Fits c w.store × Fits c w.committed

-- The committed store has as many arrays, words of each and pointers as the store.
abbrev pub AreAlike : Walking → Type 0
AreAlike w = (map length w.committed.words ≡ map length w.store.words) × (length w.committed.pointers ≡ length w.store.pointers)

-- Tasks are of a program.
abbrev pub AreTasksOf : Core → List Around → Type 0
AreTasksOf c tasks = (n : ℕ) → IfSome (slice_get tasks n) (λ a. a.core.now ≡ c)

-- Tasks are of one program, and both stores of a walk are its stores.
pub record AreStoresOf (tasks : List Around) (w : Walking) : Type 0 where
  pub program : Core
  pub of_it : AreTasksOf program tasks
  pub stores : AreStores program w
