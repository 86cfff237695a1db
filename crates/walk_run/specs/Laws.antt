-- What holds of every run, whatever the program.
use Rattle.std.specs.Prelude.{◌≡◌, ℕ, List, [], ◌∷◌, ◌++◌, map, length, Some, slice_get}
use Rattle.std.specs.List.{AllByRecursion}
use Rattle.task_ast.specs.declared.tree.Kind.TheVariants.{Const, Vol}
use Rattle.task_ast.specs.declared.core_form.Array.{Array}
use Rattle.task_ast.specs.declared.core_form.Core.{Core}
use Rattle.walk_run.specs.declared.walked.State.{State}
use Rattle.walk_run.specs.Store.{Store, words_of, first_if_shown}
use Rattle.walk_run.specs.Outcome.{Outcome, ended, halted}

-- a list is the front of another
abbrev pub IsFront : {A : Type 0} → List A → List A → Type 0
IsFront {A} front whole = (rest : List A) × (whole ≡ front ++ rest)

-- the task that is next after these states, from the one that was next before them; 0 after STOP
abbrev pub next_after : (number : ℕ) → List State → ℕ
next_after number [] = number
next_after number (s ∷ states) = next_after s.next states

-- the declared lengths of the arrays that a state shows, in the order of their declarations
abbrev pub shown_sizes : List Array → List ℕ
shown_sizes [] = []
shown_sizes (a ∷ arrays) = first_if_shown a.kind (length a.first) (shown_sizes arrays)

-- a state has as many words of each array that it shows as are declared
abbrev pub HasSizes : List Array → State → Type 0
HasSizes arrays s = map length s.words ≡ shown_sizes arrays

-- the store that an outcome leaves, also where the run ends within the part
abbrev pub outcome_store : {A : Type 0} → Outcome A → Store
outcome_store (ended x store readings) = store
outcome_store (halted why store) = store

-- each constant is as it is declared
abbrev pub HasItsConstants : Core → Store → Type 0
HasItsConstants c store = (n : ℕ) (a : Array) → slice_get c.arrays n ≡ Some a → a.kind ≡ Const → words_of store n ≡ a.first

-- two stores have the same words in each array that isn't volatile
abbrev pub AreAlike : Core → Store → Store → Type 0
AreAlike c x y = (n : ℕ) (a : Array) → slice_get c.arrays n ≡ Some a → (a.kind ≡ Vol → ⊥) → words_of x n ≡ words_of y n

-- no task has a call, a block or a copy
abbrev pub HasNoSites : Core → Type 0
HasNoSites c = AllByRecursion (λ t. t.sites ≡ []) c.tasks
