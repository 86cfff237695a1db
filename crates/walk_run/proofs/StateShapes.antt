-- Each state of a run has as many words of each array as are declared.
use Rattle.std.proofs.Common.{◌≡◌, ◌∙◌, ℕ, zero, suc, ◌-◌, List, [], ◌∷◌, map, length, Option, Some, None, refl, ap, subst, sym}
use Rattle.std.specs.Prelude.{slice_get}
use Rattle.std.specs.List.{AllByRecursion}
use Rattle.task_ast.specs.declared.tree.Kind.{Kind}
use Rattle.task_ast.specs.declared.tree.Kind.TheVariants.{Nv, Const, Vol}
use Rattle.task_ast.specs.declared.core_form.Array.{Array}
use Rattle.task_ast.specs.declared.core_form.CoreTask.{CoreTask}
use Rattle.task_ast.specs.declared.core_form.Core.{Core}
use Rattle.walk_run.specs.declared.walked.State.{State}
use Rattle.walk_run.specs.declared.walked.Walked.{Walked}
use Rattle.walk_run.specs.Store.{Store, Fits, HasShape, declared_store, first_if_shown, shown_words}
use Rattle.walk_run.specs.Laws.{shown_sizes, HasSizes, outcome_store}
use Rattle.walk_run.specs.Outcome.{Outcome, ended, halted, from_outcome, task_outcome}
use Rattle.walk_run.specs.Walk.{Onward, ends_early, state_of, with_state, unless_stopped, task_end, task_if_there, walk_from, walk_of}
use Rattle.walk_run.specs.WalkLaws.{after_task}
use Rattle.walk_run.proofs.Fitting.{task_fits}
use Rattle.walk_run.proofs.Stores.{fits_declared}

first_sized : (kind : Kind) (words : List ℕ) (size : ℕ) (rest : List (List ℕ)) (sizes : List ℕ) → length words ≡ size → map length rest ≡ sizes
    → map length (first_if_shown kind words rest) ≡ first_if_shown kind size sizes
first_sized Nv words size rest sizes h k = ap (λ x. x ∷ map length rest) h ∙ ap (λ xs. size ∷ xs) k
first_sized Const words size rest sizes h k = k
first_sized Vol words size rest sizes h k = k

sized : (arrays : List Array) (words : List (List ℕ)) → HasShape arrays words → map length (shown_words arrays words) ≡ shown_sizes arrays
sized [] words shape = refl
sized (a ∷ arrays) [] shape = cc
sized (a ∷ arrays) (w ∷ words) shape =
    let head : length w ≡ length a.first = cc in
    let rest : map length words ≡ map (λ x. length x.first) arrays = cc in
    first_sized a.kind w (length a.first) (shown_words arrays words) (shown_sizes arrays) head (sized arrays words rest)

unless_sized : (arrays : List Array) (next : ℕ) (state : State) (w : Walked) → HasSizes arrays state → AllByRecursion (HasSizes arrays) w.states
    → AllByRecursion (HasSizes arrays) (with_state state (unless_stopped next w)).states
unless_sized arrays zero state w h k = (h, tt)
unless_sized arrays (suc next) state w h k = (h, k)

AllSized : Core → Walked → Type 0
AllSized c w = AllByRecursion (HasSizes c.arrays) w.states

outcome_sized : (c : Core) (o : Outcome ℕ) (rest : ℕ → Onward Walked) → Fits c (outcome_store o) → ((next : ℕ) (store : Store) (readings : List ℕ) → Fits c store → AllSized c (rest next store readings))
    → AllSized c (from_outcome ends_early o (task_end c rest))
unfolding AllSized
outcome_sized c (ended next after left) rest fits h = unless_sized c.arrays next (state_of c next after) (rest next after left) (sized c.arrays after.words fits.shape) (h next after left fits)
outcome_sized c (halted why after) rest fits h = tt

task_sized : (c : Core) (t : Option CoreTask) (rest : ℕ → Onward Walked) (store : Store) (readings : List ℕ) → Fits c store
    → ((next : ℕ) (after : Store) (left : List ℕ) → Fits c after → AllSized c (rest next after left)) → AllSized c (task_if_there c t rest store readings)
unfolding AllSized
task_sized c None rest store readings fits h = tt
task_sized c (Some t) rest store readings fits h =
    subst (AllSized c) (sym (after_task ends_early c t (task_end c rest) store readings)) (outcome_sized c (task_outcome c t store readings) rest (task_fits c t store readings fits) h)

from_sized : (c : Core) (tasks number : ℕ) (store : Store) (readings : List ℕ) → Fits c store → AllSized c (walk_from c tasks number store readings)
unfolding walk_from AllSized
from_sized c zero number store readings fits = tt
from_sized c (suc tasks) number store readings fits =
    task_sized c (slice_get c.tasks (number - 1)) (walk_from c tasks) store readings fits (from_sized c tasks)

pub states_sized : (c : Core) (readings : List ℕ) (tasks : ℕ) → AllByRecursion (HasSizes c.arrays) (walk_of c readings tasks).states
unfolding walk_of AllSized
states_sized c readings tasks = from_sized c tasks 1 (declared_store c) readings (fits_declared c)
