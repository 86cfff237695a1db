-- The laws of every run, by induction on the tasks that are asked for.
use Rattle.std.proofs.Common.{◌≡◌, ◌≢◌, ℕ, zero, suc, ◌+◌, ◌-◌, ◌<◌, ◌≤◌, ◌↔◌, List, [], ◌∷◌, length, Option, Some, None, refl, ap, subst, sym, arith, add-one}
use Rattle.std.specs.Prelude.{slice_get}
use Rattle.task_ast.specs.declared.core_form.CoreTask.{CoreTask}
use Rattle.task_ast.specs.declared.core_form.Core.{Core}
use Rattle.task_ast.specs.WellFormed.{IsWellFormed, IsCoreTask}
use Rattle.walk_run.specs.declared.trap.Trap.{Trap}
use Rattle.walk_run.specs.declared.walked.EarlyEnd.{EarlyEnd}
use Rattle.walk_run.specs.declared.walked.EarlyEnd.TheVariants as early
use Rattle.walk_run.specs.declared.walked.WalkEnd.TheVariants.{Stopped, Limit, Trapped, NoReading}
use Rattle.walk_run.specs.declared.walked.State.{State}
use Rattle.walk_run.specs.declared.walked.Walked.{Walked}
use Rattle.walk_run.specs.Store.{Store, declared_store}
use Rattle.walk_run.specs.Walk.{Onward, ends, ends_early, end_of, state_of, with_state, unless_stopped, task_end, task_if_there, walk_from, walk_of}
use Rattle.walk_run.specs.WalkLaws.{after_task}
use Rattle.walk_run.specs.Outcome.{Outcome, ended, halted, from_outcome, task_outcome}
use Rattle.walk_run.specs.Laws.{IsFront, next_after}
use Rattle.walk_run.proofs.Fitting.{Leads, task_leads}
use Rattle.walk_run.proofs.UnderWay.{each_task}

-- how a run of at most so many tasks from this one ends
pub record HasItsEnd (tasks number : ℕ) (w : Walked) : Type 0 where
  pub few : length w.states ≤ tasks
  pub stopped : (w.end ≡ Stopped) ↔ (next_after number w.states ≡ 0)
  pub limit : (w.end ≡ Limit) ↔ ((length w.states ≡ tasks) × (next_after number w.states ≢ 0))
  pub trapped : (trap : Trap) → w.end ≡ Trapped trap → length w.states < tasks
  pub reading : w.end ≡ NoReading → length w.states < tasks

ends_at_limit : (number : ℕ) → 0 < number → HasItsEnd 0 number (ends Limit)
ends_at_limit number some = record {
  few = omega arith;
  stopped = (λ e. cc, λ e. absurd (omega arith));
  limit = (λ e. (refl, λ z. omega arith), λ h. refl);
  trapped = λ trap e. cc;
  reading = λ e. cc;
}

ends_within : (tasks number : ℕ) (why : EarlyEnd) → 0 < number → HasItsEnd (suc tasks) number (ends (end_of why))
ends_within tasks number (early.Trapped trap) some = record {
  few = omega arith;
  stopped = (λ e. cc, λ e. absurd (omega arith));
  limit = (λ e. cc, λ h. absurd (omega (arith, h.0)));
  trapped = λ trap e. omega arith;
  reading = λ e. omega arith;
}
ends_within tasks number early.NoReading some = record {
  few = omega arith;
  stopped = (λ e. cc, λ e. absurd (omega arith));
  limit = (λ e. cc, λ h. absurd (omega (arith, h.0)));
  trapped = λ trap e. omega arith;
  reading = λ e. omega arith;
}

-- one state more, in front
one_more : (tasks number : ℕ) (state : State) (w : Walked) → HasItsEnd tasks state.next w → HasItsEnd (suc tasks) number (with_state state w)
one_more tasks number state w h = record {
  few = omega (arith, h.few);
  stopped = h.stopped;
  limit = (λ e. (ap suc (h.limit.0 e).0, (h.limit.0 e).1), λ k. h.limit.1 (omega (arith, k.0), k.1));
  trapped = λ trap e. omega (arith, h.trapped trap e);
  reading = λ e. omega (arith, h.reading e);
}

ends_by_stop : (tasks : ℕ) → HasItsEnd tasks 0 (ends Stopped)
ends_by_stop tasks = record {
  few = omega arith;
  stopped = (λ e. refl, λ e. refl);
  limit = (λ e. cc, λ h. absurd (h.1 refl));
  trapped = λ trap e. cc;
  reading = λ e. cc;
}

unless_ends : (tasks next : ℕ) (w : Walked) → (0 < next → HasItsEnd tasks next w) → HasItsEnd tasks next (unless_stopped next w)
unless_ends tasks zero w h = ends_by_stop tasks
unless_ends tasks (suc next) w h = h (omega arith)

-- what comes of a task's outcome
outcome_ends : (c : Core) (tasks number : ℕ) (o : Outcome ℕ) (rest : ℕ → Onward Walked) → 0 < number → Leads c o
    → ((next : ℕ) (store : Store) (readings : List ℕ) → 0 < next → next ≤ length c.tasks → HasItsEnd tasks next (rest next store readings))
    → HasItsEnd (suc tasks) number (from_outcome ends_early o (task_end c rest))
outcome_ends c tasks number (ended next after left) rest some there h =
    one_more tasks number (state_of c next after) _ (unless_ends tasks next (rest next after left) (λ on. h next after left on there))
outcome_ends c tasks number (halted why after) rest some there h = ends_within tasks number why some

task_ends_so : (c : Core) (tasks number : ℕ) (t : CoreTask) (rest : ℕ → Onward Walked) (store : Store) (readings : List ℕ) → IsCoreTask c t → 0 < number
    → ((next : ℕ) (after : Store) (left : List ℕ) → 0 < next → next ≤ length c.tasks → HasItsEnd tasks next (rest next after left))
    → HasItsEnd (suc tasks) number (task_if_there c (Some t) rest store readings)
task_ends_so c tasks number t rest store readings is some h =
    subst (HasItsEnd (suc tasks) number) (sym (after_task ends_early c t (task_end c rest) store readings))
    (outcome_ends c tasks number (task_outcome c t store readings) rest some (task_leads c t is store readings) h)

-- a task of this number is there
there_is : {A : Type 0} (xs : List A) (n : ℕ) → n < length xs → (x : A) × (slice_get xs n ≡ Some x)
there_is [] n h = absurd (omega (arith, h))
there_is (x ∷ xs) zero h = (x, refl)
there_is (x ∷ xs) (suc n) h = there_is xs n (omega (arith, h))

from_ends : (c : Core) → IsWellFormed c → (tasks number : ℕ) (store : Store) (readings : List ℕ) → 0 < number → number ≤ length c.tasks
    → HasItsEnd tasks number (walk_from c tasks number store readings)
unfolding walk_from
from_ends c well zero number store readings some there = ends_at_limit number some
from_ends c well (suc tasks) number store readings some there =
    let found = there_is c.tasks (number - 1) (omega arith) in
    subst (λ o. HasItsEnd (suc tasks) number (task_if_there c o (walk_from c tasks) store readings)) (sym found.1)
    (task_ends_so c tasks number found.0 (walk_from c tasks) store readings (each_task (IsCoreTask c) c.tasks (number - 1) found.0 well.tasks found.1) some
    (λ next after left on more. from_ends c well tasks next after left on more))

-- a run has its end
pub walk_ends : (c : Core) (readings : List ℕ) (tasks : ℕ) → IsWellFormed c → HasItsEnd tasks 1 (walk_of c readings tasks)
unfolding walk_of
walk_ends c readings tasks well = from_ends c well tasks 1 (declared_store c) readings (omega arith) well.some

front_unless : (next : ℕ) (state : State) (w longer : Walked) → IsFront w.states longer.states
    → IsFront (with_state state (unless_stopped next w)).states (with_state state (unless_stopped next longer)).states
front_unless zero state w longer h = ([], refl)
front_unless (suc next) state w longer h = (h.0, ap (λ xs. state ∷ xs) h.1)

front_of_outcome : (c : Core) (o : Outcome ℕ) (rest longer : ℕ → Onward Walked)
    → ((next : ℕ) (store : Store) (readings : List ℕ) → IsFront (rest next store readings).states (longer next store readings).states)
    → IsFront (from_outcome ends_early o (task_end c rest)).states (from_outcome ends_early o (task_end c longer)).states
front_of_outcome c (ended next after left) rest longer h = front_unless next (state_of c next after) (rest next after left) (longer next after left) (h next after left)
front_of_outcome c (halted why after) rest longer h = ([], refl)

front_if_there : (c : Core) (t : Option CoreTask) (rest longer : ℕ → Onward Walked) (store : Store) (readings : List ℕ)
    → ((next : ℕ) (after : Store) (left : List ℕ) → IsFront (rest next after left).states (longer next after left).states)
    → IsFront (task_if_there c t rest store readings).states (task_if_there c t longer store readings).states
front_if_there c None rest longer store readings h = ([], refl)
front_if_there c (Some t) rest longer store readings h =
    subst (λ w. IsFront w.states (task_if_there c (Some t) longer store readings).states) (sym (after_task ends_early c t (task_end c rest) store readings))
    (subst (λ w. IsFront (from_outcome ends_early (task_outcome c t store readings) (task_end c rest)).states w.states) (sym (after_task ends_early c t (task_end c longer) store readings))
    (front_of_outcome c (task_outcome c t store readings) rest longer h))

front_of : (c : Core) (tasks number : ℕ) (store : Store) (readings : List ℕ) → IsFront (walk_from c tasks number store readings).states (walk_from c (suc tasks) number store readings).states
unfolding walk_from
front_of c zero number store readings = (_, refl)
front_of c (suc tasks) number store readings =
    front_if_there c (slice_get c.tasks (number - 1)) (walk_from c tasks) (walk_from c (suc tasks)) store readings (front_of c tasks)

-- the run of one task more begins with the run
pub longer_run : (c : Core) (readings : List ℕ) (tasks : ℕ) → IsFront (walk_of c readings tasks).states (walk_of c readings (tasks + 1)).states
unfolding walk_of
longer_run c readings tasks =
    subst (λ n. IsFront (walk_of c readings tasks).states (walk_of c readings n).states) (sym (add-one tasks))
    (front_of c tasks 1 (declared_store c) readings)
