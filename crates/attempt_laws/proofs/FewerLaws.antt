-- The unbroken run of fewer tasks shows the first states of that of more.
use Rattle.std.proofs.Common.{◌≡◌, ℕ, zero, suc, ◌-◌, ◌≤◌, List, [], ◌∷◌, take, Option, Some, None, refl, sym, ap, subst, not-suc-le-zero, le_of_suc-le-suc}
use Rattle.std.specs.Prelude.{slice_get}
use Rattle.task_ast.specs.declared.core_form.CoreTask.{CoreTask}
use Rattle.task_ast.specs.declared.core_form.Core.{Core}
use Rattle.walk_run.specs.declared.walked.WalkEnd.{WalkEnd}
use Rattle.walk_run.specs.declared.walked.WalkEnd.TheVariants.{Stopped, Limit}
use Rattle.walk_run.specs.declared.walked.State.{State}
use Rattle.walk_run.specs.declared.walked.Walked.{Walked}
use Rattle.walk_run.specs.Store.{Store}
use Rattle.walk_run.specs.Walk.{Onward, ends, ends_early, end_of, state_of, with_state, unless_stopped, task_end, task_if_there, walk_from}
use Rattle.walk_run.specs.WalkLaws.{after_task}
use Rattle.walk_run.specs.Outcome.{Outcome, ended, halted, from_outcome, task_outcome}

-- the first states
pub record Fewer (i : ℕ) (w longer : Walked) : Type 0 where
  pub states : w.states ≡ take i longer.states

fewer_end : (i : ℕ) (e : WalkEnd) → Fewer i (ends e) (ends e)
fewer_end zero e = record { states = refl }
fewer_end (suc i) e = record { states = refl }

fewer_stopped : (i next : ℕ) (w longer : Walked) → Fewer i w longer → Fewer i (unless_stopped next w) (unless_stopped next longer)
fewer_stopped i zero w longer fewer = fewer_end i Stopped
fewer_stopped i (suc n) w longer fewer = fewer

fewer_state : (i : ℕ) (s : State) (w longer : Walked) → Fewer i w longer → Fewer (suc i) (with_state s w) (with_state s longer)
fewer_state i s w longer fewer = record { states = ap {B = List State} (λ states. s ∷ states) fewer.states }

fewer_of_outcome : (c : Core) (i : ℕ) (o : Outcome ℕ) (rest longer : ℕ → Onward Walked)
    → ((next : ℕ) (store : Store) (readings : List ℕ) → Fewer i (rest next store readings) (longer next store readings))
    → Fewer (suc i) (from_outcome ends_early o (task_end c rest)) (from_outcome ends_early o (task_end c longer))
fewer_of_outcome c i (ended next after left) rest longer h =
    fewer_state i (state_of c next after) _ _ (fewer_stopped i next (rest next after left) (longer next after left) (h next after left))
fewer_of_outcome c i (halted why after) rest longer h = fewer_end (suc i) (end_of why)

fewer_if_there : (c : Core) (i : ℕ) (t : Option CoreTask) (rest longer : ℕ → Onward Walked) (store : Store) (readings : List ℕ)
    → ((next : ℕ) (after : Store) (left : List ℕ) → Fewer i (rest next after left) (longer next after left))
    → Fewer (suc i) (task_if_there c t rest store readings) (task_if_there c t longer store readings)
fewer_if_there c i None rest longer store readings h = fewer_end (suc i) Limit
fewer_if_there c i (Some t) rest longer store readings h =
    subst (λ w. Fewer (suc i) w (task_if_there c (Some t) longer store readings)) (sym (after_task ends_early c t (task_end c rest) store readings))
    (subst (λ w. Fewer (suc i) (from_outcome ends_early (task_outcome c t store readings) (task_end c rest)) w) (sym (after_task ends_early c t (task_end c longer) store readings))
    (fewer_of_outcome c i (task_outcome c t store readings) rest longer h))

pub walk_fewer : (c : Core) (i n : ℕ) → i ≤ n → (next : ℕ) (store : Store) (readings : List ℕ) → Fewer i (walk_from c i next store readings) (walk_from c n next store readings)
unfolding walk_from
walk_fewer c zero n less next store readings = record { states = refl }
walk_fewer c (suc i) zero less next store readings = absurd (not-suc-le-zero less)
walk_fewer c (suc i) (suc n) less next store readings =
    fewer_if_there c i (slice_get c.tasks (next - 1)) (walk_from c i) (walk_from c n) store readings (λ to after left. walk_fewer c i n (le_of_suc-le-suc less) to after left)
