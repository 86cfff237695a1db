-- A run that is under way: the states so far, and the run that is left.
use Rattle.std.proofs.Common.{◌≡◌, ◌∙◌, ℕ, zero, suc, ◌+◌, ◌-◌, ◌<◌, ◌≤◌, List, [], ◌∷◌, ◌++◌, length, Some, Ok, Err, Result, refl, sym, ap, subst, append_assoc, get_or, arith}
use Rattle.std.proofs.lemmas.Option.{slice_get-get_or}
use Rattle.std.specs.Prelude.{slice_get}
use Rattle.std.specs.List.{AllByRecursion}
use Rattle.std.proofs.lemmas.List.{append-nil}
use Rattle.task_ast.specs.declared.core_form.CoreTask.{CoreTask}
use Rattle.task_ast.specs.declared.core_form.Core.{Core}
use Rattle.task_ast.specs.WellFormed.{IsWellFormed, IsCoreTask}
use Rattle.walk_run.specs.declared.walked.EarlyEnd.{EarlyEnd}
use Rattle.walk_run.specs.declared.walked.WalkEnd.{WalkEnd}
use Rattle.walk_run.specs.declared.walked.WalkEnd.TheVariants.{Stopped, Limit}
use Rattle.walk_run.specs.declared.walked.State.{State}
use Rattle.walk_run.specs.declared.walked.Walked.{Walked}
use Rattle.walk_run.specs.Store.{Store, Fits, shown_words, declared_store}
use Rattle.walk_run.specs.Walk.{ends, ends_early, end_of, state_of, with_state, unless_stopped, task_end, task_if_there, walk_from, walk_of}
use Rattle.walk_run.specs.WalkLaws.{after_task}
use Rattle.walk_run.specs.Outcome.{outcome_of, from_outcome, task_outcome}
use Rattle.walk_run.proofs.Fitting.{task_ends}

abbrev pub run_of : List State → WalkEnd → Walked
run_of states end = record { states = states; end = end }

-- a run behind the states so far
abbrev pub after_states : List State → Walked → Walked
after_states states w = run_of (states ++ w.states) w.end

abbrev pub state_with : ℕ → List (List ℕ) → State
state_with next words = record { next = next; words = words }

-- Before so many of the tasks have ended, the states so far and the run that is left are the whole run.
pub record IsUnderWay (c : Core) (tasks over number : ℕ) (store : Store) (readings : List ℕ) (states : List State) (whole : Walked) : Type 0 where
  pub some : 0 < number
  pub there : number ≤ length c.tasks
  pub fits : Fits c store
  pub whole_is : after_states states (walk_from c (tasks - over) number store readings) ≡ whole

-- at the beginning
pub run_begins : (c : Core) (readings left : List ℕ) (tasks : ℕ) (store : Store) (states : List State)
    → IsWellFormed c → store ≡ declared_store c → Fits c store → left ≡ readings → states ≡ []
    → IsUnderWay c tasks 0 1 store left states (walk_of c readings tasks)
unfolding walk_of
run_begins c readings left tasks store states well is fits same none =
    let all : tasks - 0 ≡ tasks = omega arith in
    record {
      some = omega arith;
      there = well.some;
      fits = fits;
      whole_is = λ i. after_states (none i) (walk_from c (all i) 1 (is i) (same i));
    }

-- all tasks are such
pub each_task : {A : Type 0} (P : A → Type 0) (xs : List A) (n : ℕ) (x : A) → AllByRecursion P xs → slice_get xs n ≡ Some x → P x
each_task P [] n x all is = cc
each_task P (y ∷ xs) zero x all is = let same : y ≡ x = cc in subst P same all.0
each_task P (y ∷ xs) (suc n) x all is = each_task P xs n x all.1 is

-- one task more, by its outcome
pub run_steps : (c : Core) (n m number : ℕ) (t : CoreTask) (store after : Store) (readings left : List ℕ) (r q : Result ℕ EarlyEnd)
    → n ≡ suc m → slice_get c.tasks (number - 1) ≡ Some t → outcome_of r after left ≡ task_outcome c t store readings → r ≡ q
    → walk_from c n number store readings ≡ from_outcome ends_early (outcome_of q after left) (task_end c (walk_from c m))
unfolding walk_from
run_steps c n m number t store after readings left r q e there ran was =
    ap (λ k. walk_from c k number store readings) e
    ∙ ap (λ o. task_if_there c o (walk_from c m) store readings) there
    ∙ after_task ends_early c t (task_end c (walk_from c m)) store readings
    ∙ ap (λ o. from_outcome ends_early o (task_end c (walk_from c m))) (sym ran)
    ∙ ap (λ x. from_outcome ends_early (outcome_of x after left) (task_end c (walk_from c m))) was

ends_here : (states : List State) (w : Walked) (end : WalkEnd) → w ≡ ends end → run_of states end ≡ after_states states w
ends_here states w end e = ap (λ xs. run_of xs end) (sym (append-nil states)) ∙ ap (after_states states) (sym e)

-- a run that ends within a task
pub run_breaks : (c : Core) (tasks over number : ℕ) (t : CoreTask) (store after : Store) (readings left : List ℕ) (states : List State) (whole : Walked) (r : Result ℕ EarlyEnd) (why : EarlyEnd) (end : WalkEnd)
    → IsUnderWay c tasks over number store readings states whole → over < tasks → slice_get c.tasks (number - 1) ≡ Some t
    → outcome_of r after left ≡ task_outcome c t store readings → r ≡ Err why → end ≡ end_of why
    → run_of states end ≡ whole
run_breaks c tasks over number t store after readings left states whole r why end h more there ran was is =
    ends_here states _ end (run_steps c (tasks - over) (tasks - (over + 1)) number t store after readings left r (Err why) (omega arith) there ran was ∙ ap ends (sym is)) ∙ h.whole_is

goes_from : (states : List State) (state : State) (w rest : Walked) → w ≡ with_state state rest
    → after_states (states ++ state ∷ []) rest ≡ after_states states w
goes_from states state w rest e = ap (λ xs. run_of xs rest.end) (append_assoc states (state ∷ []) rest.states) ∙ ap (after_states states) (sym e)

unless_at : (next : ℕ) (w : Walked) → 0 < next → unless_stopped next w ≡ w
unless_at zero w h = absurd (omega arith)
unless_at (suc n) w h = refl

-- what a task leaves
kept_after : (c : Core) (number : ℕ) (t : CoreTask) (store after : Store) (readings left : List ℕ) (r : Result ℕ EarlyEnd) (next : ℕ)
    → IsWellFormed c → Fits c store → slice_get c.tasks (number - 1) ≡ Some t → outcome_of r after left ≡ task_outcome c t store readings → r ≡ Ok next
    → Fits c after × (next ≤ length c.tasks)
kept_after c number t store after readings left r next well fits there ran was =
    task_ends c t (each_task (IsCoreTask c) c.tasks (number - 1) t well.tasks there) store readings fits next after left (ap (λ x. outcome_of x after left) (sym was) ∙ ran)

pub fits_after : (c : Core) (number : ℕ) (t : CoreTask) (store after : Store) (readings left : List ℕ) (r : Result ℕ EarlyEnd) (next : ℕ)
    → IsWellFormed c → Fits c store → slice_get c.tasks (number - 1) ≡ Some t → outcome_of r after left ≡ task_outcome c t store readings → r ≡ Ok next → Fits c after
fits_after c number t store after readings left r next well fits there ran was = (kept_after c number t store after readings left r next well fits there ran was).0

-- a task that ended, and isn't the last
pub run_goes_on : (c : Core) (tasks over number next : ℕ) (t : CoreTask) (store after : Store) (readings left : List ℕ) (states new : List State) (whole : Walked) (r : Result ℕ EarlyEnd)
    → IsWellFormed c → IsUnderWay c tasks over number store readings states whole → over < tasks → slice_get c.tasks (number - 1) ≡ Some t
    → outcome_of r after left ≡ task_outcome c t store readings → r ≡ Ok next → 0 < next → new ≡ states ++ state_of c next after ∷ []
    → IsUnderWay c tasks (over + 1) next after left new whole
run_goes_on c tasks over number next t store after readings left states new whole r well h more there ran was on pushed =
    let m = tasks - (over + 1) in
    let step = run_steps c (tasks - over) m number t store after readings left r (Ok next) (omega arith) there ran was
    ∙ ap (with_state (state_of c next after)) (unless_at next (walk_from c m next after left) on) in
    let kept = kept_after c number t store after readings left r next well h.fits there ran was in
    record {
      some = on;
      there = kept.1;
      fits = kept.0;
      whole_is = ap (λ s. after_states s (walk_from c m next after left)) pushed ∙ goes_from states (state_of c next after) _ _ step ∙ h.whole_is;
    }

-- a task that stopped
pub run_stops : (c : Core) (tasks over number next : ℕ) (t : CoreTask) (store after : Store) (readings left : List ℕ) (states new : List State) (whole : Walked) (r : Result ℕ EarlyEnd)
    → IsUnderWay c tasks over number store readings states whole → over < tasks → slice_get c.tasks (number - 1) ≡ Some t
    → outcome_of r after left ≡ task_outcome c t store readings → r ≡ Ok next → next ≡ 0 → new ≡ states ++ state_of c next after ∷ []
    → run_of new Stopped ≡ whole
run_stops c tasks over number next t store after readings left states new whole r h more there ran was stop pushed =
    let m = tasks - (over + 1) in
    let step = run_steps c (tasks - over) m number t store after readings left r (Ok next) (omega arith) there ran was
    ∙ ap (λ n. with_state (state_of c next after) (unless_stopped n (walk_from c m next after left))) stop in
    ap (λ xs. run_of xs Stopped) (pushed ∙ sym (append-nil (states ++ state_of c next after ∷ [])))
    ∙ goes_from states (state_of c next after) _ (ends Stopped) step ∙ h.whole_is

-- as many tasks as were asked for
pub run_is_over : (c : Core) (tasks over number : ℕ) (store : Store) (readings : List ℕ) (states : List State) (whole : Walked)
    → IsUnderWay c tasks over number store readings states whole → tasks ≤ over → run_of states Limit ≡ whole
unfolding walk_from
run_is_over c tasks over number store readings states whole h past =
    let none : tasks - over ≡ 0 = omega arith in
    ends_here states _ Limit (ap (λ n. walk_from c n number store readings) none) ∙ h.whole_is

-- a state as it is pushed
pub state_pushed : (c : Core) (next : ℕ) (words : List (List ℕ)) (store : Store) (states new : List State)
    → words ≡ shown_words c.arrays store.words → new ≡ states ++ state_with next words ∷ [] → new ≡ states ++ state_of c next store ∷ []
state_pushed c next words store states new is pushed = pushed ∙ ap (λ w. states ++ state_with next w ∷ []) is

-- the task that a run comes to
pub task_there : (tasks seen : List CoreTask) (number : ℕ) (t d : CoreTask) → 0 < number → number ≤ length tasks → seen ≡ tasks → t ≡ get_or seen (number - 1) d
    → slice_get tasks (number - 1) ≡ Some t
task_there tasks seen number t d some there same is =
    let below : number - 1 < length tasks = omega arith in
    slice_get-get_or tasks (number - 1) d below ∙ ap Some (sym (is ∙ ap (λ ts. get_or ts (number - 1) d) same))
