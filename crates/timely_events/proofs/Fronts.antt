-- A boot of more attempts goes on behind one of fewer, which shows as many events or is all of it; and weights never fall.
use Rattle.std.specs.Prelude.{◌⊎◌, ⊤, Option, Some, None, slice_get, slice_index_or}
use Rattle.std.proofs.Common.{◌≡◌, ◌∙◌, inl, inr, ℕ, zero, suc, ◌+◌, ◌≤◌, List, [], ◌∷◌, ◌++◌, length, map, drop, refl, sym, ap, subst, arith}
use Rattle.task_ast.specs.declared.core_form.CoreTask.{CoreTask}
use Rattle.task_ast.specs.declared.core_form.Core.{Core}
use Rattle.devices.specs.Journal.{JournalEvent, begins}
use Rattle.devices.specs.declared.world.World.{World}
use Rattle.task_attempts.specs.Boots.{task_of}
use Rattle.word_isa.specs.declared.parts.Scheme.{Scheme}
use Rattle.run_plan.specs.declared.act.Act.{Act}
use Rattle.run_plan.specs.declared.act.Act.TheVariants as act
use Rattle.run_plan.specs.Cells.{State}
use Rattle.run_plan.specs.Deeds.{begin_writes, begun_state}
use Rattle.run_plan.specs.PlanOf.{plan_of, task_acts, tasks_acts}
use Rattle.run_plan.specs.Runs.{At, Onward, Planned, Small, Smalls, act_end, acts_run, at_event, at_task, attempt_if_there, attempts, boot_run, booted, doing, event_weights, nothing, restoring_if_there, shown_events, with_state}
use Rattle.run_plan.specs.Small.{Doing, after_atom, core_of, showing, silent}
use Rattle.run_plan.specs.Weights.{weight}
use Rattle.plan_restore.specs.Kept.{planned}
use Rattle.code_cuts.specs.Runs.{IsInProgress}
use Rattle.timely_events.proofs.Along.{GoesAlong, Goes, acts_go, steps_go, end_goes}

-- ---- claims

-- one run begins another, and is all of it or shows so many events
pub record IsFront (k : ℕ) (xs ys : Smalls) : Type 0 where
  pub more : Smalls
  pub whole : xs ++ more ≡ ys
  pub far : (more ≡ []) ⊎ (k ≤ length (shown_events xs))

-- weights never fall, and are at least so many
abbrev pub Rises : (least : ℕ) → Smalls → Type 0
Rises w [] = ⊤
Rises w (x ∷ xs) = (w ≤ x.weights) × Rises x.weights xs

-- ---- they go along

more_shown : (o : Option JournalEvent) (x : Small) (es : List JournalEvent) → length es ≤ length (at_event (λ e x. e) o x es)
more_shown None x es = omega arith
more_shown (Some e) x es = omega arith

small_front : (k : ℕ) (x : Small) (xs ys : Smalls) → IsFront k xs ys → IsFront k (x ∷ xs) (x ∷ ys)
small_front k x xs ys h = record { more = h.more; whole = ap (λ (zs : Smalls). x ∷ zs) h.whole; far = by h.far }
  where
    by : (h.more ≡ []) ⊎ (k ≤ length (shown_events xs)) → (h.more ≡ []) ⊎ (k ≤ length (shown_events (x ∷ xs)))
    by (inl none) = inl none
    by (inr long) = inr (omega (arith, long, more_shown x.atom.event x (shown_events xs)))

fronts_along : (k : ℕ) → GoesAlong (λ w xs ys. IsFront k xs ys)
fronts_along k = record {
  none = λ w. record { more = []; whole = refl; far = inl refl };
  small = λ x xs ys h. small_front k x xs ys h;
  fewer = λ w n xs ys h. h;
}

-- over an event one more
event_front : (k : ℕ) (x : Small) (e : JournalEvent) (xs ys : Smalls) → x.atom.event ≡ Some e → IsFront k xs ys → IsFront (suc k) (x ∷ xs) (x ∷ ys)
event_front k x e xs ys is h = record { more = h.more; whole = ap (λ (zs : Smalls). x ∷ zs) h.whole; far = by h.far }
  where
    one : length (shown_events (x ∷ xs)) ≡ suc (length (shown_events xs))
    one = ap (λ o. length (at_event (λ e x. e) o x (shown_events xs))) is

    by : (h.more ≡ []) ⊎ (k ≤ length (shown_events xs)) → (h.more ≡ []) ⊎ (suc k ≤ length (shown_events (x ∷ xs)))
    by (inl none) = inl none
    by (inr long) = inr (omega (arith, long, one))

rises_from : (w v : ℕ) (xs : Smalls) → w ≤ v → Rises v xs → Rises w xs
rises_from w v [] less h = tt
rises_from w v (x ∷ xs) less h = (omega (arith, less, h.0), h.1)

rises_along : GoesAlong (λ w xs ys. Rises w xs)
rises_along = record {
  none = λ w. tt;
  small = λ x xs ys h. (omega arith, h);
  fewer = λ w n xs ys h. rises_from w (w + n) xs (omega arith) h;
}

-- ---- attempts

-- the acts of the task of a number
acts_there : (scheme : Scheme) (from : ℕ) (ts : List CoreTask) (n : ℕ) (t : CoreTask) → slice_get ts n ≡ Some t → slice_index_or (tasks_acts scheme from ts) n [] ≡ task_acts scheme (from + n) t
acts_there scheme from [] n t is = absurd (cc is)
acts_there scheme from (y ∷ ts) zero t is =
    let same : y ≡ t = cc is in
    let e0 : from ≡ from + 0 = omega arith in
    λ i. task_acts scheme (e0 i) (same i)
acts_there scheme from (y ∷ ts) (suc n) t is =
    let e0 : from + 1 + n ≡ from + suc n = omega arith in
    acts_there scheme (from + 1) ts n t is ∙ ap (λ k. task_acts scheme k t) e0

-- acts that begin an attempt show one event more than those behind them
begun_front : (k : ℕ) (d : Doing) (number : ℕ) (acts : List Act) (again next : Onward) → ((at : At) → IsFront k (again at) (next at))
    → (at : At) → IsFront (suc k) (acts_run d again (act.Begin number ∷ acts) nothing at) (acts_run d next (act.Begin number ∷ acts) nothing at)
begun_front k d number acts again next on at =
    let R : (weights : ℕ) → Smalls → Smalls → Type 0 = λ w xs ys. IsFront k xs ys in
    let a : Act = act.Begin number in
    let begun : At = record at { weights = at.weights + weight d a at.state } in
    let later : At = with_state (after_atom (core_of d) (showing (begins number)) at.state) begun in
    let go : Onward = acts_run d again acts nothing in
    let to : Onward = acts_run d next acts nothing in
    event_front k _ (begins number) _ _ refl
    (steps_go R (fronts_along k) (core_of d) a (map silent (begin_writes d.scheme (core_of d) at.state)) (act_end (core_of d) a (begun_state (core_of d)) go) (act_end (core_of d) a (begun_state (core_of d)) to)
    (end_goes R (fronts_along k) (core_of d) a (begun_state (core_of d)) go to (acts_go R (fronts_along k) d again next on acts nothing nothing (λ at. (fronts_along k).none at.weights))) later)

module _ (c : Core) (world : World) (scheme : Scheme) where
  abbrev x : Planned
  x = planned c world scheme

  number_front : (k : ℕ) (again next : Onward) → ((at : At) → IsFront k (again at) (next at)) → (number : ℕ) (o : Option CoreTask) → task_of c number ≡ o
      → (at : At) → IsFront (suc k) (attempt_if_there x again number o at) (attempt_if_there x next number o at)
  number_front k again next on number None is at = record { more = []; whole = refl; far = inl refl }
  number_front k again next on zero (Some t) is at = absurd (cc is)
  number_front k again next on (suc n) (Some t) is at =
      let e0 : 1 + n ≡ suc n = omega arith in
      let there : at_task (plan_of c scheme).tasks (suc n) [] ≡ task_acts scheme (suc n) t = acts_there scheme 1 c.tasks n t is ∙ ap (λ k. task_acts scheme k t) e0 in
      subst (λ acts. IsFront (suc k) (acts_run (doing x (suc n) t) again acts nothing at) (acts_run (doing x (suc n) t) next acts nothing at)) (sym there)
      (begun_front k (doing x (suc n) t) (suc n) (drop 1 (task_acts scheme (suc n) t)) again next on at)

  attempts_front : (n m : ℕ) → n ≤ m → (at : At) → IsFront n (attempts x n at) (attempts x m at)
  attempts_front zero m few at = record { more = attempts x m at; whole = refl; far = inr (omega arith) }
  attempts_front (suc n) zero few at = absurd (omega (arith, few))
  attempts_front (suc n) (suc m) few at = number_front n (attempts x n) (attempts x m) (attempts_front n m (omega (arith, few))) at.state.task (task_of c at.state.task) refl at

  attempts_rise : (n : ℕ) (at : At) → Rises at.weights (attempts x n at)
  attempts_rise zero at = tt
  attempts_rise (suc n) at = by at.state.task (task_of c at.state.task) (attempts x n) (attempts_rise n) at
    where
      by : (number : ℕ) (o : Option CoreTask) (again : Onward) → ((at : At) → Rises at.weights (again at)) → (at : At) → Rises at.weights (attempt_if_there x again number o at)
      by number None again on at = tt
      by number (Some t) again on at = acts_go (λ w xs ys. Rises w xs) rises_along (doing x number t) again again on (at_task x.plan.tasks number []) nothing nothing (λ at. tt) at

  -- ---- boots

  restoring_goes : (R : (weights : ℕ) → Smalls → Smalls → Type 0) (along : GoesAlong R) (behind next : Onward) → Goes R along behind next
      → (number : ℕ) (o : Option CoreTask) → Goes R along (restoring_if_there x behind number o) (restoring_if_there x next number o)
  restoring_goes R along behind next on number None at = along.none at.weights
  restoring_goes R along behind next on number (Some t) at = acts_go R along (doing x number t) nothing nothing (λ at. along.none at.weights) x.plan.boot behind next on at

  pub boot_front : (n m : ℕ) (s : State) → n ≤ m → IsFront n (boot_run x n s) (boot_run x m s)
  unfolding boot_run
  boot_front n m s few = restoring_goes (λ w xs ys. IsFront n xs ys) (fronts_along n) (attempts x n) (attempts x m) (attempts_front n m few) s.task (task_of c s.task) (booted s)

  pub boot_rises : (n : ℕ) (s : State) → Rises 64 (boot_run x n s)
  unfolding boot_run
  boot_rises n s = restoring_goes (λ w xs ys. Rises w xs) rises_along (attempts x n) (attempts x n) (attempts_rise n) s.task (task_of c s.task) (booted s)

-- ---- events and weights of two runs in a row

pub shown_more : (xs ys : Smalls) → shown_events (xs ++ ys) ≡ shown_events xs ++ shown_events ys
shown_more [] ys = refl
shown_more (x ∷ xs) ys = by x.atom.event (shown_events (xs ++ ys)) (shown_events xs) (shown_events ys) (shown_more xs ys)
  where
    by : (o : Option JournalEvent) (all one two : List JournalEvent) → all ≡ one ++ two → at_event (λ e x. e) o x all ≡ at_event (λ e x. e) o x one ++ two
    by None all one two h = h
    by (Some e) all one two h = ap (λ (es : List JournalEvent). e ∷ es) h

pub weights_more : (xs ys : Smalls) → event_weights (xs ++ ys) ≡ event_weights xs ++ event_weights ys
weights_more [] ys = refl
weights_more (x ∷ xs) ys = by x.atom.event (event_weights (xs ++ ys)) (event_weights xs) (event_weights ys) (weights_more xs ys)
  where
    by : (o : Option JournalEvent) (all one two : List ℕ) → all ≡ one ++ two → at_event (λ e x. x.weights) o x all ≡ at_event (λ e x. x.weights) o x one ++ two
    by None all one two h = h
    by (Some e) all one two h = ap (λ (es : List ℕ). x.weights ∷ es) h

-- each event has its weights
pub as_many : (xs : Smalls) → length (event_weights xs) ≡ length (shown_events xs)
as_many [] = refl
as_many (x ∷ xs) = by x.atom.event (event_weights xs) (shown_events xs) (as_many xs)
  where
    by : (o : Option JournalEvent) (ws : List ℕ) (es : List JournalEvent) → length ws ≡ length es → length (at_event (λ e x. x.weights) o x ws) ≡ length (at_event (λ e x. e) o x es)
    by None ws es h = h
    by (Some e) ws es h = ap suc h

-- no more events than small steps
one_shown : (o : Option JournalEvent) (x : Small) (es : List JournalEvent) → length (at_event (λ e x. e) o x es) ≤ suc (length es)
one_shown None x es = omega arith
one_shown (Some e) x es = omega arith

pub few_shown : (xs : Smalls) → length (shown_events xs) ≤ length xs
few_shown [] = omega arith
few_shown (x ∷ xs) = let here = one_shown x.atom.event x (shown_events xs) in let rest = few_shown xs in omega (arith, here, rest)

-- ---- what is in progress is late

-- each is at least so many
abbrev pub AreLate : (least : ℕ) → List ℕ → Type 0
AreLate least [] = ⊤
AreLate least (w ∷ ws) = (least ≤ w) × AreLate least ws

late_at : (o : Option JournalEvent) (x : Small) (least : ℕ) (ws : List ℕ) → least ≤ x.weights → AreLate least ws → AreLate least (at_event (λ e x. x.weights) o x ws)
late_at None x least ws few h = h
late_at (Some e) x least ws few h = (few, h)

rises_late : (xs : Smalls) (w least : ℕ) → Rises w xs → least ≤ w → AreLate least (event_weights xs)
rises_late [] w least h few = tt
rises_late (x ∷ xs) w least h few =
    let there : least ≤ x.weights = omega (arith, few, h.0) in
    late_at x.atom.event x least (event_weights xs) there (rises_late xs x.weights least h.1 there)

-- where the act of the first is in progress
pub rest_late : (front rest : Smalls) (w n : ℕ) → Rises w (front ++ rest) → IsInProgress n rest → AreLate (suc n) (event_weights rest)
rest_late [] [] w n h goes = tt
rest_late [] (x ∷ rest) w n h goes = rises_late (x ∷ rest) x.weights (suc n) (omega arith, h.1) (omega (arith, goes))
rest_late (x ∷ front) rest w n h goes = rest_late front rest x.weights n h.1 goes
