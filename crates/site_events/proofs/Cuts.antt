-- What small steps that tell the first of a log show: its first events, each within its steps, and where the plan stands at
-- their end; and that they go on.
use Rattle.std.proofs.Common.{◌≡◌, ◌∙◌, ◌⊎◌, inl, inr, ℕ, zero, suc, ◌≤◌, List, [], ◌∷◌, length, map, take, refl, sym, ap, subst, arith}
use Rattle.std.specs.Prelude.{Option, Some, None}
use Rattle.walk_run.specs.Store.{Store}
use Rattle.devices.specs.Journal.{JournalEvent}
use Rattle.task_attempts.specs.State.{Standing, Log}
use Rattle.task_attempts.specs.Laws.{EndsWith}
use Rattle.task_attempts.specs.Boots
use Rattle.task_attempts.specs.Boots.{events_in}
use Rattle.run_plan.specs.Cells.{State}
use Rattle.run_plan.specs.Runs.{Small, Smalls, Planned, after, at_event, shown_events, event_weights}
use Rattle.run_plan.specs.Sound
use Rattle.run_plan.specs.Sound.{Within, IsTrap}
use Rattle.plan_restore.specs.Kept.{committed_by, committed_after}
use Rattle.site_events.specs.Records.{view}
use Rattle.site_events.specs.Standing.{StandsAt}
use Rattle.site_events.specs.Telling.{IsOver, TellsAt, Tells}

-- an event's own, if there is one, before others
abbrev one_shown : Option JournalEvent → Small → List JournalEvent → List JournalEvent
one_shown o x es = at_event (λ e x. e) o x es

pub none_taken : (m : ℕ) (xs : Smalls) → xs ≡ [] → take m xs ≡ []
none_taken zero xs none = refl
none_taken (suc m) xs none = ap (take (suc m)) none

module _ (p : Planned) where
  -- what is told of the small steps behind one
  abbrev Rest : (m : ℕ) → Small → Smalls → Standing → Log → Type 0
  Rest m x xs st log = Tells p m x.after.store st xs log

  -- ---- events

  events_at : (o : Option JournalEvent) (now : Store) (st : Standing) (x : Small) (xs : Smalls) (es : List JournalEvent) (behind : Standing → Log → Type 0) → (xs ≡ [] → es ≡ [])
      → ((st : Standing) (log : Log) → behind st log → es ≡ events_in (take (length es) log)) → (log : Log) → TellsAt p o now st x xs log behind → one_shown o x es ≡ events_in (take (length (one_shown o x es)) log)
  events_at None now st x xs es behind over rest log h = rest st log h.1
  events_at (Some e) now st x xs es behind over rest [] h = absurd h
  events_at (Some e) now st x xs es behind over rest (l ∷ log) h = λ i. h.0.event i ∷ (by_end h.1) i
    where
      none_told : (es : List JournalEvent) → es ≡ [] → es ≡ events_in (take (length es) log)
      none_told [] none = refl
      none_told (f ∷ fs) none = absurd (cc none)

      by_end : IsOver e xs ⊎ behind l.after log → es ≡ events_in (take (length es) log)
      by_end (inl ended) = none_told es (over ended.none)
      by_end (inr more) = rest l.after log more

  pub events_told : (m : ℕ) (left : Store) (st : Standing) (xs : Smalls) (log : Log) → Tells p m left st xs log → shown_events (take m xs) ≡ events_in (take (length (shown_events (take m xs))) log)
  events_told zero left st xs log h = refl
  events_told (suc m) left st [] log h = refl
  events_told (suc m) left st (x ∷ xs) log h =
      events_at x.atom.event _ st x xs (shown_events (take m xs)) (Rest m x xs) (λ none. ap shown_events (none_taken m xs none))
      (λ st' log' more. events_told m x.after.store st' xs log' more) log h

  -- ---- weights

  weights_at : (o : Option JournalEvent) (now : Store) (st : Standing) (x : Small) (xs : Smalls) (es : List JournalEvent) (ws : List ℕ) (behind : Standing → Log → Type 0) → (xs ≡ [] → ws ≡ [])
      → ((most : ℕ) (st : Standing) (log : Log) → length es ≤ most → behind st log → Within ws (map (λ l. l.steps p.plan.scheme) (take most log)))
      → (most : ℕ) (log : Log) → length (one_shown o x es) ≤ most → TellsAt p o now st x xs log behind → Within (at_event (λ e x. x.weights) o x ws) (map (λ l. l.steps p.plan.scheme) (take most log))
  weights_at None now st x xs es ws behind over rest most log few h = rest most st log few h.1
  weights_at (Some e) now st x xs es ws behind over rest zero log few h = absurd (omega (arith, few))
  weights_at (Some e) now st x xs es ws behind over rest (suc most) [] few h = absurd h
  weights_at (Some e) now st x xs es ws behind over rest (suc most) (l ∷ log) few h = (h.0.weights, by_end h.1)
    where
      by_end : IsOver e xs ⊎ behind l.after log → Within ws (map (λ l. l.steps p.plan.scheme) (take most log))
      by_end (inl ended) = subst (λ (ws : List ℕ). Within ws (map (λ l. l.steps p.plan.scheme) (take most log))) (sym (over ended.none)) tt
      by_end (inr more) = rest most l.after log (omega (arith, few)) more

  pub weights_told : (m : ℕ) (left : Store) (st : Standing) (xs : Smalls) (most : ℕ) (log : Log) → length (shown_events (take m xs)) ≤ most → Tells p m left st xs log
      → Within (event_weights (take m xs)) (map (λ l. l.steps p.plan.scheme) (take most log))
  weights_told zero left st xs most log few h = tt
  weights_told (suc m) left st [] most log few h = tt
  weights_told (suc m) left st (x ∷ xs) most log few h =
      weights_at x.atom.event _ st x xs (shown_events (take m xs)) (event_weights (take m xs)) (Rest m x xs) (λ none. ap event_weights (none_taken m xs none))
      (λ most st' log' few more. weights_told m x.after.store st' xs most log' few more) most log few h

  -- ---- the end

  -- where a cut run stands, with the committed store there
  abbrev pub EndsAt : State → Store → Smalls → Standing → Type 0
  EndsAt s committed xs end = (committed ≡ end.committed) × StandsAt p.rules.core (view (after s xs)) end

  ends_at : (o : Option JournalEvent) (left : Store) (st : Standing) (x : Small) (xs : Smalls) (es : List JournalEvent) (behind : Standing → Log → Type 0) (P : Store → Standing → Type 0)
      → (xs ≡ [] → (now : Store) (end : Standing) → now ≡ end.committed → StandsAt p.rules.core (view x.after) end → P now end × (es ≡ []))
      → ((now : Store) (log : Log) (st : Standing) → now ≡ st.committed → StandsAt p.rules.core (view x.after) st → behind st log → P now (Boots.after st (take (length es) log)))
      → (log : Log) → TellsAt p o (committed_by o left st.committed) st x xs log behind → P (committed_by o left st.committed) (Boots.after st (take (length (one_shown o x es)) log))
  ends_at None left st x xs es behind P over rest log h = rest st.committed log st refl h.0 h.1
  ends_at (Some e) left st x xs es behind P over rest [] h = absurd h
  ends_at (Some e) left st x xs es behind P over rest (l ∷ log) h = by_end h.1
    where
      by_end : IsOver e xs ⊎ behind l.after log → P (committed_by (Some e) left st.committed) (Boots.after l.after (take (length es) log))
      by_end (inl ended) =
          let end = over ended.none (committed_by (Some e) left st.committed) l.after h.0.committed h.0.stands in
          subst (λ (fs : List JournalEvent). P (committed_by (Some e) left st.committed) (Boots.after l.after (take (length fs) log))) (sym end.1) end.0
      by_end (inr more) = rest (committed_by (Some e) left st.committed) log l.after h.0.committed h.0.stands more

  pub ends_told : (m : ℕ) (now left : Store) (st : Standing) (xs : Smalls) (s : State) (log : Log) → now ≡ st.committed → StandsAt p.rules.core (view s) st → Tells p m left st xs log
      → EndsAt s (committed_after now left (take m xs)) (take m xs) (Boots.after st (take (length (shown_events (take m xs))) log))
  ends_told zero now left st xs s log is stands h = (is, stands)
  ends_told (suc m) now left st [] s log is stands h = (is, stands)
  ends_told (suc m) now left st (x ∷ xs) s log is stands h =
      subst (λ (e : Store). EndsAt s (committed_after e left (take (suc m) (x ∷ xs))) (take (suc m) (x ∷ xs)) (Boots.after st (take (length (shown_events (take (suc m) (x ∷ xs)))) log))) (sym is)
      (ends_at x.atom.event left st x xs (shown_events (take m xs)) (Rest m x xs) (λ e end. EndsAt x.after (committed_after e x.after.store (take m xs)) (take m xs) end)
      (λ none e end same there. (subst (λ (ys : Smalls). EndsAt x.after (committed_after e x.after.store ys) ys end) (sym (none_taken m xs none)) (same, there), ap shown_events (none_taken m xs none)))
      (λ e log' st' same there more. ends_told m e x.after.store st' xs x.after log' same there more) log h)

  -- ---- how many

  one_more : (o : Option JournalEvent) (x : Small) (es : List JournalEvent) → length (one_shown o x es) ≤ suc (length es)
  one_more None x es = omega arith
  one_more (Some e) x es = omega arith

  -- no more events than small steps
  pub few_shown : (n : ℕ) (xs : Smalls) → length (shown_events (take n xs)) ≤ n
  few_shown zero xs = omega arith
  few_shown (suc n) [] = omega arith
  few_shown (suc n) (x ∷ xs) =
      let here = one_more x.atom.event x (shown_events (take n xs)) in
      let rest = few_shown n xs in
      omega (arith, here, rest)

  -- ---- going on

  abbrev Ended : (m : ℕ) → State → Smalls → Type 0
  Ended m s xs = (length xs ≡ m) ⊎ Sound.IsOver s xs

  ends_more : (e : JournalEvent) (es : List JournalEvent) → EndsWith IsTrap es → EndsWith IsTrap (e ∷ es)
  ends_more e [] ends = absurd ends
  ends_more e (f ∷ es) ends = ends

  ends_shown : (o : Option JournalEvent) (x : Small) (es : List JournalEvent) → EndsWith IsTrap es → EndsWith IsTrap (one_shown o x es)
  ends_shown None x es ends = ends
  ends_shown (Some e) x es ends = ends_more e es ends

  step_ended : (x : Small) (m : ℕ) (ys : Smalls) (s : State) → Ended m x.after ys → Ended (suc m) s (x ∷ ys)
  step_ended x m ys s (inl e) = inl (ap suc e)
  step_ended x m ys s (inr (inl stopped)) = inr (inl stopped)
  step_ended x m ys s (inr (inr trapped)) = inr (inr (ends_shown x.atom.event x (shown_events ys) trapped))

  ended_at : (o : Option JournalEvent) (now : Store) (st : Standing) (x : Small) (xs : Smalls) (m : ℕ) (s : State) (behind : Standing → Log → Type 0) → x.atom.event ≡ o
      → ((st : Standing) (log : Log) → StandsAt p.rules.core (view x.after) st → behind st log → Ended m x.after (take m xs)) → (log : Log) → TellsAt p o now st x xs log behind → Ended (suc m) s (x ∷ take m xs)
  ended_at None now st x xs m s behind is rest log h = step_ended x m (take m xs) s (rest st log h.0 h.1)
  ended_at (Some e) now st x xs m s behind is rest [] h = absurd h
  ended_at (Some e) now st x xs m s behind is rest (l ∷ log) h = by_end h.1
    where
      by_end : IsOver e xs ⊎ behind l.after log → Ended (suc m) s (x ∷ take m xs)
      by_end (inl ended) =
          inr (inr (subst (λ o. EndsWith IsTrap (one_shown o x (shown_events (take m xs)))) (sym is)
          (subst (λ (ys : Smalls). EndsWith IsTrap (e ∷ shown_events ys)) (sym (none_taken m xs ended.none)) ended.trap)))
      by_end (inr more) = step_ended x m (take m xs) s (rest l.after log h.0.stands more)

  -- so many small steps are there, or they are over
  pub ended_told : (m : ℕ) (left : Store) (st : Standing) (xs : Smalls) (s : State) (log : Log) → StandsAt p.rules.core (view s) st → Tells p m left st xs log → Ended m s (take m xs)
  ended_told zero left st xs s log stands h = inl refl
  ended_told (suc m) left st [] s log stands h = inr (inl (stands.next ∙ h))
  ended_told (suc m) left st (x ∷ xs) s log stands h =
      ended_at x.atom.event _ st x xs m s (Rest m x xs) refl (λ st' log' there more. ended_told m x.after.store st' xs x.after log' there more) log h
