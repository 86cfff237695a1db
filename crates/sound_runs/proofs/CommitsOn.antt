-- The states that a machine has behind its commits stand for those of the plan's run, boot by boot.
use Rattle.std.specs.Prelude.{flat_map, take, Option, Some, None}
use Rattle.std.proofs.Common.{◌≡◌, ◌∙◌, ℕ, zero, suc, List, [], ◌∷◌, ◌++◌, length, refl, sym, ap, subst, append_assoc, append-nil}
use Rattle.devices.specs.Journal.{JournalEvent, begins, looks, keeps, drops, issues, seals, copies, commits, traps}
use Rattle.task_attempts.specs.Sound.{next_in}
use Rattle.task_attempts.specs.State.{Rules}
use Rattle.walk_run.specs.declared.walked.State as walked
use Rattle.word_isa.specs.declared.parts.Scheme.{Scheme}
use Rattle.word_machine.specs.Events.{event_next}
use Rattle.word_machine.specs.State as machine
use Rattle.word_machine.specs.State.{Program}
use Rattle.word_machine.specs.Step.{exec, step}
use Rattle.run_plan.specs.Cells.{State}
use Rattle.run_plan.specs.Runs.{Planned, Small, Smalls, after, at_event, commit_states, committed_words, if_commit, shown_events}
use Rattle.sound_runs.specs.Committed.{AreCommitted, commit_in, commits_in}
use Rattle.sound_runs.proofs.Ends.{CommitsEnd, CommitsTo, EndsThere}

-- ---- lists of commits

pub committed_more : (p : Program) (rules : Rules) (scheme : Scheme) (xs ys : List (ℕ × machine.State)) (vs ws : List walked.State) → AreCommitted p rules scheme xs vs → AreCommitted p rules scheme ys ws → AreCommitted p rules scheme (xs ++ ys) (vs ++ ws)
committed_more p rules scheme [] ys [] ws h g = g
committed_more p rules scheme [] ys (v ∷ vs) ws h g = absurd h
committed_more p rules scheme (x ∷ xs) ys [] ws h g = absurd h
committed_more p rules scheme (x ∷ xs) ys (v ∷ vs) ws h g = (h.0, committed_more p rules scheme xs ys vs ws h.1 g)

-- the commits of one step more
pub commits_next : (p : Program) (n : ℕ) (e : machine.State) → commits_in p (suc n) e ≡ commits_in p n e ++ commit_in (event_next p (exec p n e)) (step p (exec p n e))
unfolding commits_in exec
commits_next p zero e = append-nil (commit_in (event_next p e) (step p e))
commits_next p (suc n) e =
    ap (λ xs. commit_in (event_next p e) (step p e) ++ xs) (commits_next p n (step p e))
    ∙ sym (append_assoc (commit_in (event_next p e) (step p e)) (commits_in p n (step p e)) (commit_in (event_next p (exec p n (step p e))) (step p (exec p n (step p e)))))

-- ---- the plan's states at commits

-- the tasks that the commits of events lead to
abbrev pub nexts : List JournalEvent → List ℕ
nexts es = flat_map next_in es

pub nexts_more : (a b : List JournalEvent) → nexts (a ++ b) ≡ nexts a ++ nexts b
nexts_more [] b = refl
nexts_more (e ∷ a) b = ap (λ xs. next_in e ++ xs) (nexts_more a b) ∙ sym (append_assoc (next_in e) (nexts a) (nexts b))

module _ (x : Planned) where
  -- the state that a commit shows
  abbrev state_at : Small → walked.State
  state_at y = record { next = y.after.task; words = committed_words x.plan.scheme x.rules.core y.after }

  -- the first commits of a list are those of its front
  states_at : (e : Option JournalEvent) (y : Small) (es : List JournalEvent) (some all : List walked.State) → some ≡ take (length (nexts es)) all
      → if_commit e (state_at y) some ≡ take (length (nexts (at_event (λ e y. e) e y es))) (if_commit e (state_at y) all)
  states_at None y es some all h = h
  states_at (Some (begins t)) y es some all h = h
  states_at (Some (looks k t)) y es some all h = h
  states_at (Some (keeps k value)) y es some all h = h
  states_at (Some (drops k)) y es some all h = h
  states_at (Some (issues k q args reading)) y es some all h = h
  states_at (Some (seals k)) y es some all h = h
  states_at (Some (copies k from to n)) y es some all h = h
  states_at (Some (commits next)) y es some all h = ap (λ ss. state_at y ∷ ss) h
  states_at (Some (traps code)) y es some all h = h

  pub front_states : (front rest : Smalls) → commit_states x front ≡ take (length (nexts (shown_events front))) (commit_states x (front ++ rest))
  front_states [] rest = refl
  front_states (y ∷ front) rest = states_at y.atom.event y (shown_events front) (commit_states x front) (commit_states x (front ++ rest)) (front_states front rest)

  -- small steps without events commit nothing
  silent_at : (e : Option JournalEvent) (y : Small) (es : List JournalEvent) (ss : List walked.State) → at_event (λ e y. e) e y es ≡ [] → (es ≡ [] → ss ≡ []) → if_commit e (state_at y) ss ≡ []
  silent_at None y es ss none h = h none
  silent_at (Some e) y es ss none h = absurd (let clash : e ∷ es ≡ [] = none in cc clash)

  pub silent_states : (xs : Smalls) → shown_events xs ≡ [] → commit_states x xs ≡ []
  silent_states [] none = refl
  silent_states (y ∷ xs) none = silent_at y.atom.event y (shown_events xs) (commit_states x xs) none (λ quiet. silent_states xs quiet)

  pub states_more : (xs ys : Smalls) → commit_states x (xs ++ ys) ≡ commit_states x xs ++ commit_states x ys
  states_more [] ys = refl
  states_more (y ∷ xs) ys = by y.atom.event (states_more xs ys)
    where
      by : (e : Option JournalEvent) → commit_states x (xs ++ ys) ≡ commit_states x xs ++ commit_states x ys → if_commit e (state_at y) (commit_states x (xs ++ ys)) ≡ if_commit e (state_at y) (commit_states x xs) ++ commit_states x ys
      by None h = h
      by (Some (begins t)) h = h
      by (Some (looks k t)) h = h
      by (Some (keeps k value)) h = h
      by (Some (drops k)) h = h
      by (Some (issues k q args reading)) h = h
      by (Some (seals k)) h = h
      by (Some (copies k from to n)) h = h
      by (Some (commits next)) h = ap (λ ss. state_at y ∷ ss) h
      by (Some (traps code)) h = h

-- ---- the last event is a commit

-- small steps whose last event is this
pub record EndsBy (e : JournalEvent) (before : List JournalEvent) (xs : Smalls) : Type 0 where
  pub front : Smalls
  pub last : Small
  pub behind : Smalls
  pub whole : front ++ last ∷ behind ≡ xs
  pub event : last.atom.event ≡ Some e
  pub shown : shown_events front ≡ before
  pub quiet : shown_events behind ≡ []

-- events behind one that is taken off
abbrev head_of : JournalEvent → List JournalEvent → JournalEvent
head_of e [] = e
head_of e (f ∷ fs) = f

abbrev tail_of : List JournalEvent → List JournalEvent
tail_of [] = []
tail_of (f ∷ fs) = fs

first_event : (e : JournalEvent) (y : Small) (xs : Smalls) (o : Option JournalEvent) → y.atom.event ≡ o → at_event (λ e y. e) o y (shown_events xs) ≡ e ∷ [] → ((shown_events xs ≡ e ∷ []) → EndsBy e [] xs) → EndsBy e [] (y ∷ xs)
first_event e y xs None is shown later =
    let h : EndsBy e [] xs = later shown in
    record { front = y ∷ h.front; last = h.last; behind = h.behind; whole = ap (λ (zs : Smalls). y ∷ zs) h.whole; event = h.event; shown = ap (λ o. at_event (λ e y. e) o y (shown_events h.front)) is ∙ h.shown; quiet = h.quiet }
first_event e y xs (Some f) is shown later = record {
  front = [];
  last = y;
  behind = xs;
  whole = refl;
  event = is ∙ ap (λ es. Some (head_of e es)) shown;
  shown = refl;
  quiet = ap tail_of shown;
}

next_event : (e d : JournalEvent) (before : List JournalEvent) (y : Small) (xs : Smalls) (o : Option JournalEvent) → y.atom.event ≡ o → at_event (λ e y. e) o y (shown_events xs) ≡ (d ∷ before) ++ e ∷ []
    → (shown_events xs ≡ (d ∷ before) ++ e ∷ [] → EndsBy e (d ∷ before) xs) → (shown_events xs ≡ before ++ e ∷ [] → EndsBy e before xs) → EndsBy e (d ∷ before) (y ∷ xs)
next_event e d before y xs None is shown same fewer =
    let h : EndsBy e (d ∷ before) xs = same shown in
    record { front = y ∷ h.front; last = h.last; behind = h.behind; whole = ap (λ (zs : Smalls). y ∷ zs) h.whole; event = h.event; shown = ap (λ o. at_event (λ e y. e) o y (shown_events h.front)) is ∙ h.shown; quiet = h.quiet }
next_event e d before y xs (Some f) is shown same fewer =
    let h : EndsBy e before xs = fewer (ap tail_of shown) in
    let first : f ≡ d = ap (head_of e) shown in
    record { front = y ∷ h.front; last = h.last; behind = h.behind; whole = ap (λ (zs : Smalls). y ∷ zs) h.whole; event = h.event; shown = ap (λ o. at_event (λ e y. e) o y (shown_events h.front)) is ∙ (λ i. first i ∷ h.shown i); quiet = h.quiet }

empty_no : (e : JournalEvent) (before : List JournalEvent) → [] ≡ before ++ e ∷ [] → ⊥
empty_no e [] is = cc is
empty_no e (d ∷ before) is = cc is

pub ends_by : (e : JournalEvent) (before : List JournalEvent) (xs : Smalls) → shown_events xs ≡ before ++ e ∷ [] → EndsBy e before xs
ends_by e before [] shown = absurd (empty_no e before shown)
ends_by e [] (y ∷ xs) shown = first_event e y xs y.atom.event refl shown (λ same. ends_by e [] xs same)
ends_by e (d ∷ before) (y ∷ xs) shown = next_event e d before y xs y.atom.event refl shown (λ same. ends_by e (d ∷ before) xs same) (λ fewer. ends_by e before xs fewer)

-- ---- behind it

pub after_more : (s : State) (xs ys : Smalls) → after s (xs ++ ys) ≡ after (after s xs) ys
after_more s [] ys = refl
after_more s (x ∷ xs) ys = after_more x.after xs ys

-- what holds of a run holds of its front and of what comes behind one
to_front : (e : Option JournalEvent) (x : Small) (xs ys : Smalls) → CommitsTo e x (xs ++ ys) → CommitsTo e x xs
to_front None x xs ys h = tt
to_front (Some (begins t)) x xs ys h = tt
to_front (Some (looks k t)) x xs ys h = tt
to_front (Some (keeps k value)) x xs ys h = tt
to_front (Some (drops k)) x xs ys h = tt
to_front (Some (issues k q args reading)) x xs ys h = tt
to_front (Some (seals k)) x xs ys h = tt
to_front (Some (copies k from to n)) x xs ys h = tt
to_front (Some (commits next)) x [] ys h = (h.0, tt)
to_front (Some (commits next)) x (y ∷ []) ys h = (h.0, (h.1.0, tt))
to_front (Some (commits next)) x (y ∷ z ∷ xs) ys h = (h.0, (h.1.0, h.1.1))
to_front (Some (traps code)) x xs ys h = tt

pub front_ends : (xs ys : Smalls) → CommitsEnd (xs ++ ys) → CommitsEnd xs
front_ends [] ys h = tt
front_ends (x ∷ xs) ys h = (to_front x.atom.event x xs ys h.0, front_ends xs ys h.1)

pub back_ends : (xs ys : Smalls) → CommitsEnd (xs ++ ys) → CommitsEnd ys
back_ends [] ys h = h
back_ends (x ∷ xs) ys h = back_ends xs ys h.1

-- behind a commit nothing changes before the next event
quiet_none : (e : Option JournalEvent) (y : Small) (es : List JournalEvent) → at_event (λ e y. e) e y es ≡ [] → (e ≡ None) × (es ≡ [])
quiet_none None y es none = (refl, none)
quiet_none (Some e) y es none = absurd (let clash : e ∷ es ≡ [] = none in cc clash)

quiet_end : (x : Small) (ys : Smalls) → EndsThere x ys → shown_events ys ≡ [] → after x.after ys ≡ x.after
quiet_end x [] h none = refl
quiet_end x (y ∷ []) h none = h.0
quiet_end x (y ∷ z ∷ ys) h none =
    let first = quiet_none y.atom.event y (shown_events (z ∷ ys)) none in
    let second = quiet_none z.atom.event z (shown_events ys) first.1 in
    absurd (h.1 second.0)

pub record StaysThere (next : ℕ) (s : State) (x : Small) (front behind : Smalls) : Type 0 where
  pub task : x.after.task ≡ next
  pub same : after s (front ++ x ∷ behind) ≡ x.after

pub commit_stays : (next : ℕ) (s : State) (x : Small) (front behind : Smalls) → x.atom.event ≡ Some (commits next) → CommitsEnd (front ++ x ∷ behind) → shown_events behind ≡ [] → StaysThere next s x front behind
commit_stays next s x front behind is ends quiet =
    let here : CommitsEnd (x ∷ behind) = back_ends front (x ∷ behind) ends in
    let to : (x.after.task ≡ next) × EndsThere x behind = subst (λ e. CommitsTo e x behind) is here.0 in
    record { task = to.0; same = after_more s front (x ∷ behind) ∙ quiet_end x behind to.1 quiet }
