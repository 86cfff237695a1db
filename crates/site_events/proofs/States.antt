-- The states that a plan's commits show are those of the rules' commits.
use Rattle.std.proofs.Common.{◌≡◌, ◌∙◌, ◌⊎◌, inl, inr, ℕ, zero, suc, List, [], ◌∷◌, ◌++◌, length, take, refl, ap, subst}
use Rattle.std.specs.Prelude.{Option, Some, None}
use Rattle.walk_run.specs.declared.walked.State as walked
use Rattle.walk_run.specs.Store.{Store, shown_words}
use Rattle.devices.specs.Journal.{JournalEvent, begins, looks, keeps, drops, issues, seals, copies, commits, traps}
use Rattle.task_attempts.specs.State.{Standing, Logged, Log}
use Rattle.attempt_laws.specs.Runs.{state_in, states_in}
use Rattle.run_plan.specs.Runs.{Small, Smalls, Planned, at_event, shown_events, committed_words, if_commit, commit_states}
use Rattle.plan_restore.specs.Kept.{committed_by, IsCommit, AreKept}
use Rattle.site_events.specs.Telling.{LeadsTo, IsOver, TellsAt, Tells}
use Rattle.site_events.proofs.Cuts.{none_taken}

module _ (p : Planned) where
  -- the state that a commit shows
  abbrev state_at : Small → walked.State
  state_at x = record { next = x.after.task; words = committed_words p.plan.scheme p.rules.core x.after }

  -- what is kept where a commit is
  abbrev Shown : Option JournalEvent → Store → Small → Type 0
  Shown o now x = IsCommit o → committed_words p.plan.scheme p.rules.core x.after ≡ shown_words p.rules.core.arrays now.words

  one_state : (ev : JournalEvent) (x : Small) (now : Store) (l : Logged) (rest : List walked.State) → Shown (Some ev) now x → now ≡ l.after.committed → LeadsTo ev x.after.task
      → if_commit (Some ev) (state_at x) rest ≡ state_in p.rules.core ev l.after ++ rest
  one_state (begins t) x now l rest kept is leads = refl
  one_state (looks k t) x now l rest kept is leads = refl
  one_state (keeps k value) x now l rest kept is leads = refl
  one_state (drops k) x now l rest kept is leads = refl
  one_state (issues k q args reading) x now l rest kept is leads = refl
  one_state (seals k) x now l rest kept is leads = refl
  one_state (copies k from to n) x now l rest kept is leads = refl
  one_state (commits next) x now l rest kept is leads =
      let words = kept tt ∙ ap (λ (st : Store). shown_words p.rules.core.arrays st.words) is in
      λ i. record { next = leads i; words = words i } ∷ rest
  one_state (traps code) x now l rest kept is leads = refl

  states_at : (o : Option JournalEvent) (now : Store) (st : Standing) (x : Small) (xs : Smalls) (es : List JournalEvent) (rest : List walked.State) (behind : Standing → Log → Type 0) → (xs ≡ [] → (rest ≡ []) × (es ≡ []))
      → ((st : Standing) (log : Log) → now ≡ st.committed → behind st log → rest ≡ states_in p.rules.core (take (length es) log)) → Shown o now x
      → (log : Log) → TellsAt p o now st x xs log behind → (o ≡ None → now ≡ st.committed) → if_commit o (state_at x) rest ≡ states_in p.rules.core (take (length (at_event (λ e x. e) o x es)) log)
  states_at None now st x xs es rest behind over more kept log h is = more st log (is refl) h.1
  states_at (Some ev) now st x xs es rest behind over more kept [] h is = absurd h
  states_at (Some ev) now st x xs es rest behind over more kept (l ∷ log) h is =
      one_state ev x now l rest kept h.0.committed h.0.leads ∙ (λ i. state_in p.rules.core (h.0.event i) l.after ++ (by_end h.1) i)
    where
      none_told : (fs : List JournalEvent) (ss : List walked.State) → fs ≡ [] → ss ≡ [] → ss ≡ states_in p.rules.core (take (length fs) log)
      none_told [] ss none empty = empty
      none_told (f ∷ fs) ss none empty = absurd (cc none)

      by_end : IsOver ev xs ⊎ behind l.after log → rest ≡ states_in p.rules.core (take (length es) log)
      by_end (inl ended) = none_told es rest (over ended.none).1 (over ended.none).0
      by_end (inr told) = more l.after log h.0.committed told

  -- from a standing on, with the store that is committed there
  pub states_told : (m : ℕ) (left : Store) (st : Standing) (xs : Smalls) (log : Log) → AreKept p st.committed left (take m xs) → Tells p m left st xs log
      → commit_states p (take m xs) ≡ states_in p.rules.core (take (length (shown_events (take m xs))) log)
  states_told zero left st xs log kept h = refl
  states_told (suc m) left st [] log kept h = refl
  states_told (suc m) left st (x ∷ xs) log kept h =
      states_at x.atom.event (committed_by x.atom.event left st.committed) st x xs (shown_events (take m xs)) (commit_states p (take m xs)) (λ st' log'. Tells p m x.after.store st' xs log')
      (λ none. (ap (commit_states p) (none_taken m xs none), ap shown_events (none_taken m xs none)))
      (λ st' log' is more. states_told m x.after.store st' xs log' (subst (λ e. AreKept p e x.after.store (take m xs)) is kept.1) more)
      kept.0.commit log h (λ none. ap (λ o. committed_by o left st.committed) none)
