-- Drops, seals, looks, issues and kept values go along the rules, and so does what is valued.
use Rattle.std.proofs.Common.{◌≡◌, ℕ, zero, suc, ◌+◌, ◌<◌, ◌==◌, min, Bool, true, false, cond, List, [], ◌∷◌, length, slice_set, slice_index_or, filter, Option, Some, None, Err, refl, sym, ap, ◌∙◌, subst, arith, get_or-set_same, get_or-set_other, length-set}
use Rattle.std.proofs.lemmas.Bool.{false≢true}
use Rattle.std.proofs.lemmas.Bool.Decides.{nat_tests}
use Rattle.std.specs.List.{range_with_len}
use Rattle.std.specs.Option.{option_map}
use Rattle.task_ast.specs.declared.core_form.CoreExpr.{CoreExpr}
use Rattle.walk_run.specs.Value.{value_of}
use Rattle.walk_run.specs.PlainSteps.{expr_steps}
use Rattle.devices.specs.declared.world.Feed.{Feed}
use Rattle.devices.specs.Reading.{values_in, reading, reading_in}
use Rattle.devices.specs.ReadingLaws.{reading_kept, count_kept}
use Rattle.devices.specs.Readings.{one_more}
use Rattle.devices.specs.Journal.{begins, looks, keeps, drops, issues, seals, copies, commits, traps}
use Rattle.task_attempts.specs.State.{Setting, Record, Standing, Here, Logged, Rest}
use Rattle.task_attempts.specs.Changes.{with_record, with_issue, spent}
use Rattle.task_attempts.specs.Told.{logged, drop_one, drop_all, seal, look, next_look}
use Rattle.task_attempts.specs.Calls.{issue}
use Rattle.task_attempts.specs.Values.{value}
use Rattle.audit_check.specs.declared.journal.ReportEvent.{ReportEvent}
use Rattle.audit_check.specs.declared.journal.ReportEvent.TheVariants as event
use Rattle.audit_check.specs.declared.journal.TimedEvent.{TimedEvent}
use Rattle.audit_check.specs.declared.walking.Kept.{Kept}
use Rattle.audit_check.specs.Journal.{place_of, event_of}
use Rattle.audit_check.specs.Same.{first_of}
use Rattle.audit_check.proofs.SameLaws.{itself, equal}
use Rattle.audit_check.specs.Leads.{IsNext, Reached}
use Rattle.audit_check.specs.Walking.{Walking, Way, moved, chain, taken, looked_of, looked_in, looked, record_at, with_kept, dropped, dropped_if, dropped_from, sealed, count_of, next_reading, with_count, issued_now, found, word}
use Rattle.audit_check.specs.Tracks.{events, kept_of, Knows, IsAt, from_here, Follows, Tracks}
use Rattle.audit_check.proofs.TrackLaws.{at_once, told_tracks, found_tracks, tracks_then, some_is, other_event}

-- ---- records

-- a record that is set
record_set : (xs : List (Option Kept)) (k j : ℕ) (r : Option Kept) → j < length xs → record_at j (slice_set xs k r) ≡ cond (k == j) r (record_at j xs)
record_set xs k j r within = by_test (k == j) refl
  where
    by_test : (t : Bool) → (k == j) ≡ t → record_at j (slice_set xs k r) ≡ cond t r (record_at j xs)
    by_test true is = grind (arith, nat_tests, get_or-set_same, get_or-set_other)
    by_test false is = grind (arith, nat_tests, get_or-set_same, get_or-set_other)

chosen_record : (t : Bool) (a b : Option Record) → cond t (option_map kept_of a) (option_map kept_of b) ≡ option_map kept_of (cond t a b)
chosen_record true a b = refl
chosen_record false a b = refl

module _ (feeds : List Feed) where
  knows_kept : (w : Walking) (here : Here) (k : ℕ) (r : Option Record) → Knows feeds w here.standing → Knows feeds (with_kept k (option_map kept_of r) w) (with_record k r here).standing
  knows_kept w here k r knows = record {
    readings = knows.readings;
    committed = knows.committed;
    next = knows.next;
    sites = length-set w.records k (option_map kept_of r) ∙ knows.sites;
    records = λ j within.
        let there : j < length w.records = omega (arith, within, knows.sites) in
        record_set w.records k j (option_map kept_of r) there
        ∙ ap (cond (k == j) (option_map kept_of r)) (knows.records j within)
        ∙ chosen_record (k == j) r (here.standing.account.records j);
    peripherals = knows.peripherals;
    issued = knows.issued;
  }

  at_kept : (w : Walking) (here : Here) (k : ℕ) (r : Option Record) (rest : List TimedEvent) → IsAt feeds w here → IsAt feeds (with_kept k (option_map kept_of r) (record w { rest = rest })) (with_record k r here)
  at_kept w here k r rest at =
      let knows = at.knows in
      record {
        knows = knows_kept (record w { rest = rest }) here k r (record { readings = knows.readings; committed = knows.committed; next = knows.next; sites = knows.sites; records = knows.records; peripherals = knows.peripherals; issued = knows.issued });
        store = at.store;
        mode = at.mode;
      }

  -- a record is dropped, and one is sealed
  pub dropped_tracks : (k : ℕ) → Tracks feeds (λ go. drop_one k (go tt)) (dropped k)
  unfolding dropped
  dropped_tracks k w here s go at knows =
      told_tracks feeds (drops k) None tt go w (with_kept k None) (with_record k None here) s refl (λ rest. refl) (λ rest. at_kept w here k None rest at) knows

  pub sealed_tracks : (k : ℕ) (r : Record) → Tracks feeds (λ go. seal k r (go tt)) (sealed k (kept_of r))
  unfolding sealed
  sealed_tracks k r w here s go at knows =
      told_tracks feeds (seals k) None tt go w (with_kept k (Some (kept_of r))) (with_record k (Some r) here) s refl (λ rest. refl) (λ rest. at_kept w here k (Some r) rest at) knows

  -- a record is dropped, where that is asked for
  more_dropped : (t : Bool) (k : ℕ) (ks : List ℕ) (step : Walking → Way (Unit {0})) → Tracks feeds (λ go. drop_all ks (go tt)) step
      → Tracks feeds (λ go. drop_all (cond t (k ∷ ks) ks) (go tt)) (λ w. chain (dropped_if t k w) (λ _ w. step w))
  unfolding dropped_if
  more_dropped true k ks step tracks = tracks_then feeds (λ go. drop_one k (go tt)) (dropped k) (λ _ go. drop_all ks (go tt)) (λ _ w. step w) (dropped_tracks k) (λ _. tracks)
  more_dropped false k ks step tracks = tracks

  pub dropped_from_tracks : (wanted : ℕ → Bool) (k left : ℕ) → Tracks feeds (λ go. drop_all (filter wanted (range_with_len k left)) (go tt)) (dropped_from wanted k left)
  dropped_from_tracks wanted k zero w here s go at knows = at_once feeds tt go w w here here s (from_here (go tt) here) refl refl at knows
  dropped_from_tracks wanted k (suc left) w here s go at knows =
      more_dropped (wanted k) k (filter wanted (range_with_len (k + 1) left)) (dropped_from wanted (k + 1) left) (λ w here s go at knows. dropped_from_tracks wanted (k + 1) left w here s go at knows) w here s go at knows

  -- ---- looks

  look_at : (k j t : ℕ) (go : ℕ → Rest) (w : Walking) (here : Here) (s : Standing) (rest : List TimedEvent) (test : Bool) → (j == k) ≡ test → IsAt feeds w here → Knows feeds w s → events w.rest ≡ looks j t ∷ events rest
      → Reached (looks j t ∷ events rest) s (from_here (look k go) here) (Follows feeds (cond {A = Way ℕ} test (moved t (record w { rest = rest })) (Err w)) go)
  look_at k j t go w here s rest true is at knows front =
      let site : j ≡ k = equal j k is in
      let l : Logged = logged (looks k t) None here in
      let same : looks j t ≡ looks k t = ap (λ k. looks k t) site in
      let next : IsNext (looks j t) (from_here (look k go) here) l (from_here (go t) here) = record { event = sym same; goes = λ times. refl } in
      let n = at.knows in
      let known : Knows feeds (record w { rest = rest }) here.standing =
      record { readings = n.readings; committed = n.committed; next = n.next; sites = n.sites; records = n.records; peripherals = n.peripherals; issued = n.issued } in
      (1, (l, from_here (go t) here, next, (refl, known, record { here = here; is_at = record { knows = known; store = at.store; mode = at.mode }; log = refl })))
  look_at k j t go w here s rest false is at knows front =
      (0, (sym front, knows, λ times same. false≢true (sym is ∙ ap (λ x. x == k) (sym (ap first_of (some_is (looks k t) (looks j t) same))) ∙ itself k)))

  look_event : (k : ℕ) (go : ℕ → Rest) (w : Walking) (here : Here) (s : Standing) (rest : List TimedEvent) (e : ReportEvent) → IsAt feeds w here → Knows feeds w s → events w.rest ≡ event_of e ∷ events rest
      → Reached (event_of e ∷ events rest) s (from_here (look k go) here) (Follows feeds (looked_of k w rest e) go)
  look_event k go w here s rest (event.Look j t) at knows front = look_at k j t go w here s rest (j == k) refl at knows front
  look_event k go w here s rest (event.Begin task) at knows front = (0, (sym front, knows, λ times is. other_event (looks k (next_look times)) (begins task) refl is))
  look_event k go w here s rest (event.Kept site value) at knows front = (0, (sym front, knows, λ times is. other_event (looks k (next_look times)) (keeps site value) refl is))
  look_event k go w here s rest (event.Drop site) at knows front = (0, (sym front, knows, λ times is. other_event (looks k (next_look times)) (drops site) refl is))
  look_event k go w here s rest (event.Issue site p args r) at knows front = (0, (sym front, knows, λ times is. other_event (looks k (next_look times)) (issues site p args r) refl is))
  look_event k go w here s rest (event.Seal site) at knows front = (0, (sym front, knows, λ times is. other_event (looks k (next_look times)) (seals site) refl is))
  look_event k go w here s rest (event.Copy site from to n) at knows front = (0, (sym front, knows, λ times is. other_event (looks k (next_look times)) (copies site (place_of from) (place_of to) n) refl is))
  look_event k go w here s rest (event.Commit next) at knows front = (0, (sym front, knows, λ times is. other_event (looks k (next_look times)) (commits next) refl is))
  look_event k go w here s rest (event.Trap code) at knows front = (0, (sym front, knows, λ times is. other_event (looks k (next_look times)) (traps code) refl is))

  look_in : (k : ℕ) (go : ℕ → Rest) (w : Walking) (here : Here) (s : Standing) (rest : List TimedEvent) → w.rest ≡ rest → IsAt feeds w here → Knows feeds w s
      → Reached (events rest) s (from_here (look k go) here) (Follows feeds (looked_in k w rest) go)
  look_in k go w here s [] is at knows = (0, (ap events (sym is), knows, tt))
  look_in k go w here s (x ∷ rest) is at knows = look_event k go w here s rest x.event at knows (ap events is)

  pub looked_tracks : (k : ℕ) → Tracks feeds (λ go. look k go) (looked k)
  unfolding looked
  looked_tracks k w here s go at knows = look_in k go w here s w.rest refl at knows

  -- ---- issues

  count_set : (xs : List ℕ) (p q x : ℕ) → q < length xs → slice_index_or (slice_set xs p x) q 0 ≡ cond (p == q) x (slice_index_or xs q 0)
  count_set xs p q x within = by_test (p == q) refl
    where
      by_test : (t : Bool) → (p == q) ≡ t → slice_index_or (slice_set xs p x) q 0 ≡ cond t x (slice_index_or xs q 0)
      by_test true is = grind (arith, nat_tests, get_or-set_same, get_or-set_other)
      by_test false is = grind (arith, nat_tests, get_or-set_same, get_or-set_other)

  count_by : (w : Walking) (issued : ℕ → ℕ) (p q : ℕ) (t : Bool) → (p == q) ≡ t → ((q : ℕ) → q < 256 → count_of q w ≡ min (issued q) (length (values_in w.feeds q))) → q < 256
      → cond t (one_more (values_in w.feeds p) (count_of p w)) (count_of q w) ≡ min (cond t (issued p + 1) (issued q)) (length (values_in w.feeds q))
  count_by w issued p q true is counts few =
      let here : p ≡ q = equal p q is in
      let count : count_of p w ≡ min (issued p) (length (values_in w.feeds p)) = counts p (omega (arith, here, few)) in
      ap (one_more (values_in w.feeds p)) count ∙ count_kept (values_in w.feeds p) (issued p)
      ∙ ap (λ q. min (issued p + 1) (length (values_in w.feeds q))) here
  count_by w issued p q false is counts few = counts q few

  at_issue : (w : Walking) (here : Here) (p : ℕ) (rest : List TimedEvent) → IsAt feeds w here → IsAt feeds (with_count p (record w { rest = rest })) (with_issue p here)
  at_issue w here p rest at =
      let n = at.knows in
      let more = one_more (values_in w.feeds p) (count_of p w) in
      record {
        knows = record {
          readings = n.readings;
          committed = n.committed;
          next = n.next;
          sites = n.sites;
          records = n.records;
          peripherals = length-set w.issued p more ∙ n.peripherals;
          issued = λ q few.
              count_set w.issued p q more (omega (arith, few, n.peripherals))
              ∙ count_by w here.standing.account.issued p q (p == q) refl n.issued few;
        };
        store = at.store;
        mode = at.mode;
      }

  pub issued_tracks : (setting : Setting) (k p : ℕ) (args : List ℕ) → p < 256 → setting.rules.world.feeds ≡ feeds → Tracks feeds (λ go. issue setting k p args go) (issued_now k p args)
  unfolding issued_now
  issued_tracks setting k p args few world w here s go at knows =
      let n = at.knows in
      let r = reading_in setting.rules.world.feeds p (here.standing.account.issued p + 1) in
      let values = values_in w.feeds p in
      let read : r ≡ next_reading p w =
      ap (λ feeds. reading (values_in feeds p) (here.standing.account.issued p + 1)) (world ∙ sym n.readings)
      ∙ sym (reading_kept values (here.standing.account.issued p)) ∙ ap (λ c. reading values (c + 1)) (sym (n.issued p few)) in
      subst (λ x. Reached (events w.rest) s (from_here (issue setting k p args go) here) (Follows feeds (chain (taken (issues k p args x) w) (λ _ v. moved x (with_count p v))) go)) read
      (told_tracks feeds (issues k p args r) None r go w (with_count p) (with_issue p here) s refl (λ rest. refl) (λ rest. at_issue w here p rest at) knows)

  -- ---- what is valued

  pub word_tracks : (e : CoreExpr) → Tracks feeds (λ go. value e go) (word e)
  unfolding word
  word_tracks e w here s go at knows =
      let spent_here = spent (expr_steps e) here in
      let there : IsAt feeds w spent_here = record { knows = at.knows; store = at.store; mode = at.mode } in
      subst (λ store. Reached (events w.rest) s (from_here (value e go) here) (Follows feeds (found (value_of e store) w) go)) at.store
      (found_tracks feeds (value_of e here.store) go w spent_here s there knows)
