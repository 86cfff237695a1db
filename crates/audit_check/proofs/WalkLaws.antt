-- Calls, blocks, copies, statements and attempts go along the rules.
use Rattle.std.proofs.Common.{◌≡◌, ℕ, ◌<◌, min, List, [], ◌∷◌, ◌++◌, length, filter, slice_index_or, Option, Some, None, Result, Ok, Err, refl, sym, ap, ◌∙◌, subst, append_assoc, append-nil}
use Rattle.std.specs.List.{range_with_len}
use Rattle.std.specs.Option.{option_map}
use Rattle.task_ast.specs.declared.core_form.CoreExpr.{CoreExpr}
use Rattle.task_ast.specs.declared.core_form.CoreTarget.{CoreTarget}
use Rattle.io_annot.specs.declared.choice.Mode.{Mode}
use Rattle.io_annot.specs.declared.choice.Mode.TheVariants as mode
use Rattle.io_annot.specs.declared.choice.Choice.{Choice}
use Rattle.io_annot.specs.declared.choice.Choice.TheVariants as choice
use Rattle.io_annot.specs.Choice as choices
use Rattle.io_depend.specs.Depend.{dependents}
use Rattle.io_depend.specs.Told.{tells_later}
use Rattle.walk_run.specs.declared.trap.Trap.{Trap}
use Rattle.walk_run.specs.declared.place.Place.{Place}
use Rattle.walk_run.specs.Store.{Store, put_word}
use Rattle.walk_run.specs.Value.{target_place}
use Rattle.walk_run.specs.PlainSteps.{target_steps}
use Rattle.block_scope.specs.Enter.{entered}
use Rattle.devices.specs.Reading.{values_in}
use Rattle.devices.specs.declared.world.Feed.{Feed}
use Rattle.devices.specs.declared.world.World.{World}
use Rattle.devices.specs.Journal.{JournalEvent, keeps}
use Rattle.task_attempts.specs.State.{Setting, Record, of_reading, of_block, of_copy, Standing, Here, arguments, Rest}
use Rattle.task_attempts.specs.Changes as changes
use Rattle.task_attempts.specs.Changes.{with_looks, spent}
use Rattle.task_attempts.specs.Blocks as blocks
use Rattle.task_attempts.specs.Blocks.{stamp_in}
use Rattle.task_attempts.specs.Costs.{call_steps, block_steps}
use Rattle.task_attempts.specs.Told.{drop_one, drop_all, seal, look, unless_trap}
use Rattle.task_attempts.specs.Values.{value, values, reading_place, put_into}
use Rattle.task_attempts.specs.Calls.{annotation, number_of, issue, issue_anew, kept_in, issued_with, by_choice, by_record, call_inside, call_log}
use Rattle.audit_check.specs.declared.journal.TimedEvent.{TimedEvent}
use Rattle.audit_check.specs.declared.walking.Kept.TheVariants as kept
use Rattle.audit_check.specs.declared.around.Around.{Around}
use Rattle.audit_check.specs.Leads.{Awaited, Reached}
use Rattle.audit_check.specs.Walking.{Walking, Way, moved, chain, record_at, dropped, dropped_from, sealed, issued_now, looked, found, word, words_behind, reading_target, with_store, put_reading}
use Rattle.audit_check.specs.Walked.{setting_of, DropsRight, annotation_at, number_at, kept_reading, issued_anew, read_by, choice_of, call_walked, kept_stamp, with_mode, inside_of, block_sealed, block_ended, block_walked}
use Rattle.audit_check.specs.Tracks.{events, kept_of, Knows, IsAt, from_here, Follows, Tracks}
use Rattle.audit_check.proofs.TrackLaws.{leads_then, behind, at_once, told_tracks, found_tracks, tracks_then}
use Rattle.audit_check.proofs.LeafLaws.{dropped_tracks, sealed_tracks, dropped_from_tracks, looked_tracks, issued_tracks, word_tracks}

module _ (feeds : List Feed) where
  -- a part of the rules that is another one said otherwise
  same_part : {A : Type 0} (part other : (A → Rest) → Rest) (step : Walking → Way A) → part ≡ other → Tracks feeds part step → Tracks feeds other step
  same_part part other step is tracks = subst (λ part. Tracks feeds part step) is tracks

  -- a value that is handed on otherwise
  handed : {A B : Type 0} (way : Way A) (y : A → B) (go : B → Rest) (es : List JournalEvent) (s : Standing) (f : List ℕ → _) → Follows feeds way (λ x. go (y x)) es s f → Follows feeds (chain way (λ x w. moved (y x) w)) go es s f
  handed (Ok m) y go es s f at = at
  handed (Err w) y go es s f at = at

  -- words that are valued, behind those that are
  pub words_tracks : (es : List CoreExpr) (words : List ℕ) → Tracks feeds (λ go. values es (λ ws. go (words ++ ws))) (words_behind words es)
  words_tracks [] words w here s go at knows =
      at_once feeds words go w w here here s _ (λ i. from_here (go (append-nil words i)) here) refl at knows
  words_tracks (e ∷ es) words w here s go at knows =
      tracks_then feeds (λ go. value e go) (word e) (λ x go. values es (λ ws. go (words ++ x ∷ ws))) (λ x w. words_behind (words ++ x ∷ []) es w) (word_tracks feeds e)
      (λ x w here s go at knows. subst (λ (f : List ℕ → List ℕ). Reached (events w.rest) s (from_here (values es (λ ws. go (f ws))) here) (Follows feeds (words_behind (words ++ x ∷ []) es w) go))
      (λ i ws. append_assoc words (x ∷ []) ws i) (words_tracks es (words ++ x ∷ []) w here s go at knows))
      w here s go at knows

  -- a step of which it is known where it leads, and then what its value asks for
  pub then_at : {A B : Type 0} (part : A → (B → Rest) → Rest) (next : A → Walking → Way B) (go : B → Rest) (w : Walking) (s : Standing) (f : Awaited) (way : Way A)
      → Reached (events w.rest) s f (Follows feeds way (λ x. part x go)) → ((x : A) → Tracks feeds (part x) (next x)) → Reached (events w.rest) s f (Follows feeds (chain way next) go)
  then_at part next go w s f way one more =
      leads_then one.0 (events w.rest) s f (Follows feeds way (λ x. part x go)) (Follows feeds (chain way next) go) one.1 (behind feeds part next go way more)

  -- a part that begins with some steps
  pub spending : {A : Type 0} (n : ℕ) (part : (A → Rest) → Rest) (step : Walking → Way A) → Tracks feeds part step → Tracks feeds (λ go here. part go (spent n here)) step
  spending n part step tracks w here s go at knows =
      tracks w (spent n here) s go (record { knows = at.knows; store = at.store; mode = at.mode }) knows

  -- what is found in the store, or a trap
  pub found_there : {A : Type 0} (what : Store → Result A Trap) (n : ℕ) → Tracks feeds (λ go here. unless_trap (what here.store) go (spent n here)) (λ w. found (what w.store) w)
  found_there what n w here s go at knows =
      subst (λ store. Reached (events w.rest) s (from_here (λ here. unless_trap (what here.store) go (spent n here)) here) (Follows feeds (found (what store) w) go)) at.store
      (found_tracks feeds (what here.store) go w (spent n here) s (record { knows = at.knows; store = at.store; mode = at.mode }) knows)

  pub handed_on : {A B : Type 0} (part : (A → Rest) → Rest) (step : Walking → Way A) (y : A → B) → Tracks feeds part step → Tracks feeds (λ go. part (λ x. go (y x))) (λ w. chain (step w) (λ x w. moved (y x) w))
  handed_on part step y tracks w here s go at knows =
      let one = tracks w here s (λ x. go (y x)) at knows in
      leads_then one.0 (events w.rest) s (from_here (part (λ x. go (y x))) here) (Follows feeds (step w) (λ x. go (y x))) (Follows feeds (chain (step w) (λ x w. moved (y x) w)) go) one.1
      (λ es s f at. (0, handed (step w) y go es s f at))

  -- a target
  target_tracks : (onto : Option CoreTarget) → Tracks feeds (λ go. reading_place onto go) (reading_target onto)
  unfolding reading_target
  target_tracks None w here s go at knows = at_once feeds None go w w here here s (from_here (go None) here) refl refl at knows
  target_tracks (Some t) w here s go at knows =
      handed_on (λ go here. unless_trap (target_place t here.store) go (spent (target_steps t) here)) (λ w. found (target_place t w.store) w) Some (found_there (target_place t) (target_steps t)) w here s go at knows

  -- a reading goes to its target
  put_tracks : (at : Option Place) (r : ℕ) → Tracks feeds (λ go here. go tt (put_into at r here)) (λ w. moved {A = Unit {0}} tt (put_reading at r w))
  unfolding put_reading
  put_tracks None r w here s go at knows = at_once feeds tt go w w here here s (from_here (go tt) here) refl refl at knows
  put_tracks (Some place) r w here s go at knows =
      let n = at.knows in
      let known : (store : Store) → Knows feeds (with_store store w) here.standing = λ store.
      record { readings = n.readings; committed = n.committed; next = n.next; sites = n.sites; records = n.records; peripherals = n.peripherals; issued = n.issued } in
      let knows_still : Knows feeds (with_store (put_word place r w.store) w) s =
      record { readings = knows.readings; committed = knows.committed; next = knows.next; sites = knows.sites; records = knows.records; peripherals = knows.peripherals; issued = knows.issued } in
      at_once feeds tt go w (with_store (put_word place r w.store) w) here (put_into (Some place) r here) s (from_here (go tt) (put_into (Some place) r here)) refl refl
      (record { knows = known (put_word place r w.store); store = ap (put_word place r) at.store; mode = at.mode }) knows_still

-- ---- calls

-- what is kept of a reading's record
kept_value : (r : Option Record) → kept_reading (option_map kept_of r) ≡ kept_in r
kept_value None = refl
kept_value (Some (of_reading value stamp args)) = refl
kept_value (Some (of_block stamp)) = refl
kept_value (Some (of_copy class to from words)) = refl

module _ (world : World) (a : Around) (numbers : (p : ℕ) → number_at a p < 256) where
  abbrev S : Setting
  S = setting_of world a

  issued_anew_tracks : (k p : ℕ) (args : List ℕ) (t : ℕ) → p < 256 → DropsRight a k → Tracks world.feeds (λ go. issue_anew S k p args t go) (issued_anew a k p args t)
  unfolding issued_anew
  issued_anew_tracks k p args t few right =
      let n = length a.task.now.sites in
      let wanted = tells_later a.depends.now k in
      let after : (ℕ → Rest) → Rest = λ go. issue S k p args (λ r. seal k (of_reading r t args) (go r)) in
      let issuing : Walking → Way ℕ = λ w. chain (issued_now k p args w) (λ r w. chain (sealed k (kept.Reading r t) w) (λ _ w. moved r w)) in
      let dropping : Walking → Way ℕ = λ w. chain (dropped_from wanted 1 n w) (λ _ w. issuing w) in
      let issues_on : Tracks world.feeds after issuing =
      tracks_then world.feeds (λ go. issue S k p args go) (issued_now k p args) (λ r go. seal k (of_reading r t args) (go r)) (λ r w. chain (sealed k (kept.Reading r t) w) (λ _ w. moved r w))
      (issued_tracks world.feeds S k p args few refl) (λ r. handed_on world.feeds (λ go. seal k (of_reading r t args) (go tt)) (sealed k (kept.Reading r t)) (λ _. r) (sealed_tracks world.feeds k (of_reading r t args))) in
      let drops_on : Tracks world.feeds (λ go. drop_all (filter wanted (range_with_len 1 n)) (after go)) dropping =
      tracks_then world.feeds (λ go. drop_all (filter wanted (range_with_len 1 n)) (go tt)) (dropped_from wanted 1 n) (λ _ go. after go) (λ _ w. issuing w) (dropped_from_tracks world.feeds wanted 1 n) (λ _. issues_on) in
      tracks_then world.feeds (λ go. drop_one k (go tt)) (dropped k) (λ _ go. drop_all (dependents a.task.now k) (after go)) (λ _ w. dropping w) (dropped_tracks world.feeds k)
      (λ _. subst (λ ks. Tracks world.feeds (λ go. drop_all ks (after go)) dropping) right drops_on)

  -- the same place with other events to come
  at_rest : (w : Walking) (here : Here) (rest : List TimedEvent) → IsAt world.feeds w here → IsAt world.feeds (record w { rest = rest }) here
  at_rest w here rest at =
      let n = at.knows in
      record {
        knows = record { readings = n.readings; committed = n.committed; next = n.next; sites = n.sites; records = n.records; peripherals = n.peripherals; issued = n.issued };
        store = at.store;
        mode = at.mode;
      }

  read_tracks : (k p : ℕ) (made args : List ℕ) (t : ℕ) (ch : Choice) → p < 256 → DropsRight a k → Tracks world.feeds (λ go. by_choice S k p made args t go ch) (read_by a k p args t ch)
  unfolding read_by
  read_tracks k p made args t (choice.Keep v) few right w here s go at knows =
      told_tracks world.feeds (keeps k v) (Some (record { made_with = arguments made; valued = arguments args })) v go w (λ w. w) here s refl (λ rest. refl) (λ rest. at_rest w here rest at) knows
  read_tracks k p made args t choice.Issue few right w here s go at knows = issued_anew_tracks k p args t few right w here s go at knows

  -- behind the look it goes by its record
  reads_tracks : (k p : ℕ) (args : List ℕ) (t : ℕ) → p < 256 → k < 129 → DropsRight a k
      → Tracks world.feeds (λ go here. by_record S k p args t go (here.standing.account.records k) here) (λ w. read_by a k p args t (choice_of a k t w) w)
  reads_tracks k p args t few there right w here s go at knows =
      let r = here.standing.account.records k in
      let ch = choices.choice here.mode (annotation S k) (kept_in r) t in
      let kept_now : kept_reading (record_at k w.records) ≡ kept_in r = ap kept_reading (at.knows.records k there) ∙ kept_value r in
      let same : ch ≡ choice_of a k t w = λ i. choices.choice (at.mode i) (annotation_at a k) (sym kept_now i) t in
      subst (λ c. Reached (events w.rest) s (from_here (λ here. by_record S k p args t go (here.standing.account.records k) here) here) (Follows world.feeds (read_by a k p args t c w) go)) same
      (read_tracks k p (issued_with r) args t ch few right w here s go at knows)

  pub call_tracks : (k : ℕ) (onto : Option CoreTarget) (p : ℕ) (args : List CoreExpr) → k < 129 → DropsRight a k → Tracks world.feeds (λ go. call_log S k onto p args (go tt)) (call_walked a k onto p args)
  unfolding call_walked
  call_tracks k onto p args there right =
      spending world.feeds (call_steps a.task.now k) (λ go. reading_place onto (λ at. values args (λ words. look k (call_inside S k (number_of S p) at words (go tt))))) _
      (tracks_then world.feeds (λ go. reading_place onto go) (reading_target onto) (λ at go. values args (λ words. look k (call_inside S k (number_of S p) at words (go tt)))) _ (target_tracks world.feeds onto) (λ at.
      tracks_then world.feeds (λ go. values args go) (words_behind [] args) (λ words go. look k (call_inside S k (number_of S p) at words (go tt))) _ (words_tracks world.feeds args []) (λ words.
      tracks_then world.feeds (λ go. look k go) (looked k) (λ t go. call_inside S k (number_of S p) at words (go tt) t) _ (looked_tracks world.feeds k) (λ t.
      tracks_then world.feeds (λ go here. by_record S k (number_of S p) words t go (here.standing.account.records k) here) (λ w. read_by a k (number_at a p) words t (choice_of a k t w) w)
      (λ r go here. go tt (put_into at r here)) (λ r w. moved tt (put_reading at r w)) (reads_tracks k (number_of S p) words t (numbers p) there right) (λ r. put_tracks world.feeds at r)))))

-- ---- blocks

-- what is kept of a block's record
kept_time : (r : Option Record) → kept_stamp (option_map kept_of r) ≡ stamp_in r
kept_time None = refl
kept_time (Some (of_reading value stamp args)) = refl
kept_time (Some (of_block stamp)) = refl
kept_time (Some (of_copy class to from words)) = refl

module _ (feeds : List Feed) where
  -- another mode, and another store
  pub knows_as : (w v : Walking) (s : Standing) → v.feeds ≡ w.feeds → v.committed ≡ w.committed → v.next ≡ w.next → v.records ≡ w.records → v.issued ≡ w.issued → Knows feeds w s → Knows feeds v s
  knows_as w v s readings committed next records issued n = record {
    readings = readings ∙ n.readings;
    committed = n.committed ∙ sym committed;
    next = n.next ∙ sym next;
    sites = ap length records ∙ n.sites;
    records = λ k few. ap (record_at k) records ∙ n.records k few;
    peripherals = ap length issued ∙ n.peripherals;
    issued = λ p few. (λ i. count_in p (issued i)) ∙ n.issued p few ∙ (λ i. min (s.account.issued p) (length (values_in (sym readings i) p)));
  }
    where
      count_in : ℕ → List ℕ → ℕ
      count_in p counts = slice_index_or counts p 0

  mode_tracks : (m : Mode) → Tracks feeds (λ go here. go tt (changes.with_mode m here)) (λ w. moved {A = Unit {0}} tt (with_mode m w))
  mode_tracks m w here s go at knows =
      at_once feeds tt go w (with_mode m w) here (changes.with_mode m here) s (from_here (go tt) (changes.with_mode m here)) refl refl
      (record { knows = knows_as w (with_mode m w) here.standing refl refl refl refl refl at.knows; store = at.store; mode = refl })
      (knows_as w (with_mode m w) s refl refl refl refl refl knows)

  sealed_block_tracks : (k t : ℕ) (m : Mode) → Tracks feeds (λ go. blocks.block_sealed k t m (go tt)) (block_sealed k t m)
  unfolding block_sealed
  sealed_block_tracks k t mode.Keep w here s go at knows = at_once feeds tt go w w here here s (from_here (go tt) here) refl refl at knows
  sealed_block_tracks k t mode.Own w here s go at knows =
      tracks_then feeds (λ go. drop_one k (go tt)) (dropped k) (λ _ go. seal k (of_block t) (go tt)) (λ _ w. sealed k (kept.Block t) w) (dropped_tracks feeds k) (λ _. sealed_tracks feeds k (of_block t)) w here s go at knows
  sealed_block_tracks k t mode.Force w here s go at knows =
      tracks_then feeds (λ go. drop_one k (go tt)) (dropped k) (λ _ go. seal k (of_block t) (go tt)) (λ _ w. sealed k (kept.Block t) w) (dropped_tracks feeds k) (λ _. sealed_tracks feeds k (of_block t)) w here s go at knows

  block_end_tracks : (k t : ℕ) (outside inside : Mode) → Tracks feeds (λ go. blocks.block_end k t outside inside (go tt)) (block_ended k t outside inside)
  unfolding block_ended
  block_end_tracks k t outside inside =
      spending feeds block_steps (λ go. blocks.block_sealed k t inside (λ after. go tt (changes.with_mode outside after))) _
      (tracks_then feeds (λ go. blocks.block_sealed k t inside (go tt)) (block_sealed k t inside) (λ _ go here. go tt (changes.with_mode outside here)) (λ _ w. moved tt (with_mode outside w)) (sealed_block_tracks k t inside) (λ _. mode_tracks outside))

module _ (world : World) (a : Around) where
  -- a block's body, and its end
  body_tracks : (k t : ℕ) (body : Rest → Rest) (step : Walking → Way (Unit {0})) → k < 129 → Tracks world.feeds (λ go. body (go tt)) step
      → Tracks world.feeds (λ go. blocks.block_inside (setting_of world a) k body (go tt) t) (λ w. chain (step (with_mode (inside_of a k t w) w)) (λ _ v. block_ended k t w.mode (inside_of a k t w) v))
  body_tracks k t body step there tracks w here s go at knows =
      let outside = here.mode in
      let m = entered here.mode (annotation_at a k) (stamp_in (here.standing.account.records k)) t in
      let stamp : kept_stamp (record_at k w.records) ≡ stamp_in (here.standing.account.records k) = ap kept_stamp (at.knows.records k there) ∙ kept_time (here.standing.account.records k) in
      let same : m ≡ inside_of a k t w = λ i. entered (at.mode i) (annotation_at a k) (sym stamp i) t in
      let go_on : Unit {0} → (Unit {0} → Rest) → Rest = λ _ go. blocks.block_end k t outside m (go tt) in
      let first = tracks (with_mode m w) (changes.with_mode m here) s (λ x. go_on x go)
      (record { knows = knows_as world.feeds w (with_mode m w) here.standing refl refl refl refl refl at.knows; store = at.store; mode = refl })
      (knows_as world.feeds w (with_mode m w) s refl refl refl refl refl knows) in
      let all = then_at world.feeds go_on (λ _ v. block_ended k t outside m v) go w s (from_here (blocks.block_inside (setting_of world a) k body (go tt) t) here) (step (with_mode m w)) first (λ _. block_end_tracks world.feeds k t outside m) in
      subst (λ m. Reached (events w.rest) s (from_here (blocks.block_inside (setting_of world a) k body (go tt) t) here) (Follows world.feeds (chain (step (with_mode m w)) (λ _ v. block_ended k t w.mode m v)) go)) same
      (subst (λ o. Reached (events w.rest) s (from_here (blocks.block_inside (setting_of world a) k body (go tt) t) here) (Follows world.feeds (chain (step (with_mode m w)) (λ _ v. block_ended k t o m v)) go)) at.mode all)

  pub block_tracks : (k : ℕ) (body : Rest → Rest) (step : Walking → Way (Unit {0})) → k < 129 → Tracks world.feeds (λ go. body (go tt)) step → Tracks world.feeds (λ go. blocks.block_log (setting_of world a) k body (go tt)) (block_walked a k step)
  block_tracks k body step there tracks =
      spending world.feeds block_steps (λ go. look k (blocks.block_inside (setting_of world a) k body (go tt))) _
      (tracks_then world.feeds (λ go. look k go) (looked k) (λ t go. blocks.block_inside (setting_of world a) k body (go tt) t) _ (looked_tracks world.feeds k) (λ t. body_tracks k t body step there tracks))
