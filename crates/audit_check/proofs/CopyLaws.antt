-- Copies go along the rules.
use Rattle.std.proofs.Common.{◌≡◌, ℕ, ◌<◌, List, [], length, Option, Some, None, Ok, Err, refl, sym, ap, subst}
use Rattle.std.specs.Option.{option_map}
use Rattle.task_ast.specs.declared.core_form.CoreExpr.{CoreExpr}
use Rattle.task_ast.specs.declared.core_form.CoreEnd.{CoreEnd}
use Rattle.region_split.specs.declared.class.DmaClass.{DmaClass}
use Rattle.region_split.specs.declared.class.DmaClass.TheVariants as class
use Rattle.region_split.specs.Regions.{region_of}
use Rattle.walk_run.specs.declared.place.Place.{Place}
use Rattle.walk_run.specs.Store.{Store}
use Rattle.walk_run.specs.Value.{end_place, with_room}
use Rattle.walk_run.specs.PlainSteps.{end_steps}
use Rattle.walk_run.specs.Walk.{move_words}
use Rattle.devices.specs.declared.world.Feed.{Feed}
use Rattle.devices.specs.declared.world.World.{World}
use Rattle.devices.specs.Journal.{JournalEvent, keep, keeps, copies}
use Rattle.task_attempts.specs.State.{Setting, Steps, Valued, range, Record, of_reading, of_block, of_copy, Standing, Here, Followed, Rest}
use Rattle.task_attempts.specs.Changes as changes
use Rattle.task_attempts.specs.Changes.{spent_by, with_region}
use Rattle.task_attempts.specs.Costs.{copy_steps, moving_steps}
use Rattle.task_attempts.specs.Told.{told, seal, unless_trap}
use Rattle.task_attempts.specs.Journals.{look_time}
use Rattle.task_attempts.specs.Values as values
use Rattle.task_attempts.specs.Values.{value}
use Rattle.task_attempts.specs.Copies as rules
use Rattle.task_attempts.specs.Copies.{words_at, put_words, shown, copy_valued, class_at, copy_by_class, copy_by_record, copy_log}
use Rattle.audit_check.specs.declared.journal.TimedEvent.{TimedEvent}
use Rattle.audit_check.specs.declared.walking.Kept.TheVariants as kept
use Rattle.audit_check.specs.declared.around.Around.{Around}
use Rattle.audit_check.specs.Leads.{Reached}
use Rattle.audit_check.specs.Walking.{Walking, Way, moved, chain, taken, record_at, sealed, found, word, copy_end, tested, with_store}
use Rattle.audit_check.specs.Walked.{setting_of, words_moved, words_brought, copied_by, copied_again, copied, copy_walked}
use Rattle.audit_check.specs.Tracks.{events, kept_of, Knows, IsAt, from_here, Follows, Tracks}
use Rattle.audit_check.proofs.TrackLaws.{logs, told_tracks, found_tracks, tracks_then}
use Rattle.audit_check.proofs.LeafLaws.{sealed_tracks, word_tracks}
use Rattle.audit_check.proofs.WalkLaws.{spending, found_there, handed_on}

module _ (feeds : List Feed) where
  -- what is known doesn't ask for the store, nor for the events to come
  pub knows_stored : (w : Walking) (s : Standing) (store : Store) (rest : List TimedEvent) → Knows feeds w s → Knows feeds (record w { rest = rest; store = store }) s
  knows_stored w s store rest n =
      record { readings = n.readings; committed = n.committed; next = n.next; sites = n.sites; records = n.records; peripherals = n.peripherals; issued = n.issued }

  -- the same change of both stores
  pub at_stored : (w : Walking) (here : Here) (change : Store → Store) (rest : List TimedEvent) → IsAt feeds w here
      → IsAt feeds (with_store (change w.store) (record w { rest = rest })) (changes.with_store (change here.store) here)
  at_stored w here change rest at =
      record { knows = knows_stored w here.standing (change w.store) rest at.knows; store = ap change at.store; mode = at.mode }

  -- steps by the scheme
  pub spending_by : {A : Type 0} (n : Steps) (part : (A → Rest) → Rest) (step : Walking → Way A) → Tracks feeds part step → Tracks feeds (λ go here. part go (spent_by n here)) step
  spending_by n part step tracks w here s go at knows =
      tracks w (spent_by n here) s go (record { knows = at.knows; store = at.store; mode = at.mode }) knows

  -- an event after which nothing changes
  whole : (way : Way (Unit {0})) → chain way (λ _ v. moved {A = Unit {0}} tt v) ≡ way
  whole (Ok m) = refl
  whole (Err w) = refl

  taken_tracks : (e : JournalEvent) → look_time e ≡ [] → Tracks feeds (λ go. told e (go tt)) (taken e)
  taken_tracks e timeless w here s go at knows =
      subst (λ way. Reached (events w.rest) s (from_here (told e (go tt)) here) (Follows feeds way go)) (whole (taken e w))
      (told_tracks feeds e None tt go w (λ v. v) here s timeless (λ rest. refl) (λ rest. at_stored w here (λ store. store) rest at) knows)

  -- ---- ends and ranges

  end_tracks : (e : CoreEnd) → Tracks feeds (λ go. values.copy_end e go) (copy_end e)
  unfolding copy_end
  end_tracks e = found_there feeds (end_place e) (end_steps e)

  room_tracks : (at : Place) (n : ℕ) → Tracks feeds (λ go here. unless_trap (with_room here.store at n) go here) (λ w. found (with_room w.store at n) w)
  room_tracks place n w here s go at knows =
      subst (λ store. Reached (events w.rest) s (from_here (λ here. unless_trap (with_room here.store place n) go here) here) (Follows feeds (found (with_room store place n) w) go)) at.store
      (found_tracks feeds (with_room here.store place n) go w here s at knows)

  tested_tracks : (at : Place) (n : ℕ) → Tracks feeds (λ go. values.tested at n (go tt)) (tested at n)
  unfolding tested
  tested_tracks place n =
      handed_on feeds (λ go here. unless_trap (with_room here.store place n) go here) (λ w. found (with_room w.store place n) w) (λ _. tt) (room_tracks place n)

  -- ---- words that go

  moved_tracks : (k : ℕ) (to from : Place) (n : ℕ) → Tracks feeds (λ go. rules.moved k to from n (go tt)) (words_moved k to from n)
  unfolding words_moved
  moved_tracks k to from n w here s go at knows =
      told_tracks feeds (copies k (shown from) (shown to) n) None tt go w (λ v. with_store (move_words n to from v.store) v) (changes.with_store (move_words n to from here.store) here) s refl (λ rest. refl)
      (λ rest. at_stored w here (move_words n to from) rest at) knows

  put_told : (e : JournalEvent) (followed : Option Followed) (to : Place) (words : List ℕ) (go : Unit {0} → Rest) (w : Walking) (here : Here) (s : Standing) → look_time e ≡ [] → IsAt feeds w here → Knows feeds w s
      → Reached (events w.rest) s (logs e followed (go tt) (changes.with_store (put_words to words here.store) here)) (Follows feeds (chain (taken e w) (λ _ v. moved tt (with_store (put_words to words v.store) v))) go)
  put_told e followed to words go w here s timeless at knows =
      told_tracks feeds e followed tt go w (λ v. with_store (put_words to words v.store) v) (changes.with_store (put_words to words here.store) here) s timeless (λ rest. refl)
      (λ rest. at_stored w here (put_words to words) rest at) knows

  brought_tracks : (k : ℕ) (to : Place) (words : List ℕ) → Tracks feeds (λ go. rules.brought k to words (go tt)) (words_brought k to words)
  unfolding words_brought
  brought_tracks k to words w here s go at knows = put_told (copies k keep (shown to) (length words)) None to words go w here s refl at knows

  -- ---- a copy without a record

  single_sealed_tracks : (k : ℕ) (to from : Place) (n : ℕ) → Tracks feeds (λ go. rules.single_sealed k to from n (go tt)) (λ w. sealed k (kept.Copy class.Single to (words_at w.store to n)) w)
  single_sealed_tracks k to from n w here s go at knows =
      subst (λ store. Reached (events w.rest) s (from_here (rules.single_sealed k to from n (go tt)) here) (Follows feeds (sealed k (kept.Copy class.Single to (words_at store to n)) w) go)) at.store
      (sealed_tracks feeds k (of_copy class.Single to from (words_at here.store to n)) w here s go at knows)

  private_with : (k : ℕ) (to from : Place) (n : ℕ) (words : List ℕ)
      → Tracks feeds (λ go. told (copies k (shown from) keep n) (seal k (of_copy class.Private to from words) (rules.brought k to words (go tt))))
      (λ w. chain (taken (copies k (shown from) keep n) w) (λ _ w. chain (sealed k (kept.Copy class.Private to words) w) (λ _ w. words_brought k to words w)))
  private_with k to from n words =
      tracks_then feeds (λ go. told (copies k (shown from) keep n) (go tt)) (taken (copies k (shown from) keep n)) (λ _ go. seal k (of_copy class.Private to from words) (rules.brought k to words (go tt))) _
      (taken_tracks (copies k (shown from) keep n) refl) (λ _.
      tracks_then feeds (λ go. seal k (of_copy class.Private to from words) (go tt)) (sealed k (kept.Copy class.Private to words)) (λ _ go. rules.brought k to words (go tt)) (λ _ w. words_brought k to words w)
      (sealed_tracks feeds k (of_copy class.Private to from words)) (λ _. brought_tracks k to words))

  by_class_tracks : (c : DmaClass) (k : ℕ) (to from : Place) (n : ℕ) → Tracks feeds (λ go. copy_by_class c k to from n (go tt)) (copied_by c k to from n)
  unfolding copied_by
  by_class_tracks class.Single k to from n w here s go at knows =
      tracks_then feeds (λ go. rules.moved k to from n (go tt)) (words_moved k to from n) (λ _ go. rules.single_sealed k to from n (go tt)) (λ _ w. sealed k (kept.Copy class.Single to (words_at w.store to n)) w)
      (moved_tracks k to from n) (λ _. single_sealed_tracks k to from n) w here s go at knows
  by_class_tracks class.Private k to from n w here s go at knows =
      let words_in : Store → List ℕ = λ store. words_at store from n in
      subst (λ store. Reached (events w.rest) s (from_here (rules.private_copy k to from n (go tt)) here)
      (Follows feeds (chain (taken (copies k (shown from) keep n) w) (λ _ w. chain (sealed k (kept.Copy class.Private to (words_in store)) w) (λ _ w. words_brought k to (words_in store) w))) go)) at.store
      (private_with k to from n (words_in here.store) w here s go at knows)
  by_class_tracks class.Exclude k to from n w here s go at knows = moved_tracks k to from n w here s go at knows
  by_class_tracks class.Always k to from n w here s go at knows = moved_tracks k to from n w here s go at knows

  -- ---- a copy with one

  again_tracks : (c : DmaClass) (k : ℕ) (to from : Place) (words : List ℕ) (valued : Store → Valued)
      → Tracks feeds (λ go here. rules.copy_again c k to from words (valued here.store) (go tt) here) (copied_again c k to words)
  unfolding copied_again words_brought
  again_tracks class.Single k to from words valued w here s go at knows =
      put_told (keeps k (length words)) (Some (record { made_with = range to from words; valued = valued here.store })) to words go w here s refl at knows
  again_tracks class.Private k to from words valued w here s go at knows =
      put_told (copies k keep (shown to) (length words)) (Some (record { made_with = range to from words; valued = valued here.store })) to words go w here s refl at knows
  again_tracks class.Exclude k to from words valued w here s go at knows =
      put_told (copies k keep (shown to) (length words)) (Some (record { made_with = range to from words; valued = valued here.store })) to words go w here s refl at knows
  again_tracks class.Always k to from words valued w here s go at knows =
      put_told (copies k keep (shown to) (length words)) (Some (record { made_with = range to from words; valued = valued here.store })) to words go w here s refl at knows

module _ (world : World) (a : Around) where
  abbrev S : Setting
  S = setting_of world a

  anew_tracks : (k : ℕ) (to from : Place) (n : ℕ) → Tracks world.feeds (λ go. rules.copy_anew S k to from n (go tt)) (copied_by (class_at S to from) k to from n)
  anew_tracks k to from n =
      spending world.feeds (moving_steps n) (λ go. copy_by_class (class_at S to from) k to from n (go tt)) (copied_by (class_at S to from) k to from n) (by_class_tracks world.feeds (class_at S to from) k to from n)

  by_record_tracks : (k : ℕ) (to from : Place) (n : ℕ) (r : Option Record) → Tracks world.feeds (λ go. copy_by_record S k to from n (go tt) r) (copied a k to from n (option_map kept_of r))
  unfolding copied
  by_record_tracks k to from n None w here s go at knows = anew_tracks k to from n w here s go at knows
  by_record_tracks k to from n (Some (of_reading value stamp args)) w here s go at knows = anew_tracks k to from n w here s go at knows
  by_record_tracks k to from n (Some (of_block stamp)) w here s go at knows = anew_tracks k to from n w here s go at knows
  by_record_tracks k to from n (Some (of_copy c to_then from_then words)) w here s go at knows =
      spending world.feeds (moving_steps (length words)) (λ go here. rules.copy_again c k to_then from_then words (copy_valued here.store to from n) (go tt) here) (copied_again c k to_then words)
      (again_tracks world.feeds c k to_then from_then words (λ store. copy_valued store to from n)) w here s go at knows

  -- behind its tests it goes by its record
  copied_tracks : (k : ℕ) (to from : Place) (n : ℕ) → k < 129
      → Tracks world.feeds (λ go inside. copy_by_record S k to from n (go tt) (inside.standing.account.records k) (with_region (region_of a.task.now k) inside)) (λ w. copied a k to from n (record_at k w.records) w)
  copied_tracks k to from n there w here s go at knows =
      let n_at = at.knows in
      let r = region_of a.task.now k in
      let at_region : IsAt world.feeds w (with_region r here) =
      record {
        knows = record { readings = n_at.readings; committed = n_at.committed; next = n_at.next; sites = n_at.sites; records = n_at.records; peripherals = n_at.peripherals; issued = n_at.issued };
        store = at.store;
        mode = at.mode;
      } in
      subst (λ kept. Reached (events w.rest) s (from_here (λ inside. copy_by_record S k to from n (go tt) (inside.standing.account.records k) (with_region r inside)) here) (Follows world.feeds (copied a k to from n kept w) go))
      (sym (n_at.records k there)) (by_record_tracks k to from n (here.standing.account.records k) w (with_region r here) s go at_region knows)

  pub copy_tracks : (k : ℕ) (to from : CoreEnd) (words : CoreExpr) → k < 129 → Tracks world.feeds (λ go. copy_log S k to from words (go tt)) (copy_walked a k to from words)
  unfolding copy_walked
  copy_tracks k to from words there =
      let inside : Place → Place → ℕ → (Unit {0} → Rest) → Rest = λ t f n go inside. copy_by_record S k t f n (go tt) (inside.standing.account.records k) (with_region (region_of a.task.now k) inside) in
      spending_by world.feeds (copy_steps a.core.now a.task.now k) (λ go. values.copy_end to (λ t. values.copy_end from (λ f. value words (λ n. values.tested t n (values.tested f n (inside t f n go)))))) _
      (tracks_then world.feeds (λ go. values.copy_end to go) (copy_end to) (λ t go. values.copy_end from (λ f. value words (λ n. values.tested t n (values.tested f n (inside t f n go))))) _ (end_tracks world.feeds to) (λ t.
      tracks_then world.feeds (λ go. values.copy_end from go) (copy_end from) (λ f go. value words (λ n. values.tested t n (values.tested f n (inside t f n go)))) _ (end_tracks world.feeds from) (λ f.
      tracks_then world.feeds (λ go. value words go) (word words) (λ n go. values.tested t n (values.tested f n (inside t f n go))) _ (word_tracks world.feeds words) (λ n.
      tracks_then world.feeds (λ go. values.tested t n (go tt)) (tested t n) (λ _ go. values.tested f n (inside t f n go)) _ (tested_tracks world.feeds t n) (λ _.
      tracks_then world.feeds (λ go. values.tested f n (go tt)) (tested f n) (λ _ go. inside t f n go) (λ _ w. copied a k t f n (record_at k w.records) w) (tested_tracks world.feeds f n) (λ _. copied_tracks k t f n there))))))
