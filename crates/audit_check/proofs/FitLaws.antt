-- Each step of a walk leaves its two stores stores of the program.
use Rattle.std.proofs.Common.{◌≡◌, ℕ, zero, suc, ◌+◌, ◌==◌, Bool, true, false, cond, List, [], ◌∷◌, ◌++◌, length, Option, Some, None, Result, Ok, Err, refl, sym, subst}
use Rattle.task_ast.specs.declared.core_form.CoreExpr.{CoreExpr}
use Rattle.task_ast.specs.declared.core_form.CoreTarget.{CoreTarget}
use Rattle.task_ast.specs.declared.core_form.CoreEnd.{CoreEnd}
use Rattle.task_ast.specs.declared.core_form.CoreStmt.{CoreStmt, Row_of-CoreStmt, end_of-CoreStmt, more_of-CoreStmt}
use Rattle.task_ast.specs.declared.core_form.CoreStmt.TheVariants as stmt
use Rattle.task_ast.specs.declared.core_form.Core.{Core}
use Rattle.io_annot.specs.declared.choice.Mode.{Mode}
use Rattle.io_annot.specs.declared.choice.Mode.TheVariants as mode
use Rattle.io_annot.specs.declared.choice.Choice.{Choice}
use Rattle.io_annot.specs.declared.choice.Choice.TheVariants as choice
use Rattle.region_split.specs.declared.class.DmaClass.{DmaClass}
use Rattle.region_split.specs.declared.class.DmaClass.TheVariants as class
use Rattle.region_split.specs.Class.{class_of}
use Rattle.walk_run.specs.declared.trap.Trap.{Trap}
use Rattle.walk_run.specs.declared.place.Place.{Place}
use Rattle.walk_run.specs.Trap.{code_of}
use Rattle.walk_run.specs.Store.{Store, Fits, KeepsFit, place, word_at, put_word, fresh}
use Rattle.walk_run.specs.Plain.{Ran, done, trapped, chosen, plain_done}
use Rattle.walk_run.specs.Walk.{move_words}
use Rattle.walk_run.specs.Exits.{next_of}
use Rattle.walk_run.specs.Value.{value_of, target_place, end_place, with_room}
use Rattle.walk_run.proofs.Stores.{fits_word, fits_fresh}
use Rattle.walk_run.proofs.Fitting.{plain_fits}
use Rattle.devices.specs.Journal.{JournalEvent, keep, begins, keeps, drops, issues, seals, copies, commits, traps}
use Rattle.io_depend.specs.Told.{tells_later}
use Rattle.task_attempts.specs.Copies.{words_at, put_words, shown}
use Rattle.audit_check.specs.declared.journal.ReportEvent.{ReportEvent}
use Rattle.audit_check.specs.declared.journal.ReportEvent.TheVariants as event
use Rattle.audit_check.specs.declared.journal.TimedEvent.{TimedEvent}
use Rattle.audit_check.specs.declared.walking.Kept.{Kept}
use Rattle.audit_check.specs.declared.walking.Kept.TheVariants as kept
use Rattle.audit_check.specs.declared.around.Around.{Around}
use Rattle.audit_check.specs.Journal.{event_of}
use Rattle.audit_check.specs.Same.{same}
use Rattle.audit_check.specs.Walking.{Walking, Way, moved, chain, left_by, taken_of, taken, looked_of, looked_in, looked, record_at, with_kept, dropped, dropped_if, dropped_from, sealed, next_reading, with_count, issued_now, trapped_by, found, word, words_behind, reading_target, copy_end, tested, with_store, put_reading}
use Rattle.audit_check.specs.Walked.{number_at, memory_at, issued_anew, read_by, choice_of, call_walked, with_mode, inside_of, block_sealed, block_ended, block_walked, words_moved, words_brought, copied_by, copied_again, copied, copy_walked, ran_walked, plain_walked, statement_walked, row_walked, body_walked, begun, committed_by, commit_walked, begin_walked, exit_walked, attempt_walked, plain_worked, while_left}
use Rattle.audit_check.specs.Fit.{AreStores}

-- what a step leaves
abbrev pub LeavesStores : Core → {A : Type 0} → Way A → Type 0
LeavesStores c (Ok m) = AreStores c m.walking
LeavesStores c (Err w) = AreStores c w

module _ (c : Core) where
  abbrev Leaves : {A : Type 0} → Way A → Type 0
  Leaves way = LeavesStores c way

  -- ---- steps one behind another, and single events

  pub behind_leaves : {A B : Type 0} (way : Way A) (next : A → Walking → Way B) → Leaves way → ((x : A) (v : Walking) → AreStores c v → Leaves (next x v)) → Leaves (chain way next)
  behind_leaves (Ok m) next at go = go m.value m.walking at
  behind_leaves (Err w) next at go = at

  taken_by : (t : Bool) (w : Walking) (rest : List TimedEvent) → AreStores c w → Leaves (cond {A = Way (Unit {0})} t (moved {A = Unit {0}} tt (record w { rest = rest })) (Err w))
  taken_by true w rest h = h
  taken_by false w rest h = h

  taken_in : (e : JournalEvent) (w : Walking) (events : List TimedEvent) → AreStores c w → Leaves (taken_of e w events)
  taken_in e w [] h = h
  taken_in e w (x ∷ rest) h = taken_by (same (event_of x.event) e) w rest h

  pub taken_leaves : (e : JournalEvent) (w : Walking) → AreStores c w → Leaves (taken e w)
  unfolding taken
  taken_leaves e w h = taken_in e w w.rest h

  left_leaves : {A : Type 0} (way : Way A) → Leaves way → AreStores c (left_by way)
  left_leaves (Ok m) h = h
  left_leaves (Err w) h = h

  trapped_leaves : (why : Trap) (w : Walking) → AreStores c w → AreStores c (trapped_by why w)
  unfolding trapped_by
  trapped_leaves why w h = left_leaves (taken (traps (code_of why)) w) (taken_leaves (traps (code_of why)) w h)

  found_leaves : {A : Type 0} (r : Result A Trap) (w : Walking) → AreStores c w → Leaves (found r w)
  found_leaves (Ok x) w h = h
  found_leaves (Err why) w h = trapped_leaves why w h

  -- another store in its place
  stored : (w : Walking) (store : Store) → KeepsFit w.store store → AreStores c w → AreStores c (with_store store w)
  stored w store fits h = (fits c h.0, h.1)

  -- ---- looks, records and issues

  look_by : (t : Bool) (time : ℕ) (w : Walking) (rest : List TimedEvent) → AreStores c w → Leaves (cond {A = Way ℕ} t (moved time (record w { rest = rest })) (Err w))
  look_by true time w rest h = h
  look_by false time w rest h = h

  looked_of_leaves : (k : ℕ) (w : Walking) (rest : List TimedEvent) (e : ReportEvent) → AreStores c w → Leaves (looked_of k w rest e)
  looked_of_leaves k w rest (event.Look site time) h = look_by (site == k) time w rest h
  looked_of_leaves k w rest (event.Begin task) h = h
  looked_of_leaves k w rest (event.Kept site value) h = h
  looked_of_leaves k w rest (event.Drop site) h = h
  looked_of_leaves k w rest (event.Issue site p args r) h = h
  looked_of_leaves k w rest (event.Seal site) h = h
  looked_of_leaves k w rest (event.Copy site from to n) h = h
  looked_of_leaves k w rest (event.Commit next) h = h
  looked_of_leaves k w rest (event.Trap code) h = h

  looked_in_leaves : (k : ℕ) (w : Walking) (events : List TimedEvent) → AreStores c w → Leaves (looked_in k w events)
  looked_in_leaves k w [] h = h
  looked_in_leaves k w (x ∷ rest) h = looked_of_leaves k w rest x.event h

  looked_leaves : (k : ℕ) (w : Walking) → AreStores c w → Leaves (looked k w)
  unfolding looked
  looked_leaves k w h = looked_in_leaves k w w.rest h

  dropped_leaves : (k : ℕ) (w : Walking) → AreStores c w → Leaves (dropped k w)
  unfolding dropped
  dropped_leaves k w h = behind_leaves (taken (drops k) w) (λ _ w. moved tt (with_kept k None w)) (taken_leaves (drops k) w h) (λ x v h. h)

  dropped_if_leaves : (wanted : Bool) (k : ℕ) (w : Walking) → AreStores c w → Leaves (dropped_if wanted k w)
  unfolding dropped_if
  dropped_if_leaves true k w h = dropped_leaves k w h
  dropped_if_leaves false k w h = h

  dropped_from_leaves : (wanted : ℕ → Bool) (k left : ℕ) (w : Walking) → AreStores c w → Leaves (dropped_from wanted k left w)
  dropped_from_leaves wanted k zero w h = h
  dropped_from_leaves wanted k (suc left) w h =
      behind_leaves (dropped_if (wanted k) k w) (λ _ w. dropped_from wanted (k + 1) left w) (dropped_if_leaves (wanted k) k w h) (λ x v h. dropped_from_leaves wanted (k + 1) left v h)

  sealed_leaves : (k : ℕ) (r : Kept) (w : Walking) → AreStores c w → Leaves (sealed k r w)
  unfolding sealed
  sealed_leaves k r w h = behind_leaves (taken (seals k) w) (λ _ w. moved tt (with_kept k (Some r) w)) (taken_leaves (seals k) w h) (λ x v h. h)

  issued_leaves : (k p : ℕ) (args : List ℕ) (w : Walking) → AreStores c w → Leaves (issued_now k p args w)
  unfolding issued_now
  issued_leaves k p args w h =
      behind_leaves (taken (issues k p args (next_reading p w)) w) (λ _ after. moved (next_reading p w) (with_count p after)) (taken_leaves (issues k p args (next_reading p w)) w h) (λ x v h. h)

  -- ---- what is valued

  word_leaves : (e : CoreExpr) (w : Walking) → AreStores c w → Leaves (word e w)
  unfolding word
  word_leaves e w h = found_leaves (value_of e w.store) w h

  words_leave : (words : List ℕ) (es : List CoreExpr) (w : Walking) → AreStores c w → Leaves (words_behind words es w)
  words_leave words [] w h = h
  words_leave words (e ∷ es) w h =
      behind_leaves (word e w) (λ x w. words_behind (words ++ x ∷ []) es w) (word_leaves e w h) (λ x v h. words_leave (words ++ x ∷ []) es v h)

  target_leaves : (t : Option CoreTarget) (w : Walking) → AreStores c w → Leaves (reading_target t w)
  unfolding reading_target
  target_leaves None w h = h
  target_leaves (Some t) w h = behind_leaves (found (target_place t w.store) w) (λ at w. moved (Some at) w) (found_leaves (target_place t w.store) w h) (λ x v h. h)

  end_leaves : (e : CoreEnd) (w : Walking) → AreStores c w → Leaves (copy_end e w)
  unfolding copy_end
  end_leaves e w h = found_leaves (end_place e w.store) w h

  tested_leaves : (at : Place) (n : ℕ) (w : Walking) → AreStores c w → Leaves (tested at n w)
  unfolding tested
  tested_leaves at n w h = behind_leaves (found (with_room w.store at n) w) (λ _ w. moved tt w) (found_leaves (with_room w.store at n) w h) (λ x v h. h)

  put_leaves : (at : Option Place) (word : ℕ) (w : Walking) → AreStores c w → AreStores c (put_reading at word w)
  unfolding put_reading
  put_leaves None word w h = h
  put_leaves (Some at) word w h = stored w (put_word at word w.store) (fits_word at word w.store) h

  -- ---- calls and blocks

  module _ (a : Around) where
    anew_leaves : (k p : ℕ) (args : List ℕ) (t : ℕ) (w : Walking) → AreStores c w → Leaves (issued_anew a k p args t w)
    unfolding issued_anew
    anew_leaves k p args t w h =
        behind_leaves (dropped k w) _ (dropped_leaves k w h) (λ _ w h.
        behind_leaves (dropped_from (tells_later a.depends.now k) 1 (length a.task.now.sites) w) _ (dropped_from_leaves (tells_later a.depends.now k) 1 (length a.task.now.sites) w h) (λ _ w h.
        behind_leaves (issued_now k p args w) _ (issued_leaves k p args w h) (λ r w h.
        behind_leaves (sealed k (kept.Reading r t) w) (λ _ w. moved r w) (sealed_leaves k (kept.Reading r t) w h) (λ _ w h. h))))

    read_leaves : (k p : ℕ) (args : List ℕ) (t : ℕ) (x : Choice) (w : Walking) → AreStores c w → Leaves (read_by a k p args t x w)
    unfolding read_by
    read_leaves k p args t (choice.Keep v) w h = behind_leaves (taken (keeps k v) w) (λ _ w. moved v w) (taken_leaves (keeps k v) w h) (λ _ w h. h)
    read_leaves k p args t choice.Issue w h = anew_leaves k p args t w h

    call_leaves : (k : ℕ) (onto : Option CoreTarget) (p : ℕ) (args : List CoreExpr) (w : Walking) → AreStores c w → Leaves (call_walked a k onto p args w)
    unfolding call_walked
    call_leaves k onto p args w h =
        behind_leaves (reading_target onto w) _ (target_leaves onto w h) (λ at w h.
        behind_leaves (words_behind [] args w) _ (words_leave [] args w h) (λ words w h.
        behind_leaves (looked k w) _ (looked_leaves k w h) (λ t w h.
        behind_leaves (read_by a k (number_at a p) words t (choice_of a k t w) w) (λ r w. moved tt (put_reading at r w)) (read_leaves k (number_at a p) words t (choice_of a k t w) w h) (λ r w h.
        put_leaves at r w h))))

    sealed_block_leaves : (k t : ℕ) (inside : Mode) (w : Walking) → AreStores c w → Leaves (block_sealed k t inside w)
    unfolding block_sealed
    sealed_block_leaves k t mode.Keep w h = h
    sealed_block_leaves k t mode.Own w h = behind_leaves (dropped k w) (λ _ w. sealed k (kept.Block t) w) (dropped_leaves k w h) (λ _ w h. sealed_leaves k (kept.Block t) w h)
    sealed_block_leaves k t mode.Force w h = behind_leaves (dropped k w) (λ _ w. sealed k (kept.Block t) w) (dropped_leaves k w h) (λ _ w h. sealed_leaves k (kept.Block t) w h)

    ended_leaves : (k t : ℕ) (outside inside : Mode) (w : Walking) → AreStores c w → Leaves (block_ended k t outside inside w)
    unfolding block_ended
    ended_leaves k t outside inside w h = behind_leaves (block_sealed k t inside w) (λ _ w. moved tt (with_mode outside w)) (sealed_block_leaves k t inside w h) (λ _ w h. h)

    block_leaves : (k : ℕ) (body : Walking → Way (Unit {0})) → ((w : Walking) → AreStores c w → Leaves (body w)) → (w : Walking) → AreStores c w → Leaves (block_walked a k body w)
    block_leaves k body leaves w h =
        behind_leaves (looked k w) _ (looked_leaves k w h) (λ t w h.
        behind_leaves (body (with_mode (inside_of a k t w) w)) (λ _ v. block_ended k t w.mode (inside_of a k t w) v) (leaves (with_mode (inside_of a k t w) w) h) (λ _ v h.
        ended_leaves k t w.mode (inside_of a k t w) v h))

    -- ---- copies

    moves_fit : (n : ℕ) (to from : Place) (s : Store) → KeepsFit s (move_words n to from s)
    moves_fit zero to from s d h = h
    moves_fit (suc n) to from s d h =
        moves_fit n (place to.array (to.index + 1)) (place from.array (from.index + 1)) (put_word to (word_at s from) s) d (fits_word to (word_at s from) s d h)

    puts_fit : (to : Place) (words : List ℕ) (s : Store) → KeepsFit s (put_words to words s)
    puts_fit to [] s d h = h
    puts_fit to (x ∷ words) s d h = puts_fit (place to.array (to.index + 1)) words (put_word to x s) d (fits_word to x s d h)

    moved_leaves : (k : ℕ) (to from : Place) (n : ℕ) (w : Walking) → AreStores c w → Leaves (words_moved k to from n w)
    unfolding words_moved
    moved_leaves k to from n w h =
        behind_leaves (taken (copies k (shown from) (shown to) n) w) (λ _ w. moved tt (with_store (move_words n to from w.store) w)) (taken_leaves (copies k (shown from) (shown to) n) w h)
        (λ _ w h. stored w (move_words n to from w.store) (moves_fit n to from w.store) h)

    put_back_leaves : (e : JournalEvent) (to : Place) (words : List ℕ) (w : Walking) → AreStores c w → Leaves (chain (taken e w) (λ _ w. moved {A = Unit {0}} tt (with_store (put_words to words w.store) w)))
    put_back_leaves e to words w h =
        behind_leaves (taken e w) (λ _ w. moved {A = Unit {0}} tt (with_store (put_words to words w.store) w)) (taken_leaves e w h) (λ _ w h. stored w (put_words to words w.store) (puts_fit to words w.store) h)

    brought_leaves : (k : ℕ) (to : Place) (words : List ℕ) (w : Walking) → AreStores c w → Leaves (words_brought k to words w)
    unfolding words_brought
    brought_leaves k to words w h = put_back_leaves (copies k keep (shown to) (length words)) to words w h

    by_class_leaves : (x : DmaClass) (k : ℕ) (to from : Place) (n : ℕ) (w : Walking) → AreStores c w → Leaves (copied_by x k to from n w)
    unfolding copied_by
    by_class_leaves class.Single k to from n w h =
        behind_leaves (words_moved k to from n w) (λ _ w. sealed k (kept.Copy class.Single to (words_at w.store to n)) w) (moved_leaves k to from n w h)
        (λ _ w h. sealed_leaves k (kept.Copy class.Single to (words_at w.store to n)) w h)
    by_class_leaves class.Private k to from n w h =
        let words = words_at w.store from n in
        behind_leaves (taken (copies k (shown from) keep n) w) (λ _ w. chain (sealed k (kept.Copy class.Private to words) w) (λ _ w. words_brought k to words w)) (taken_leaves (copies k (shown from) keep n) w h) (λ _ w h.
        behind_leaves (sealed k (kept.Copy class.Private to words) w) (λ _ w. words_brought k to words w) (sealed_leaves k (kept.Copy class.Private to words) w h) (λ _ w h. brought_leaves k to words w h))
    by_class_leaves class.Exclude k to from n w h = moved_leaves k to from n w h
    by_class_leaves class.Always k to from n w h = moved_leaves k to from n w h

    again_leaves : (x : DmaClass) (k : ℕ) (to : Place) (words : List ℕ) (w : Walking) → AreStores c w → Leaves (copied_again x k to words w)
    unfolding copied_again
    again_leaves class.Single k to words w h = put_back_leaves (keeps k (length words)) to words w h
    again_leaves class.Private k to words w h = brought_leaves k to words w h
    again_leaves class.Exclude k to words w h = brought_leaves k to words w h
    again_leaves class.Always k to words w h = brought_leaves k to words w h

    copied_leaves : (k : ℕ) (to from : Place) (n : ℕ) (r : Option Kept) (w : Walking) → AreStores c w → Leaves (copied a k to from n r w)
    unfolding copied
    copied_leaves k to from n (Some (kept.Copy x to_then words)) w h = again_leaves x k to_then words w h
    copied_leaves k to from n (Some (kept.Reading value stamp)) w h = by_class_leaves (class_of (memory_at a from) (memory_at a to)) k to from n w h
    copied_leaves k to from n (Some (kept.Block stamp)) w h = by_class_leaves (class_of (memory_at a from) (memory_at a to)) k to from n w h
    copied_leaves k to from n None w h = by_class_leaves (class_of (memory_at a from) (memory_at a to)) k to from n w h

    copy_leaves : (k : ℕ) (to from : CoreEnd) (words : CoreExpr) (w : Walking) → AreStores c w → Leaves (copy_walked a k to from words w)
    unfolding copy_walked
    copy_leaves k to from words w h =
        behind_leaves (copy_end to w) _ (end_leaves to w h) (λ t w h.
        behind_leaves (copy_end from w) _ (end_leaves from w h) (λ f w h.
        behind_leaves (word words w) _ (word_leaves words w h) (λ n w h.
        behind_leaves (tested t n w) _ (tested_leaves t n w h) (λ _ w h.
        behind_leaves (tested f n w) (λ _ w. copied a k t f n (record_at k w.records) w) (tested_leaves f n w h) (λ _ w h. copied_leaves k t f n (record_at k w.records) w h)))))

    -- ---- statements

    ran_leaves : (s : CoreStmt) (r : Ran) (w : Walking) → plain_done s w.store ≡ r → AreStores c w → Leaves (ran_walked r w)
    ran_leaves s (done store) w is h = stored w store (plain_fits s w.store store (Ok tt) (sym is)) h
    ran_leaves s (trapped why store) w is h = trapped_leaves why (with_store store w) (stored w store (plain_fits s w.store store (Err why) (sym is)) h)

    worked_leaves : (s : CoreStmt) (w : Walking) → AreStores c w → Leaves (plain_worked s w)
    unfolding plain_worked
    worked_leaves s w h = ran_leaves s (plain_done s w.store) w refl h

    while_leaves : (rest : List TimedEvent) (w : Walking) (way : Way (Unit {0})) → AreStores c w → Leaves way → Leaves (while_left rest w way)
    while_leaves [] w way h leaves = h
    while_leaves (e ∷ es) w way h leaves = leaves

    plain_leaves : (s : CoreStmt) (w : Walking) → AreStores c w → Leaves (plain_walked s w)
    unfolding plain_walked
    plain_leaves s w h = while_leaves w.rest w (plain_worked s w) h (worked_leaves s w h)

    chosen_leaves : (n : ℕ) (one other : Way (Unit {0})) → Leaves one → Leaves other → Leaves (chosen n one other)
    chosen_leaves zero one other h g = g
    chosen_leaves (suc n) one other h g = h

    mutual
      statement_leaves : (s : CoreStmt) (w : Walking) → AreStores c w → Leaves (statement_walked a s w)
      statement_leaves (stmt.Assign onto e) w h = plain_leaves (stmt.Assign onto e) w h
      statement_leaves (stmt.Point pointer array index) w h = plain_leaves (stmt.Point pointer array index) w h
      statement_leaves (stmt.If' e m yes_row n no_row) w h =
          behind_leaves (word e w) (λ n w. chosen n (row_walked a yes_row w) (row_walked a no_row w)) (word_leaves e w h)
          (λ n w h. chosen_leaves n (row_walked a yes_row w) (row_walked a no_row w) (row_leaves yes_row w h) (row_leaves no_row w h))
      statement_leaves (stmt.Loop' variable turns m row) w h = plain_leaves (stmt.Loop' variable turns m row) w h
      statement_leaves (stmt.Io k onto p args) w h = call_leaves k onto p args w h
      statement_leaves (stmt.Block' k m row) w h = block_leaves k (row_walked a row) (λ w h. row_leaves row w h) w h
      statement_leaves (stmt.Copy k to from words) w h = copy_leaves k to from words w h

      row_leaves : {n : _} (row : Row_of-CoreStmt n) (w : Walking) → AreStores c w → Leaves (row_walked a row w)
      row_leaves end_of-CoreStmt w h = h
      row_leaves (more_of-CoreStmt s rest) w h = behind_leaves (statement_walked a s w) (λ _ w. row_walked a rest w) (statement_leaves s w h) (λ _ w h. row_leaves rest w h)

    pub body_leaves : (body : List CoreStmt) (w : Walking) → AreStores c w → Leaves (body_walked a body w)
    body_leaves [] w h = h
    body_leaves (s ∷ rest) w h = behind_leaves (statement_walked a s w) (λ _ w. body_walked a rest w) (statement_leaves s w h) (λ _ w h. body_leaves rest w h)

    -- ---- attempts, of a task of the program

    pub exit_leaves : (w : Walking) → AreStores c w → Leaves (exit_walked a w)
    unfolding exit_walked
    exit_leaves w h = found_leaves (next_of a.task.now.exit w.store) w h

    commit_leaves : (next : ℕ) (w : Walking) → AreStores c w → Leaves (commit_walked next w)
    unfolding commit_walked
    commit_leaves next w h = behind_leaves (taken (commits next) w) (λ _ w. moved tt (committed_by next w)) (taken_leaves (commits next) w h) (λ _ w h. (h.0, h.0))

    pub begin_leaves : a.core.now ≡ c → (w : Walking) → AreStores c w → Leaves (begin_walked a w)
    unfolding begin_walked
    begin_leaves is w h =
        behind_leaves (taken (begins w.next) w) (λ _ w. moved tt (begun a w)) (taken_leaves (begins w.next) w h)
        (λ _ w h. (subst (λ d. Fits c (fresh d w.committed)) (sym is) (fits_fresh c w.committed h.1), h.1))

    pub attempt_leaves : a.core.now ≡ c → (w : Walking) → AreStores c w → Leaves (attempt_walked a w)
    unfolding attempt_walked
    attempt_leaves is w h =
        behind_leaves (begin_walked a w) _ (begin_leaves is w h) (λ _ w h.
        behind_leaves (body_walked a a.task.now.body w) _ (body_leaves a.task.now.body w h) (λ _ w h.
        behind_leaves (exit_walked a w) (λ next w. commit_walked next w) (exit_leaves w h) (λ next w h. commit_leaves next w h)))
