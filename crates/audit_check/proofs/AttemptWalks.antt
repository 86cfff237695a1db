-- Statements, exits and attempts go along the rules.
use Rattle.std.proofs.Common.{◌≡◌, ℕ, zero, suc, ◌<◌, List, [], ◌∷◌, ◌++◌, length, Option, None, Result, Ok, Err, refl, sym, ap, ◌∙◌, subst}
use Rattle.std.specs.List.{AllByRecursion}
use Rattle.ease_base.specs.Found.{with_found}
use Rattle.task_ast.specs.declared.core_form.CoreStmt.{CoreStmt, Row_of-CoreStmt, end_of-CoreStmt, more_of-CoreStmt}
use Rattle.task_ast.specs.declared.core_form.CoreStmt.TheVariants as stmt
use Rattle.task_ast.specs.declared.core_form.CoreExit.{CoreExit, end_of-CoreExit, more_of-CoreExit}
use Rattle.task_ast.specs.declared.core_form.CoreExit.TheVariants as exit
use Rattle.task_ast.specs.CoreSites.{site_numbers, row_numbers, all_numbers}
use Rattle.walk_run.specs.declared.trap.Trap.{Trap}
use Rattle.walk_run.specs.Store.{fresh}
use Rattle.walk_run.specs.Exits.{next_of}
use Rattle.walk_run.specs.Value.{value_of}
use Rattle.walk_run.specs.Plain.{Ran, done, trapped, chosen, plain_done}
use Rattle.walk_run.specs.PlainSteps.{condition_steps, plain_steps}
use Rattle.devices.specs.declared.world.Feed.{Feed}
use Rattle.devices.specs.declared.world.World.{World}
use Rattle.devices.specs.Journal.{begins, commits}
use Rattle.task_attempts.specs.State.{Setting, Standing, Here, Rest}
use Rattle.task_attempts.specs.Changes as changes
use Rattle.task_attempts.specs.Changes.{spent}
use Rattle.task_attempts.specs.Told.{told, unless_trap}
use Rattle.task_attempts.specs.Values.{branch, from_ran, plain_log}
use Rattle.task_attempts.specs.Attempts as rules
use Rattle.task_attempts.specs.Attempts.{statement_log, row_log, body_log, exit_log, commit, after_commit, begun_by, attempt_log}
use Rattle.audit_check.specs.declared.journal.TimedEvent.{TimedEvent}
use Rattle.audit_check.specs.declared.walking.Kept.{Kept}
use Rattle.audit_check.specs.declared.around.Around.{Around}
use Rattle.audit_check.specs.Leads.{Reached, Awaited, Differs}
use Rattle.audit_check.specs.Walking.{Walking, Way, moved, chain, taken, record_at, found, word, with_store}
use Rattle.audit_check.specs.Walked.{setting_of, DropsRight, SitesRight, number_at, ran_walked, plain_worked, while_left, plain_walked, statement_walked, row_walked, body_walked, begun, none_kept, committed_by, commit_walked, begin_walked, exit_walked, attempt_walked}
use Rattle.audit_check.specs.Tracks.{events, Knows, IsAt, from_here, Follows, Tracks}
use Rattle.audit_check.proofs.TrackLaws.{at_once, told_tracks, trap_tracks, tracks_then}
use Rattle.audit_check.proofs.WalkLaws.{found_there, then_at, call_tracks, block_tracks}
use Rattle.audit_check.proofs.CopyLaws.{knows_stored, copy_tracks}

-- ---- what holds of two lists together

in_front : {A : Type 0} (P : A → Type 0) (xs ys : List A) → AllByRecursion P (xs ++ ys) → AllByRecursion P xs
in_front P [] ys all = tt
in_front P (x ∷ xs) ys all = (all.0, in_front P xs ys all.1)

behind_them : {A : Type 0} (P : A → Type 0) (xs ys : List A) → AllByRecursion P (xs ++ ys) → AllByRecursion P ys
behind_them P [] ys all = all
behind_them P (x ∷ xs) ys all = behind_them P xs ys all.1

module _ (feeds : List Feed) where
  -- ---- statements without sites

  ran_tracks : (r : Ran) (go : Unit {0} → Rest) (w : Walking) (here : Here) (s : Standing) → IsAt feeds w here → Knows feeds w s → Reached (events w.rest) s (from_here (from_ran r (go tt)) here) (Follows feeds (ran_walked r w) go)
  ran_tracks (done store) go w here s at knows =
      at_once feeds tt go w (with_store store w) here (changes.with_store store here) s (from_here (go tt) (changes.with_store store here)) refl refl
      (record { knows = knows_stored feeds w here.standing store w.rest at.knows; store = refl; mode = at.mode }) (knows_stored feeds w s store w.rest knows)
  ran_tracks (trapped why store) go w here s at knows =
      trap_tracks feeds why go (with_store store w) (changes.with_store store here) s
      (record { knows = knows_stored feeds w here.standing store w.rest at.knows; store = refl; mode = at.mode }) (knows_stored feeds w s store w.rest knows)

  worked_tracks : (s : CoreStmt) → Tracks feeds (λ go. plain_log s (go tt)) (plain_worked s)
  unfolding plain_worked
  worked_tracks stmt w here s go at knows =
      subst (λ store. Reached (events w.rest) s (from_here (plain_log stmt (go tt)) here) (Follows feeds (ran_walked (plain_done stmt store) w) go)) at.store
      (ran_tracks (plain_done stmt here.store) go w (spent (plain_steps stmt here.store) here) s (record { knows = at.knows; store = at.store; mode = at.mode }) knows)

  -- where no event is left it stops, and none is asked for
  none_differs : (rest : List TimedEvent) (f : Awaited) → rest ≡ [] → Differs (events rest) f
  none_differs rest f none = subst (λ (r : List TimedEvent). Differs (events r) f) (sym none) tt

  left_tracks : (rest : List TimedEvent) (stmt : CoreStmt) (w : Walking) (here : Here) (s : Standing) (go : Unit {0} → Rest) → w.rest ≡ rest → IsAt feeds w here → Knows feeds w s
      → Reached (events w.rest) s (from_here (plain_log stmt (go tt)) here) (Follows feeds (while_left rest w (plain_worked stmt w)) go)
  left_tracks [] stmt w here s go is at knows = (0, (refl, knows, none_differs w.rest _ is))
  left_tracks (e ∷ es) stmt w here s go is at knows = worked_tracks stmt w here s go at knows

  plain_tracks : (s : CoreStmt) → Tracks feeds (λ go. plain_log s (go tt)) (plain_walked s)
  unfolding plain_walked
  plain_tracks stmt w here s go at knows = left_tracks w.rest stmt w here s go refl at knows

  -- ---- one of two ways

  chosen_tracks : {A : Type 0} (n : ℕ) (f g : (A → Rest) → Rest) (one_step other_step : Walking → Way A) → Tracks feeds f one_step → Tracks feeds g other_step
      → Tracks feeds (λ go. chosen n (f go) (g go)) (λ w. chosen n (one_step w) (other_step w))
  chosen_tracks zero f g one_step other_step one other w here s go at knows = other w here s go at knows
  chosen_tracks (suc n) f g one_step other_step one other w here s go at knows = one w here s go at knows

  -- ---- exits

  chosen_exit : (n : ℕ) (a b : CoreExit) → Tracks feeds (λ go. exit_log a go) (λ w. found (next_of a w.store) w) → Tracks feeds (λ go. exit_log b go) (λ w. found (next_of b w.store) w)
      → Tracks feeds (λ go. chosen n (exit_log a go) (exit_log b go)) (λ w. found (chosen n (next_of a w.store) (next_of b w.store)) w)
  chosen_exit zero a b one other w here s go at knows = other w here s go at knows
  chosen_exit (suc n) a b one other w here s go at knows = one w here s go at knows

  exit_by : (r : Result ℕ Trap) (a b : CoreExit) → Tracks feeds (λ go. exit_log a go) (λ w. found (next_of a w.store) w) → Tracks feeds (λ go. exit_log b go) (λ w. found (next_of b w.store) w)
      → Tracks feeds (λ go. unless_trap r (λ word. chosen word (exit_log a go) (exit_log b go))) (λ w. found (with_found r (λ word. chosen word (next_of a w.store) (next_of b w.store))) w)
  exit_by (Ok n) a b one other w here s go at knows = chosen_exit n a b one other w here s go at knows
  exit_by (Err why) a b one other w here s go at knows = trap_tracks feeds why go w here s at knows

  exit_tracks : (e : CoreExit) → Tracks feeds (λ go. exit_log e go) (λ w. found (next_of e w.store) w)
  exit_tracks (exit.Next t) w here s go at knows = at_once feeds t go w w here here s (from_here (go t) here) refl refl at knows
  exit_tracks exit.Stop w here s go at knows = at_once feeds 0 go w w here here s (from_here (go 0) here) refl refl at knows
  exit_tracks (exit.Choose' c u (more_of-CoreExit a end_of-CoreExit) v (more_of-CoreExit b end_of-CoreExit)) w here s go at knows =
      subst (λ store. Reached (events w.rest) s (from_here (branch c (exit_log a go) (exit_log b go)) here) (Follows feeds (found (with_found (value_of c store) (λ word. chosen word (next_of a w.store) (next_of b w.store))) w) go)) at.store
      (exit_by (value_of c here.store) a b (λ w here s go at knows. exit_tracks a w here s go at knows) (λ w here s go at knows. exit_tracks b w here s go at knows)
      w (spent (condition_steps c) here) s go (record { knows = at.knows; store = at.store; mode = at.mode }) knows)

  -- that of a task
  pub exit_walked_tracks : (a : Around) → Tracks feeds (λ go. exit_log a.task.now.exit go) (exit_walked a)
  unfolding exit_walked
  exit_walked_tracks a = exit_tracks a.task.now.exit

  -- ---- commits

  none_many : (rs : List (Option Kept)) → length (none_kept rs) ≡ length rs
  none_many [] = refl
  none_many (r ∷ rs) = ap suc (none_many rs)

  none_at : (rs : List (Option Kept)) (k : ℕ) → record_at k (none_kept rs) ≡ None
  none_at [] k = refl
  none_at (r ∷ rs) zero = refl
  none_at (r ∷ rs) (suc k) = none_at rs k

  pub commit_tracks : (next : ℕ) → Tracks feeds (λ go. commit (go tt) next) (commit_walked next)
  unfolding commit_walked
  commit_tracks next w here s go at knows =
      let n = at.knows in
      told_tracks feeds (commits next) None tt go w (committed_by next) (rules.committed_by next here) s refl (λ rest. refl) (λ rest. record {
        knows = record {
          readings = n.readings;
          committed = at.store;
          next = refl;
          sites = none_many w.records ∙ n.sites;
          records = λ k few. none_at w.records k;
          peripherals = n.peripherals;
          issued = n.issued;
        };
        store = at.store;
        mode = at.mode;
      }) knows

module _ (world : World) (a : Around) (numbers : (p : ℕ) → number_at a p < 256) where
  abbrev S : Setting
  S = setting_of world a

  mutual
    unfolding word

    pub statement_tracks : (s : CoreStmt) → SitesRight a (site_numbers s) → Tracks world.feeds (λ go. statement_log S s (go tt)) (statement_walked a s)
    statement_tracks (stmt.Assign onto e) right w here s go at knows = plain_tracks world.feeds (stmt.Assign onto e) w here s go at knows
    statement_tracks (stmt.Point pointer array index) right w here s go at knows = plain_tracks world.feeds (stmt.Point pointer array index) w here s go at knows
    statement_tracks (stmt.If' c m yes_row n no_row) right w here s go at knows =
        tracks_then world.feeds (λ go here. unless_trap (value_of c here.store) go (spent (condition_steps c) here)) (λ w. found (value_of c w.store) w)
        (λ word go. chosen word (row_log S yes_row (go tt)) (row_log S no_row (go tt))) (λ word w. chosen word (row_walked a yes_row w) (row_walked a no_row w))
        (found_there world.feeds (value_of c) (condition_steps c))
        (λ word. chosen_tracks world.feeds word (λ go. row_log S yes_row (go tt)) (λ go. row_log S no_row (go tt)) (row_walked a yes_row) (row_walked a no_row)
        (row_tracks yes_row (in_front (λ k. (k < 129) × DropsRight a k) (row_numbers yes_row) (row_numbers no_row) right))
        (row_tracks no_row (behind_them (λ k. (k < 129) × DropsRight a k) (row_numbers yes_row) (row_numbers no_row) right)))
        w here s go at knows
    statement_tracks (stmt.Loop' variable turns m row) right w here s go at knows = plain_tracks world.feeds (stmt.Loop' variable turns m row) w here s go at knows
    statement_tracks (stmt.Io k onto p args) right w here s go at knows = call_tracks world a numbers k onto p args right.0.0 right.0.1 w here s go at knows
    statement_tracks (stmt.Block' k m row) right w here s go at knows =
        block_tracks world a k (row_log S row) (row_walked a row) right.0.0 (row_tracks row right.1) w here s go at knows
    statement_tracks (stmt.Copy k to from words) right w here s go at knows = copy_tracks world a k to from words right.0.0 w here s go at knows

    row_tracks : {n : _} (row : Row_of-CoreStmt n) → SitesRight a (row_numbers row) → Tracks world.feeds (λ go. row_log S row (go tt)) (row_walked a row)
    row_tracks end_of-CoreStmt right w here s go at knows = at_once world.feeds tt go w w here here s (from_here (go tt) here) refl refl at knows
    row_tracks (more_of-CoreStmt s rest) right w here standing go at knows =
        tracks_then world.feeds (λ go. statement_log S s (go tt)) (statement_walked a s) (λ _ go. row_log S rest (go tt)) (λ _ w. row_walked a rest w)
        (statement_tracks s (in_front (λ k. (k < 129) × DropsRight a k) (site_numbers s) (row_numbers rest) right))
        (λ _. row_tracks rest (behind_them (λ k. (k < 129) × DropsRight a k) (site_numbers s) (row_numbers rest) right))
        w here standing go at knows

  body_tracks : (body : List CoreStmt) → SitesRight a (all_numbers body) → Tracks world.feeds (λ go. body_log S body (go tt)) (body_walked a body)
  body_tracks [] right w here s go at knows = at_once world.feeds tt go w w here here s (from_here (go tt) here) refl refl at knows
  body_tracks (s ∷ rest) right w here standing go at knows =
      tracks_then world.feeds (λ go. statement_log S s (go tt)) (statement_walked a s) (λ _ go. body_log S rest (go tt)) (λ _ w. body_walked a rest w)
      (statement_tracks s (in_front (λ k. (k < 129) × DropsRight a k) (site_numbers s) (all_numbers rest) right))
      (λ _. body_tracks rest (behind_them (λ k. (k < 129) × DropsRight a k) (site_numbers s) (all_numbers rest) right))
      w here standing go at knows

  -- ---- attempts

  -- behind the begin
  inside_tracks : SitesRight a (all_numbers a.task.now.body)
      → Tracks world.feeds (λ go. body_log S a.task.now.body (exit_log a.task.now.exit (commit (go tt))))
      (λ w. chain (body_walked a a.task.now.body w) (λ _ w. chain (exit_walked a w) (λ next w. commit_walked next w)))
  unfolding exit_walked
  inside_tracks right =
      tracks_then world.feeds (λ go. body_log S a.task.now.body (go tt)) (body_walked a a.task.now.body) (λ _ go. exit_log a.task.now.exit (commit (go tt))) _ (body_tracks a.task.now.body right) (λ _.
      tracks_then world.feeds (λ go. exit_log a.task.now.exit go) (λ w. found (next_of a.task.now.exit w.store) w) (λ next go. commit (go tt) next) (λ next w. commit_walked next w) (exit_tracks world.feeds a.task.now.exit)
      (λ next. commit_tracks world.feeds next))

  -- the begin asks for no store
  begin_tracks : (w : Walking) (here : Here) (s : Standing) (go : Unit {0} → Rest) → Knows world.feeds w here.standing → Knows world.feeds w s
      → Reached (events w.rest) s (from_here (λ here. told (begins here.standing.next) (go tt) (begun_by S here)) here) (Follows world.feeds (begin_walked a w) go)
  unfolding begin_walked
  begin_tracks w here s go n knows =
      subst (λ next. Reached (events w.rest) s (from_here (λ here. told (begins here.standing.next) (go tt) (begun_by S here)) here) (Follows world.feeds (chain (taken (begins next) w) (λ _ w. moved tt (begun a w))) go)) n.next
      (told_tracks world.feeds (begins here.standing.next) None tt go w (begun a) (begun_by S here) s refl (λ rest. refl) (λ rest. record {
        knows = record { readings = n.readings; committed = n.committed; next = n.next; sites = n.sites; records = n.records; peripherals = n.peripherals; issued = n.issued };
        store = ap (fresh a.core.now) n.committed;
        mode = refl;
      }) knows)

  pub attempt_tracks : SitesRight a (all_numbers a.task.now.body) → (w : Walking) (here : Here) (s : Standing) (go : Unit {0} → Rest) → Knows world.feeds w here.standing → Knows world.feeds w s
      → Reached (events w.rest) s (from_here (attempt_log S (go tt)) here) (Follows world.feeds (attempt_walked a w) go)
  unfolding attempt_walked
  attempt_tracks right w here s go known knows =
      then_at world.feeds (λ _ go. body_log S a.task.now.body (exit_log a.task.now.exit (commit (go tt)))) _ go w s (from_here (attempt_log S (go tt)) here) (begin_walked a w)
      (begin_tracks w here s (λ _. body_log S a.task.now.body (exit_log a.task.now.exit (commit (go tt)))) known knows) (λ _. inside_tracks right)
