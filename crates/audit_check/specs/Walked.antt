-- The walk of a call, a block, a copy, a statement and an attempt.
use Rattle.std.specs.Prelude.{◌≡◌, ℕ, ◌<◌, List, [], ◌∷◌, length, Option, Some, None, Err, slice_get, filter}
use Rattle.std.specs.List.{range_with_len, AllByRecursion}
use Rattle.task_ast.specs.declared.tree.Ann.{Ann}
use Rattle.task_ast.specs.declared.core_form.CoreExpr.{CoreExpr}
use Rattle.task_ast.specs.declared.core_form.CoreTarget.{CoreTarget}
use Rattle.task_ast.specs.declared.core_form.CoreEnd.{CoreEnd}
use Rattle.task_ast.specs.declared.core_form.CoreStmt.{CoreStmt, Row_of-CoreStmt, end_of-CoreStmt, more_of-CoreStmt}
use Rattle.task_ast.specs.declared.core_form.CoreStmt.TheVariants as stmt
use Rattle.io_annot.specs.declared.choice.Mode.{Mode}
use Rattle.io_annot.specs.declared.choice.Mode.TheVariants as mode
use Rattle.io_annot.specs.declared.choice.Choice.{Choice}
use Rattle.io_annot.specs.declared.choice.Choice.TheVariants as choice
use Rattle.io_annot.specs.Choice as choices
use Rattle.block_scope.specs.Enter.{entered}
use Rattle.io_depend.specs.Depend.{dependents}
use Rattle.io_depend.specs.Told.{tells_later}
use Rattle.region_split.specs.declared.class.Memory.{Memory}
use Rattle.region_split.specs.declared.class.DmaClass.{DmaClass}
use Rattle.region_split.specs.declared.class.DmaClass.TheVariants as class
use Rattle.region_split.specs.Class.{class_of}
use Rattle.walk_run.specs.declared.place.Place.{Place}
use Rattle.walk_run.specs.Store.{fresh}
use Rattle.walk_run.specs.Exits.{next_of}
use Rattle.walk_run.specs.Plain.{Ran, done, trapped, chosen, plain_done}
use Rattle.walk_run.specs.Walk.{move_words}
use Rattle.devices.specs.Journal.{keep, begins, keeps, copies, commits}
use Rattle.devices.specs.declared.world.World.{World}
use Rattle.task_attempts.specs.State.{Setting}
use Rattle.task_attempts.specs.Calls.{annotation_of, site_at, number_or_none}
use Rattle.task_attempts.specs.Copies.{words_at, put_words, shown, memory_or_ram}
use Rattle.audit_check.specs.declared.journal.TimedEvent.{TimedEvent}
use Rattle.audit_check.specs.declared.walking.Kept.{Kept}
use Rattle.audit_check.specs.declared.walking.Kept.TheVariants as kept
use Rattle.audit_check.specs.declared.around.Around.{Around}
use Rattle.audit_check.specs.Walking.{Walking, Way, moved, chain, taken, looked, record_at, dropped, dropped_from, sealed, issued_now, trapped_by, found, word, words_behind, reading_target, copy_end, tested, with_store, put_reading}

-- ---- what a task goes by

-- the annotation at a site, the number of a peripheral outside, the memory of a place's words
abbrev pub annotation_at : Around → (site : ℕ) → Ann
annotation_at a k = annotation_of (site_at a.task.now.sites k)

abbrev pub number_at : Around → (peripheral : ℕ) → ℕ
number_at a p = number_or_none (slice_get a.core.now.peripherals p)

abbrev pub memory_at : Around → Place → Memory
memory_at a at = memory_or_ram (slice_get a.core.now.arrays at.array)

-- what the rules go by in the task
abbrev pub setting_of : World → Around → Setting
setting_of world a = record { rules = record { core = a.core.now; world = world }; task = a.task.now }

-- the sites that are told to depend on a site are those that do
abbrev pub DropsRight : Around → (site : ℕ) → Type 0
DropsRight a k = filter (tells_later a.depends.now k) (range_with_len 1 (length a.task.now.sites)) ≡ dependents a.task.now k

-- So it is of all these sites, which are few enough for the records.
abbrev pub SitesRight : Around → (sites : List ℕ) → Type 0
SitesRight a sites = AllByRecursion (λ k. (k < 129) × DropsRight a k) sites

-- ---- calls

-- the value and the time of a reading's record
abbrev pub kept_reading : Option Kept → Option (ℕ × ℕ)
kept_reading (Some (kept.Reading value stamp)) = Some (value, stamp)
kept_reading (Some (kept.Block stamp)) = None
kept_reading (Some (kept.Copy class to words)) = None
kept_reading None = None

-- a site and its dependents drop their records; it is issued, and its record sealed
unfoldable pub issued_anew : Around → (site p : ℕ) → (args : List ℕ) → (t : ℕ) → Walking → Way ℕ
issued_anew a k p args t w =
    chain (dropped k w) (λ _ w. chain (dropped_from (tells_later a.depends.now k) 1 (length a.task.now.sites) w)
    (λ _ w. chain (issued_now k p args w) (λ r w. chain (sealed k (kept.Reading r t) w) (λ _ w. moved r w))))

-- it keeps a value, or issues
unfoldable pub read_by : Around → (site p : ℕ) → (args : List ℕ) → (t : ℕ) → Choice → Walking → Way ℕ
read_by a k p args t (choice.Keep v) w = chain (taken (keeps k v) w) (λ _ w. moved v w)
read_by a k p args t choice.Issue w = issued_anew a k p args t w

-- what a site does behind its look
abbrev pub choice_of : Around → (site t : ℕ) → Walking → Choice
choice_of a k t w = choices.choice w.mode (annotation_at a k) (kept_reading (record_at k w.records)) t

-- a call
unfoldable pub call_walked : Around → (site : ℕ) → Option CoreTarget → (peripheral : ℕ) → List CoreExpr → Walking → Way (Unit {0})
call_walked a k onto p args w =
    chain (reading_target onto w) (λ at w. chain (words_behind [] args w) (λ words w. chain (looked k w)
    (λ t w. chain (read_by a k (number_at a p) words t (choice_of a k t w) w) (λ r w. moved tt (put_reading at r w)))))

-- ---- blocks

-- the time of a block's record
abbrev pub kept_stamp : Option Kept → Option ℕ
kept_stamp (Some (kept.Block stamp)) = Some stamp
kept_stamp (Some (kept.Reading value stamp)) = None
kept_stamp (Some (kept.Copy class to words)) = None
kept_stamp None = None

-- another mode
abbrev pub with_mode : Mode → Walking → Walking
with_mode mode w = record w { mode = mode }

-- the mode inside a block that looks at a time
abbrev pub inside_of : Around → (site t : ℕ) → Walking → Mode
inside_of a k t w = entered w.mode (annotation_at a k) (kept_stamp (record_at k w.records)) t

-- a block that didn't keep is sealed
unfoldable pub block_sealed : (site t : ℕ) → (inside : Mode) → Walking → Way (Unit {0})
block_sealed k t mode.Keep w = moved tt w
block_sealed k t mode.Own w = chain (dropped k w) (λ _ w. sealed k (kept.Block t) w)
block_sealed k t mode.Force w = chain (dropped k w) (λ _ w. sealed k (kept.Block t) w)

-- a block's end
unfoldable pub block_ended : (site t : ℕ) → (outside inside : Mode) → Walking → Way (Unit {0})
block_ended k t outside inside w = chain (block_sealed k t inside w) (λ _ w. moved tt (with_mode outside w))

-- a block around its body
abbrev pub block_walked : Around → (site : ℕ) → (Walking → Way (Unit {0})) → Walking → Way (Unit {0})
block_walked a k body w = chain (looked k w) (λ t w. chain (body (with_mode (inside_of a k t w) w)) (λ _ v. block_ended k t w.mode (inside_of a k t w) v))

-- ---- copies

-- words go from the source to the destination
unfoldable pub words_moved : (site : ℕ) → (to from : Place) → (n : ℕ) → Walking → Way (Unit {0})
words_moved k to from n w = chain (taken (copies k (shown from) (shown to) n) w) (λ _ w. moved tt (with_store (move_words n to from w.store) w))

-- kept words go to the destination
unfoldable pub words_brought : (site : ℕ) → (to : Place) → List ℕ → Walking → Way (Unit {0})
words_brought k to words w = chain (taken (copies k keep (shown to) (length words)) w) (λ _ w. moved tt (with_store (put_words to words w.store) w))

-- a copy without a record, by its class
unfoldable pub copied_by : DmaClass → (site : ℕ) → (to from : Place) → (n : ℕ) → Walking → Way (Unit {0})
copied_by class.Single k to from n w = chain (words_moved k to from n w) (λ _ w. sealed k (kept.Copy class.Single to (words_at w.store to n)) w)
copied_by class.Private k to from n w =
    let words = words_at w.store from n in
    chain (taken (copies k (shown from) keep n) w) (λ _ w. chain (sealed k (kept.Copy class.Private to words) w) (λ _ w. words_brought k to words w))
copied_by class.Exclude k to from n w = words_moved k to from n w
copied_by class.Always k to from n w = words_moved k to from n w

-- a copy that follows its record
unfoldable pub copied_again : DmaClass → (site : ℕ) → (to : Place) → List ℕ → Walking → Way (Unit {0})
copied_again class.Single k to words w = chain (taken (keeps k (length words)) w) (λ _ w. moved tt (with_store (put_words to words w.store) w))
copied_again class.Private k to words w = words_brought k to words w
copied_again class.Exclude k to words w = words_brought k to words w
copied_again class.Always k to words w = words_brought k to words w

-- a copy goes by its record, or by its class
unfoldable pub copied : Around → (site : ℕ) → (to from : Place) → (n : ℕ) → Option Kept → Walking → Way (Unit {0})
copied a k to from n (Some (kept.Copy class to_then words)) w = copied_again class k to_then words w
copied a k to from n (Some (kept.Reading value stamp)) w = copied_by (class_of (memory_at a from) (memory_at a to)) k to from n w
copied a k to from n (Some (kept.Block stamp)) w = copied_by (class_of (memory_at a from) (memory_at a to)) k to from n w
copied a k to from n None w = copied_by (class_of (memory_at a from) (memory_at a to)) k to from n w

-- a copy
unfoldable pub copy_walked : Around → (site : ℕ) → (to from : CoreEnd) → CoreExpr → Walking → Way (Unit {0})
copy_walked a k to from words w =
    chain (copy_end to w) (λ t w. chain (copy_end from w) (λ f w. chain (word words w) (λ n w. chain (tested t n w) (λ _ w. chain (tested f n w)
    (λ _ w. copied a k t f n (record_at k w.records) w)))))

-- ---- statements

-- where a statement without sites ends, or its trap
abbrev pub ran_walked : Ran → Walking → Way (Unit {0})
ran_walked (done store) w = moved tt (with_store store w)
ran_walked (trapped why store) w = Err (trapped_by why (with_store store w))

unfoldable pub plain_worked : CoreStmt → Walking → Way (Unit {0})
plain_worked s w = ran_walked (plain_done s w.store) w

-- a step that tells no event, where events are left; where none is, it isn't worked out, since nothing behind it is asked
abbrev pub while_left : List TimedEvent → Walking → Way (Unit {0}) → Way (Unit {0})
while_left [] w way = Err w
while_left (e ∷ es) w way = way

unfoldable pub plain_walked : CoreStmt → Walking → Way (Unit {0})
plain_walked s w = while_left w.rest w (plain_worked s w)

abbrev mutual
  -- a statement
  pub statement_walked : Around → CoreStmt → Walking → Way (Unit {0})
  statement_walked a (stmt.Assign onto e) w = plain_walked (stmt.Assign onto e) w
  statement_walked a (stmt.Point pointer array index) w = plain_walked (stmt.Point pointer array index) w
  statement_walked a (stmt.If' c m yes_row n no_row) w = chain (word c w) (λ word w. chosen word (row_walked a yes_row w) (row_walked a no_row w))
  statement_walked a (stmt.Loop' variable turns m row) w = plain_walked (stmt.Loop' variable turns m row) w
  statement_walked a (stmt.Io k onto peripheral args) w = call_walked a k onto peripheral args w
  statement_walked a (stmt.Block' k m row) w = block_walked a k (row_walked a row) w
  statement_walked a (stmt.Copy k to from words) w = copy_walked a k to from words w

  -- the statements of a row
  pub row_walked : Around → {n : _} → Row_of-CoreStmt n → Walking → Way (Unit {0})
  row_walked a end_of-CoreStmt w = moved tt w
  row_walked a (more_of-CoreStmt s rest) w = chain (statement_walked a s w) (λ _ w. row_walked a rest w)

-- statements one after another
abbrev pub body_walked : Around → List CoreStmt → Walking → Way (Unit {0})
body_walked a [] w = moved tt w
body_walked a (s ∷ rest) w = chain (statement_walked a s w) (λ _ w. body_walked a rest w)

-- ---- attempts

-- where an attempt begins
abbrev pub begun : Around → Walking → Walking
begun a w = record w { store = fresh a.core.now w.committed; mode = mode.Own }

-- no records
abbrev pub none_kept : List (Option Kept) → List (Option Kept)
none_kept [] = []
none_kept (r ∷ rs) = None ∷ none_kept rs

-- a commit
abbrev pub committed_by : (next : ℕ) → Walking → Walking
committed_by next w = record w { committed = w.store; next = next; records = none_kept w.records }

unfoldable pub commit_walked : (next : ℕ) → Walking → Way (Unit {0})
commit_walked next w = chain (taken (commits next) w) (λ _ w. moved tt (committed_by next w))

-- the begin of an attempt
unfoldable pub begin_walked : Around → Walking → Way (Unit {0})
begin_walked a w = chain (taken (begins w.next) w) (λ _ w. moved tt (begun a w))

-- where an exit leads
unfoldable pub exit_walked : Around → Walking → Way ℕ
exit_walked a w = found (next_of a.task.now.exit w.store) w

-- an attempt
unfoldable pub attempt_walked : Around → Walking → Way (Unit {0})
attempt_walked a w = chain (begin_walked a w) (λ _ w. chain (body_walked a a.task.now.body w) (λ _ w. chain (exit_walked a w) (λ next w. commit_walked next w)))
