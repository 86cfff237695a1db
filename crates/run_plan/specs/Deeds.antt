-- What each act does: its small steps in order, then what lives between acts and the way it goes on (docs/PLAN.md, "What
-- acts do").
use Rattle.std.specs.Prelude.{ℕ, ◌+◌, ◌-◌, cond, List, [], ◌∷◌, map, Option, Some, None, Result, Ok}
use Rattle.ease_base.specs.Found.{with_found}
use Rattle.task_ast.specs.declared.core_form.CoreExpr.{CoreExpr}
use Rattle.task_ast.specs.declared.core_form.CoreTarget.{CoreTarget}
use Rattle.task_ast.specs.declared.core_form.CoreEnd.{CoreEnd}
use Rattle.task_ast.specs.declared.core_form.CoreStmt.{CoreStmt}
use Rattle.task_ast.specs.declared.core_form.CoreStmt.TheVariants as stmt
use Rattle.task_ast.specs.declared.core_form.Core.{Core}
use Rattle.task_ast.specs.declared.core_form.Site.{Site}
use Rattle.task_ast.specs.declared.core_form.Site.TheVariants as site
use Rattle.io_annot.specs.declared.choice.Mode.{Mode}
use Rattle.io_annot.specs.declared.choice.Mode.TheVariants as mode
use Rattle.io_annot.specs.declared.choice.Choice.{Choice}
use Rattle.io_annot.specs.declared.choice.Choice.TheVariants as choices
use Rattle.io_annot.specs.Choice.{choice}
use Rattle.block_scope.specs.Enter.{entered}
use Rattle.region_split.specs.declared.class.DmaClass.{DmaClass}
use Rattle.region_split.specs.declared.class.DmaClass.TheVariants as class
use Rattle.walk_run.specs.declared.trap.Trap.{Trap}
use Rattle.walk_run.specs.declared.place.Place.{Place}
use Rattle.walk_run.specs.Store.{Store, put_word, fresh}
use Rattle.walk_run.specs.Value.{value_of, target_place, end_place, with_room}
use Rattle.walk_run.specs.Plain.{Ran, done, trapped, chosen, plain_done}
use Rattle.walk_run.specs.PlainWrites.{Write, sets, plain_writes}
use Rattle.walk_run.specs.Walk.{move_words}
use Rattle.devices.specs.Reading.{reading_in}
use Rattle.devices.specs.Journal.{JournalEvent, keep, begins, looks, keeps, drops, issues, seals, copies, commits}
use Rattle.word_isa.specs.declared.parts.Scheme.{Scheme}
use Rattle.word_isa.specs.declared.parts.Scheme.TheVariants.{Undo, Bank}
use Rattle.task_attempts.specs.State.{Setting}
use Rattle.task_attempts.specs.Changes.{put}
use Rattle.task_attempts.specs.Told.{next_look}
use Rattle.task_attempts.specs.Calls.{annotation, number_of, site_at}
use Rattle.task_attempts.specs.Copies.{words_at, put_words, shown, class_at}
use Rattle.run_plan.specs.declared.act.Leg.{Leg}
use Rattle.run_plan.specs.declared.act.Leg.TheVariants.{Across, ToKept, FromKept}
use Rattle.run_plan.specs.declared.act.Act.{Act}
use Rattle.run_plan.specs.declared.act.Act.TheVariants as act
use Rattle.run_plan.specs.Cells.{CopyValued, State, CellWrite, puts_lock, puts_flag, puts_value, puts_stamp, puts_class, puts_to, puts_from, puts_length, puts_state, no_frame}
use Rattle.run_plan.specs.Small.{Doing, Atom, Way, ahead, first_way, second_way, third_way, Done, does, fails, stuck, silent, showing, writing, have, unless_fails, same, sets_frame, one, silently, shown_last, with_volatile, lock_holds, flag_holds, core_of}
use Rattle.run_plan.specs.Words.{first_places, home_places, save_writes, restore_writes, home_writes, move_writes, put_writes, keep_writes, kept_at, recorded_words}
use Rattle.run_plan.specs.Finding.{statement_of}

-- ---- an attempt's beginning, and statements without sites

-- the places that a beginning brings level: under `bank` all nonvolatile ones
abbrev pub begin_writes : Scheme → Core → State → List CellWrite
begin_writes Undo c s = []
begin_writes Bank c s = restore_writes s (home_places c)

-- volatile words are as declared, pointers point to nothing, and the mode is Own
abbrev pub begun_state : Core → State → State
begun_state c s = record s { store = fresh c s.store; frame = record no_frame { mode = Some mode.Own } }

-- a statement's homes are written, then what is volatile; or it traps behind its writes
abbrev pub plain_ends : Core → List Atom → Ran → Done
plain_ends c atoms (done store) = does atoms (with_volatile c store) ahead
plain_ends c atoms (trapped why store) = fails atoms why

-- ---- what is valued

-- a call's target, if it has one
abbrev pub target_found : Option CoreTarget → Store → Result (Option Place) Trap
target_found None store = Ok None
target_found (Some t) store = with_found (target_place t store) (λ at. Ok (Some at))

-- words from left to right
abbrev pub all_values : List CoreExpr → Store → Result (List ℕ) Trap
all_values [] store = Ok []
all_values (e ∷ es) store = with_found (value_of e store) (λ word. with_found (all_values es store) (λ words. Ok (word ∷ words)))

-- a copy: destination, source and length are valued in this order, and both ranges tested
abbrev pub copy_found : Setting → (to from : CoreEnd) → CoreExpr → Store → Result CopyValued Trap
copy_found setting to from words store =
    with_found (end_place to store) (λ t. with_found (end_place from store) (λ f. with_found (value_of words store) (λ n.
    with_found (with_room store t n) (λ _. with_found (with_room store f n) (λ _. Ok (record { to = t; from = f; length = n; class = class_at setting t f }))))))

-- what a site's statement is valued at is noted
abbrev pub value_done : Setting → Option CoreStmt → State → Done
value_done setting (Some (stmt.Assign x e)) s = stuck
value_done setting (Some (stmt.Point p array i)) s = stuck
value_done setting (Some (stmt.If' c m yes_row n no_row)) s = stuck
value_done setting (Some (stmt.Loop' i turns m row)) s = stuck
value_done setting (Some (stmt.Io k target p args)) s =
    unless_fails (target_found target s.store) (λ at. unless_fails (all_values args s.store) (λ words.
    sets_frame (record s.frame { target = Some at; args = Some words })))
value_done setting (Some (stmt.Block' k m row)) s = stuck
value_done setting (Some (stmt.Copy k to from words)) s =
    unless_fails (copy_found setting to from words s.store) (λ v. sets_frame (record s.frame { copy = Some v }))
value_done setting None s = stuck

-- ---- calls

-- the value and the stamp of a call's record, and the stamp of a block's
abbrev pub reading_held : State → (site : ℕ) → Option (ℕ × ℕ)
reading_held s k = cond (flag_holds s k) (Some (s.cells.value k, s.cells.stamp k)) None

abbrev pub stamp_held : State → (site : ℕ) → Option ℕ
stamp_held s k = cond (flag_holds s k) (Some (s.cells.stamp k)) None

-- the first way issues, the second keeps
abbrev pub by_choice : Choice → Way
by_choice (choices.Keep value) = second_way
by_choice choices.Issue = first_way

-- a call goes by its record and the mode; a copy by whether it has a record
abbrev pub choose_done : Option Site → (site : ℕ) → State → Done
choose_done (Some (site.Io ann)) k s =
    have s.frame.mode (λ m. have s.frame.time (λ t. does [] same (by_choice (choice m ann (reading_held s k) t))))
choose_done (Some (site.Block ann)) k s = stuck
choose_done (Some (site.Copy n)) k s = does [] same (cond (flag_holds s k) second_way first_way)
choose_done None k s = stuck

-- a call's peripheral is issued with the arguments that were valued
abbrev pub issue_done : Setting → Option CoreStmt → (site : ℕ) → State → Done
issue_done setting (Some (stmt.Assign x e)) k s = stuck
issue_done setting (Some (stmt.Point p array i)) k s = stuck
issue_done setting (Some (stmt.If' c m yes_row n no_row)) k s = stuck
issue_done setting (Some (stmt.Loop' i turns m row)) k s = stuck
issue_done setting (Some (stmt.Io i target p args)) k s = have s.frame.args (λ words.
    let number = number_of setting p in
    let reading = reading_in setting.rules.world.feeds number (s.issued number + 1) in
    does (showing (issues k number words reading) ∷ []) (λ after. record after { frame = record s.frame { word = Some reading } }) ahead)
issue_done setting (Some (stmt.Block' i m row)) k s = stuck
issue_done setting (Some (stmt.Copy i to from n)) k s = stuck
issue_done setting None k s = stuck

-- the record's cells, and then its flag
abbrev pub sealed : (site : ℕ) → List CellWrite → Done
sealed k writes = does (shown_last writes (seals k)) same ahead

-- a call's record has its word and time, a block's the time of its beginning, a copy's its class, ends and length
abbrev pub seal_done : Option Site → (site : ℕ) → State → Done
seal_done (Some (site.Io ann)) k s = have s.frame.word (λ word. have s.frame.time (λ t.
    sealed k (puts_value k word ∷ puts_stamp k t ∷ puts_flag k s.epoch ∷ [])))
seal_done (Some (site.Block ann)) k s = have (s.frame.begun k) (λ t. sealed k (puts_stamp k t ∷ puts_flag k s.epoch ∷ []))
seal_done (Some (site.Copy n)) k s = have s.frame.copy (λ v.
    sealed k (puts_class k v.class ∷ puts_to k v.to ∷ puts_from k v.from ∷ puts_length k v.length ∷ puts_flag k s.epoch ∷ []))
seal_done None k s = stuck

-- a look at the clock
abbrev pub look_done : (site : ℕ) → State → Done
look_done k s =
    let t = next_look s.looks in
    does (showing (looks k t) ∷ []) (λ after. record after { frame = record s.frame { time = Some t } }) ahead

-- the record's value is taken
abbrev pub take_done : (site : ℕ) → State → Done
take_done k s =
    let word = s.cells.value k in
    does (showing (keeps k word) ∷ []) (λ after. record after { frame = record s.frame { word = Some word } }) ahead

-- words to homes are small steps, words to volatile places belong to the act's end
abbrev pub words_put : Core → List Write → Store → Done
words_put c writes store = does (map silent (home_writes c writes)) (with_volatile c store) ahead

abbrev pub words_shown : Core → List Write → JournalEvent → Store → Done
words_shown c writes e store = does (shown_last (home_writes c writes) e) (with_volatile c store) ahead

-- the word goes to the target, if there is one
abbrev pub write_done : Core → Option Place → State → Done
write_done c None s = does [] same ahead
write_done c (Some at) s = have s.frame.word (λ word. words_put c (sets at word ∷ []) (put_word at word s.store))

-- ---- blocks

-- the mode inside a block; its beginning and the mode outside are noted
abbrev pub enter_done : Setting → (site : ℕ) → State → Done
enter_done setting k s = have s.frame.mode (λ m. have s.frame.time (λ t. sets_frame (record s.frame {
  mode = Some (entered m (annotation setting k) (stamp_held s k) t);
  outer = put k (Some m) s.frame.outer;
  begun = put k (Some t) s.frame.begun;
})))

-- a block that isn't in mode Keep inside goes the first way
abbrev pub leaving : Mode → Way
leaving mode.Keep = ahead
leaving mode.Own = first_way
leaving mode.Force = first_way

-- the mode outside is back
abbrev pub leave_done : (site : ℕ) → State → Done
leave_done k s = have s.frame.mode (λ inside. have (s.frame.outer k) (λ m.
    does [] (λ after. record after { frame = record s.frame { mode = Some m } }) (leaving inside)))

-- ---- copies

-- the class as it was valued
abbrev pub class_valued : Option CopyValued → Option DmaClass
class_valued None = None
class_valued (Some v) = Some v.class

-- the class by the record, or as it was valued
abbrev pub class_now : State → (site : ℕ) → Option DmaClass
class_now s k = cond (flag_holds s k) (s.cells.class k) (class_valued s.frame.copy)

-- the way of a class
abbrev pub by_class : DmaClass → Way
by_class class.Single = first_way
by_class class.Private = second_way
by_class class.Exclude = third_way
by_class class.Always = third_way

-- words go across, to the kept words, or from these to the recorded destination
abbrev pub transfer_done : Doing → Leg → (site : ℕ) → State → Done
transfer_done d Across k s = have s.frame.copy (λ v.
    words_shown (core_of d) (move_writes v.length v.to v.from s.store) (copies k (shown v.from) (shown v.to) v.length) (move_words v.length v.to v.from s.store))
transfer_done d ToKept k s = have s.frame.copy (λ v.
    does (shown_last (keep_writes (kept_at d k) (words_at s.store v.from v.length)) (copies k (shown v.from) keep v.length)) same ahead)
transfer_done d FromKept k s = have (s.cells.to k) (λ to.
    let words = recorded_words d k s in
    words_shown (core_of d) (put_writes to words) (copies k keep (shown to) (s.cells.length k)) (put_words to words s.store))

-- the words at the destination are kept
abbrev pub keep_done : Doing → (site : ℕ) → State → Done
keep_done d k s = have s.frame.copy (λ v. silently (keep_writes (kept_at d k) (words_at s.store v.to v.length)))

-- the kept words are shown and put to the recorded destination
abbrev pub put_done : Doing → (site : ℕ) → State → Done
put_done d k s = have (s.cells.to k) (λ to.
    let words = recorded_words d k s in
    does (showing (keeps k (s.cells.length k)) ∷ map silent (home_writes (core_of d) (put_writes to words))) (with_volatile (core_of d) (put_words to words s.store)) ahead)

-- ---- all acts

-- the bank behind a commit: under `undo` the same
abbrev pub next_bank : Scheme → (bank : ℕ) → ℕ
next_bank Undo bank = bank
next_bank Bank bank = 1 - bank

-- what an act does
abbrev pub act_done : Doing → Act → State → Done
act_done d (act.Restore r) s = silently (restore_writes s (cond (lock_holds s r) (first_places d r) []))
act_done d (act.Begin t) s = does (showing (begins t) ∷ map silent (begin_writes d.scheme (core_of d) s)) (begun_state (core_of d)) ahead
act_done d (act.Save r) s = silently (save_writes s (cond (lock_holds s r) [] (first_places d r)))
act_done d (act.Lock r) s = one (silent (puts_lock r s.epoch))
act_done d (act.Plain x) s = plain_ends (core_of d) (map silent (home_writes (core_of d) (plain_writes x s.store))) (plain_done x s.store)
act_done d (act.Test' c m yes_row n no_row) s = unless_fails (value_of c s.store) (λ word. does [] same (chosen word first_way second_way))
act_done d (act.Value k) s = value_done d.setting (statement_of d k) s
act_done d (act.Look k) s = look_done k s
act_done d (act.Choose' k m issue_row n keep_row) s = choose_done (site_at d.setting.task.sites k) k s
act_done d (act.Drop k) s = one (writing (puts_flag k 0) (drops k))
act_done d (act.Issue k) s = issue_done d.setting (statement_of d k) k s
act_done d (act.Seal k) s = seal_done (site_at d.setting.task.sites k) k s
act_done d (act.Take k) s = take_done k s
act_done d (act.Write k) s = have s.frame.target (λ target. write_done (core_of d) target s)
act_done d (act.Enter k) s = enter_done d.setting k s
act_done d (act.Leave' k m row) s = leave_done k s
act_done d (act.ByClass' k l single_row m private_row n rest_row) s = have (class_now s k) (λ c. does [] same (by_class c))
act_done d (act.Transfer k leg) s = transfer_done d leg k s
act_done d (act.KeepWords k) s = keep_done d k s
act_done d (act.PutWords k) s = put_done d k s
act_done d (act.Commit next) s = one (writing (puts_state (s.epoch + 1) next (next_bank d.scheme s.bank)) (commits next))
