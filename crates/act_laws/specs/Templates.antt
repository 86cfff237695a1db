-- What the laws on the code of acts say (docs/CODE.md, "What is proved"): from an act's top, where the fixed registers are
-- right, within so many steps the machine comes to an end with this memory, having shown this.
use Rattle.std.specs.Prelude.{◌≡◌, ℕ, ◌+◌, ◌*◌, ◌/◌, ◌%◌, ◌^◌, ◌<◌, ◌≤◌, ◌==◌, not, Bool, true, false, List, [], ◌∷◌, ◌++◌, length, Option, Some, None, if◌then◌else◌}
use Rattle.devices.specs.declared.event.Event.TheVariants as the
use Rattle.devices.specs.Reading.{reading}
use Rattle.devices.specs.Readings.{issued_after}
use Rattle.fram_ram.specs.Engine.{copied}
use Rattle.fram_ram.specs.Memories.{has_word, put}
use Rattle.task_ast.specs.declared.tree.Ann.{Ann}
use Rattle.task_ast.specs.declared.core_form.CoreExpr.{CoreExpr}
use Rattle.task_ast.specs.declared.core_form.CoreStmt.{CoreStmt}
use Rattle.task_ast.specs.declared.core_form.CoreStmt.TheVariants as stmt
use Rattle.task_ast.specs.declared.core_form.CoreTarget.{CoreTarget}
use Rattle.task_ast.specs.declared.core_form.Site.TheVariants as site
use Rattle.io_annot.specs.declared.choice.Mode.{Mode}
use Rattle.io_annot.specs.Choice.{choice}
use Rattle.block_scope.specs.Enter.{entered}
use Rattle.word_machine.specs.State.{Program}
use Rattle.word_machine.specs.Straight.{Spot}
use Rattle.word_machine.specs.Traces.{wrote, showed, noted}
use Rattle.word_machine.specs.TransferLaws.{copy_atoms, HasWords}
use Rattle.run_plan.specs.declared.act.Leg.TheVariants.{Across, ToKept, FromKept}
use Rattle.word_code.specs.ActCode.{keep_words_code, put_words_code}
use Rattle.word_code.specs.Acts.{jump, lock_code, drop_code, look_code, issue_code, seal_code, take_code, write_code, transfer_code, count_of, peripheral_of}
use Rattle.word_code.specs.Beginnings.{AreLow, first_of, level_count, begin_code, save_code, restore_code}
use Rattle.word_code.specs.Frames.{Frame, flag_at, stamp_at, value_at, ends_at, lock_at, outer_at, begun_at, kept_at, stride}
use Rattle.word_code.specs.Heads.{boot_at, commit_code, head_code}
use Rattle.word_code.specs.Tables.{enter_code, leave_code, keeps_code, branch, class_test}
use Rattle.line_laws.specs.Standing.{Lie}
use Rattle.act_laws.specs.Blocks.{list_code, list_makes, list_atoms, AllGood, Copy, copies, array_copies, homes, starts, pointers, pointer_cells, array_starts, home_items, begun_store}
use Rattle.act_laws.specs.Codes.{Fixed, top, End, Acts}
use Rattle.act_laws.specs.Words.{mode_word, stamp_in, record_in, is_kept, Around, is_keep, class_in, fixed_of, state_word, cell_args}

-- a lock is set
abbrev pub LockDoes : (p : Program) → (x : Fixed) → (r next : ℕ) → (s : Spot) → Type 0
LockDoes p x r next s =
    r ≤ 128 → Lie p s.pc (lock_code r ++ jump next)
    → Acts p x 2 (top x s) (record { pc = next; store = put s.store (lock_at r) x.epoch; issued = s.issued; atoms = wrote (lock_at r) x.epoch ∷ [] })

-- a record is dropped
abbrev pub DropDoes : (p : Program) → (x : Fixed) → (f : Frame) → (k next : ℕ) → (s : Spot) → Type 0
DropDoes p x f k next s =
    k ≤ 128 → Lie p s.pc (drop_code f k ++ jump next)
    → Acts p x 2 (top x s) (record { pc = next; store = put s.store (flag_at k) 0; issued = s.issued; atoms = wrote (flag_at k) 0 ∷ showed (the.Dropped k) ∷ [] })

-- a look at the clock
abbrev pub LookDoes : (p : Program) → (x : Fixed) → (f : Frame) → (k next : ℕ) → (s : Spot) → Type 0
LookDoes p x f k next s =
    Lie p s.pc (look_code f k ++ jump next)
    → Acts p x 3 (top x s) (record { pc = next; store = put s.store 1048613 (s.clock % 2 ^ 32); issued = s.issued; atoms = showed (the.Look k (s.clock % 2 ^ 32)) ∷ [] })

-- the record of a call: the word, the time, and the flag last
abbrev pub SealCallDoes : (p : Program) → (x : Fixed) → (f : Frame) → (ann : Ann) → (k next : ℕ) → (s : Spot) → Type 0
SealCallDoes p x f ann k next s =
    k ≤ 128 → Lie p s.pc (seal_code f k (Some (site.Io ann)) ++ jump next)
    → Acts p x 6 (top x s) (record {
      pc = next;
      store = put (put (put s.store (value_at k) (s.store 1048614)) (stamp_at k) (s.store 1048613)) (flag_at k) x.epoch;
      issued = s.issued;
      atoms = wrote (value_at k) (s.store 1048614) ∷ wrote (stamp_at k) (s.store 1048613) ∷ wrote (flag_at k) x.epoch ∷ showed (the.Sealed k) ∷ [];
    })

-- of a block: the time of its beginning, and the flag last
abbrev pub SealBlockDoes : (p : Program) → (x : Fixed) → (f : Frame) → (ann : Ann) → (k next : ℕ) → (s : Spot) → Type 0
SealBlockDoes p x f ann k next s =
    1 ≤ k → k ≤ 128 → Lie p s.pc (seal_code f k (Some (site.Block ann)) ++ jump next)
    → Acts p x 4 (top x s) (record {
      pc = next;
      store = put (put s.store (stamp_at k) (s.store (1048576 + begun_at k))) (flag_at k) x.epoch;
      issued = s.issued;
      atoms = wrote (stamp_at k) (s.store (1048576 + begun_at k)) ∷ wrote (flag_at k) x.epoch ∷ showed (the.Sealed k) ∷ [];
    })

-- of a copy: its class, both ends and the length, and the flag last
abbrev pub SealCopyDoes : (p : Program) → (x : Fixed) → (f : Frame) → (n k next : ℕ) → (s : Spot) → Type 0
SealCopyDoes p x f n k next s =
    k ≤ 128 → Lie p s.pc (seal_code f k (Some (site.Copy n)) ++ jump next)
    → Acts p x 10 (top x s) (record {
      pc = next;
      issued = s.issued;
      store = put (put (put (put (put s.store (value_at k) (s.store 1048621)) (ends_at k) (s.store 1048616)) (ends_at k + 1) (s.store 1048618)) (ends_at k + 2) (s.store 1048620)) (flag_at k) x.epoch;
      atoms = wrote (value_at k) (s.store 1048621) ∷ wrote (ends_at k) (s.store 1048616) ∷ wrote (ends_at k + 1) (s.store 1048618) ∷ wrote (ends_at k + 2) (s.store 1048620) ∷ wrote (flag_at k) x.epoch ∷ showed (the.Sealed k) ∷ [];
    })

-- a kept word is taken
abbrev pub TakeDoes : (p : Program) → (x : Fixed) → (f : Frame) → (k next : ℕ) → (s : Spot) → Type 0
TakeDoes p x f k next s =
    k ≤ 128 → Lie p s.pc (take_code f k ++ jump next)
    → Acts p x 4 (top x s) (record { pc = next; store = put s.store 1048614 (s.store (value_at k)); issued = s.issued; atoms = showed (the.Kept k (s.store (value_at k))) ∷ [] })

-- a write through the address in the target's cell
abbrev pub WriteDoes : (p : Program) → (x : Fixed) → (k q : ℕ) → (target : CoreTarget) → (args : List CoreExpr) → (a next : ℕ) → (s : Spot) → Type 0
WriteDoes p x k q target args a next s =
    s.store 1048608 ≡ a → has_word a ≡ true → (a + 0) % 2 ^ 32 ≡ a → Lie p s.pc (write_code (Some (stmt.Io k (Some target) q args)) ++ jump next)
    → Acts p x 4 (top x s) (record { pc = next; store = put s.store a (s.store 1048614); issued = s.issued; atoms = noted a (s.store 1048614) })

-- where a call has no target, nothing is written
abbrev pub WriteNoneDoes : (p : Program) → (x : Fixed) → (k q : ℕ) → (args : List CoreExpr) → (next : ℕ) → (s : Spot) → Type 0
WriteNoneDoes p x k q args next s =
    Lie p s.pc (write_code (Some (stmt.Io k None q args)) ++ jump next) → Acts p x 1 (top x s) (record { pc = next; store = s.store; issued = s.issued; atoms = [] })

-- an issue of a peripheral with so many arguments
abbrev pub Issues : (p : Program) (x : Fixed) (k n q next : ℕ) (s : Spot) → Type 0
Issues p x k n q next s =
    Acts p x 7 (top x s) (record {
      pc = next;
      store = put s.store 1048614 (reading (p.values q) (s.issued q + 1));
      issued = issued_after p.values s.issued q;
      atoms = showed (the.Issued k q (cell_args n s.store) (reading (p.values q) (s.issued q + 1))) ∷ [];
    })

abbrev pub IssueDoes : (p : Program) → (x : Fixed) → (f : Frame) → (o : Option CoreStmt) → (k next : ℕ) → (s : Spot) → Type 0
IssueDoes p x f o k next s =
    count_of o ≤ 4 → peripheral_of f o < 256 → Lie p s.pc (issue_code f k o ++ jump next)
    → Issues p x k (count_of o) (peripheral_of f o) next s

-- a block is entered
abbrev pub EnterDoes : (ann : Ann) → (p : Program) → (x : Fixed) → (k next : ℕ) → (s : Spot) → (m : Mode) → (has : Bool) → Type 0
EnterDoes ann p x k next s m has =
    Around x ann k s m has → 1 ≤ k
    → Lie p s.pc (enter_code ann k ++ jump next)
    → Acts p x 21 (top x s) (record {
      pc = next;
      issued = s.issued;
      atoms = [];
      store = put (put (put s.store (1048576 + begun_at k) (s.store 1048613)) (1048576 + outer_at k) (mode_word m)) 1048615 (mode_word (entered m ann (stamp_in has (s.store (stamp_at k))) (s.store 1048613)));
    })

-- an I/O site chooses: it keeps, or issues
abbrev pub ChooseDoes : (ann : Ann) → (p : Program) → (x : Fixed) → (k value keep issue : ℕ) → (s : Spot) → (m : Mode) → (has : Bool) → Type 0
ChooseDoes ann p x k value keep issue s m has =
    Around x ann k s m has
    → Lie p s.pc (keeps_code (Some (site.Io ann)) k ++ branch keep issue)
    → Acts p x 20 (top x s) (record {
      pc = if not (is_kept (choice m ann (record_in has value (s.store (stamp_at k))) (s.store 1048613))) then issue else keep;
      store = s.store;
      issued = s.issued;
      atoms = [];
    })

-- a copy chooses: a record is kept
abbrev pub ChooseCopyDoes : (p : Program) → (x : Fixed) → (n k keep issue : ℕ) → (s : Spot) → (has : Bool) → Type 0
ChooseCopyDoes p x n k keep issue s has =
    k ≤ 128 → (s.store (flag_at k) == x.epoch) ≡ has → Lie p s.pc (keeps_code (Some (site.Copy n)) k ++ branch keep issue)
    → Acts p x 4 (top x s) (record { pc = if not has then issue else keep; store = s.store; issued = s.issued; atoms = [] })

-- a block is left: its record is made anew where it kept nothing
abbrev pub LeaveDoes : (p : Program) → (x : Fixed) → (k next acts : ℕ) → (s : Spot) → (m : Mode) → Type 0
LeaveDoes p x k next acts s m =
    k ≤ 128 → s.store 1048615 ≡ mode_word m → Lie p s.pc (leave_code k ++ branch next acts)
    → Acts p x 7 (top x s) (record { pc = if not (is_keep m) then acts else next; store = put s.store 1048615 (s.store (1048576 + outer_at k)); issued = s.issued; atoms = [] })

-- one of three lists
abbrev pub ByClassDoes : (keeps one two : Bool) → (p : Program) → (x : Fixed) → (k single private rest : ℕ) → (s : Spot) → Type 0
ByClassDoes keeps one two p x k single private rest s =
    k ≤ 128 → (class_in keeps k s.store == 1) ≡ one → (class_in keeps k s.store == 2) ≡ two
    → Lie p s.pc (class_test keeps k 1 single (s.pc + 6) ++ class_test keeps k 2 private rest)
    → Acts p x 10 (top x s) (record { pc = if one then single else if two then private else rest; store = s.store; issued = s.issued; atoms = [] })

-- the words at a copy's destination are kept
abbrev pub KeepWordsDoes : (p : Program) → (x : Fixed) → (f : Frame) → (k next n from : ℕ) → (s : Spot) → Type 0
KeepWordsDoes p x f k next n from s =
    s.store 1048616 ≡ from → s.store 1048620 ≡ n → n < 2 ^ 32 → HasWords (kept_at f k) from 0 n
    → Lie p s.pc (keep_words_code f k s.pc next)
    → Acts p x (9 * n + 5) (top x s) (record { pc = next; store = copied (kept_at f k) from 0 n s.store; issued = s.issued; atoms = copy_atoms (kept_at f k) from 0 n s.store })

-- and go there again
abbrev pub PutWordsDoes : (p : Program) → (x : Fixed) → (f : Frame) → (k next n to : ℕ) → (s : Spot) → Type 0
PutWordsDoes p x f k next n to s =
    k ≤ 128 → s.store (ends_at k) ≡ to → s.store (ends_at k + 2) ≡ n → n < 2 ^ 32 → HasWords to (kept_at f k) 0 n
    → Lie p s.pc (put_words_code f k s.pc next)
    → Acts p x (9 * n + 6) (top x s) (record { pc = next; store = copied to (kept_at f k) 0 n s.store; issued = s.issued; atoms = showed (the.Kept k n) ∷ copy_atoms to (kept_at f k) 0 n s.store })

-- across, to the kept words, and from them
abbrev pub AcrossDoes : (p : Program) → (x : Fixed) → (f : Frame) → (n to from k next : ℕ) → (s : Spot) → Type 0
AcrossDoes p x f n to from k next s =
    s.store 1048616 ≡ to → s.store 1048618 ≡ from → s.store 1048620 ≡ n → HasWords to from 0 n → Lie p s.pc (transfer_code f k Across ++ jump next)
    → Acts p x (n + 5) (top x s) (record { pc = next; store = copied to from 0 n s.store; issued = s.issued; atoms = copy_atoms to from 0 n s.store ++ (showed (the.Copied k from to n) ∷ []) })

abbrev pub ToKeptDoes : (p : Program) → (x : Fixed) → (f : Frame) → (n from k next : ℕ) → (s : Spot) → Type 0
ToKeptDoes p x f n from k next s =
    s.store 1048618 ≡ from → s.store 1048620 ≡ n → HasWords (kept_at f k) from 0 n → Lie p s.pc (transfer_code f k ToKept ++ jump next)
    → Acts p x (n + 5) (top x s) (record { pc = next; store = copied (kept_at f k) from 0 n s.store; issued = s.issued; atoms = copy_atoms (kept_at f k) from 0 n s.store ++ (showed (the.Copied k from (kept_at f k) n) ∷ []) })

abbrev pub FromKeptDoes : (p : Program) → (x : Fixed) → (f : Frame) → (n to k next : ℕ) → (s : Spot) → Type 0
FromKeptDoes p x f n to k next s =
    k ≤ 128 → s.store (ends_at k) ≡ to → s.store (ends_at k + 2) ≡ n → HasWords to (kept_at f k) 0 n → Lie p s.pc (transfer_code f k FromKept ++ jump next)
    → Acts p x (n + 5) (top x s) (record { pc = next; store = copied to (kept_at f k) 0 n s.store; issued = s.issued; atoms = copy_atoms to (kept_at f k) 0 n s.store ++ (showed (the.Copied k (kept_at f k) to n) ∷ []) })

-- an attempt begins: its mode, its pointers, its volatile words, and the homes of the working bank
abbrev pub BeginDoes : (p : Program) → (x : Fixed) → (fr : Frame) → (task next : ℕ) → (s : Spot) → (hc : x.committed ≤ 2048) → (hw : x.working ≤ 2048) → (few : 0 + level_count fr.scheme fr.core.arrays ≤ 2048) → Type 0
BeginDoes p x fr task next s hc hw few =
    length fr.core.pointers ≤ 256 → AllGood starts (array_starts 832 fr.core.arrays) → Lie p s.pc (begin_code fr task ++ jump next)
    → let ptrs = pointer_cells 0 (length fr.core.pointers) in
    let vols = array_starts 832 fr.core.arrays in
    let b = homes x.committed x.working in
    let hs = home_items x.committed x.working 0 (level_count fr.scheme fr.core.arrays) hc hw few in
    Acts p x (3 + length (list_code pointers ptrs) + length (list_code starts vols) + length (list_code b hs)) (top x s) (record {
      pc = next;
      store = begun_store ptrs vols b hs s.store;
      issued = s.issued;
      atoms = showed (the.Begin task) ∷ list_atoms b hs (list_makes starts vols (list_makes pointers ptrs (put s.store 1048615 0)));
    })

-- a commit: one write of the state, its event, and then the registers of the next attempt
abbrev pub CommitDoes : (p : Program) → (x : Fixed) → (f : Frame) → (task next : ℕ) → (s : Spot) → Type 0
CommitDoes p x f task next s =
    x.epoch + 1 < 2 ^ 24 → task < 128 → x.working / 2 ^ 11 < 2 → Lie p s.pc (commit_code f task ++ jump next)
    → Acts p (fixed_of (stride f.scheme) (state_word (x.epoch + 1) task (x.working / 2 ^ 11))) 25 (top x s) (record {
      pc = next;
      store = put s.store 0 (state_word (x.epoch + 1) task (x.working / 2 ^ 11));
      issued = s.issued;
      atoms = wrote 0 (state_word (x.epoch + 1) task (x.working / 2 ^ 11)) ∷ showed (the.Commit task) ∷ [];
    })

-- the head leads to the running task's boot stub, or to the halt's, and its registers are right
abbrev pub HeadDoes : (p : Program) → (stride tasks task : ℕ) → (s : Spot) → Type 0
HeadDoes p stride tasks task s =
    s.pc ≡ 0 → tasks ≤ 64 → s.store 0 % 256 / 2 ≡ task → task ≤ tasks → Lie p 0 (head_code stride tasks)
    → Acts p (fixed_of stride (s.store 0)) 48 s (record { pc = boot_at tasks task; store = s.store; issued = s.issued; atoms = [] })

-- the copies of a region: all of them, or none
abbrev pub copied_end : (next : ℕ) → List Copy → Bool → Spot → End
copied_end next cs true s = record { pc = next; store = list_makes copies cs s.store; issued = s.issued; atoms = list_atoms copies cs s.store }
copied_end next cs false s = record { pc = next; store = s.store; issued = s.issued; atoms = [] }

-- a region is saved where its lock doesn't hold, and restored where it does
abbrev pub SaveDoes : (p : Program) (x : Fixed) (f : Frame) (r next : ℕ) (s : Spot) (held : Bool) → Type 0
SaveDoes p x f r next s held =
    let cs = array_copies f.areas 0 2048 (first_of f r) in
    r ≤ 128 → AreLow f.areas → (s.store (lock_at r) == x.epoch) ≡ held → Lie p s.pc (save_code f r next)
    → Acts p x (length (list_code copies cs) + 5) (top x s) (copied_end next cs (not held) s)

abbrev pub RestoreDoes : (p : Program) (x : Fixed) (f : Frame) (r next : ℕ) (s : Spot) (held : Bool) → Type 0
RestoreDoes p x f r next s held =
    let cs = array_copies f.areas 2048 0 (first_of f r) in
    r ≤ 128 → AreLow f.areas → (s.store (lock_at r) == x.epoch) ≡ held → Lie p s.pc (restore_code f r next)
    → Acts p x (length (list_code copies cs) + 6) (top x s) (copied_end next cs held s)
