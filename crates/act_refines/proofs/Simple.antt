-- Acts that write one cell, or note one word.
use Rattle.std.specs.Prelude.{drop, Some}
use Rattle.std.proofs.Common.{◌∙◌, ℕ, ◌^◌, ◌<◌, ◌≤◌, Bool, true, List, [], ◌∷◌, refl, sym, ap, subst, arith}
use Rattle.devices.specs.Journal.{Place, looks}
use Rattle.fram_ram.specs.Memories.{put}
use Rattle.task_ast.specs.WellFormed.{IsWellFormed}
use Rattle.task_attempts.specs.Told.{next_look}
use Rattle.word_machine.specs.State.{Program}
use Rattle.word_machine.specs.Straight.{Spot}
use Rattle.run_plan.specs.declared.act.Act.TheVariants as act
use Rattle.run_plan.specs.Cells.{CellWrite, State, after_write, puts_flag, puts_lock}
use Rattle.run_plan.specs.Small.{Doing, core_of}
use Rattle.word_code.specs.Frames.{Frame, flag_at, lock_at}
use Rattle.act_laws.specs.Codes.{Fixed}
use Rattle.act_laws.specs.Templates.{DropDoes, LockDoes, LookDoes}
use Rattle.cell_laws.specs.Standing.{Fits, IsSite, address_of, word_of}
use Rattle.ram_laws.specs.Notes.{Note, NoteFits, after_note, cell_of, noted_word, notes_time}
use Rattle.act_refines.specs.Between.{HasReadings, MemoryStands, WordFits, fixed_in, with_rest}
use Rattle.act_refines.specs.Does.{DoesAct, IsDue, Nothing, frame_of}
use Rattle.act_refines.specs.Seen.{tells}
use Rattle.act_refines.proofs.Going.{goes_on, related_at}

-- a write keeps memory related, and so does what is noted
abbrev pub WritesKeep : Type 0
WritesKeep =
    (p : Program) (d : Doing) (begun : Bool) (m counts : ℕ → ℕ) (s : State) (w : CellWrite) → IsWellFormed (core_of d)
    → MemoryStands p d begun m counts s → Fits (core_of d) d.scheme d.setting.task m s w → WordFits s w
    → MemoryStands p d begun (put m (address_of (core_of d) d.scheme s w) (word_of (core_of d) d.scheme s w)) counts (after_write (core_of d).arrays w s)

abbrev pub NotesKeep : Type 0
NotesKeep =
    (p : Program) (d : Doing) (m counts : ℕ → ℕ) (s : State) (looks : List ℕ) (note : Note) → IsWellFormed (core_of d)
    → MemoryStands p d true m counts s → NoteFits note
    → MemoryStands p d true (put m (cell_of note) (noted_word note)) counts (with_rest (after_note note s.frame) looks s.issued s)

-- the same where issues are counted too
abbrev pub NotesCount : Type 0
NotesCount =
    (p : Program) (d : Doing) (m counts later : ℕ → ℕ) (s : State) (looks : List ℕ) (issued : ℕ → ℕ) (note : Note) → IsWellFormed (core_of d)
    → MemoryStands p d true m counts s → NoteFits note → HasReadings p d later issued
    → MemoryStands p d true (put m (cell_of note) (noted_word note)) later (with_rest (after_note note s.frame) looks issued s)

pub notes_keep : NotesCount → NotesKeep
notes_keep count p d m counts s times note well h fit = count p d m counts counts s times s.issued note well h fit h.readings

-- a lock is set
pub lock_does : ((p : Program) (x : Fixed) (r next : ℕ) (s : Spot) → LockDoes p x r next s) → WritesKeep
    → (p : Program) (place_of : ℕ → Place) (d : Doing) (number : ℕ) (keeps : Bool) (r : ℕ) → r ≤ 128 → DoesAct p place_of d number keeps (act.Lock r) Nothing
lock_does template keep p place_of d number keeps r low next m s well has related asks =
    let x : Fixed = fixed_in d.scheme s in
    goes_on p place_of x x 2 2 m _ next _ _ related.fixed (template p x r next m low has) (omega arith) refl refl
    (λ there fixed stored issued. related_at p d true there (put m.store (lock_at r) s.epoch) m.issued (after_write (core_of d).arrays (puts_lock r s.epoch) s) fixed stored issued
    (keep p d true m.store m.issued s (puts_lock r s.epoch) well related.memory low tt))

-- a record is dropped
pub drop_does : ((p : Program) (x : Fixed) (f : Frame) (k next : ℕ) (s : Spot) → DropDoes p x f k next s) → WritesKeep
    → (p : Program) (place_of : ℕ → Place) (d : Doing) (number : ℕ) (keeps : Bool) (k : ℕ) → IsSite k → DoesAct p place_of d number keeps (act.Drop k) Nothing
drop_does template keep p place_of d number keeps k here next m s well has related asks =
    let x : Fixed = fixed_in d.scheme s in
    let started : 0 < s.epoch = related.memory.tidy.started in
    goes_on p place_of x x 2 4 m _ next _ _ related.fixed (template p x (frame_of d number) k next m here.few has) (omega arith) refl refl
    (λ there fixed stored issued. related_at p d true there (put m.store (flag_at k) 0) m.issued (after_write (core_of d).arrays (puts_flag k 0) s) fixed stored issued
    (keep p d true m.store m.issued s (puts_flag k 0) well related.memory (here, λ e. absurd (omega (arith, started, e))) (omega arith)))

-- a look at the clock
pub look_does : ((p : Program) (x : Fixed) (f : Frame) (k next : ℕ) (s : Spot) → LookDoes p x f k next s) → NotesKeep
    → (p : Program) (place_of : ℕ → Place) (d : Doing) (number : ℕ) (keeps : Bool) (k : ℕ) → DoesAct p place_of d number keeps (act.Look k) IsDue
look_does template keep p place_of d number keeps k next m s well has related due =
    let x : Fixed = fixed_in d.scheme s in
    let t : ℕ = next_look s.looks in
    let fits : t < 2 ^ 32 = subst (λ w. w < 2 ^ 32) (sym due) (omega arith) in
    goes_on p place_of x x 3 6 m _ next _ _ related.fixed (template p x (frame_of d number) k next m has) (omega arith) refl (ap (λ w. tells (looks k w) ∷ []) (sym due))
    (λ there fixed stored issued. related_at p d true there (put m.store 1048613 t) m.issued (with_rest (record s.frame { time = Some t }) (drop 1 s.looks) s.issued s) fixed (stored ∙ ap (put m.store 1048613) (sym due)) issued
    (keep p d m.store m.issued s (drop 1 s.looks) (notes_time t) well related.memory fits))
