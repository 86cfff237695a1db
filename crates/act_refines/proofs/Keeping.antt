-- Memory stands for a state on and on: behind a write of the plan, and behind what is noted.
use Rattle.std.specs.Prelude.{◌==◌, cond, Some, None}
use Rattle.std.proofs.Common.{◌≡◌, ◌≢◌, ◌∙◌, ℕ, ◌^◌, ◌<◌, ◌≤◌, Bool, true, false, List, length, length-set, refl, sym, ap, subst, arith, eqb-true, eq-eqb}
use Rattle.fram_ram.specs.Memories.{put}
use Rattle.task_attempts.specs.Changes as changes
use Rattle.task_ast.specs.declared.core_form.Core.{Core}
use Rattle.task_ast.specs.declared.core_form.CoreTask.{CoreTask}
use Rattle.task_ast.specs.WellFormed.{IsWellFormed}
use Rattle.walk_run.specs.declared.place.Place.{Place}
use Rattle.walk_run.specs.Store.{Store, place, put_word, word_at, words_of}
use Rattle.walk_run.specs.StoreLaws.{rooms_stay, word_other, word_same}
use Rattle.word_isa.specs.declared.parts.Scheme.{Scheme}
use Rattle.word_machine.specs.State.{Program}
use Rattle.run_plan.specs.Cells.{Cells, CellWrite, Frame, State, after_write, with_cells, with_words, puts_home, puts_aside, puts_lock, puts_flag, puts_value, puts_stamp, puts_class, puts_to, puts_from, puts_length, puts_kept, puts_state}
use Rattle.run_plan.specs.Small.{Doing, core_of}
use Rattle.act_laws.specs.Values.{with_arguments}
use Rattle.line_laws.specs.Gives.{is_temp}
use Rattle.line_laws.specs.Relation.{Related, base_at, room_at}
use Rattle.layout_laws.specs.Layouts.{layout_of}
use Rattle.cell_laws.specs.Standing.{Fits, HasHomes, IsSite, Stands, address_in, address_of, word_of, worked}
use Rattle.ram_laws.specs.Ram.{AreWhole, HasBases, HasConstants, HasRam, IsPlaceOf, RamStands}
use Rattle.ram_laws.proofs.Calling.{frame_aimless, fram_stays}
use Rattle.cell_laws.proofs.Puts.{miss}
use Rattle.cell_laws.proofs.Writes.{worked_low}
use Rattle.std.proofs.lemmas.Bool.Decides.{nat_tests}
use Rattle.word_machine.specs.Straight.{Spot}
use Rattle.ram_laws.specs.Notes.{Note, NoteFits, after_note, cell_of, noted_word, notes_mode, notes_time, notes_word, notes_outer, notes_begun}
use Rattle.act_refines.specs.Between.{AreRelated, AreWords, HasReadings, IfBegun, IsTidy, MemoryStands, WordFits, with_rest}

-- ---- what a state keeps of itself

-- words that fit, with one more that does
words_put : (k w : ℕ) (f : ℕ → ℕ) (most : ℕ) → w < most → ((j : ℕ) → f j < most) → (j : ℕ) → changes.put k w f j < most
words_put k w f most fit all j = by_test (k == j)
  where
    by_test : (b : Bool) → cond b w (f j) < most
    by_test true = fit
    by_test false = all j

-- an array's words with another that fits
whole_put : (c : Core) (at : Place) (w : ℕ) (store : Store) → at.index < length (words_of store at.array) → w < 2 ^ 32 → AreWhole c 14 store → AreWhole c 14 (put_word at w store)
whole_put c at w store inside fit h = record { rooms = λ array is. rooms_stay at w store array ∙ h.rooms array is; fits = λ q here. by_array q here (q.array == at.array) refl }
  where
    other : (q : Place) → IsPlaceOf c 14 q → ((q.array ≡ at.array) × (q.index ≡ at.index) → ⊥) → word_at (put_word at w store) q < 2 ^ 32
    other q here differs = subst (λ x. x < 2 ^ 32) (sym (word_other at w store q differs)) (h.fits q here)

    by_index : (q : Place) → IsPlaceOf c 14 q → q.array ≡ at.array → (b : Bool) → (q.index == at.index) ≡ b → word_at (put_word at w store) q < 2 ^ 32
    by_index q here one true two =
        let places : q ≡ at = λ i. place (one i) (eqb-true q.index at.index two i) in
        subst (λ x. x < 2 ^ 32) (sym (ap (word_at (put_word at w store)) places ∙ word_same at w store inside)) fit
    by_index q here one false two = other q here (λ both. absurd (cc (two, eq-eqb q.index at.index both.1)))

    by_array : (q : Place) → IsPlaceOf c 14 q → (b : Bool) → (q.array == at.array) ≡ b → word_at (put_word at w store) q < 2 ^ 32
    by_array q here true one = by_index q here (eqb-true q.array at.array one) (q.index == at.index) refl
    by_array q here false one = other q here (λ both. absurd (cc (one, eq-eqb q.array at.array both.0)))

-- other cells
tidy_cells : (c : Core) (scheme : Scheme) (s : State) (x : Cells) → AreWords x → ((k : ℕ) → IsSite k → x.flag k ≤ s.epoch) → IsTidy c scheme s → IsTidy c scheme (with_cells x s)
tidy_cells c scheme s x words flags h = record { shape = record { homes = h.shape.homes; others = h.shape.others }; homes = h.homes; aside = h.aside; words = words; flags = flags; started = h.started; bank = h.bank }

flags_put : (k e most : ℕ) (f : ℕ → ℕ) → e ≤ most → ((j : ℕ) → IsSite j → f j ≤ most) → (j : ℕ) → IsSite j → changes.put k e f j ≤ most
flags_put k e most f fit all j here = by_test (k == j)
  where
    by_test : (b : Bool) → cond b e (f j) ≤ most
    by_test true = fit
    by_test false = all j here

tidy_written : (c : Core) (scheme : Scheme) (t : CoreTask) (m : ℕ → ℕ) (s : State) (w : CellWrite) → Fits c scheme t m s w → WordFits s w → IsTidy c scheme s → IsTidy c scheme (after_write c.arrays w s)
tidy_written c scheme t m s (puts_home at w) fit word h = record {
  shape = record { homes = length-set s.store.words at.array _ ∙ h.shape.homes; others = h.shape.others };
  homes = whole_put c at w s.store fit.1 word h.homes;
  aside = record { rooms = h.aside.rooms; fits = h.aside.fits };
  words = h.words;
  flags = h.flags;
  started = h.started;
  bank = h.bank;
}
tidy_written c scheme t m s (puts_aside at w) fit word h = record {
  shape = record { homes = h.shape.homes; others = length-set s.aside at.array _ ∙ h.shape.others };
  homes = h.homes;
  aside = whole_put c at w (with_words s.aside s.store) fit.1 word h.aside;
  words = h.words;
  flags = h.flags;
  started = h.started;
  bank = h.bank;
}
tidy_written c scheme t m s (puts_lock r e) fit word h = tidy_cells c scheme s (record s.cells { lock = changes.put r e s.cells.lock }) (record { value = h.words.value; stamp = h.words.stamp; kept = h.words.kept }) h.flags h
tidy_written c scheme t m s (puts_flag k e) fit word h =
    tidy_cells c scheme s (record s.cells { flag = changes.put k e s.cells.flag }) (record { value = h.words.value; stamp = h.words.stamp; kept = h.words.kept }) (flags_put k e s.epoch s.cells.flag word h.flags) h
tidy_written c scheme t m s (puts_value k w) fit word h =
    tidy_cells c scheme s (record s.cells { value = changes.put k w s.cells.value }) (record { value = words_put k w s.cells.value (2 ^ 32) word h.words.value; stamp = h.words.stamp; kept = h.words.kept }) h.flags h
tidy_written c scheme t m s (puts_stamp k w) fit word h =
    tidy_cells c scheme s (record s.cells { stamp = changes.put k w s.cells.stamp }) (record { value = h.words.value; stamp = words_put k w s.cells.stamp (2 ^ 32) word h.words.stamp; kept = h.words.kept }) h.flags h
tidy_written c scheme t m s (puts_class k d) fit word h = tidy_cells c scheme s (record s.cells { class = changes.put k (Some d) s.cells.class }) (record { value = h.words.value; stamp = h.words.stamp; kept = h.words.kept }) h.flags h
tidy_written c scheme t m s (puts_to k at) fit word h = tidy_cells c scheme s (record s.cells { to = changes.put k (Some at) s.cells.to }) (record { value = h.words.value; stamp = h.words.stamp; kept = h.words.kept }) h.flags h
tidy_written c scheme t m s (puts_from k at) fit word h = tidy_cells c scheme s (record s.cells { from = changes.put k (Some at) s.cells.from }) (record { value = h.words.value; stamp = h.words.stamp; kept = h.words.kept }) h.flags h
tidy_written c scheme t m s (puts_length k n) fit word h = tidy_cells c scheme s (record s.cells { length = changes.put k n s.cells.length }) (record { value = h.words.value; stamp = h.words.stamp; kept = h.words.kept }) h.flags h
tidy_written c scheme t m s (puts_kept n w) fit word h =
    tidy_cells c scheme s (record s.cells { kept = changes.put n w s.cells.kept }) (record { value = h.words.value; stamp = h.words.stamp; kept = words_put n w s.cells.kept (2 ^ 32) word h.words.kept }) h.flags h
tidy_written c scheme t m s (puts_state e u b) fit word h = absurd fit

-- issues stay counted
issued_stay : (c : Core) (scheme : Scheme) (t : CoreTask) (m : ℕ → ℕ) (s : State) (w : CellWrite) → Fits c scheme t m s w → (after_write c.arrays w s).issued ≡ s.issued
issued_stay c scheme t m s (puts_home at w) fit = refl
issued_stay c scheme t m s (puts_aside at w) fit = refl
issued_stay c scheme t m s (puts_lock r e) fit = refl
issued_stay c scheme t m s (puts_flag k e) fit = refl
issued_stay c scheme t m s (puts_value k w) fit = refl
issued_stay c scheme t m s (puts_stamp k w) fit = refl
issued_stay c scheme t m s (puts_class k d) fit = refl
issued_stay c scheme t m s (puts_to k at) fit = refl
issued_stay c scheme t m s (puts_from k at) fit = refl
issued_stay c scheme t m s (puts_length k n) fit = refl
issued_stay c scheme t m s (puts_kept n w) fit = refl
issued_stay c scheme t m s (puts_state e u b) fit = absurd fit

-- what holds once the attempt has begun
if_begun : (b : Bool) (A B : Type 0) → (A → B) → IfBegun b A → IfBegun b B
if_begun true A B go h = go h
if_begun false A B go h = tt

-- ---- a write

-- laws on writes, as the crates below say them
abbrev WritesStand : Type 0
WritesStand =
    (c : Core) (scheme : Scheme) (t : CoreTask) (m : ℕ → ℕ) (s : State) (w : CellWrite) → IsWellFormed c → Stands c scheme t m s → Fits c scheme t m s w
    → Stands c scheme t (put m (address_of c scheme s w) (word_of c scheme s w)) (after_write c.arrays w s)

abbrev ConstantsStay : Type 0
ConstantsStay =
    (c : Core) (scheme : Scheme) (t : CoreTask) (m : ℕ → ℕ) (s : State) (w : CellWrite) → IsWellFormed c → Fits c scheme t m s w → HasConstants c m s.store
    → HasConstants c (put m (address_of c scheme s w) (word_of c scheme s w)) (after_write c.arrays w s).store

abbrev RamStays : Type 0
RamStays =
    (c : Core) (scheme : Scheme) (t : CoreTask) (m : ℕ → ℕ) (s : State) (w : CellWrite) → IsWellFormed c → Fits c scheme t m s w → RamStands c scheme m s
    → RamStands c scheme (put m (address_of c scheme s w) (word_of c scheme s w)) (after_write c.arrays w s)

pub memory_written : WritesStand → ConstantsStay → RamStays → (p : Program) (d : Doing) (begun : Bool) (m counts : ℕ → ℕ) (s : State) (w : CellWrite) → IsWellFormed (core_of d)
    → MemoryStands p d begun m counts s → Fits (core_of d) d.scheme d.setting.task m s w → WordFits s w
    → MemoryStands p d begun (put m (address_of (core_of d) d.scheme s w) (word_of (core_of d) d.scheme s w)) counts (after_write (core_of d).arrays w s)
memory_written writes constants ram p d begun m counts s w well h fit word = record {
  cells = writes (core_of d) d.scheme d.setting.task m s w well h.cells fit;
  constants = constants (core_of d) d.scheme d.setting.task m s w well fit h.constants;
  ram = if_begun begun _ _ (ram (core_of d) d.scheme d.setting.task m s w well fit) h.ram;
  readings = subst (λ issued. HasReadings p d counts issued) (sym (issued_stay (core_of d) d.scheme d.setting.task m s w fit)) h.readings;
  tidy = tidy_written (core_of d) d.scheme d.setting.task m s w fit word h.tidy;
}

-- ---- what is noted

stands_rest : (c : Core) (scheme : Scheme) (t : CoreTask) (m : ℕ → ℕ) (s : State) (frame : Frame) (looks : List ℕ) (issued : ℕ → ℕ) → Stands c scheme t m s → Stands c scheme t m (with_rest frame looks issued s)
stands_rest c scheme t m s frame looks issued h = record {
  store = record { state = h.store.state; homes = h.store.homes; aside = h.store.aside };
  cells = record { locks = h.cells.locks; flags = h.cells.flags; kept = h.cells.kept; records = h.cells.records };
}

tidy_rest : (c : Core) (scheme : Scheme) (s : State) (frame : Frame) (looks : List ℕ) (issued : ℕ → ℕ) → IsTidy c scheme s → IsTidy c scheme (with_rest frame looks issued s)
tidy_rest c scheme s frame looks issued h =
    record { shape = record { homes = h.shape.homes; others = h.shape.others }; homes = h.homes; aside = h.aside; words = h.words; flags = h.flags; started = h.started; bank = h.bank }

abbrev CellsStay : Type 0
CellsStay = (c : Core) (scheme : Scheme) (t : CoreTask) (m n : ℕ → ℕ) (s : State) → IsWellFormed c → Stands c scheme t m s → ((a : ℕ) → a < 65536 → n a ≡ m a) → Stands c scheme t n s

abbrev SameConstants : Type 0
SameConstants = (c : Core) (m n : ℕ → ℕ) (store : Store) → IsWellFormed c → HasConstants c m store → ((a : ℕ) → a < 65536 → n a ≡ m a) → HasConstants c n store

pub memory_noted : CellsStay → SameConstants → (p : Program) (d : Doing) (begun : Bool) (m n counts later : ℕ → ℕ) (s : State) (frame : Frame) (looks : List ℕ) (issued : ℕ → ℕ) → IsWellFormed (core_of d)
    → MemoryStands p d begun m counts s → ((a : ℕ) → a < 65536 → n a ≡ m a) → HasRam (core_of d) (worked d.scheme s.bank) n s.store frame → HasReadings p d later issued
    → MemoryStands p d true n later (with_rest frame looks issued s)
memory_noted cells constants p d begun m n counts later s frame looks issued well h same ram readings = record {
  cells = stands_rest (core_of d) d.scheme d.setting.task n s frame looks issued (cells (core_of d) d.scheme d.setting.task m n s well h.cells same);
  constants = constants (core_of d) m n s.store well h.constants same;
  ram = ram;
  readings = readings;
  tidy = tidy_rest (core_of d) d.scheme s frame looks issued h.tidy;
}

-- a note's cell lies in RAM
note_far : (note : Note) → 65536 ≤ cell_of note
note_far (notes_mode o) = omega arith
note_far (notes_time t) = omega arith
note_far (notes_word w) = omega arith
note_far (notes_outer k o) = omega arith
note_far (notes_begun k t) = omega arith

abbrev NotesStand : Type 0
NotesStand =
    (c : Core) (bank : ℕ) (m : ℕ → ℕ) (store : Store) (f : Frame) (note : Note) → IsWellFormed c → HasRam c bank m store f → NoteFits note
    → HasRam c bank (put m (cell_of note) (noted_word note)) store (after_note note f)

pub note_keeps : CellsStay → SameConstants → NotesStand → (p : Program) (d : Doing) (m counts later : ℕ → ℕ) (s : State) (looks : List ℕ) (issued : ℕ → ℕ) (note : Note) → IsWellFormed (core_of d)
    → MemoryStands p d true m counts s → NoteFits note → HasReadings p d later issued
    → MemoryStands p d true (put m (cell_of note) (noted_word note)) later (with_rest (after_note note s.frame) looks issued s)
note_keeps cells constants notes p d m counts later s looks issued note well h fit readings =
    memory_noted cells constants p d true m (put m (cell_of note) (noted_word note)) counts later s (after_note note s.frame) looks issued well h
    (λ a low. miss m (cell_of note) (noted_word note) a (λ e. absurd (omega (arith, note_far note, low, e))))
    (notes (core_of d) (worked d.scheme s.bank) m s.store s.frame note well h.ram fit) readings

-- ---- what is valued

is_ram : (a : ℕ) → 1048608 ≤ a → is_temp 0 a ≡ false
is_ram a far = grind (arith, nat_tests, far)

is_low : (a : ℕ) → a < 65536 → is_temp 0 a ≡ false
is_low a low = grind (arith, nat_tests, low)

abbrev TempsStay : Type 0
TempsStay = (c : Core) (bank : ℕ) (m n : ℕ → ℕ) (store : Store) (f : Frame) → IsWellFormed c → HasRam c bank m store f → ((a : ℕ) → 1048608 ≤ a → n a ≡ m a) → HasRam c bank n store f

pub temps_keep : CellsStay → SameConstants → TempsStay → (p : Program) (d : Doing) (m n counts : ℕ → ℕ) (s : State) → IsWellFormed (core_of d) → MemoryStands p d true m counts s → ((a : ℕ) → is_temp 0 a ≡ false → n a ≡ m a)
    → MemoryStands p d true n counts s
temps_keep cells constants temps p d m n counts s well h same =
    memory_noted cells constants p d true m n counts counts s s.frame s.looks s.issued well h (λ a low. same a (is_low a low))
    (temps (core_of d) (worked d.scheme s.bank) m n s.store s.frame well h.ram (λ a far. same a (is_ram a far))) h.readings

abbrev MemoryIsRelated : Type 0
MemoryIsRelated =
    (c : Core) (bank : ℕ) (m : Spot) (store : Store) (f : Frame) → IsWellFormed c → bank ≤ 2048 → HasBases bank m → AreWhole c 14 store
    → HasHomes c bank m.store (word_at store) → HasConstants c m.store store → HasRam c bank m.store store f → Related (layout_of c bank) (length c.pointers) m store

pub related_there : MemoryIsRelated → (p : Program) (d : Doing) (m : Spot) (s : State) → IsWellFormed (core_of d) → AreRelated p d true m s → Related (layout_of (core_of d) (worked d.scheme s.bank)) (length (core_of d).pointers) m s.store
related_there relates p d m s well h =
    relates (core_of d) (worked d.scheme s.bank) m s.store s.frame well (worked_low d.scheme s.bank) (record { zero_is = h.fixed.0; bank_is = h.fixed.3; ram_is = h.fixed.4 }) h.memory.tidy.homes
    h.memory.cells.store.homes h.memory.constants h.memory.ram

abbrev ArgumentsStand : Type 0
ArgumentsStand = (c : Core) (bank : ℕ) (m : ℕ → ℕ) (store : Store) (f : Frame) (words : List ℕ) → IsWellFormed c → HasRam c bank m store f → length words ≤ 4 → HasRam c bank (with_arguments words 33 m) store (record f { args = Some words })

pub arguments_keep : CellsStay → SameConstants → ArgumentsStand → (p : Program) (d : Doing) (m counts : ℕ → ℕ) (s : State) (words : List ℕ) → IsWellFormed (core_of d) → MemoryStands p d true m counts s → length words ≤ 4
    → MemoryStands p d true (with_arguments words 33 m) counts (with_rest (record s.frame { args = Some words }) s.looks s.issued s)
arguments_keep cells constants arguments p d m counts s words well h few =
    memory_noted cells constants p d true m (with_arguments words 33 m) counts counts s (record s.frame { args = Some words }) s.looks s.issued well h (fram_stays words m)
    (arguments (core_of d) (worked d.scheme s.bank) m s.store s.frame words well h.ram few) h.readings

abbrev TargetsStand : Type 0
TargetsStand =
    (c : Core) (bank : ℕ) (m : ℕ → ℕ) (store : Store) (f : Frame) (at : Place) → IsWellFormed c → HasRam c bank m store f → at.index < room_at (layout_of c bank) at.array → base_at (layout_of c bank) at.array ≢ 0
    → HasRam c bank (put m 1048608 (address_in c bank at)) store (record f { target = Some (Some at) })

pub target_keeps : CellsStay → SameConstants → TargetsStand → (p : Program) (d : Doing) (m counts : ℕ → ℕ) (s : State) (at : Place) → IsWellFormed (core_of d) → MemoryStands p d true m counts s
    → at.index < room_at (layout_of (core_of d) (worked d.scheme s.bank)) at.array → base_at (layout_of (core_of d) (worked d.scheme s.bank)) at.array ≢ 0
    → MemoryStands p d true (put m 1048608 (address_in (core_of d) (worked d.scheme s.bank) at)) counts (with_rest (record s.frame { target = Some (Some at) }) s.looks s.issued s)
target_keeps cells constants targets p d m counts s at well h inside written =
    let w : ℕ = address_in (core_of d) (worked d.scheme s.bank) at in
    memory_noted cells constants p d true m (put m 1048608 w) counts counts s (record s.frame { target = Some (Some at) }) s.looks s.issued well h (λ a low. miss m 1048608 w a (λ e. absurd (omega (arith, low, e))))
    (targets (core_of d) (worked d.scheme s.bank) m s.store s.frame at well h.ram inside written) h.readings

pub no_target_keeps : CellsStay → SameConstants → (p : Program) (d : Doing) (m counts : ℕ → ℕ) (s : State) → IsWellFormed (core_of d) → MemoryStands p d true m counts s
    → MemoryStands p d true m counts (with_rest (record s.frame { target = Some None }) s.looks s.issued s)
no_target_keeps cells constants p d m counts s well h =
    memory_noted cells constants p d true m m counts counts s (record s.frame { target = Some None }) s.looks s.issued well h (λ a low. refl)
    (record { volatile = h.ram.volatile; pointers = h.ram.pointers; frame = frame_aimless (core_of d) (worked d.scheme s.bank) m s.frame h.ram.frame }) h.readings

pub fram_keeps : CellsStay → SameConstants → (p : Program) (d : Doing) (m n counts : ℕ → ℕ) (s : State) → IsWellFormed (core_of d) → MemoryStands p d false m counts s → ((a : ℕ) → a < 65536 → n a ≡ m a) → MemoryStands p d false n counts s
fram_keeps cells constants p d m n counts s well h same = record {
  cells = cells (core_of d) d.scheme d.setting.task m n s well h.cells same;
  constants = constants (core_of d) m n s.store well h.constants same;
  ram = tt;
  readings = h.readings;
  tidy = h.tidy;
}
