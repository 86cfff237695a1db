-- An attempt begins, under `undo`: memory stands for fresh volatile words, pointers at nothing, and the mode Own.
use Rattle.std.specs.Prelude.{map, slice_index, slice_index_or, Some, None}
use Rattle.std.specs.List.{AllByRecursion}
use Rattle.std.proofs.Common.{◌≡◌, ◌≢◌, ◌∙◌, ℕ, zero, suc, ◌+◌, ◌*◌, ◌^◌, ◌<◌, ◌≤◌, Bool, true, false, List, [], ◌∷◌, ◌++◌, length, length-append, refl, sym, ap, subst, arith, eqb-true}
use Rattle.devices.specs.Journal as journal
use Rattle.devices.specs.declared.event.Event.TheVariants as the
use Rattle.fram_ram.specs.Memories.{put}
use Rattle.io_annot.specs.declared.choice.Mode.TheVariants as mode
use Rattle.task_ast.specs.declared.tree.Kind.{Kind}
use Rattle.task_ast.specs.declared.tree.Kind.TheVariants.{Nv, Const, Vol}
use Rattle.task_ast.specs.declared.core_form.Array.{Array}
use Rattle.task_ast.specs.declared.core_form.Core.{Core}
use Rattle.task_ast.specs.Readable.{IsWord}
use Rattle.task_ast.specs.WellFormed.{IsCoreArray, IsWellFormed, core_names}
use Rattle.walk_run.specs.declared.place.Place.{Place}
use Rattle.walk_run.specs.Store.{Store, fresh, fresh_arrays, fresh_words, unset, words_of}
use Rattle.word_isa.specs.declared.parts.Scheme.{Scheme}
use Rattle.word_isa.specs.declared.parts.Scheme.TheVariants.{Undo, Bank}
use Rattle.word_machine.specs.State.{Program}
use Rattle.word_machine.specs.Straight.{Spot}
use Rattle.word_machine.specs.Traces as trace
use Rattle.line_code.specs.declared.areas.Free.{Free}
use Rattle.line_code.specs.Areas.{area_at, area_of, areas_from, free_at_first, free_of, pointer_at}
use Rattle.run_plan.specs.declared.act.Act.TheVariants as act
use Rattle.run_plan.specs.Cells.{Frame, State, no_frame}
use Rattle.run_plan.specs.Deeds.{begin_writes, begun_state}
use Rattle.run_plan.specs.Small.{Doing, ahead, core_of, does, showing, silent}
use Rattle.run_plan.specs.Weights.{begin_words}
use Rattle.line_laws.specs.Relation.{Points, base_at, base_word}
use Rattle.word_code.specs.Beginnings.{level_count, volatile_count}
use Rattle.word_code.specs.Frames as code
use Rattle.act_laws.specs.Blocks.{array_starts, home_items, homes, list_atoms, list_code, list_makes, pointer_cells, pointers, starts}
use Rattle.act_laws.specs.Codes.{Fixed}
use Rattle.act_laws.specs.Templates.{BeginDoes}
use Rattle.layout_laws.specs.Layouts.{layout_of}
use Rattle.cell_laws.proofs.Seals.{some_is}
use Rattle.cell_laws.specs.Standing.{worked}
use Rattle.cell_laws.proofs.Puts.{hit, miss}
use Rattle.cell_laws.proofs.Writes.{worked_low}
use Rattle.ram_laws.specs.Ram.{HasArrays, HasFrame, HasPointers, HasRam}
use Rattle.ram_laws.proofs.Stays.{arrays_stay}
use Rattle.act_refines.specs.Between.{IsTidy, MemoryStands, committed_at, fixed_in}
use Rattle.act_refines.specs.Does.{DoesAct, Ends, Nothing, frame_of}
use Rattle.act_refines.specs.Seen.{trace_seen}
use Rattle.act_laws.specs.Words.{mode_word}
use Rattle.act_refines.proofs.Commits.{whole_like}
use Rattle.act_refines.proofs.Going.{goes_on, related_at}
use Rattle.act_refines.proofs.Starts.{arrays_before, arrays_good, arrays_long, arrays_there, count_is, pointers_before, pointers_long, pointers_there, where_is}
use Rattle.act_refines.proofs.Statements.{FramKeeps}

-- ---- a fresh store

other_here : (f : Free) (k : Kind) (n : ℕ) (first w : List ℕ) → (area_of f k n).base ≢ 15 → fresh_words k first w ≡ w
other_here f Nv n first w other = refl
other_here f Const n first w other = refl
other_here f Vol n first w other = absurd (other refl)

-- what isn't volatile stays
fresh_other : (f : Free) (arrays : List Array) (old : List (List ℕ)) (a : ℕ) → (area_at (areas_from f arrays) a).base ≢ 15 → slice_index_or (fresh_arrays arrays old) a [] ≡ slice_index_or old a []
fresh_other f [] old a other = refl
fresh_other f (x ∷ arrays) [] a other = refl
fresh_other f (x ∷ arrays) (w ∷ old) zero other = other_here f x.kind (length x.first) x.first w other
fresh_other f (x ∷ arrays) (w ∷ old) (suc a) other = fresh_other (free_of f x.kind (length x.first)) arrays old a other

fresh_long : (arrays : List Array) (old : List (List ℕ)) → length old ≡ length arrays → length (fresh_arrays arrays old) ≡ length arrays
fresh_long [] old long = long
fresh_long (x ∷ arrays) [] long = absurd (omega (arith, long))
fresh_long (x ∷ arrays) (w ∷ old) long = omega (arith, fresh_long arrays old (omega (arith, long)))

vol_here : (f : Free) (k : Kind) (first w : List ℕ) → (area_of f k (length first)).base ≡ 15 → fresh_words k first w ≡ first
vol_here f Nv first w is = absurd (omega (arith, is))
vol_here f Const first w is = absurd (omega (arith, is))
vol_here f Vol first w is = refl

vol_room : (f : Free) (k : Kind) (first : List ℕ) → (area_of f k (length first)).room ≡ length first
vol_room f Nv first = refl
vol_room f Const first = refl
vol_room f Vol first = refl

-- what is volatile has as many words as its room, each a word
fresh_rooms : (f : Free) (arrays : List Array) (old : List (List ℕ)) (a : ℕ) → length old ≡ length arrays → (area_at (areas_from f arrays) a).base ≡ 15 → length (slice_index_or (fresh_arrays arrays old) a []) ≡ (area_at (areas_from f arrays) a).room
fresh_rooms f [] old zero long is = absurd (omega (arith, is))
fresh_rooms f [] old (suc a) long is = absurd (omega (arith, is))
fresh_rooms f (x ∷ arrays) [] a long is = absurd (omega (arith, long))
fresh_rooms f (x ∷ arrays) (w ∷ old) zero long is = ap length (vol_here f x.kind x.first w is) ∙ sym (vol_room f x.kind x.first)
fresh_rooms f (x ∷ arrays) (w ∷ old) (suc a) long is = fresh_rooms (free_of f x.kind (length x.first)) arrays old a (omega (arith, long)) is

word_in : (words : List ℕ) (i : ℕ) → AllByRecursion IsWord words → i < length words → slice_index words i < 2 ^ 32
word_in [] i fit low = absurd (omega (arith, low))
word_in (w ∷ words) zero fit low = fit.0
word_in (w ∷ words) (suc i) fit low = word_in words i fit.1 (omega (arith, low))

fresh_fits : (f : Free) (arrays : List Array) (old : List (List ℕ)) (a i : ℕ) → AllByRecursion IsCoreArray arrays → length old ≡ length arrays → (area_at (areas_from f arrays) a).base ≡ 15 → i < (area_at (areas_from f arrays) a).room
    → slice_index (slice_index_or (fresh_arrays arrays old) a []) i < 2 ^ 32
fresh_fits f [] old zero i fit long is low = absurd (omega (arith, is))
fresh_fits f [] old (suc a) i fit long is low = absurd (omega (arith, is))
fresh_fits f (x ∷ arrays) [] a i fit long is low = absurd (omega (arith, long))
fresh_fits f (x ∷ arrays) (w ∷ old) zero i fit long is low =
    subst (λ ws. slice_index ws i < 2 ^ 32) (sym (vol_here f x.kind x.first w is)) (word_in x.first i fit.0.2 (subst (λ n. i < n) (vol_room f x.kind x.first) low))
fresh_fits f (x ∷ arrays) (w ∷ old) (suc a) i fit long is low = fresh_fits (free_of f x.kind (length x.first)) arrays old a i fit.1 (omega (arith, long)) is low

pub few_pointers : (c : Core) → IsWellFormed c → length c.pointers ≤ 256
few_pointers c w =
    let few : length (core_names c) ≤ 256 = w.few_names in
    omega (
      arith,
      few,
      length-append (map (λ a. a.name) c.arrays ++ c.pointers ++ map (λ p. p.name) c.peripherals) (map (λ x. x.name) c.tasks),
      length-append (map (λ a. a.name) c.arrays ++ c.pointers) (map (λ p. p.name) c.peripherals),
      length-append (map (λ a. a.name) c.arrays) c.pointers,
    )

unset_is : {A : Type 0} (names : List A) (q : ℕ) → slice_index_or (unset names) q None ≡ None
unset_is [] q = refl
unset_is (n ∷ names) zero = refl
unset_is (n ∷ names) (suc q) = unset_is names q

unset_long : {A : Type 0} (names : List A) → length (unset names) ≡ length names
unset_long [] = refl
unset_long (n ∷ names) = omega (arith, unset_long names)

-- ---- RAM behind a beginning

abbrev pub begun_frame : Frame
begun_frame = record no_frame { mode = Some mode.Own }

-- the memory behind it
abbrev pub with_mode : (ℕ → ℕ) → ℕ → ℕ
with_mode m = put m 1048615 0

abbrev pub with_pointers : Core → (ℕ → ℕ) → ℕ → ℕ
with_pointers c m = list_makes pointers (pointer_cells 0 (length c.pointers)) (with_mode m)

abbrev pub with_arrays : Core → (ℕ → ℕ) → ℕ → ℕ
with_arrays c m = list_makes starts (array_starts 832 c.arrays) (with_pointers c m)

module _ (c : Core) (well : IsWellFormed c) (m : ℕ → ℕ) where
  -- before the pointers there is only the mode
  front : (a : ℕ) → a < 1048896 → (with_arrays c m) a ≡ (with_mode m) a
  front a low = arrays_before 832 c.arrays (with_pointers c m) a (omega (arith, low)) ∙ pointers_before 0 (length c.pointers) (with_mode m) a low

  pub fram_there : (a : ℕ) → a < 65536 → (with_arrays c m) a ≡ m a
  fram_there a low = front a (omega (arith, low)) ∙ miss m 1048615 0 a (λ e. absurd (omega (arith, low, e)))

  begun_pointers : (bank : ℕ) (old : Store) → HasPointers c bank (with_arrays c m) (fresh c old)
  begun_pointers bank old = record {
    few = few_pointers c well;
    many = omega (arith, unset_long c.pointers);
    points = λ q low.
        let near : pointer_at q + 1 < 832 = omega (arith, low, few_pointers c well) in
        subst (λ o. Points (layout_of c bank) (pointer_at q) o (with_arrays c m)) (sym (unset_is c.pointers q))
        (arrays_before 832 c.arrays (with_pointers c m) (1048576 + (pointer_at q + 1)) (omega (arith, near)) ∙ pointers_there 0 (length c.pointers) q (with_mode m) (omega arith) (omega (arith, low)));
  }

  begun_has : (bank : ℕ) → HasFrame c bank (with_arrays c m) begun_frame
  begun_has bank = record {
    mode = λ o is. front 1048615 (omega arith) ∙ hit m 1048615 0 ∙ some_is mode_word mode.Own o is;
    target = λ at is. absurd (cc is);
    args = λ words is. absurd (cc is);
    time = λ t is. absurd (cc is);
    word = λ w is. absurd (cc is);
    copy = λ v is. absurd (cc is);
    outer = λ k here o is. absurd (cc is);
    begun = λ k here t is. absurd (cc is);
  }

  begun_arrays : (old : Store) → length old.words ≡ length c.arrays → HasArrays c 15 (with_arrays c m) (fresh c old)
  begun_arrays old long = record {
    whole = record {
      rooms = λ array is. fresh_rooms free_at_first c.arrays old.words array long is;
      fits = λ at here. fresh_fits free_at_first c.arrays old.words at.array at.index well.arrays long here.counts here.inside;
    };
    holds = λ at here.
        let from : base_word 0 (base_at (layout_of c 0) at.array) ≡ 1048576 = ap (base_word 0) here.counts in
        ap (λ x. (with_arrays c m) (x + at.index + (area_at (areas_from free_at_first c.arrays) at.array).offset)) from
        ∙ arrays_there free_at_first c.arrays old.words at.array (with_pointers c m) at.index long here.counts here.inside;
  }

  pub begun_ram : (bank : ℕ) (old : Store) → length old.words ≡ length c.arrays → HasRam c bank (with_arrays c m) (fresh c old) begun_frame
  begun_ram bank old long = record { volatile = begun_arrays old long; pointers = begun_pointers bank old; frame = begun_has bank }

-- ---- the rest stays

not_volatile : (r : ℕ) → r ≢ 15 → (b : ℕ) → b ≡ r → b ≢ 15
not_volatile r other b is same = other (sym is ∙ same)

fresh_stays : (c : Core) (old : Store) (r : ℕ) → r ≢ 15 → (a : ℕ) → base_at (layout_of c 0) a ≡ r → words_of (fresh c old) a ≡ words_of old a
fresh_stays c old r other a is = fresh_other free_at_first c.arrays old.words a (not_volatile r other (base_at (layout_of c 0) a) is)

pub begun_memory_of : (p : Program) (d : Doing) (n counts : ℕ → ℕ) (s : State) → IsWellFormed (core_of d) → MemoryStands p d false n counts s → HasRam (core_of d) (worked d.scheme s.bank) n (fresh (core_of d) s.store) begun_frame
    → MemoryStands p d true n counts (begun_state (core_of d) s)
begun_memory_of p d n counts s well same ram =
    let c : Core = core_of d in
    let tidy : IsTidy c d.scheme s = same.tidy in
    record {
      cells = record {
        store = record {
          state = same.cells.store.state;
          homes = λ at home. same.cells.store.homes at home ∙ sym (ap (λ (ws : List ℕ). slice_index ws at.index) (fresh_stays c s.store 14 (λ e. absurd (omega (arith, e))) at.array (eqb-true _ 14 home.nonvolatile)));
          aside = same.cells.store.aside;
        };
        cells = record { locks = same.cells.cells.locks; flags = same.cells.cells.flags; kept = same.cells.cells.kept; records = same.cells.cells.records };
      };
      constants = arrays_stay c 0 n n s.store (fresh c s.store) (λ a is. ap length (fresh_stays c s.store 0 (λ e. absurd (omega (arith, e))) a is))
          (λ at here. ap (λ (ws : List ℕ). slice_index ws at.index) (fresh_stays c s.store 0 (λ e. absurd (omega (arith, e))) at.array here.counts)) (λ at here. refl) same.constants;
      ram = ram;
      readings = same.readings;
      tidy = record {
        shape = record { homes = fresh_long c.arrays s.store.words tidy.shape.homes; others = tidy.shape.others };
        homes = whole_like c s.store (fresh c s.store) (fresh_stays c s.store 14 (λ e. absurd (omega (arith, e)))) tidy.homes;
        aside = record { rooms = tidy.aside.rooms; fits = tidy.aside.fits };
        words = tidy.words;
        flags = tidy.flags;
        started = tidy.started;
        bank = tidy.bank;
      };
    }

begun_memory : FramKeeps → (p : Program) (d : Doing) (m counts : ℕ → ℕ) (s : State) → IsWellFormed (core_of d) → MemoryStands p d false m counts s → MemoryStands p d true (with_arrays (core_of d) m) counts (begun_state (core_of d) s)
begun_memory fram p d m counts s well h =
    begun_memory_of p d (with_arrays (core_of d) m) counts s well (fram p d m (with_arrays (core_of d) m) counts s well h (fram_there (core_of d) well m)) (begun_ram (core_of d) well m (worked d.scheme s.bank) s.store h.tidy.shape.homes)

-- ---- no home is brought level

level_none : (scheme : Scheme) (arrays : List Array) → scheme ≡ Undo → level_count scheme arrays ≡ 0
level_none Undo arrays is = refl
level_none Bank arrays is = absurd (cc is)

no_writes : (scheme : Scheme) (c : Core) (s : State) → scheme ≡ Undo → begin_writes scheme c s ≡ []
no_writes Undo c s is = refl
no_writes Bank c s is = absurd (cc is)

no_makes : (c w n : ℕ) (hc : c ≤ 2048) (hw : w ≤ 2048) (few : 0 + n ≤ 2048) (m : ℕ → ℕ) → n ≡ 0 → list_makes (homes c w) (home_items c w 0 n hc hw few) m ≡ m
no_makes c w zero hc hw few m is = refl
no_makes c w (suc n) hc hw few m is = absurd (omega (arith, is))

no_atoms : (c w n : ℕ) (hc : c ≤ 2048) (hw : w ≤ 2048) (few : 0 + n ≤ 2048) (m : ℕ → ℕ) → n ≡ 0 → list_atoms (homes c w) (home_items c w 0 n hc hw few) m ≡ []
no_atoms c w zero hc hw few m is = refl
no_atoms c w (suc n) hc hw few m is = absurd (omega (arith, is))

no_code : (c w n : ℕ) (hc : c ≤ 2048) (hw : w ≤ 2048) (few : 0 + n ≤ 2048) → n ≡ 0 → length (list_code (homes c w) (home_items c w 0 n hc hw few)) ≡ 0
no_code c w zero hc hw few is = refl
no_code c w (suc n) hc hw few is = absurd (omega (arith, is))

committed_low : (scheme : Scheme) (bank : ℕ) → scheme ≡ Undo → committed_at scheme bank ≤ 2048
committed_low Undo bank is = omega arith
committed_low Bank bank is = absurd (cc is)

-- an attempt begins
pub begin_does : ((p : Program) (x : Fixed) (fr : code.Frame) (task next : ℕ) (s : Spot) (hc : x.committed ≤ 2048) (hw : x.working ≤ 2048) (few : 0 + level_count fr.scheme fr.core.arrays ≤ 2048) → BeginDoes p x fr task next s hc hw few) → FramKeeps
    → (p : Program) (place_of : ℕ → journal.Place) (d : Doing) (number : ℕ) (keeps : Bool) (task : ℕ) → d.scheme ≡ Undo → DoesAct p place_of d number keeps (act.Begin task) Nothing
begin_does template fram p place_of d number keeps task undo next m s well has related asks =
    subst (λ writes. Ends p place_of d (act.Begin task) (40 + 12 * begin_words d) (λ way. next) m s (does (showing (journal.begins task) ∷ map silent writes) (begun_state (core_of d)) ahead)) (sym (no_writes d.scheme (core_of d) s undo)) began
  where
    began : Ends p place_of d (act.Begin task) (40 + 12 * begin_words d) (λ way. next) m s (does (showing (journal.begins task) ∷ []) (begun_state (core_of d)) ahead)
    began =
        let c : Core = core_of d in
        let x : Fixed = fixed_in d.scheme s in
        let hc : x.committed ≤ 2048 = committed_low d.scheme s.bank undo in
        let hw : x.working ≤ 2048 = worked_low d.scheme s.bank in
        let none : level_count d.scheme c.arrays ≡ 0 = level_none d.scheme c.arrays undo in
        let few : 0 + level_count d.scheme c.arrays ≤ 2048 = omega (arith, none) in
        let vols : volatile_count c.arrays ≤ 2048 = omega (arith, count_is c.arrays, well.ram) in
        let acts = template p x (frame_of d number) task next m hc hw few (few_pointers c well) (arrays_good 832 c.arrays (omega (arith, vols)) well.arrays) has in
        goes_on p place_of x x _ (40 + 12 * begin_words d) m _ next _ _ related.fixed acts
        (omega (arith, pointers_long 0 (length c.pointers), arrays_long 832 c.arrays, no_code x.committed x.working (level_count d.scheme c.arrays) hc hw few none, where_is c.arrays)) refl
        (ap (λ atoms. trace_seen place_of (trace.showed (the.Begin task) ∷ atoms)) (no_atoms x.committed x.working (level_count d.scheme c.arrays) hc hw few (with_arrays c m.store) none))
        (λ there fixed stored issued. related_at p d true there (with_arrays c m.store) m.issued (begun_state c s) fixed
        (stored ∙ no_makes x.committed x.working (level_count d.scheme c.arrays) hc hw few (with_arrays c m.store) none) issued (begun_memory fram p d m.store m.issued s well related.memory))
