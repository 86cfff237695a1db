-- The records of sites: a call's and a block's are sealed, and a call's is taken.
use Rattle.std.specs.Prelude.{Option, Some, None, slice_get}
use Rattle.std.proofs.Common.{◌≡◌, ◌≢◌, ◌∙◌, ℕ, zero, suc, ◌+◌, ◌-◌, ◌^◌, ◌<◌, Bool, true, List, [], ◌∷◌, ◌++◌, refl, sym, ap, subst, arith}
use Rattle.devices.specs.Journal.{Place, keeps}
use Rattle.fram_ram.specs.Memories.{put}
use Rattle.task_ast.specs.declared.tree.Ann.{Ann}
use Rattle.task_ast.specs.declared.core_form.Site.{Site}
use Rattle.task_ast.specs.declared.core_form.Site.TheVariants as site
use Rattle.task_ast.specs.WellFormed.{IsWellFormed}
use Rattle.task_attempts.specs.Calls.{site_at}
use Rattle.word_machine.specs.State.{Program}
use Rattle.word_machine.specs.Straight.{Spot}
use Rattle.word_machine.specs.Traces as trace
use Rattle.devices.specs.declared.event.Event.TheVariants as the
use Rattle.run_plan.specs.declared.act.Act.TheVariants as act
use Rattle.run_plan.specs.Cells.{State, after_write, puts_flag, puts_stamp, puts_value}
use Rattle.run_plan.specs.Deeds.{seal_done, sealed}
use Rattle.run_plan.specs.Small.{Doing, Way, core_of, have}
use Rattle.run_plan.specs.Weights.{seal_weight}
use Rattle.line_laws.specs.Standing.{Lie}
use Rattle.word_code.specs.Acts.{jump, seal_code}
use Rattle.word_code.specs.Frames as frames
use Rattle.word_code.specs.Frames.{Frame, begun_at, flag_at, stamp_at, value_at}
use Rattle.act_laws.specs.Codes.{Acts, End, Fixed, top}
use Rattle.act_laws.specs.Templates.{SealBlockDoes, SealCallDoes, TakeDoes}
use Rattle.cell_laws.specs.Standing.{HasRecord, IsSite, RecordStands, address_in, worked}
use Rattle.cell_laws.proofs.Puts.{below, got, hit}
use Rattle.ram_laws.specs.Notes.{notes_word}
use Rattle.ram_laws.specs.Ram.{HasWord}
use Rattle.act_refines.specs.Between.{AreRelated, MemoryStands, fixed_in, with_rest}
use Rattle.act_refines.specs.Does.{DoesAct, Ends, Holds, IsFree, frame_of, way_at}
use Rattle.act_refines.specs.Seen.{tells}
use Rattle.act_refines.proofs.Going.{goes_on, related_at}
use Rattle.act_refines.proofs.Simple.{NotesKeep, WritesKeep}

-- what stands at a site, as plan and code look it up
pub at_site : (sites : List Site) (k : ℕ) → IsSite k → site_at sites k ≡ slice_get sites (k - 1)
at_site sites zero here = absurd (omega (arith, here.from))
at_site sites (suc n) here = let e : n ≡ suc n - 1 = omega arith in ap (slice_get sites) e

-- what a memory has where these words are put
abbrev put_two : (m : ℕ → ℕ) (a b x y : ℕ) → ℕ → ℕ
put_two m a b x y = put (put m a x) b y

module _ (keep : WritesKeep) (p : Program) (place_of : ℕ → Place) (d : Doing) (number : ℕ) (keeps_record : Bool) (k : ℕ) (here : IsSite k) (next : ℕ) (m : Spot) (s : State) (well : IsWellFormed (core_of d)) (related : AreRelated p d true m s) (free : s.cells.flag k ≢ s.epoch) where
  abbrev x : Fixed
  x = fixed_in d.scheme s

  abbrev to : Way → ℕ
  to = way_at (frame_of d number) (act.Seal k) m.pc next

  abbrev sites : List Site
  sites = d.setting.task.sites

  -- ---- a call's

  abbrev call_end : (word time : ℕ) → End
  call_end word time = record {
    pc = next;
    store = put (put (put m.store (value_at k) word) (stamp_at k) time) (flag_at k) s.epoch;
    issued = m.issued;
    atoms = trace.wrote (value_at k) word ∷ trace.wrote (stamp_at k) time ∷ trace.wrote (flag_at k) s.epoch ∷ trace.showed (the.Sealed k) ∷ [];
  }

  call_memory : (ann : Ann) (word time : ℕ) → slice_get sites (k - 1) ≡ Some (site.Io ann) → word < 2 ^ 32 → time < 2 ^ 32
      → MemoryStands p d true (call_end word time).store m.issued (after_write (core_of d).arrays (puts_flag k s.epoch) (after_write (core_of d).arrays (puts_stamp k time) (after_write (core_of d).arrays (puts_value k word) s)))
  call_memory ann word time is word_fits time_fits =
      let one = keep p d true m.store m.issued s (puts_value k word) well related.memory (here, free) word_fits in
      let two = keep p d true (put m.store (value_at k) word) m.issued (after_write (core_of d).arrays (puts_value k word) s) (puts_stamp k time) well one (here, free) time_fits in
      keep p d true (put_two m.store (value_at k) (stamp_at k) word time) m.issued (after_write (core_of d).arrays (puts_stamp k time) (after_write (core_of d).arrays (puts_value k word) s)) (puts_flag k s.epoch) well two
      (here, λ same. whole) (omega arith)
    where
      whole : RecordStands (core_of d) d.scheme d.setting.task (put_two m.store (value_at k) (stamp_at k) word time) (after_write (core_of d).arrays (puts_stamp k time) (after_write (core_of d).arrays (puts_value k word) s)) k
      whole = subst (λ o. HasRecord (address_in (core_of d) (worked d.scheme s.bank)) o (put_two m.store (value_at k) (stamp_at k) word time) (after_write (core_of d).arrays (puts_stamp k time) (after_write (core_of d).arrays (puts_value k word) s)).cells k) (sym is) (
        below (put m.store (value_at k) word) (stamp_at k) time (value_at k) (omega arith) ∙ hit m.store (value_at k) word ∙ sym (got k word s.cells.value),
        hit (put m.store (value_at k) word) (stamp_at k) time ∙ sym (got k time s.cells.stamp),
      )

  call_sealed : (ann : Ann) (word time : ℕ) → slice_get sites (k - 1) ≡ Some (site.Io ann) → HasWord m.store 1048614 word → HasWord m.store 1048613 time
      → Acts p x 6 (top x m) (call_end (m.store 1048614) (m.store 1048613))
      → Ends p place_of d (act.Seal k) 8 to m s (sealed k (puts_value k word ∷ puts_stamp k time ∷ puts_flag k s.epoch ∷ []))
  call_sealed ann word time is has_word has_time acts =
      goes_on p place_of x x 6 8 m (call_end word time) next _ _ related.fixed
      (subst (λ w. Acts p x 6 (top x m) (call_end w time)) has_word.holds (subst (λ t. Acts p x 6 (top x m) (call_end (m.store 1048614) t)) has_time.holds acts)) (omega arith) refl refl
      (λ there fixed stored issued. related_at p d true there (call_end word time).store m.issued (after_write (core_of d).arrays (puts_flag k s.epoch) (after_write (core_of d).arrays (puts_stamp k time) (after_write (core_of d).arrays (puts_value k word) s))) fixed stored issued
      (call_memory ann word time is has_word.fits has_time.fits))

  call_by : (ann : Ann) → slice_get sites (k - 1) ≡ Some (site.Io ann) → Acts p x 6 (top x m) (call_end (m.store 1048614) (m.store 1048613))
      → (o u : Option ℕ) → s.frame.word ≡ o → s.frame.time ≡ u
      → Ends p place_of d (act.Seal k) 8 to m s (have o (λ word. have u (λ t. sealed k (puts_value k word ∷ puts_stamp k t ∷ puts_flag k s.epoch ∷ []))))
  call_by ann is acts None u one two = tt
  call_by ann is acts (Some word) None one two = tt
  call_by ann is acts (Some word) (Some time) one two = call_sealed ann word time is (related.memory.ram.frame.word word one) (related.memory.ram.frame.time time two) acts

  -- ---- a block's

  abbrev block_end : (time : ℕ) → End
  block_end time = record {
    pc = next;
    store = put (put m.store (stamp_at k) time) (flag_at k) s.epoch;
    issued = m.issued;
    atoms = trace.wrote (stamp_at k) time ∷ trace.wrote (flag_at k) s.epoch ∷ trace.showed (the.Sealed k) ∷ [];
  }

  block_memory : (ann : Ann) (time : ℕ) → slice_get sites (k - 1) ≡ Some (site.Block ann) → time < 2 ^ 32
      → MemoryStands p d true (block_end time).store m.issued (after_write (core_of d).arrays (puts_flag k s.epoch) (after_write (core_of d).arrays (puts_stamp k time) s))
  block_memory ann time is fits =
      let one = keep p d true m.store m.issued s (puts_stamp k time) well related.memory (here, free) fits in
      keep p d true (put m.store (stamp_at k) time) m.issued (after_write (core_of d).arrays (puts_stamp k time) s) (puts_flag k s.epoch) well one (here, λ same. whole) (omega arith)
    where
      whole : RecordStands (core_of d) d.scheme d.setting.task (put m.store (stamp_at k) time) (after_write (core_of d).arrays (puts_stamp k time) s) k
      whole = subst (λ o. HasRecord (address_in (core_of d) (worked d.scheme s.bank)) o (put m.store (stamp_at k) time) (after_write (core_of d).arrays (puts_stamp k time) s).cells k) (sym is)
          (hit m.store (stamp_at k) time ∙ sym (got k time s.cells.stamp))

  block_by : (ann : Ann) → slice_get sites (k - 1) ≡ Some (site.Block ann) → Acts p x 4 (top x m) (block_end (m.store (1048576 + begun_at k)))
      → (u : Option ℕ) → s.frame.begun k ≡ u
      → Ends p place_of d (act.Seal k) 8 to m s (have u (λ t. sealed k (puts_stamp k t ∷ puts_flag k s.epoch ∷ [])))
  block_by ann is acts None two = tt
  block_by ann is acts (Some time) two =
      let has : HasWord m.store (1048576 + begun_at k) time = related.memory.ram.frame.begun k here time two in
      goes_on p place_of x x 4 8 m (block_end time) next _ _ related.fixed (subst (λ t. Acts p x 4 (top x m) (block_end t)) has.holds acts) (omega arith) refl refl
      (λ there fixed stored issued. related_at p d true there (block_end time).store m.issued (after_write (core_of d).arrays (puts_flag k s.epoch) (after_write (core_of d).arrays (puts_stamp k time) s)) fixed stored issued
      (block_memory ann time is has.fits))

-- a call is sealed
pub seal_call_does : ((p : Program) (x : Fixed) (f : Frame) (ann : Ann) (k next : ℕ) (s : Spot) → SealCallDoes p x f ann k next s) → WritesKeep
    → (p : Program) (place_of : ℕ → Place) (d : Doing) (number : ℕ) (keeps : Bool) (k : ℕ) (ann : Ann) → IsSite k → slice_get d.setting.task.sites (k - 1) ≡ Some (site.Io ann)
    → DoesAct p place_of d number keeps (act.Seal k) (IsFree k)
seal_call_does template keep p place_of d number inner k ann here is next m s well has related free =
    let x : Fixed = fixed_in d.scheme s in
    let laid : Lie p m.pc (seal_code (frame_of d number) k (Some (site.Io ann)) ++ jump next) = subst (λ o. Lie p m.pc (seal_code (frame_of d number) k o ++ jump next)) is has in
    subst (λ o. Ends p place_of d (act.Seal k) (seal_weight o) (way_at (frame_of d number) (act.Seal k) m.pc next) m s (seal_done o k s)) (sym (at_site d.setting.task.sites k here ∙ is))
    (call_by keep p place_of d number inner k here next m s well related free ann is (template p x (frame_of d number) ann k next m here.few laid) s.frame.word s.frame.time refl refl)

-- a block is
pub seal_block_does : ((p : Program) (x : Fixed) (f : Frame) (ann : Ann) (k next : ℕ) (s : Spot) → SealBlockDoes p x f ann k next s) → WritesKeep
    → (p : Program) (place_of : ℕ → Place) (d : Doing) (number : ℕ) (keeps : Bool) (k : ℕ) (ann : Ann) → IsSite k → slice_get d.setting.task.sites (k - 1) ≡ Some (site.Block ann)
    → DoesAct p place_of d number keeps (act.Seal k) (IsFree k)
seal_block_does template keep p place_of d number inner k ann here is next m s well has related free =
    let x : Fixed = fixed_in d.scheme s in
    let laid : Lie p m.pc (seal_code (frame_of d number) k (Some (site.Block ann)) ++ jump next) = subst (λ o. Lie p m.pc (seal_code (frame_of d number) k o ++ jump next)) is has in
    subst (λ o. Ends p place_of d (act.Seal k) (seal_weight o) (way_at (frame_of d number) (act.Seal k) m.pc next) m s (seal_done o k s)) (sym (at_site d.setting.task.sites k here ∙ is))
    (block_by keep p place_of d number inner k here next m s well related free ann is (template p x (frame_of d number) ann k next m here.from here.few laid) (s.frame.begun k) refl)

-- the value of a record that holds is taken
pub take_does : ((p : Program) (x : Fixed) (f : Frame) (k next : ℕ) (s : Spot) → TakeDoes p x f k next s) → NotesKeep
    → (p : Program) (place_of : ℕ → Place) (d : Doing) (number : ℕ) (keeps : Bool) (k : ℕ) (ann : Ann) → IsSite k → slice_get d.setting.task.sites (k - 1) ≡ Some (site.Io ann)
    → DoesAct p place_of d number keeps (act.Take k) (Holds k)
take_does template keep p place_of d number keeps_record k ann here is next m s well has related held =
    let x : Fixed = fixed_in d.scheme s in
    let word : ℕ = s.cells.value k in
    let recorded : HasRecord (address_in (core_of d) (worked d.scheme s.bank)) (Some (site.Io ann)) m.store s.cells k =
    subst (λ o. HasRecord (address_in (core_of d) (worked d.scheme s.bank)) o m.store s.cells k) is (related.memory.cells.cells.records k here held) in
    goes_on p place_of x x 4 6 m _ next _ _ related.fixed (template p x (frame_of d number) k next m here.few has) (omega arith) refl (ap (λ w. tells (keeps k w) ∷ []) recorded.0)
    (λ there fixed stored issued. related_at p d true there (put m.store 1048614 word) m.issued (with_rest (record s.frame { word = Some word }) s.looks s.issued s) fixed (stored ∙ ap (put m.store 1048614) recorded.0) issued
    (keep p d m.store m.issued s s.looks (notes_word word) well related.memory (related.memory.tidy.words.value k)))
