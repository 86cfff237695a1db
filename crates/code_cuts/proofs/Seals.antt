-- Records are dropped and sealed: the last word is seen with its event.
use Rattle.std.specs.Prelude.{length, slice_get, Option}
use Rattle.std.proofs.Common.{◌≡◌, ◌≢◌, ◌∙◌, ℕ, ◌+◌, ◌-◌, ◌<◌, ◌≤◌, Bool, true, List, [], ◌∷◌, ◌++◌, Some, None, refl, sym, subst, arith}
use Rattle.devices.specs.Journal.{Place, drops, seals}
use Rattle.fram_ram.specs.Memories.{has_word, put}
use Rattle.task_ast.specs.declared.tree.Ann.{Ann}
use Rattle.task_ast.specs.declared.core_form.Core.{Core}
use Rattle.task_ast.specs.declared.core_form.Site.TheVariants as site
use Rattle.task_attempts.specs.Changes as changes
use Rattle.walk_run.specs.declared.place.Place as walked
use Rattle.word_isa.specs.declared.instr.Instr.TheVariants.{St}
use Rattle.word_isa.specs.declared.mark.MarkKind.TheVariants as mark
use Rattle.word_isa.specs.declared.parts.Scheme.{Scheme}
use Rattle.word_machine.specs.State.{Program}
use Rattle.word_machine.specs.Straight.{Spot, live}
use Rattle.word_machine.specs.Traces as trace
use Rattle.line_code.specs.declared.line.Line.{Line}
use Rattle.line_code.specs.Lines.{marked}
use Rattle.line_laws.specs.Relation.{base_at, room_at}
use Rattle.line_laws.specs.Standing.{Lie}
use Rattle.layout_laws.specs.Layouts.{layout_of}
use Rattle.run_plan.specs.declared.act.Act.TheVariants as act
use Rattle.run_plan.specs.Cells.{CopyValued, State, after_write, puts_class, puts_flag, puts_from, puts_length, puts_stamp, puts_to, puts_value}
use Rattle.run_plan.specs.Deeds.{seal_done, sealed}
use Rattle.run_plan.specs.Small.{Doing, core_of, have, silent, writing}
use Rattle.run_plan.specs.Words.{kept_at}
use Rattle.word_code.specs.Acts.{drop_code, jump, record_lines, seal_code}
use Rattle.word_code.specs.Frames.{Frame, begun_at, ends_at, flag_at, sign, stamp_at, value_at}
use Rattle.act_laws.specs.Codes.{Fixed, FramCell, HasFixed, RamCell, code_atoms, top}
use Rattle.act_laws.specs.CodeLaws.{fram_cell, ram_cell}
use Rattle.cell_laws.specs.Standing.{HasCopy, HasRecord, IsSite, RecordStands, address_in, class_word, worked}
use Rattle.cell_laws.proofs.Puts.{above, below, got, hit}
use Rattle.ram_laws.specs.Ram as ram
use Rattle.act_refines.specs.Between.{fixed_in}
use Rattle.act_refines.specs.Does.{Nothing, frame_of}
use Rattle.act_refines.specs.Seen.{trace_seen}
use Rattle.act_refines.proofs.Records.{at_site}
use Rattle.act_refines.proofs.Simple.{WritesKeep}
use Rattle.act_refines.proofs.Statements.{FramKeeps}
use Rattle.code_cuts.specs.Acts.{CutsAct}
use Rattle.code_cuts.specs.Asked.{SealsBlock, SealsCall, SealsCopy}
use Rattle.code_cuts.specs.Lasting.{CopyHolds, RecordHolds}
use Rattle.code_cuts.proofs.Cutting.{Cuts, last_cut}
use Rattle.code_cuts.proofs.Steps.{code_over}

-- ---- the last step shows both

abbrev flag_line : Frame → (site : ℕ) → Line
flag_line f k = marked (sign f mark.Seal k) (St 13 0 (flag_at k))

drop_over : (p : Program) (place_of : ℕ → Place) (x : Fixed) (f : Frame) (k next : ℕ) (s : Spot) → HasFixed x s → k ≤ 128 → Lie p s.pc (drop_code f k ++ jump next) → (n : ℕ) → length (trace_seen place_of (trace.trace p n (live s))) ≢ 1
unfolding has_word
drop_over p place_of x f k next s fixed low has =
    let c : FramCell (flag_at k) = fram_cell (flag_at k) (omega (arith, low)) in
    let two : length (code_atoms p (drop_code f k) (top x s)) ≡ 2 = rw (c.wraps, c.fram) in
    code_over p place_of x [] (marked (sign f mark.Drop k) (St 0 0 (flag_at k))) (jump next) s 1 fixed has refl (rw (c.wraps, c.fram)) (omega arith) (omega (arith, two))

call_over : (p : Program) (place_of : ℕ → Place) (x : Fixed) (f : Frame) (ann : Ann) (k next : ℕ) (s : Spot) → HasFixed x s → k ≤ 128 → Lie p s.pc (seal_code f k (Some (site.Io ann)) ++ jump next) → (n : ℕ) → length (trace_seen place_of (trace.trace p n (live s))) ≢ 3
unfolding has_word
call_over p place_of x f ann k next s fixed low has =
    let a : FramCell (value_at k) = fram_cell (value_at k) (omega (arith, low)) in
    let b : FramCell (stamp_at k) = fram_cell (stamp_at k) (omega (arith, low)) in
    let c : FramCell (flag_at k) = fram_cell (flag_at k) (omega (arith, low)) in
    let front : List Line = record_lines k (Some (site.Io ann)) in
    let two : length (code_atoms p (record_lines k (Some (site.Io ann))) (top x s)) ≡ 2 = rw (a.wraps, b.wraps, a.fram, b.fram) in
    let four : length (code_atoms p (seal_code f k (Some (site.Io ann))) (top x s)) ≡ 4 = rw (a.wraps, b.wraps, c.wraps, a.fram, b.fram, c.fram) in
    code_over p place_of x (record_lines k (Some (site.Io ann))) (flag_line f k) (jump next) s 3 fixed has (rw (a.wraps, b.wraps, a.fram, b.fram)) (rw (a.wraps, b.wraps, c.wraps, a.fram, b.fram, c.fram)) (omega (arith, two)) (omega (arith, four))

block_over : (p : Program) (place_of : ℕ → Place) (x : Fixed) (f : Frame) (ann : Ann) (k next : ℕ) (s : Spot) → HasFixed x s → 1 ≤ k → k ≤ 128 → Lie p s.pc (seal_code f k (Some (site.Block ann)) ++ jump next) → (n : ℕ) → length (trace_seen place_of (trace.trace p n (live s))) ≢ 2
unfolding has_word
block_over p place_of x f ann k next s fixed high low has =
    let a : RamCell (begun_at k) = ram_cell (begun_at k) (omega (arith, low)) in
    let b : FramCell (stamp_at k) = fram_cell (stamp_at k) (omega (arith, low)) in
    let c : FramCell (flag_at k) = fram_cell (flag_at k) (omega (arith, low)) in
    let one : length (code_atoms p (record_lines k (Some (site.Block ann))) (top x s)) ≡ 1 = rw (a.wraps, b.wraps, b.fram) in
    let three : length (code_atoms p (seal_code f k (Some (site.Block ann))) (top x s)) ≡ 3 = rw (a.wraps, b.wraps, c.wraps, b.fram, c.fram) in
    code_over p place_of x (record_lines k (Some (site.Block ann))) (flag_line f k) (jump next) s 2 fixed has (rw (a.wraps, b.wraps, a.apart, a.ram, b.fram)) (rw (a.wraps, b.wraps, c.wraps, a.apart, a.ram, b.fram, c.fram)) (omega (arith, one)) (omega (arith, three))

copy_over : (p : Program) (place_of : ℕ → Place) (x : Fixed) (f : Frame) (n k next : ℕ) (s : Spot) → HasFixed x s → k ≤ 128 → Lie p s.pc (seal_code f k (Some (site.Copy n)) ++ jump next) → (n : ℕ) → length (trace_seen place_of (trace.trace p n (live s))) ≢ 5
unfolding has_word
copy_over p place_of x f n k next s fixed low has =
    let a : FramCell (value_at k) = fram_cell (value_at k) (omega (arith, low)) in
    let b : FramCell (ends_at k) = fram_cell (ends_at k) (omega (arith, low)) in
    let c : FramCell (ends_at k + 1) = fram_cell (ends_at k + 1) (omega (arith, low)) in
    let d : FramCell (ends_at k + 2) = fram_cell (ends_at k + 2) (omega (arith, low)) in
    let e : FramCell (flag_at k) = fram_cell (flag_at k) (omega (arith, low)) in
    let four : length (code_atoms p (record_lines k (Some (site.Copy n))) (top x s)) ≡ 4 = rw (a.wraps, b.wraps, c.wraps, d.wraps, a.fram, b.fram, c.fram, d.fram) in
    let six : length (code_atoms p (seal_code f k (Some (site.Copy n))) (top x s)) ≡ 6 = rw (a.wraps, b.wraps, c.wraps, d.wraps, e.wraps, a.fram, b.fram, c.fram, d.fram, e.fram) in
    code_over p place_of x (record_lines k (Some (site.Copy n))) (flag_line f k) (jump next) s 5 fixed has (rw (a.wraps, b.wraps, c.wraps, d.wraps, a.fram, b.fram, c.fram, d.fram)) (rw (a.wraps, b.wraps, c.wraps, d.wraps, e.wraps, a.fram, b.fram, c.fram, d.fram, e.fram))
    (omega (arith, four)) (omega (arith, six))

-- ---- the record of a copy

some_is : {A B : Type 0} (f : A → B) (x y : A) → Some x ≡ Some y → f x ≡ f y
some_is f x y same = cc same

module _ (c : Core) (scheme : Scheme) (m : ℕ → ℕ) (s : State) (k : ℕ) (v : CopyValued) where
  abbrev address : walked.Place → ℕ
  address = address_in c (worked scheme s.bank)

  abbrev with_length : State
  with_length = after_write c.arrays (puts_length k v.length) (after_write c.arrays (puts_from k v.from) (after_write c.arrays (puts_to k v.to) (after_write c.arrays (puts_class k v.class) s)))

  abbrev class_put : ℕ → ℕ
  class_put = put m (value_at k) (class_word v.class)

  abbrev to_put : ℕ → ℕ
  to_put = put class_put (ends_at k) (address v.to)

  abbrev from_put : ℕ → ℕ
  from_put = put to_put (ends_at k + 1) (address v.from)

  abbrev length_put : ℕ → ℕ
  length_put = put from_put (ends_at k + 2) v.length

  copy_whole : k ≤ 128 → 1 ≤ k → HasCopy address length_put with_length.cells k
  copy_whole few from = record {
    class = λ d same.
        above from_put (ends_at k + 2) v.length (value_at k) (omega (arith, few, from)) ∙ above to_put (ends_at k + 1) (address v.from) (value_at k) (omega (arith, few, from))
        ∙ above class_put (ends_at k) (address v.to) (value_at k) (omega (arith, few, from)) ∙ hit m (value_at k) (class_word v.class)
        ∙ some_is class_word v.class d (sym (got k (Some v.class) s.cells.class) ∙ same);
    to = λ at same.
        above from_put (ends_at k + 2) v.length (ends_at k) (omega arith) ∙ above to_put (ends_at k + 1) (address v.from) (ends_at k) (omega arith) ∙ hit class_put (ends_at k) (address v.to)
        ∙ some_is address v.to at (sym (got k (Some v.to) s.cells.to) ∙ same);
    from = λ at same.
        above from_put (ends_at k + 2) v.length (ends_at k + 1) (omega arith) ∙ hit to_put (ends_at k + 1) (address v.from)
        ∙ some_is address v.from at (sym (got k (Some v.from) s.cells.from) ∙ same);
    length = hit from_put (ends_at k + 2) v.length ∙ sym (got k v.length s.cells.length);
  }

-- it may be followed, wherever it goes
some_not_none : {A : Type 0} (x : A) (o : Option A) → o ≡ Some x → o ≢ None
some_not_none x o is none = absurd (cc (is, none))

copy_holds : (d : Doing) (m : ℕ → ℕ) (s : State) (k : ℕ) (v : CopyValued) → v.to.index < room_at (layout_of (core_of d) 0) v.to.array → v.to.index + v.length ≤ room_at (layout_of (core_of d) 0) v.to.array → base_at (layout_of (core_of d) 0) v.to.array ≢ 0 → kept_at d k + v.length ≤ 16384
    → CopyHolds d k (with_length (core_of d) d.scheme m s k v)
copy_holds d m s k v starts inside clear few =
    let long : changes.put k v.length s.cells.length k ≡ v.length = got k v.length s.cells.length in
    record {
      class = some_not_none v.class _ (got k (Some v.class) s.cells.class);
      to = v.to;
      there = got k (Some v.to) s.cells.to;
      starts = starts;
      inside = subst (λ n. v.to.index + n ≤ room_at (layout_of (core_of d) 0) v.to.array) (sym long) inside;
      written = clear;
      room = subst (λ n. kept_at d k + n ≤ 16384) (sym long) few;
    }

-- ---- the acts

module _ (keep : WritesKeep) (fram : FramKeeps) (p : Program) (place_of : ℕ → Place) (d : Doing) (number : ℕ) (keeps : Bool) (k : ℕ) (here : IsSite k) where
  pub drop_cuts : CutsAct p place_of d number keeps (act.Drop k) Nothing
  drop_cuts next m s well has related runs follows asks =
      let started : 0 < s.epoch = related.memory.tidy.started in (
        last_cut keep fram p place_of d true m s well related runs follows (writing (puts_flag k 0) (drops k) ∷ []) (tt, ((here, λ e. absurd (omega (arith, started, e))), omega arith, λ e. absurd (omega (arith, started, e))), tt) tt
            (drop_over p place_of (fixed_in d.scheme s) (frame_of d number) k next m related.fixed here.few has),
        record { epoch = refl; task = refl; bank = refl; looks = refl; cells = refl },
      )

  pub seal_call_cuts : (ann : Ann) → slice_get d.setting.task.sites (k - 1) ≡ Some (site.Io ann) → CutsAct p place_of d number keeps (act.Seal k) (SealsCall k)
  seal_call_cuts ann is next m s well has related runs follows asks = subst (λ o. Cuts p place_of d m s (seal_done o k s)) (sym (at_site d.setting.task.sites k here ∙ is)) (by_word s.frame.word refl)
    where
      laid : Lie p m.pc (seal_code (frame_of d number) k (Some (site.Io ann)) ++ jump next)
      laid = subst (λ o. Lie p m.pc (seal_code (frame_of d number) k o ++ jump next)) is has

      whole : (word time : ℕ) → RecordStands (core_of d) d.scheme d.setting.task (put (put m.store (value_at k) word) (stamp_at k) time) (after_write (core_of d).arrays (puts_stamp k time) (after_write (core_of d).arrays (puts_value k word) s)) k
      whole word time = subst (λ o. HasRecord (address_in (core_of d) (worked d.scheme s.bank)) o (put (put m.store (value_at k) word) (stamp_at k) time) (after_write (core_of d).arrays (puts_stamp k time) (after_write (core_of d).arrays (puts_value k word) s)).cells k) (sym is) (
        below (put m.store (value_at k) word) (stamp_at k) time (value_at k) (omega arith) ∙ hit m.store (value_at k) word ∙ sym (got k word s.cells.value),
        hit (put m.store (value_at k) word) (stamp_at k) time ∙ sym (got k time s.cells.stamp),
      )

      holds : (to : State) → RecordHolds d k to (slice_get d.setting.task.sites (k - 1))
      holds to = subst (RecordHolds d k to) (sym is) tt

      by_time : (word : ℕ) → s.frame.word ≡ Some word → (u : Option ℕ) → s.frame.time ≡ u → Cuts p place_of d m s (have u (λ t. sealed k (puts_value k word ∷ puts_stamp k t ∷ puts_flag k s.epoch ∷ [])))
      by_time word one None two = absurd (asks.time two)
      by_time word one (Some time) two =
          let a : ram.HasWord m.store 1048614 word = related.memory.ram.frame.word word one in
          let b : ram.HasWord m.store 1048613 time = related.memory.ram.frame.time time two in (
            last_cut keep fram p place_of d true m s well related runs follows (silent (puts_value k word) ∷ silent (puts_stamp k time) ∷ writing (puts_flag k s.epoch) (seals k) ∷ [])
                (tt, ((here, asks.free), a.fits, tt), (tt, ((here, asks.free), b.fits, asks.past time two), (tt, ((here, λ same. whole word time), omega arith, λ same. holds (after_write (core_of d).arrays (puts_stamp k time) (after_write (core_of d).arrays (puts_value k word) s))), tt))) (tt, (tt, tt))
                (call_over p place_of (fixed_in d.scheme s) (frame_of d number) ann k next m related.fixed here.few laid),
            record { epoch = refl; task = refl; bank = refl; looks = refl; cells = refl },
          )

      by_word : (o : Option ℕ) → s.frame.word ≡ o → Cuts p place_of d m s (have o (λ word. have s.frame.time (λ t. sealed k (puts_value k word ∷ puts_stamp k t ∷ puts_flag k s.epoch ∷ []))))
      by_word None one = absurd (asks.word one)
      by_word (Some word) one = by_time word one s.frame.time refl

  pub seal_block_cuts : (ann : Ann) → slice_get d.setting.task.sites (k - 1) ≡ Some (site.Block ann) → CutsAct p place_of d number keeps (act.Seal k) (SealsBlock k)
  seal_block_cuts ann is next m s well has related runs follows asks = subst (λ o. Cuts p place_of d m s (seal_done o k s)) (sym (at_site d.setting.task.sites k here ∙ is)) (by_begun (s.frame.begun k) refl)
    where
      laid : Lie p m.pc (seal_code (frame_of d number) k (Some (site.Block ann)) ++ jump next)
      laid = subst (λ o. Lie p m.pc (seal_code (frame_of d number) k o ++ jump next)) is has

      whole : (time : ℕ) → RecordStands (core_of d) d.scheme d.setting.task (put m.store (stamp_at k) time) (after_write (core_of d).arrays (puts_stamp k time) s) k
      whole time = subst (λ o. HasRecord (address_in (core_of d) (worked d.scheme s.bank)) o (put m.store (stamp_at k) time) (after_write (core_of d).arrays (puts_stamp k time) s).cells k) (sym is)
          (hit m.store (stamp_at k) time ∙ sym (got k time s.cells.stamp))

      holds : (to : State) → RecordHolds d k to (slice_get d.setting.task.sites (k - 1))
      holds to = subst (RecordHolds d k to) (sym is) tt

      by_begun : (u : Option ℕ) → s.frame.begun k ≡ u → Cuts p place_of d m s (have u (λ t. sealed k (puts_stamp k t ∷ puts_flag k s.epoch ∷ [])))
      by_begun None two = absurd (asks.begun two)
      by_begun (Some time) two =
          let b : ram.HasWord m.store (1048576 + begun_at k) time = related.memory.ram.frame.begun k here time two in (
            last_cut keep fram p place_of d true m s well related runs follows (silent (puts_stamp k time) ∷ writing (puts_flag k s.epoch) (seals k) ∷ [])
                (tt, ((here, asks.free), b.fits, asks.past time two), (tt, ((here, λ same. whole time), omega arith, λ same. holds (after_write (core_of d).arrays (puts_stamp k time) s)), tt)) (tt, tt)
                (block_over p place_of (fixed_in d.scheme s) (frame_of d number) ann k next m related.fixed here.from here.few laid),
            record { epoch = refl; task = refl; bank = refl; looks = refl; cells = refl },
          )

  pub seal_copy_cuts : (most : ℕ) → slice_get d.setting.task.sites (k - 1) ≡ Some (site.Copy most) → CutsAct p place_of d number keeps (act.Seal k) (SealsCopy d k)
  seal_copy_cuts most is next m s well has related runs follows asks = subst (λ o. Cuts p place_of d m s (seal_done o k s)) (sym (at_site d.setting.task.sites k here ∙ is)) (by_copy s.frame.copy refl)
    where
      laid : Lie p m.pc (seal_code (frame_of d number) k (Some (site.Copy most)) ++ jump next)
      laid = subst (λ o. Lie p m.pc (seal_code (frame_of d number) k o ++ jump next)) is has

      whole : (v : CopyValued) → RecordStands (core_of d) d.scheme d.setting.task (length_put (core_of d) d.scheme m.store s k v) (with_length (core_of d) d.scheme m.store s k v) k
      whole v = subst (λ o. HasRecord (address_in (core_of d) (worked d.scheme s.bank)) o (length_put (core_of d) d.scheme m.store s k v) (with_length (core_of d) d.scheme m.store s k v).cells k) (sym is)
          (copy_whole (core_of d) d.scheme m.store s k v here.few here.from)

      holds : (v : CopyValued) → s.frame.copy ≡ Some v → RecordHolds d k (with_length (core_of d) d.scheme m.store s k v) (slice_get d.setting.task.sites (k - 1))
      holds v one = subst (RecordHolds d k (with_length (core_of d) d.scheme m.store s k v)) (sym is) (copy_holds d m.store s k v (asks.starts v one) (related.memory.ram.frame.copy v one).to.inside (asks.clear v one) (asks.room v one))

      by_copy : (o : Option CopyValued) → s.frame.copy ≡ o
          → Cuts p place_of d m s (have o (λ v. sealed k (puts_class k v.class ∷ puts_to k v.to ∷ puts_from k v.from ∷ puts_length k v.length ∷ puts_flag k s.epoch ∷ [])))
      by_copy None one = absurd (asks.copy one)
      by_copy (Some v) one =
          let loose : IsSite k × (s.cells.flag k ≢ s.epoch) = (here, asks.free) in (
            last_cut keep fram p place_of d true m s well related runs follows (silent (puts_class k v.class) ∷ silent (puts_to k v.to) ∷ silent (puts_from k v.from) ∷ silent (puts_length k v.length) ∷ writing (puts_flag k s.epoch) (seals k) ∷ [])
                (tt, (loose, tt, tt), (tt, (loose, tt, tt), (tt, (loose, tt, tt), (tt, (loose, tt, tt), (tt, ((here, λ same. whole v), omega arith, λ same. holds v one), tt))))) (tt, (tt, (tt, (tt, tt))))
                (copy_over p place_of (fixed_in d.scheme s) (frame_of d number) most k next m related.fixed here.few laid),
            record { epoch = refl; task = refl; bank = refl; looks = refl; cells = refl },
          )
