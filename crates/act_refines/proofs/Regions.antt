-- Regions are saved and restored word by word.
use Rattle.std.specs.Prelude.{◌==◌, cond, not, nat_lt, map, slice_index_or, if◌then◌else◌}
use Rattle.std.proofs.Common.{◌≡◌, ◌∙◌, ℕ, ◌+◌, ◌*◌, ◌^◌, ◌<◌, ◌≤◌, Bool, true, false, List, [], ◌∷◌, ◌++◌, length, refl, sym, ap, subst, arith, eqb-true}
use Rattle.std.proofs.lemmas.Bool.Decides.{nat_tests}
use Rattle.devices.specs.Journal as journal
use Rattle.fram_ram.specs.Memories.{has_word, put}
use Rattle.task_ast.specs.declared.core_form.Core.{Core}
use Rattle.task_ast.specs.WellFormed.{IsWellFormed}
use Rattle.walk_run.specs.declared.place.Place.{Place}
use Rattle.walk_run.specs.Store.{word_at, words_of}
use Rattle.word_isa.specs.declared.instr.Instr.TheVariants.{Eq, Jmp, Jz, Ld}
use Rattle.word_isa.specs.declared.parts.Scheme.{Scheme}
use Rattle.word_isa.specs.declared.parts.Scheme.TheVariants.{Undo, Bank}
use Rattle.word_machine.specs.State.{Program}
use Rattle.word_machine.specs.Straight.{Spot}
use Rattle.line_code.specs.declared.line.Line.{Line}
use Rattle.line_code.specs.Lines.{bares}
use Rattle.line_code.specs.Areas.{areas_from, free_at_first}
use Rattle.run_plan.specs.declared.act.Act.TheVariants as act
use Rattle.run_plan.specs.Cells.{State, after_write, aside_at, puts_aside, puts_home, with_words}
use Rattle.run_plan.specs.Small.{Atom, Doing, core_of, lock_holds, silent, silently}
use Rattle.run_plan.specs.Words.{first_places, restore_writes, save_writes}
use Rattle.run_plan.specs.Weights.{region_words}
use Rattle.line_laws.specs.Standing.{Lie, lie_front}
use Rattle.word_code.specs.Acts.{jump}
use Rattle.word_code.specs.Beginnings.{first_of, homes_code, restore_code}
use Rattle.word_code.specs.Frames.{Frame, lock_at}
use Rattle.act_laws.specs.Blocks.{Copy, array_copies, copies, list_atoms, list_code, list_makes}
use Rattle.act_laws.specs.Codes.{Acts, Fixed, FramCell, HasFixed, top}
use Rattle.act_laws.specs.CodeLaws.{fram_cell, when_acts}
use Rattle.act_laws.specs.Templates.{RestoreDoes, SaveDoes}
use Rattle.cell_laws.specs.Standing.{IsHome, address_in, beside, worked}
use Rattle.act_refines.specs.Between.{MemoryStands, fixed_in}
use Rattle.act_refines.specs.Does.{AreHomes, DoesAct, Ends, Nothing, frame_of}
use Rattle.act_refines.specs.Seen.{Seen, behind, puts, steps_seen, trace_seen}
use Rattle.act_refines.proofs.Going.{goes_on, related_at}
use Rattle.act_refines.proofs.Places.{AllHomes, all_long, arrays_are, areas_low, code_long, copies_of, homes_all}
use Rattle.act_refines.proofs.Simple.{WritesKeep}

-- ---- words in a row

-- copies that make what these small steps make, and show it
pub record Moved (p : Program) (place_of : ℕ → journal.Place) (d : Doing) (begun : Bool) (m counts : ℕ → ℕ) (s : State) (cs : List Copy) (atoms : List Atom) : Type 0 where
  pub memory : MemoryStands p d begun (list_makes copies cs m) counts (behind (core_of d) atoms s)
  pub shown : trace_seen place_of (list_atoms copies cs m) ≡ steps_seen (core_of d) d.scheme atoms s
  pub fixed : fixed_in d.scheme (behind (core_of d) atoms s) ≡ fixed_in d.scheme s

-- one word before the others
one_before : (p : Program) (place_of : ℕ → journal.Place) (d : Doing) (begun : Bool) (m counts : ℕ → ℕ) (s t : State) (from to word : ℕ) (cs : List Copy) (atoms : List Atom) → m from ≡ word → Moved p place_of d begun (put m to word) counts t cs atoms
    → (MemoryStands p d begun (list_makes copies cs (put m to (m from))) counts (behind (core_of d) atoms t))
    × (puts to (m from) ∷ trace_seen place_of (list_atoms copies cs (put m to (m from))) ≡ puts to word ∷ steps_seen (core_of d) d.scheme atoms t)
one_before p place_of d begun m counts s t from to word cs atoms is rest = (
  subst (λ w. MemoryStands p d begun (list_makes copies cs (put m to w)) counts (behind (core_of d) atoms t)) (sym is) rest.memory,
  subst (λ w. puts to w ∷ trace_seen place_of (list_atoms copies cs (put m to w)) ≡ puts to word ∷ steps_seen (core_of d) d.scheme atoms t) (sym is) (ap (λ (xs : List Seen). puts to word ∷ xs) rest.shown),
)

module _ (keep : WritesKeep) (p : Program) (place_of : ℕ → journal.Place) (d : Doing) (begun : Bool) (counts : ℕ → ℕ) (well : IsWellFormed (core_of d)) where
  abbrev c : Core
  c = core_of d

  save_goes : (places : List Place) (m : ℕ → ℕ) (s : State) (word : Place → ℕ) → AllHomes c places → ((at : Place) → word at ≡ word_at s.store at) → MemoryStands p d begun m counts s
      → Moved p place_of d begun m counts s (copies_of c (worked d.scheme s.bank) (beside d.scheme s.bank) places) (map silent (map (λ at. puts_aside at (word at)) places))
  save_goes [] m s word homes same h = record { memory = h; shown = refl; fixed = refl }
  save_goes (at ∷ places) m s word homes same h =
      let home : IsHome c at = homes.0 in
      let counts_is = eqb-true _ 14 home.nonvolatile in
      let from_is : m (address_in c (worked d.scheme s.bank) at) ≡ word at = h.cells.store.homes at home ∙ sym (same at) in
      let fits : word at < 2 ^ 32 = subst (λ w. w < 2 ^ 32) (sym (same at)) (h.tidy.homes.fits at (record { counts = counts_is; inside = home.inside })) in
      let inside : at.index < length (words_of (with_words s.aside s.store) at.array) = subst (λ n. at.index < n) (sym (h.tidy.aside.rooms at.array counts_is)) home.inside in
      let next : MemoryStands p d begun (put m (address_in c (beside d.scheme s.bank) at) (word at)) counts (after_write c.arrays (puts_aside at (word at)) s) = keep p d begun m counts s (puts_aside at (word at)) well h (home, inside) fits in
      let rest = save_goes places (put m (address_in c (beside d.scheme s.bank) at) (word at)) (after_write c.arrays (puts_aside at (word at)) s) word homes.1 same next in
      let both = one_before p place_of d begun m counts s (after_write c.arrays (puts_aside at (word at)) s) (address_in c (worked d.scheme s.bank) at) (address_in c (beside d.scheme s.bank) at) (word at)
      (copies_of c (worked d.scheme s.bank) (beside d.scheme s.bank) places) (map silent (map (λ at. puts_aside at (word at)) places)) from_is rest in
      record { memory = both.0; shown = both.1; fixed = rest.fixed }

  pub restore_goes : (places : List Place) (m : ℕ → ℕ) (s : State) (word : Place → ℕ) → AllHomes c places → ((at : Place) → word at ≡ aside_at s at) → MemoryStands p d begun m counts s
      → Moved p place_of d begun m counts s (copies_of c (beside d.scheme s.bank) (worked d.scheme s.bank) places) (map silent (map (λ at. puts_home at (word at)) places))
  restore_goes [] m s word homes same h = record { memory = h; shown = refl; fixed = refl }
  restore_goes (at ∷ places) m s word homes same h =
      let home : IsHome c at = homes.0 in
      let counts_is = eqb-true _ 14 home.nonvolatile in
      let from_is : m (address_in c (beside d.scheme s.bank) at) ≡ word at = h.cells.store.aside at home ∙ sym (same at) in
      let fits : word at < 2 ^ 32 = subst (λ w. w < 2 ^ 32) (sym (same at)) (h.tidy.aside.fits at (record { counts = counts_is; inside = home.inside })) in
      let inside : at.index < length (words_of s.store at.array) = subst (λ n. at.index < n) (sym (h.tidy.homes.rooms at.array counts_is)) home.inside in
      let next : MemoryStands p d begun (put m (address_in c (worked d.scheme s.bank) at) (word at)) counts (after_write c.arrays (puts_home at (word at)) s) = keep p d begun m counts s (puts_home at (word at)) well h (home, inside) fits in
      let rest = restore_goes places (put m (address_in c (worked d.scheme s.bank) at) (word at)) (after_write c.arrays (puts_home at (word at)) s) word homes.1 same next in
      let both = one_before p place_of d begun m counts s (after_write c.arrays (puts_home at (word at)) s) (address_in c (beside d.scheme s.bank) at) (address_in c (worked d.scheme s.bank) at) (word at)
      (copies_of c (beside d.scheme s.bank) (worked d.scheme s.bank) places) (map silent (map (λ at. puts_home at (word at)) places)) from_is rest in
      record { memory = both.0; shown = both.1; fixed = rest.fixed }

-- ---- where nothing is copied

bit_is : (b : Bool) → ((if b then 1 else 0) == 0) ≡ not b
bit_is true = refl
bit_is false = refl

twice_is : (b : Bool) → ((if (if b then 1 else 0) == 0 then 1 else 0) == 0) ≡ not (not b)
twice_is true = refl
twice_is false = refl

save_skips : (p : Program) (x : Fixed) (lock next : ℕ) (rest : List Line) (s : Spot) → FramCell lock → (s.store lock == x.epoch) ≡ true → Lie p s.pc (bares (Ld 1 0 lock ∷ Eq 1 13 ∷ Jz 1 1 ∷ Jmp next ∷ []) ++ rest)
    → Acts p x 4 (top x s) (record { pc = next; store = s.store; issued = s.issued; atoms = [] })
unfolding has_word
save_skips p x lock next rest s c held has =
    when_acts p x 4 (bares (Ld 1 0 lock ∷ Eq 1 13 ∷ [])) 1 next (top x s) (record { pc = next; store = s.store; issued = s.issued; atoms = [] }) false (lie_front p s.pc (bares (Ld 1 0 lock ∷ Eq 1 13 ∷ Jz 1 1 ∷ Jmp next ∷ [])) rest has)
    (rw (c.wraps, c.fram)) (refl, refl, refl, refl, refl) (rw (c.wraps, held) (bit_is true)) refl refl refl refl (omega arith)

restore_skips : (p : Program) (x : Fixed) (lock next : ℕ) (rest : List Line) (s : Spot) → FramCell lock → (s.store lock == x.epoch) ≡ false → Lie p s.pc (bares (Ld 1 0 lock ∷ Eq 1 13 ∷ Eq 1 0 ∷ Jz 1 1 ∷ Jmp next ∷ []) ++ rest)
    → Acts p x 5 (top x s) (record { pc = next; store = s.store; issued = s.issued; atoms = [] })
unfolding has_word
restore_skips p x lock next rest s c held has =
    when_acts p x 5 (bares (Ld 1 0 lock ∷ Eq 1 13 ∷ Eq 1 0 ∷ [])) 1 next (top x s) (record { pc = next; store = s.store; issued = s.issued; atoms = [] }) false (lie_front p s.pc (bares (Ld 1 0 lock ∷ Eq 1 13 ∷ Eq 1 0 ∷ Jz 1 1 ∷ Jmp next ∷ [])) rest has)
    (rw (c.wraps, c.fram)) (refl, refl, refl, refl, refl) (rw (c.wraps, held) (twice_is false)) refl refl refl refl (omega arith)

-- ---- the acts

is_below : (a b : ℕ) → a < b → nat_lt a b ≡ true
is_below a b h = grind (arith, nat_tests, h)

worked_undo : (scheme : Scheme) (bank : ℕ) → scheme ≡ Undo → worked scheme bank ≡ 0
worked_undo Undo bank is = refl
worked_undo Bank bank is = absurd (cc is)

beside_undo : (scheme : Scheme) (bank : ℕ) → scheme ≡ Undo → beside scheme bank ≡ 2048
beside_undo Undo bank is = refl
beside_undo Bank bank is = absurd (cc is)

pub save_does : ((p : Program) (x : Fixed) (f : Frame) (r next : ℕ) (s : Spot) (held : Bool) → SaveDoes p x f r next s held) → WritesKeep
    → (p : Program) (place_of : ℕ → journal.Place) (d : Doing) (number : ℕ) (keeps : Bool) (r : ℕ) → r ≤ 128 → d.scheme ≡ Undo → AreHomes (core_of d) (slice_index_or d.firsts r [])
    → DoesAct p place_of d number keeps (act.Save r) Nothing
save_does template keep p place_of d number keeps r low undo homes next m s well has related asks = by_lock (lock_holds s r) refl
  where
    flag : (m.store (lock_at r) == s.epoch) ≡ lock_holds s r
    flag = ap (λ e. e == s.epoch) (related.memory.cells.cells.locks r low)

    by_lock : (b : Bool) → lock_holds s r ≡ b
        → Ends p place_of d (act.Save r) (6 + 12 * cond b 0 (region_words d r)) (λ way. next) m s (silently (save_writes s (cond b [] (first_places d r))))
    by_lock true held =
        goes_on p place_of (fixed_in d.scheme s) (fixed_in d.scheme s) 4 _ m _ next _ _ related.fixed
        (save_skips p (fixed_in d.scheme s) (lock_at r) next (homes_code (frame_of d number).areas 0 2048 (first_of (frame_of d number) r) ++ jump next) m (fram_cell (lock_at r) (omega (arith, low))) (flag ∙ held) has) (omega arith) refl refl
        (λ there fixed stored issued. related_at p d true there m.store m.issued s fixed stored issued related.memory)
    by_lock false held =
        let c : Core = core_of d in
        let places : List Place = first_places d r in
        let cs : List Copy = copies_of c (worked d.scheme s.bank) (beside d.scheme s.bank) places in
        let atoms : List Atom = map silent (map (λ at. puts_aside at (word_at s.store at)) places) in
        let same : array_copies (areas_from free_at_first c.arrays) 0 2048 (slice_index_or d.firsts r []) ≡ cs = arrays_are c 0 2048 (slice_index_or d.firsts r []) homes
        ∙ (λ i. copies_of c (sym (worked_undo d.scheme s.bank undo) i) (sym (beside_undo d.scheme s.bank undo) i) places) in
        let moved : Moved p place_of d true m.store m.issued s cs atoms = save_goes keep p place_of d true m.issued well places m.store s (word_at s.store) (homes_all c (slice_index_or d.firsts r []) homes) (λ at. refl) related.memory in
        let long : length (list_code copies cs) ≡ 2 * length places = code_long c (worked d.scheme s.bank) (beside d.scheme s.bank) places in
        let acts : Acts p (fixed_in d.scheme s) (length (list_code copies cs) + 5) (top (fixed_in d.scheme s) m) (record { pc = next; store = list_makes copies cs m.store; issued = m.issued; atoms = list_atoms copies cs m.store }) =
        subst (λ cs. Acts p (fixed_in d.scheme s) (length (list_code copies cs) + 5) (top (fixed_in d.scheme s) m) (record { pc = next; store = list_makes copies cs m.store; issued = m.issued; atoms = list_atoms copies cs m.store })) same
        (template p (fixed_in d.scheme s) (frame_of d number) r next m false low (areas_low c well) (flag ∙ held) has) in
        goes_on p place_of (fixed_in d.scheme s) (fixed_in d.scheme s) (length (list_code copies cs) + 5) _ m _ next _ _ related.fixed acts (omega (arith, long, all_long c (slice_index_or d.firsts r []))) refl moved.shown
        (λ there fixed stored issued. related_at p d true there (list_makes copies cs m.store) m.issued (behind c atoms s) (subst (λ x. HasFixed x there) (sym moved.fixed) fixed) stored issued moved.memory)

pub restore_does : ((p : Program) (x : Fixed) (f : Frame) (r next : ℕ) (s : Spot) (held : Bool) → RestoreDoes p x f r next s held) → WritesKeep
    → (p : Program) (place_of : ℕ → journal.Place) (d : Doing) (number : ℕ) (keeps : Bool) (r : ℕ) → r ≤ 128 → r < length d.firsts → d.scheme ≡ Undo → AreHomes (core_of d) (slice_index_or d.firsts r [])
    → DoesAct p place_of d number keeps (act.Restore r) Nothing
restore_does template keep p place_of d number keeps r low there_is undo homes next m s well has related asks = by_lock (lock_holds s r) refl
  where
    flag : (m.store (lock_at r) == s.epoch) ≡ lock_holds s r
    flag = ap (λ e. e == s.epoch) (related.memory.cells.cells.locks r low)

    laid : Lie p m.pc (restore_code (frame_of d number) r next)
    laid = subst (λ b. Lie p m.pc (cond b (restore_code (frame_of d number) r next) [])) (is_below r (length d.firsts) there_is) has

    by_lock : (b : Bool) → lock_holds s r ≡ b
        → Ends p place_of d (act.Restore r) (16 + 12 * cond b (region_words d r) 0) (λ way. next) m s (silently (restore_writes s (cond b (first_places d r) [])))
    by_lock false held =
        goes_on p place_of (fixed_in d.scheme s) (fixed_in d.scheme s) 5 _ m _ next _ _ related.fixed
        (restore_skips p (fixed_in d.scheme s) (lock_at r) next (homes_code (frame_of d number).areas 2048 0 (first_of (frame_of d number) r) ++ jump next) m (fram_cell (lock_at r) (omega (arith, low))) (flag ∙ held) laid) (omega arith) refl refl
        (λ there fixed stored issued. related_at p d false there m.store m.issued s fixed stored issued related.memory)
    by_lock true held =
        let c : Core = core_of d in
        let places : List Place = first_places d r in
        let cs : List Copy = copies_of c (beside d.scheme s.bank) (worked d.scheme s.bank) places in
        let atoms : List Atom = map silent (map (λ at. puts_home at (aside_at s at)) places) in
        let same : array_copies (areas_from free_at_first c.arrays) 2048 0 (slice_index_or d.firsts r []) ≡ cs = arrays_are c 2048 0 (slice_index_or d.firsts r []) homes
        ∙ (λ i. copies_of c (sym (beside_undo d.scheme s.bank undo) i) (sym (worked_undo d.scheme s.bank undo) i) places) in
        let moved : Moved p place_of d false m.store m.issued s cs atoms = restore_goes keep p place_of d false m.issued well places m.store s (aside_at s) (homes_all c (slice_index_or d.firsts r []) homes) (λ at. refl) related.memory in
        let long : length (list_code copies cs) ≡ 2 * length places = code_long c (beside d.scheme s.bank) (worked d.scheme s.bank) places in
        let acts : Acts p (fixed_in d.scheme s) (length (list_code copies cs) + 6) (top (fixed_in d.scheme s) m) (record { pc = next; store = list_makes copies cs m.store; issued = m.issued; atoms = list_atoms copies cs m.store }) =
        subst (λ cs. Acts p (fixed_in d.scheme s) (length (list_code copies cs) + 6) (top (fixed_in d.scheme s) m) (record { pc = next; store = list_makes copies cs m.store; issued = m.issued; atoms = list_atoms copies cs m.store })) same
        (template p (fixed_in d.scheme s) (frame_of d number) r next m true low (areas_low c well) (flag ∙ held) laid) in
        goes_on p place_of (fixed_in d.scheme s) (fixed_in d.scheme s) (length (list_code copies cs) + 6) _ m _ next _ _ related.fixed acts (omega (arith, long, all_long c (slice_index_or d.firsts r []))) refl moved.shown
        (λ there fixed stored issued. related_at p d false there (list_makes copies cs m.store) m.issued (behind c atoms s) (subst (λ x. HasFixed x there) (sym moved.fixed) fixed) stored issued moved.memory)
