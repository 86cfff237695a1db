-- Words go to the kept words, one after another.
use Rattle.std.specs.Prelude.{map, slice_index, drop, take, if◌then◌else◌, Option, Some, None}
use Rattle.std.proofs.Common.{◌≡◌, ◌≢◌, ◌∙◌, ℕ, zero, suc, ◌+◌, ◌*◌, ◌^◌, ◌<◌, ◌≤◌, Bool, true, false, List, [], ◌∷◌, ◌++◌, length, refl, sym, ap, subst, arith}
use Rattle.std.proofs.lemmas.Bool.Decides.{nat_tests}
use Rattle.devices.specs.Journal as journal
use Rattle.fram_ram.specs.Addresses.{fram_has_word}
use Rattle.fram_ram.specs.Engine.{copied}
use Rattle.fram_ram.specs.Memories.{has_word, is_fram, put}
use Rattle.task_ast.specs.WellFormed.{IsWellFormed}
use Rattle.task_attempts.specs.Copies.{words_at}
use Rattle.walk_run.specs.declared.place.Place.{Place}
use Rattle.walk_run.specs.Store.{Store, place, word_at, words_of}
use Rattle.word_machine.specs.State.{Program}
use Rattle.word_machine.specs.Straight.{Spot}
use Rattle.word_machine.specs.TransferLaws.{HasWords, copy_atoms}
use Rattle.word_machine.specs.Traces as trace
use Rattle.run_plan.specs.declared.act.Act.TheVariants as act
use Rattle.run_plan.specs.Cells.{CellWrite, CopyValued, State, after_write, puts_kept}
use Rattle.run_plan.specs.Small.{Doing, core_of, have, silent, silently}
use Rattle.run_plan.specs.Weights.{length_valued}
use Rattle.run_plan.specs.Words.{keep_writes, kept_at}
use Rattle.line_laws.specs.Relation.{HasCell, Layout, Related, is_cell, place_address, room_at}
use Rattle.word_code.specs.Frames.{Frame}
use Rattle.act_laws.specs.Codes.{Fixed, HasFixed}
use Rattle.act_laws.specs.Templates.{KeepWordsDoes}
use Rattle.layout_laws.specs.Layouts.{layout_of}
use Rattle.cell_laws.specs.Standing.{address_in, worked}
use Rattle.cell_laws.proofs.Puts.{miss}
use Rattle.ram_laws.specs.Ram.{HasEnd, HasValued}
use Rattle.act_refines.specs.Between.{AreRelated, MemoryStands, fixed_in}
use Rattle.act_refines.specs.Does.{DoesAct, Ends, frame_of}
use Rattle.act_refines.specs.Moves.{IsRoomFor}
use Rattle.act_refines.specs.Seen.{Seen, behind, puts, steps_seen, trace_seen}
use Rattle.act_refines.proofs.Calls.{IsRelatedThere}
use Rattle.act_refines.proofs.Going.{goes_on, related_at}
use Rattle.act_refines.proofs.Simple.{WritesKeep}

-- ---- words in a row

-- so many words by their numbers
abbrev pub words_by : (ℕ → ℕ) → (j n : ℕ) → List ℕ
words_by word j zero = []
words_by word j (suc n) = word j ∷ words_by word (j + 1) n

front_is : (ws : List ℕ) (i n : ℕ) → i < length ws → take (suc n) (drop i ws) ≡ slice_index ws i ∷ take n (drop (suc i) ws)
front_is [] i n inside = absurd (omega (arith, inside))
front_is (w ∷ ws) zero n inside = refl
front_is (w ∷ ws) (suc i) n inside = front_is ws i n (omega (arith, inside))

row_is : (ws : List ℕ) (i j n : ℕ) → i + j + n ≤ length ws → take n (drop (i + j) ws) ≡ words_by (λ h. slice_index ws (i + h)) j n
row_is ws i j zero few = refl
row_is ws i j (suc n) few =
    let next : suc (i + j) ≡ i + (j + 1) = omega arith in
    front_is ws (i + j) n (omega (arith, few)) ∙ ap (λ h. slice_index ws (i + j) ∷ take n (drop h ws)) next ∙ ap (λ (xs : List ℕ). slice_index ws (i + j) ∷ xs) (row_is ws i (j + 1) n (omega (arith, few)))

pub words_are : (store : Store) (at : Place) (n : ℕ) → at.index + n ≤ length (words_of store at.array) → words_at store at n ≡ words_by (λ h. word_at store (place at.array (at.index + h))) 0 n
words_are store at n few =
    let start : at.index ≡ at.index + 0 = omega arith in
    ap (λ i. take n (drop i (words_of store at.array))) start ∙ row_is (words_of store at.array) at.index 0 n (omega (arith, few))

-- ---- from the places of an array

-- a word that a copy finds, off the kept words
pub record IsSource (m : ℕ → ℕ) (a word : ℕ) : Type 0 where
  pub there : has_word a ≡ true
  pub apart : is_cell a ≡ false
  pub holds : m a ≡ word
  pub fits : word < 2 ^ 32

pub source_is : (l : Layout) (count : ℕ) (m : Spot) (store : Store) (at : Place) (n from : ℕ) → Related l count m store → at.index + n ≤ room_at l at.array → place_address l at.array at.index ≡ from
    → (i : ℕ) → i < n → IsSource m.store (from + i) (word_at store (place at.array (at.index + i)))
source_is l count m store at n from h inside is i less =
    let cell : HasCell m (place_address l at.array (at.index + i)) (word_at store (place at.array (at.index + i))) = (h.arrays at.array).cells (at.index + i) (omega (arith, inside, less)) in
    let same : place_address l at.array (at.index + i) ≡ from + i = omega (arith, is) in
    subst (λ a. IsSource m.store a (word_at store (place at.array (at.index + i)))) same (record { there = cell.there; apart = cell.apart; holds = cell.holds; fits = cell.fits })

kept_fram : (a : ℕ) → a < 16384 → is_fram (7042 + a) ≡ true
kept_fram a low = grind (arith, nat_tests, low)

-- no place is a kept word
kept_apart : (a b : ℕ) → is_cell b ≡ false → a < 16384 → 7042 + a ≢ b
kept_apart a b apart low = grind (arith, nat_tests, apart, low)

still : (m : ℕ → ℕ) (cell w a word : ℕ) → cell ≢ a → IsSource m a word → IsSource (put m cell w) a word
still m cell w a word apart h = record { there = h.there; apart = h.apart; holds = miss m cell w a apart ∙ h.holds; fits = h.fits }

-- what keeping words does
pub record KeepsWords (p : Program) (place_of : ℕ → journal.Place) (d : Doing) (m counts : ℕ → ℕ) (s : State) (left : ℕ → ℕ) (atoms : List trace.Atom) (writes : List CellWrite) : Type 0 where
  pub memory : MemoryStands p d true left counts (behind (core_of d) (map silent writes) s)
  pub shown : trace_seen place_of atoms ≡ steps_seen (core_of d) d.scheme (map silent writes) s
  pub fixed : fixed_in d.scheme (behind (core_of d) (map silent writes) s) ≡ fixed_in d.scheme s

module _ (keep : WritesKeep) (p : Program) (place_of : ℕ → journal.Place) (d : Doing) (counts : ℕ → ℕ) (well : IsWellFormed (core_of d)) (first from : ℕ) (word : ℕ → ℕ) where
  pub keep_goes : (n j a : ℕ) (m : ℕ → ℕ) (s : State) → a ≡ first + j → a + n ≤ 16384 → ((i : ℕ) → j ≤ i → i < j + n → IsSource m (from + i) (word i)) → MemoryStands p d true m counts s
      → KeepsWords p place_of d m counts s (copied (7042 + first) from j n m) (copy_atoms (7042 + first) from j n m) (keep_writes a (words_by word j n))
  unfolding copied
  keep_goes zero j a m s is few source h = record { memory = h; shown = refl; fixed = refl }
  keep_goes (suc n) j a m s is few source h =
      let here : IsSource m (from + j) (word j) = source j (omega arith) (omega arith) in
      let cell : 7042 + first + j ≡ 7042 + a = omega (arith, is) in
      let t : State = after_write (core_of d).arrays (puts_kept a (word j)) s in
      let made : put m (7042 + first + j) (m (from + j)) ≡ put m (7042 + a) (word j) = λ i. put m (cell i) (here.holds i) in
      let next : MemoryStands p d true (put m (7042 + a) (word j)) counts t = keep p d true m counts s (puts_kept a (word j)) well h (omega (arith, few)) here.fits in
      let rest : KeepsWords p place_of d (put m (7042 + a) (word j)) counts t (copied (7042 + first) from (j + 1) n (put m (7042 + a) (word j))) (copy_atoms (7042 + first) from (j + 1) n (put m (7042 + a) (word j)))
      (keep_writes (a + 1) (words_by word (j + 1) n)) =
      keep_goes n (j + 1) (a + 1) (put m (7042 + a) (word j)) t (omega (arith, is)) (omega (arith, few))
      (λ i from_j below. still m (7042 + a) (word j) (from + i) (word i) (kept_apart a (from + i) (source i (omega (arith, from_j)) (omega (arith, below))).apart (omega (arith, few))) (source i (omega (arith, from_j)) (omega (arith, below)))) next in
      record {
        memory = subst (λ u. MemoryStands p d true (copied (7042 + first) from (j + 1) n u) counts (behind (core_of d) (map silent (keep_writes (a + 1) (words_by word (j + 1) n))) t)) (sym made) rest.memory;
        shown =
            (λ i. trace_seen place_of ((if is_fram (cell i) then trace.wrote (cell i) (here.holds i) ∷ [] else []) ++ copy_atoms (7042 + first) from (j + 1) n (made i)))
            ∙ ap (λ b. trace_seen place_of ((if b then trace.wrote (7042 + a) (word j) ∷ [] else []) ++ copy_atoms (7042 + first) from (j + 1) n (put m (7042 + a) (word j)))) (kept_fram a (omega (arith, few)))
            ∙ ap (λ (xs : List Seen). puts (7042 + a) (word j) ∷ xs) rest.shown;
        fixed = rest.fixed;
      }

-- ---- the act

pub kept_there : (first n i : ℕ) → first + n ≤ 16384 → i < n → has_word (7042 + first + i) ≡ true
kept_there first n i few less = fram_has_word (7042 + first + i) (omega (arith, few, less))

pub keeps_goes : WritesKeep → IsRelatedThere → (p : Program) (place_of : ℕ → journal.Place) (d : Doing) (m : Spot) (s : State) (at : Place) (first n cell : ℕ) → IsWellFormed (core_of d) → AreRelated p d true m s
    → HasEnd (core_of d) (worked d.scheme s.bank) m.store cell at n → first + n ≤ 16384
    → KeepsWords p place_of d m.store m.issued s (copied (7042 + first) (address_in (core_of d) (worked d.scheme s.bank) at) 0 n m.store) (copy_atoms (7042 + first) (address_in (core_of d) (worked d.scheme s.bank) at) 0 n m.store) (keep_writes first (words_at s.store at n))
keeps_goes keep relates p place_of d m s at first n cell well related end few =
    let l : Layout = layout_of (core_of d) (worked d.scheme s.bank) in
    let from : ℕ = address_in (core_of d) (worked d.scheme s.bank) at in
    let r : Related l (length (core_of d).pointers) m s.store = relates p d m s well related in
    let word : ℕ → ℕ = λ i. word_at s.store (place at.array (at.index + i)) in
    let inside : at.index + n ≤ length (words_of s.store at.array) = subst (λ k. at.index + n ≤ k) (sym (r.arrays at.array).rooms) end.inside in
    subst (λ ws. KeepsWords p place_of d m.store m.issued s (copied (7042 + first) from 0 n m.store) (copy_atoms (7042 + first) from 0 n m.store) (keep_writes first ws)) (sym (words_are s.store at n inside))
    (keep_goes keep p place_of d m.issued well first from word n 0 first m.store s (omega arith) few (λ i low below. source_is l (length (core_of d).pointers) m s.store at n from r end.inside refl i (omega (arith, below))) related.memory)

pub keeps_there : IsRelatedThere → (p : Program) (d : Doing) (m : Spot) (s : State) (at : Place) (first n cell : ℕ) → IsWellFormed (core_of d) → AreRelated p d true m s
    → HasEnd (core_of d) (worked d.scheme s.bank) m.store cell at n → first + n ≤ 16384 → HasWords (7042 + first) (address_in (core_of d) (worked d.scheme s.bank) at) 0 n
keeps_there relates p d m s at first n cell well related end few =
    record {
      source = λ j low below. (source_is (layout_of (core_of d) (worked d.scheme s.bank)) (length (core_of d).pointers) m s.store at n (address_in (core_of d) (worked d.scheme s.bank) at) (relates p d m s well related) end.inside refl j (omega (arith, below))).there;
      target = λ j low below. kept_there first n j few (omega (arith, below));
    }

pub keep_words_does : ((p : Program) (x : Fixed) (f : Frame) (k next n from : ℕ) (s : Spot) → KeepWordsDoes p x f k next n from s) → WritesKeep → IsRelatedThere
    → (p : Program) (place_of : ℕ → journal.Place) (d : Doing) (number : ℕ) (keeps : Bool) (k : ℕ) → DoesAct p place_of d number keeps (act.KeepWords k) (IsRoomFor d k)
keep_words_does template keep relates p place_of d number keeps k next m s well has related asks = by_copy s.frame.copy refl
  where
    by_copy : (o : Option CopyValued) → s.frame.copy ≡ o → Ends p place_of d (act.KeepWords k) (8 + 12 * length_valued o) (λ way. next) m s (have o (λ v. silently (keep_writes (kept_at d k) (words_at s.store v.to v.length))))
    by_copy None is = tt
    by_copy (Some v) is =
        let x : Fixed = fixed_in d.scheme s in
        let from : ℕ = address_in (core_of d) (worked d.scheme s.bank) v.to in
        let valued : HasValued (core_of d) (worked d.scheme s.bank) m.store v = related.memory.ram.frame.copy v is in
        let few : kept_at d k + v.length ≤ 16384 = asks v is in
        let goes : KeepsWords p place_of d m.store m.issued s (copied (7042 + kept_at d k) from 0 v.length m.store) (copy_atoms (7042 + kept_at d k) from 0 v.length m.store) (keep_writes (kept_at d k) (words_at s.store v.to v.length)) =
        keeps_goes keep relates p place_of d m s v.to (kept_at d k) v.length 1048616 well related valued.to few in
        goes_on p place_of x x (9 * v.length + 5) (8 + 12 * v.length) m _ next _ _ related.fixed
        (template p x (frame_of d number) k next v.length from m valued.to.address valued.length.holds valued.length.fits (keeps_there relates p d m s v.to (kept_at d k) v.length 1048616 well related valued.to few) has)
        (omega arith) refl goes.shown
        (λ there fixed stored issued. related_at p d true there (copied (7042 + kept_at d k) from 0 v.length m.store) m.issued (behind (core_of d) (map silent (keep_writes (kept_at d k) (words_at s.store v.to v.length))) s)
        (subst (λ f. HasFixed f there) (sym goes.fixed) fixed) stored issued goes.memory)
