-- Words go to a copy's destination, one after another: to homes, which are seen, or to volatile words.
use Rattle.std.specs.Prelude.{◌==◌, map, slice_get, if◌then◌else◌, Option, Some, None}
use Rattle.std.specs.List.{AllByRecursion, range_with_len}
use Rattle.std.proofs.Common.{◌≡◌, ◌≢◌, ◌∙◌, ℕ, zero, suc, ◌+◌, ◌-◌, ◌*◌, ◌^◌, ◌<◌, ◌≤◌, Bool, true, false, List, [], ◌∷◌, ◌++◌, length, length-set, refl, sym, ap, subst, arith}
use Rattle.std.proofs.lemmas.Bool.Decides.{nat_tests}
use Rattle.devices.specs.Journal as journal
use Rattle.devices.specs.Journal.{keeps}
use Rattle.fram_ram.specs.Engine.{copied}
use Rattle.fram_ram.specs.Memories.{has_word, is_fram, put}
use Rattle.task_ast.specs.declared.core_form.Core.{Core}
use Rattle.task_ast.specs.declared.core_form.Site.TheVariants as site
use Rattle.task_ast.specs.WellFormed.{IsWellFormed}
use Rattle.task_attempts.specs.Copies.{put_words}
use Rattle.walk_run.specs.declared.place.Place.{Place}
use Rattle.walk_run.specs.PlainWrites.{Write, sets}
use Rattle.walk_run.specs.Store.{Store, place, put_word}
use Rattle.word_machine.specs.State.{Program}
use Rattle.word_machine.specs.Straight.{Spot}
use Rattle.word_machine.specs.TransferLaws.{HasWords, copy_atoms}
use Rattle.word_machine.specs.Traces as trace
use Rattle.word_machine.specs.Traces.{applied, noted}
use Rattle.run_plan.specs.declared.act.Act.TheVariants as act
use Rattle.run_plan.specs.Cells.{State}
use Rattle.run_plan.specs.Small.{Doing, ahead, core_of, does, have, showing, silent, with_volatile}
use Rattle.run_plan.specs.Words.{home_writes, kept_at, kept_words, put_writes, recorded_words}
use Rattle.line_laws.specs.Goals.{atoms_of}
use Rattle.line_laws.specs.Relation.{HasCell, IsApart, Layout, Related, base_at, is_cell, place_address, room_at}
use Rattle.line_laws.proofs.After.{related_after}
use Rattle.word_code.specs.Frames.{Frame}
use Rattle.act_laws.specs.Codes.{Fixed, HasFixed}
use Rattle.act_laws.specs.Templates.{PutWordsDoes}
use Rattle.layout_laws.specs.Layouts.{layout_of}
use Rattle.cell_laws.specs.Standing.{HasCopy, HasRecord, IsSite, address_in, worked}
use Rattle.cell_laws.proofs.Puts.{miss}
use Rattle.cell_laws.proofs.Writes.{worked_low}
use Rattle.ram_laws.proofs.Stays.{frame_stays}
use Rattle.act_refines.specs.Between.{AreRelated, MemoryStands, fixed_in}
use Rattle.act_refines.specs.Does.{DoesAct, Ends, IsGoodWrite, frame_of}
use Rattle.act_refines.specs.Moves.{IsRecorded}
use Rattle.act_refines.specs.Seen.{Seen, behind, steps_seen, tells, trace_seen}
use Rattle.act_refines.proofs.Calls.{IsRelatedThere}
use Rattle.act_refines.proofs.Going.{goes_on, related_at}
use Rattle.act_refines.proofs.Kept.{kept_there, words_by}
use Rattle.act_refines.proofs.Simple.{WritesKeep}
use Rattle.act_refines.proofs.Statements.{AreasLie, FramKeeps, IsSameRest, SuitsThere, rest_same, writes_shown, writes_stand}
use Rattle.act_refines.proofs.Stores.{memory_again}

-- ---- what a trace writes

put_same : (u v : ℕ → ℕ) (b w a : ℕ) → u a ≡ v a → put u b w a ≡ put v b w a
put_same u v b w a same = ap (λ x. if b == a then w else x) same

applied_same : (atoms : List trace.Atom) (u v : ℕ → ℕ) (a : ℕ) → u a ≡ v a → applied atoms u a ≡ applied atoms v a
applied_same [] u v a same = same
applied_same (trace.wrote b w ∷ atoms) u v a same = applied_same atoms (put u b w) (put v b w) a (put_same u v b w a same)
applied_same (trace.showed e ∷ atoms) u v a same = applied_same atoms u v a same

far : (b a : ℕ) → is_fram b ≡ false → a < 65536 → b ≢ a
far b a is low = grind (arith, nat_tests, is, low)

-- in FRAM words are as their trace has them
copies_applied : (to from j n : ℕ) (m : ℕ → ℕ) (a : ℕ) → a < 65536 → copied to from j n m a ≡ applied (copy_atoms to from j n m) m a
unfolding copied
copies_applied to from j zero m a low = refl
copies_applied to from j (suc n) m a low = copies_applied to from (j + 1) n (put m (to + j) (m (from + j))) a low ∙ by_fram (is_fram (to + j)) refl
  where
    by_fram : (b : Bool) → is_fram (to + j) ≡ b
        → applied (copy_atoms to from (j + 1) n (put m (to + j) (m (from + j)))) (put m (to + j) (m (from + j))) a
        ≡ applied ((if b then trace.wrote (to + j) (m (from + j)) ∷ [] else []) ++ copy_atoms to from (j + 1) n (put m (to + j) (m (from + j)))) m a
    by_fram true is = refl
    by_fram false is = applied_same (copy_atoms to from (j + 1) n (put m (to + j) (m (from + j)))) (put m (to + j) (m (from + j))) m a (miss m (to + j) (m (from + j)) a (far (to + j) a is low))

-- ---- words in a row

-- words that are copied make these writes of a store, and leave the code's cells
pub record Copies (c : Core) (l : Layout) (count : ℕ) (x : Spot) (to from j n : ℕ) (m : ℕ → ℕ) (store : Store) (writes : List Write) (after : Store) : Type 0 where
  pub atoms : copy_atoms to from j n m ≡ atoms_of l writes
  pub related : Related l count (record x { store = copied to from j n m }) after
  pub kept : (a : ℕ) → is_cell a ≡ true → copied to from j n m a ≡ m a
  pub good : AllByRecursion (IsGoodWrite c) writes
  pub long : length after.words ≡ length store.words

-- a place at an address, which may be written
pub record IsAim (c : Core) (bank : ℕ) (at : Place) (a n : ℕ) : Type 0 where
  pub is : address_in c bank at ≡ a
  pub inside : at.index + n ≤ room_at (layout_of c 0) at.array
  pub written : base_at (layout_of c 0) at.array ≢ 0

cell_apart : (to a : ℕ) → is_cell to ≡ false → is_cell a ≡ true → to ≢ a
cell_apart to a one two same = absurd (cc (one, two, ap is_cell same))

pub aim_next : (c : Core) (bank : ℕ) (at : Place) (to j n : ℕ) → IsAim c bank at (to + j) (suc n) → IsAim c bank (place at.array (at.index + 1)) (to + (j + 1)) n
aim_next c bank at to j n h = record { is = omega (arith, h.is); inside = omega (arith, h.inside); written = h.written }

module _ (c : Core) (bank count : ℕ) (x : Spot) (apart : IsApart (layout_of c bank)) (to from : ℕ) where
  abbrev l : Layout
  l = layout_of c bank

  pub none_on : (j : ℕ) (m : ℕ → ℕ) (store : Store) → Related l count (record x { store = m }) store → Copies c l count x to from j zero m store [] store
  unfolding copied
  none_on j m store related = record { atoms = refl; related = related; kept = λ a is. refl; good = tt; long = refl }

  pub next_on : (j n : ℕ) (m : ℕ → ℕ) (store : Store) (at : Place) (w : ℕ) → IsAim c bank at (to + j) (suc n) → w < 2 ^ 32 → Related l count (record x { store = m }) store
      → Related l count (record x { store = put m (to + j) w }) (put_word at w store)
  next_on j n m store at w aim fits related =
      related_after l count store at w (record x { store = m }) (record x { store = put m (to + j) w }) apart (omega (arith, aim.inside)) fits related (λ r k. refl) (λ b k. ap (λ a. put m a w b) (sym aim.is))

  pub one_on : (j n : ℕ) (m : ℕ → ℕ) (store : Store) (at : Place) (w : ℕ) (writes : List Write) (after : Store) → IsAim c bank at (to + j) (suc n) → m (from + j) ≡ w → w < 2 ^ 32 → Related l count (record x { store = m }) store
      → Copies c l count x to from (j + 1) n (put m (to + j) w) (put_word at w store) writes after → Copies c l count x to from j (suc n) m store (sets at w ∷ writes) after
  unfolding copied
  one_on j n m store at w writes after aim found fits related rest =
      let made : put m (to + j) (m (from + j)) ≡ put m (to + j) w = ap (put m (to + j)) found in
      let cell : HasCell (record x { store = m }) (place_address l at.array at.index) _ = (related.arrays at.array).cells at.index (omega (arith, aim.inside)) in
      let clear : is_cell (to + j) ≡ false = ap is_cell (sym aim.is) ∙ cell.apart in
      record {
        atoms = (λ i. noted (to + j) (found i) ++ copy_atoms to from (j + 1) n (made i)) ∙ (λ i. noted (sym aim.is i) w ++ rest.atoms i);
        related = subst (λ u. Related l count (record x { store = copied to from (j + 1) n u }) after) (sym made) rest.related;
        kept = λ a is. ap (λ u. copied to from (j + 1) n u a) made ∙ rest.kept a is ∙ miss m (to + j) w a (cell_apart (to + j) a clear is);
        good = ((record { inside = omega (arith, aim.inside); written = aim.written }, fits), rest.good);
        long = rest.long ∙ length-set store.words at.array _;
      }

-- ---- kept words are put

-- a kept word, as a copy finds it
pub record IsKeptWord (m : ℕ → ℕ) (a word : ℕ) : Type 0 where
  pub cell : is_cell a ≡ true
  pub holds : m a ≡ word
  pub fits : word < 2 ^ 32

module _ (c : Core) (bank count : ℕ) (x : Spot) (apart : IsApart (layout_of c bank)) (to from : ℕ) (word : ℕ → ℕ) where
  pub put_goes : (n j : ℕ) (m : ℕ → ℕ) (store : Store) (at : Place) → IsAim c bank at (to + j) n → ((i : ℕ) → j ≤ i → i < j + n → IsKeptWord m (from + i) (word i)) → Related (layout_of c bank) count (record x { store = m }) store
      → Copies c (layout_of c bank) count x to from j n m store (put_writes at (words_by word j n)) (put_words at (words_by word j n) store)
  put_goes zero j m store at aim source related = none_on c bank count x apart to from j m store related
  put_goes (suc n) j m store at aim source related =
      let here : IsKeptWord m (from + j) (word j) = source j (omega arith) (omega arith) in
      let cell : HasCell (record x { store = m }) (place_address (layout_of c bank) at.array at.index) _ = (related.arrays at.array).cells at.index (omega (arith, aim.inside)) in
      let clear : is_cell (to + j) ≡ false = ap is_cell (sym aim.is) ∙ cell.apart in
      one_on c bank count x apart to from j n m store at (word j) _ _ aim here.holds here.fits related
      (put_goes n (j + 1) (put m (to + j) (word j)) (put_word at (word j) store) (place at.array (at.index + 1)) (aim_next c bank at to j n aim)
      (λ i low below. let other : IsKeptWord m (from + i) (word i) = source i (omega (arith, low)) (omega (arith, below)) in
      record { cell = other.cell; holds = miss m (to + j) (word j) (from + i) (cell_apart (to + j) (from + i) clear other.cell) ∙ other.holds; fits = other.fits })
      (next_on c bank count x apart to from j n m store at (word j) aim here.fits related))

-- ---- memory behind a copy

frame_is_cell : (a : ℕ) → 1048608 ≤ a → a < 1048896 → is_cell a ≡ true
frame_is_cell a from below = grind (arith, nat_tests, from, below)

pub kept_is_cell : (a : ℕ) → 7042 ≤ a → a < 23426 → is_cell a ≡ true
kept_is_cell a from below = grind (arith, nat_tests, from, below)

module _ (areas : AreasLie) (keep : WritesKeep) (fram : FramKeeps) (p : Program) (place_of : ℕ → journal.Place) (d : Doing) (m : Spot) (s : State) (well : IsWellFormed (core_of d)) (related : AreRelated p d true m s)
    (to from n : ℕ) (writes : List Write) (after : Store) (copies : Copies (core_of d) (layout_of (core_of d) (worked d.scheme s.bank)) (length (core_of d).pointers) m to from 0 n m.store s.store writes after) where
  cells_alone : MemoryStands p d false m.store m.issued s
  cells_alone = let h = related.memory in record { cells = h.cells; constants = h.constants; ram = tt; readings = h.readings; tidy = h.tidy }

  pub copy_stands : MemoryStands p d true (copied to from 0 n m.store) m.issued (with_volatile (core_of d) after (behind (core_of d) (map silent (home_writes (core_of d) writes)) s))
  copy_stands =
      let c : Core = core_of d in
      let left : ℕ → ℕ = copied to from 0 n m.store in
      let u : Spot = record m { store = left } in
      let t : State = behind c (map silent (home_writes c writes)) s in
      let rest : IsSameRest d.scheme s t = rest_same c d.scheme writes s in
      let cells : MemoryStands p d false left m.issued t = fram p d (applied (atoms_of (layout_of c (worked d.scheme s.bank)) writes) m.store) left m.issued t well
      (writes_stand areas keep p place_of d m.issued well writes m.store s copies.good cells_alone) (λ b low. copies_applied to from 0 n m.store b low ∙ ap (λ atoms. applied atoms m.store b) copies.atoms) in
      memory_again p d (worked d.scheme s.bank) u m.issued t after s.frame cells copies.related
      (frame_stays c (worked d.scheme s.bank) m.store left s.frame (λ a from below. copies.kept a (frame_is_cell a from below)) related.memory.ram.frame) rest.frame rest.bank
      (copies.long ∙ related.memory.tidy.shape.homes)

  pub copy_shown : trace_seen place_of (copy_atoms to from 0 n m.store) ≡ steps_seen (core_of d) d.scheme (map silent (home_writes (core_of d) writes)) s
  copy_shown = ap (trace_seen place_of) copies.atoms ∙ writes_shown areas keep p place_of d m.issued well writes s copies.good

-- ---- the act

kept_row : (kept : ℕ → ℕ) (first j n : ℕ) → map kept (range_with_len (first + j) n) ≡ words_by (λ i. kept (first + i)) j n
kept_row kept first j zero = refl
kept_row kept first j (suc n) = let next : first + j + 1 ≡ first + (j + 1) = omega arith in
    ap (λ i. kept (first + j) ∷ map kept (range_with_len i n)) next ∙ ap (λ (xs : List ℕ). kept (first + j) ∷ xs) (kept_row kept first (j + 1) n)

pub recorded_are : (kept : ℕ → ℕ) (first n : ℕ) → kept_words kept first n ≡ words_by (λ i. kept (first + i)) 0 n
recorded_are kept first n = let start : first ≡ first + 0 = omega arith in ap (λ i. map kept (range_with_len i n)) start ∙ kept_row kept first 0 n

-- the record's words go to its destination
pub puts_goes : SuitsThere → IsRelatedThere → (p : Program) (d : Doing) (k : ℕ) (m : Spot) (s : State) (at : Place) → IsWellFormed (core_of d) → AreRelated p d true m s → IsRecorded d k m s → s.cells.to k ≡ Some at
    → Copies (core_of d) (layout_of (core_of d) (worked d.scheme s.bank)) (length (core_of d).pointers) m (address_in (core_of d) (worked d.scheme s.bank) at) (7042 + kept_at d k) 0 (s.cells.length k) m.store s.store
    (put_writes at (recorded_words d k s)) (put_words at (recorded_words d k s) s.store)
puts_goes apart relates p d k m s at well related asks is =
    let c : Core = core_of d in
    let bank : ℕ = worked d.scheme s.bank in
    let to : ℕ = address_in c bank at in
    let word : ℕ → ℕ = λ i. s.cells.kept (kept_at d k + i) in
    let fits = asks.inside at is in
    let n : ℕ = s.cells.length k in
    subst (λ ws. Copies c (layout_of c bank) (length c.pointers) m to (7042 + kept_at d k) 0 n m.store s.store (put_writes at ws) (put_words at ws s.store)) (sym (recorded_are s.cells.kept (kept_at d k) n))
    (put_goes c bank (length c.pointers) m (apart c bank well (worked_low d.scheme s.bank)) to (7042 + kept_at d k) word n 0 m.store s.store at (record { is = omega arith; inside = fits.inside; written = fits.written })
    (λ i low below. record {
      cell = kept_is_cell (7042 + kept_at d k + i) (omega arith) (omega (arith, below, asks.room));
      holds = (let same : 7042 + kept_at d k + i ≡ 7042 + (kept_at d k + i) = omega arith in ap m.store same ∙ related.memory.cells.cells.kept (kept_at d k + i) (omega (arith, below, asks.room)));
      fits = related.memory.tidy.words.kept (kept_at d k + i);
    })
    (relates p d m s well related))

pub puts_there : IsRelatedThere → (p : Program) (d : Doing) (k : ℕ) (m : Spot) (s : State) (at : Place) → IsWellFormed (core_of d) → AreRelated p d true m s → IsRecorded d k m s → s.cells.to k ≡ Some at
    → HasWords (address_in (core_of d) (worked d.scheme s.bank) at) (7042 + kept_at d k) 0 (s.cells.length k)
puts_there relates p d k m s at well related asks is =
    let l : Layout = layout_of (core_of d) (worked d.scheme s.bank) in
    let r : Related l (length (core_of d).pointers) m s.store = relates p d m s well related in
    let fits = asks.inside at is in
    record {
      source = λ j low below. kept_there (kept_at d k) (s.cells.length k) j asks.room (omega (arith, below));
      target = λ j low below. let same : place_address l at.array (at.index + j) ≡ address_in (core_of d) (worked d.scheme s.bank) at + j = omega arith in
          subst (λ a. has_word a ≡ true) same ((r.arrays at.array).cells (at.index + j) (omega (arith, below, fits.inside))).there;
    }

pub copy_record : (p : Program) (d : Doing) (k most : ℕ) (m : Spot) (s : State) → IsSite k → slice_get d.setting.task.sites (k - 1) ≡ Some (site.Copy most) → AreRelated p d true m s → s.cells.flag k ≡ s.epoch
    → HasCopy (address_in (core_of d) (worked d.scheme s.bank)) m.store s.cells k
copy_record p d k most m s here is related held = subst (λ o. HasRecord (address_in (core_of d) (worked d.scheme s.bank)) o m.store s.cells k) is (related.memory.cells.cells.records k here held)

pub put_words_does : ((p : Program) (x : Fixed) (f : Frame) (k next n to : ℕ) (s : Spot) → PutWordsDoes p x f k next n to s) → AreasLie → WritesKeep → FramKeeps → IsRelatedThere → SuitsThere
    → (p : Program) (place_of : ℕ → journal.Place) (d : Doing) (number : ℕ) (inner : Bool) (k most : ℕ) → IsSite k → slice_get d.setting.task.sites (k - 1) ≡ Some (site.Copy most)
    → DoesAct p place_of d number inner (act.PutWords k) (IsRecorded d k)
put_words_does template areas keep fram relates apart p place_of d number inner k most here site_is next m s well has related asks = by_end (s.cells.to k) refl
  where
    by_end : (o : Option Place) → s.cells.to k ≡ o
        → Ends p place_of d (act.PutWords k) (8 + 12 * s.cells.length k) (λ way. next) m s (have o (λ to.
        does (showing (keeps k (s.cells.length k)) ∷ map silent (home_writes (core_of d) (put_writes to (recorded_words d k s)))) (with_volatile (core_of d) (put_words to (recorded_words d k s) s.store)) ahead))
    by_end None is = tt
    by_end (Some at) is =
        let c : Core = core_of d in
        let x : Fixed = fixed_in d.scheme s in
        let n : ℕ = s.cells.length k in
        let to : ℕ = address_in c (worked d.scheme s.bank) at in
        let from : ℕ = 7042 + kept_at d k in
        let ws : List ℕ = recorded_words d k s in
        let writes : List Write = put_writes at ws in
        let after : Store = put_words at ws s.store in
        let made : HasCopy (address_in c (worked d.scheme s.bank)) m.store s.cells k = copy_record p d k most m s here site_is related asks.held in
        let copies : Copies c (layout_of c (worked d.scheme s.bank)) (length c.pointers) m to from 0 n m.store s.store writes after = puts_goes apart relates p d k m s at well related asks is in
        let t : State = with_volatile c after (behind c (map silent (home_writes c writes)) s) in
        let rest : IsSameRest d.scheme s (behind c (map silent (home_writes c writes)) s) = rest_same c d.scheme writes s in
        goes_on p place_of x x (9 * n + 6) (8 + 12 * n) m _ next _ _ related.fixed
        (template p x (frame_of d number) k next n to m here.few (made.to at is) made.length (omega (arith, asks.room)) (puts_there relates p d k m s at well related asks is) has)
        (omega arith) refl (ap (λ (xs : List Seen). tells (keeps k n) ∷ xs) (copy_shown areas keep fram p place_of d m s well related to from n writes after copies))
        (λ there fixed stored issued. related_at p d true there (copied to from 0 n m.store) m.issued t (subst (λ f. HasFixed f there) (sym rest.fixed) fixed) stored issued
        (copy_stands areas keep fram p place_of d m s well related to from n writes after copies))
