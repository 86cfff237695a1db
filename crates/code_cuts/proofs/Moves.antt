-- A copy's words are moved: to the kept words, from them, and across, and the copy is seen with the last.
use Rattle.std.specs.Prelude.{◌==◌, length, map, slice_get, Option}
use Rattle.std.proofs.Common.{◌≡◌, ◌≢◌, ◌∙◌, ℕ, zero, suc, ◌+◌, ◌-◌, ◌^◌, ◌<◌, ◌≤◌, Bool, true, List, [], ◌∷◌, ◌++◌, Some, None, refl, sym, ap, subst, arith}
use Rattle.std.proofs.lemmas.Bool.Decides.{nat_tests}
use Rattle.devices.specs.Journal as journal
use Rattle.devices.specs.Journal.{JournalEvent, copies}
use Rattle.fram_ram.specs.Memories.{has_word, is_fram, put}
use Rattle.task_ast.specs.declared.tree.Kind.{Kind}
use Rattle.task_ast.specs.declared.tree.Kind.TheVariants.{Nv, Const, Vol}
use Rattle.task_ast.specs.declared.core_form.Core.{Core}
use Rattle.task_ast.specs.declared.core_form.Site.TheVariants as site
use Rattle.task_ast.specs.WellFormed.{IsWellFormed}
use Rattle.task_attempts.specs.Copies.{put_words, shown, words_at}
use Rattle.walk_run.specs.declared.place.Place.{Place}
use Rattle.walk_run.specs.PlainWrites.{Write, sets}
use Rattle.walk_run.specs.Store.{Store, first_if_shown, place, put_word, word_at, words_of}
use Rattle.walk_run.specs.Walk.{move_words}
use Rattle.word_machine.specs.State.{Program}
use Rattle.word_machine.specs.Straight.{Spot, live}
use Rattle.word_machine.specs.TransferLaws.{HasWords}
use Rattle.word_machine.specs.Traces as trace
use Rattle.line_laws.specs.Relation.{Layout, Related, base_at, room_at}
use Rattle.line_laws.specs.Standing.{Lie}
use Rattle.line_code.specs.Areas.{free_at_first}
use Rattle.layout_laws.specs.Layouts.{layout_of}
use Rattle.run_plan.specs.declared.act.Act.TheVariants as act
use Rattle.run_plan.specs.declared.act.Leg.TheVariants.{Across, FromKept, ToKept}
use Rattle.run_plan.specs.Cells.{CellWrite, CopyValued, State, after_write, puts_home, puts_kept}
use Rattle.run_plan.specs.Deeds.{words_shown}
use Rattle.run_plan.specs.Small.{Atom, Doing, ahead, core_of, does, have, same, showing, shown_last, silent, silently, with_volatile}
use Rattle.run_plan.specs.Words.{home_writes, keep_writes, kept_at, kind_at, move_writes, put_writes, recorded_words}
use Rattle.word_code.specs.Acts.{jump, leg_lines, transfer_code}
use Rattle.word_code.specs.Frames as frames
use Rattle.word_code.specs.Frames.{Frame, ends_at}
use Rattle.act_laws.specs.Codes.{Fixed, FramCell, HasFixed}
use Rattle.act_laws.specs.CodeLaws.{fram_cell}
use Rattle.cell_laws.specs.Standing.{HasCopy, IsHome, IsSite, address_in, address_of, word_of, worked}
use Rattle.cell_laws.proofs.Writes.{home_in, worked_low}
use Rattle.ram_laws.specs.Ram.{HasEnd, HasValued}
use Rattle.act_refines.specs.Between.{AreRelated, fixed_in}
use Rattle.act_refines.specs.Does.{frame_of}
use Rattle.act_refines.specs.Seen.{trace_seen}
use Rattle.act_refines.proofs.Calls.{IsRelatedThere}
use Rattle.act_refines.proofs.Kept.{keeps_there, source_is, words_are, words_by}
use Rattle.act_refines.proofs.Legs.{move_goes}
use Rattle.act_refines.proofs.Moved.{Copies, copy_record, puts_goes, puts_there, recorded_are}
use Rattle.act_refines.proofs.Simple.{WritesKeep}
use Rattle.act_refines.proofs.Statements.{AreasLie, FramKeeps, SuitsThere}
use Rattle.code_cuts.specs.Acts.{CutsAct, IsRunning}
use Rattle.code_cuts.specs.Asked.{KeepsCopy, MovesCopy, PutsCopy}
use Rattle.code_cuts.specs.Lasting.{MayFollow}
use Rattle.code_cuts.proofs.Cutting.{Cuts, Whole, cells_alone, last_cut, ones_cut}
use Rattle.code_cuts.proofs.Fitting.{AllFit}
use Rattle.code_cuts.proofs.Memories.{fram_is}
use Rattle.code_cuts.proofs.Simple.{nv_base, silent_ones, writes_fit}
use Rattle.code_cuts.proofs.Splitting.{LastShowsBoth, ShowsOne}
use Rattle.code_cuts.proofs.Transfers.{AllFram, transfer_over}

-- ---- the last write shows the copy

last_fit : (d : Doing) (now : ℕ) (m : ℕ → ℕ) (k n : ℕ) (from to : journal.Place) (writes : List CellWrite) (s : State) → AllFit d now m (map silent writes) s → AllFit d now m (shown_last writes (copies k from to n)) s
last_fit d now m k n from to [] s fit = (tt, tt, tt)
last_fit d now m k n from to (w ∷ []) s fit = (tt, fit.1, tt)
last_fit d now m k n from to (w ∷ v ∷ writes) s fit = (tt, fit.1, last_fit d now (put m (address_of (core_of d) d.scheme s w) (word_of (core_of d) d.scheme s w)) k n from to (v ∷ writes) (after_write (core_of d).arrays w s) fit.2)

more_both : (a : Atom) (atoms : List Atom) → ShowsOne a.write a.event → LastShowsBoth atoms → LastShowsBoth (a ∷ atoms)
more_both a [] one both = absurd both
more_both a (b ∷ atoms) one both = (one, both)

last_both : (w : CellWrite) (writes : List CellWrite) (e : JournalEvent) → LastShowsBoth (shown_last (w ∷ writes) e)
last_both w [] e = tt
last_both w (v ∷ writes) e = more_both (silent w) (shown_last (v ∷ writes) e) tt (last_both v writes e)

last_long : (w : CellWrite) (writes : List CellWrite) (e : JournalEvent) → length (shown_last (w ∷ writes) e) ≡ length (w ∷ writes)
last_long w [] e = refl
last_long w (v ∷ writes) e = omega (arith, last_long v writes e)

-- no step ends before the event alone
abbrev IsOver : Program → (ℕ → journal.Place) → Spot → (many : ℕ) → Type 0
IsOver p place_of m many = (i : ℕ) → many ≡ suc i → (j : ℕ) → length (trace_seen place_of (trace.trace p j (live m))) ≢ suc i

shown_cuts : WritesKeep → FramKeeps → (p : Program) (place_of : ℕ → journal.Place) (d : Doing) (m : Spot) (s : State) → IsWellFormed (core_of d) → AreRelated p d true m s → IsRunning d s → MayFollow d m.clock s → (k n : ℕ) (from to : journal.Place) (writes : List CellWrite)
    → AllFit d m.clock m.store (map silent writes) s → IsOver p place_of m (length writes) → Whole p place_of d m s (shown_last writes (copies k from to n))
shown_cuts keep fram p place_of d m s well related runs follows k n from to [] fit over = ones_cut keep fram p place_of d true m s well related runs follows (showing (copies k from to n) ∷ []) (tt, tt, tt) (tt, tt)
shown_cuts keep fram p place_of d m s well related runs follows k n from to (w ∷ writes) fit over =
    let atoms : List Atom = shown_last (w ∷ writes) (copies k from to n) in
    last_cut keep fram p place_of d true m s well related runs follows atoms (last_fit d m.clock m.store k n from to (w ∷ writes) s fit) (last_both w writes (copies k from to n))
    (λ j is. over (length writes) refl j (is ∙ last_long w writes (copies k from to n)))

-- ---- the legs

over_by : (p : Program) (place_of : ℕ → journal.Place) (to from n : ℕ) (m : Spot) → ((i : ℕ) → n ≡ suc i → HasWords to from 0 (suc i) → AllFram to 0 (suc i) → (j : ℕ) → length (trace_seen place_of (trace.trace p j (live m))) ≢ suc i)
    → HasWords to from 0 n → AllFram to 0 n → IsOver p place_of m n
over_by p place_of to from n m over words all i is = over i is (subst (HasWords to from 0) is words) (subst (AllFram to 0) is all)

across_over : (p : Program) (place_of : ℕ → journal.Place) (f : Frame) (x : Fixed) (n to from k next : ℕ) (s : Spot) → HasFixed x s → s.store 1048616 ≡ to → s.store 1048618 ≡ from → s.store 1048620 ≡ suc n → HasWords to from 0 (suc n) → AllFram to 0 (suc n)
    → Lie p s.pc (transfer_code f k Across ++ jump next) → (j : ℕ) → length (trace_seen place_of (trace.trace p j (live s))) ≢ suc n
unfolding has_word
across_over p place_of f x n to from k next s fixed a b c words all has = transfer_over p place_of f x (leg_lines f k Across) n to from k next s fixed has refl a b c refl words all

to_kept_over : (p : Program) (place_of : ℕ → journal.Place) (f : Frame) (x : Fixed) (n from k next : ℕ) (s : Spot) → HasFixed x s → s.store 1048618 ≡ from → s.store 1048620 ≡ suc n → HasWords (frames.kept_at f k) from 0 (suc n) → AllFram (frames.kept_at f k) 0 (suc n)
    → Lie p s.pc (transfer_code f k ToKept ++ jump next) → (j : ℕ) → length (trace_seen place_of (trace.trace p j (live s))) ≢ suc n
unfolding has_word
to_kept_over p place_of f x n from k next s fixed b c words all has = transfer_over p place_of f x (leg_lines f k ToKept) n (frames.kept_at f k) from k next s fixed has refl refl b c refl words all

from_kept_over : (p : Program) (place_of : ℕ → journal.Place) (f : Frame) (x : Fixed) (n to k next : ℕ) (s : Spot) → HasFixed x s → k ≤ 128 → s.store (ends_at k) ≡ to → s.store (ends_at k + 2) ≡ suc n → HasWords to (frames.kept_at f k) 0 (suc n) → AllFram to 0 (suc n)
    → Lie p s.pc (transfer_code f k FromKept ++ jump next) → (j : ℕ) → length (trace_seen place_of (trace.trace p j (live s))) ≢ suc n
unfolding has_word
from_kept_over p place_of f x n to k next s fixed low a c words all has =
    let i : FramCell (ends_at k) = fram_cell (ends_at k) (omega (arith, low)) in
    let j : FramCell (ends_at k + 2) = fram_cell (ends_at k + 2) (omega (arith, low)) in
    transfer_over p place_of f x (leg_lines f k FromKept) n to (frames.kept_at f k) k next s fixed has (rw (i.wraps, j.wraps, i.fram, j.fram)) (rw (i.wraps, a)) refl (rw (j.wraps, c)) refl words all

-- ---- kept words

kept_fit : (d : Doing) (now : ℕ) (word : ℕ → ℕ) (n j a : ℕ) (m : ℕ → ℕ) (s : State) → a + n ≤ 16384 → ((i : ℕ) → i < j + n → word i < 2 ^ 32) → AllFit d now m (map silent (keep_writes a (words_by word j n))) s
kept_fit d now word zero j a m s few fits = tt
kept_fit d now word (suc n) j a m s few fits =
    (tt, (omega (arith, few), fits j (omega arith), tt), kept_fit d now word n (j + 1) (a + 1) (put m (7042 + a) (word j)) (after_write (core_of d).arrays (puts_kept a (word j)) s) (omega (arith, few)) (λ i low. fits i (omega (arith, low))))

by_long : (word : ℕ → ℕ) (j n : ℕ) → length (words_by word j n) ≡ n
by_long word j zero = refl
by_long word j (suc n) = omega (arith, by_long word (j + 1) n)

keep_long : (a : ℕ) (words : List ℕ) → length (keep_writes a words) ≡ length words
keep_long a [] = refl
keep_long a (w ∷ words) = omega (arith, keep_long (a + 1) words)

kept_fram : (a : ℕ) → a < 16384 → is_fram (7042 + a) ≡ true
kept_fram a low = grind (arith, nat_tests, low)

-- the words of an end, as the kept words take them
record TakesEnd (d : Doing) (m : Spot) (s : State) (at : Place) (first n : ℕ) : Type 0 where
  fit : AllFit d m.clock m.store (map silent (keep_writes first (words_at s.store at n))) s
  long : length (keep_writes first (words_at s.store at n)) ≡ n

takes_end : IsRelatedThere → (p : Program) (d : Doing) (m : Spot) (s : State) (at : Place) (first n cell : ℕ) → IsWellFormed (core_of d) → AreRelated p d true m s → HasEnd (core_of d) (worked d.scheme s.bank) m.store cell at n → first + n ≤ 16384 → TakesEnd d m s at first n
takes_end relates p d m s at first n cell well related end few =
    let l : Layout = layout_of (core_of d) (worked d.scheme s.bank) in
    let r : Related l (length (core_of d).pointers) m s.store = relates p d m s well related in
    let word : ℕ → ℕ = λ i. word_at s.store (place at.array (at.index + i)) in
    let inside : at.index + n ≤ length (words_of s.store at.array) = subst (λ k. at.index + n ≤ k) (sym (r.arrays at.array).rooms) end.inside in
    let are : words_at s.store at n ≡ words_by word 0 n = words_are s.store at n inside in
    record {
      fit = subst (λ ws. AllFit d m.clock m.store (map silent (keep_writes first ws)) s) (sym are) (kept_fit d m.clock word n 0 first m.store s few (λ i low. (source_is l (length (core_of d).pointers) m s.store at n _ r end.inside refl i (omega (arith, low))).fits));
      long = keep_long first (words_at s.store at n) ∙ ap length are ∙ by_long word 0 n;
    }

-- ---- homes

-- the words of one array are all of homes, or none is
abbrev HomesBy : Core → Kind → List Write → (n : ℕ) → Type 0
HomesBy c Nv writes n = length (home_writes c writes) ≡ n
HomesBy c Const writes n = home_writes c writes ≡ []
HomesBy c Vol writes n = home_writes c writes ≡ []

homes_more : (c : Core) (k : Kind) (at : Place) (w : ℕ) (writes : List Write) (n : ℕ) → kind_at c at ≡ k → HomesBy c k writes n → HomesBy c k (sets at w ∷ writes) (suc n)
homes_more c Nv at w writes n is h = ap (λ j. length (first_if_shown j (puts_home at w) (home_writes c writes))) is ∙ ap suc h
homes_more c Const at w writes n is h = ap (λ j. first_if_shown j (puts_home at w) (home_writes c writes)) is ∙ h
homes_more c Vol at w writes n is h = ap (λ j. first_if_shown j (puts_home at w) (home_writes c writes)) is ∙ h

homes_none : (c : Core) (k : Kind) → HomesBy c k [] 0
homes_none c Nv = refl
homes_none c Const = refl
homes_none c Vol = refl

puts_by : (c : Core) (k : Kind) (words : List ℕ) (at : Place) → kind_at c at ≡ k → HomesBy c k (put_writes at words) (length words)
puts_by c k [] at is = homes_none c k
puts_by c k (w ∷ words) at is = homes_more c k at w (put_writes (place at.array (at.index + 1)) words) (length words) is (puts_by c k words (place at.array (at.index + 1)) is)

moves_by : (c : Core) (k : Kind) (n : ℕ) (to from : Place) (store : Store) → kind_at c to ≡ k → HomesBy c k (move_writes n to from store) n
moves_by c k zero to from store is = homes_none c k
moves_by c k (suc n) to from store is =
    homes_more c k to (word_at store from) (move_writes n (place to.array (to.index + 1)) (place from.array (from.index + 1)) (put_word to (word_at store from) store)) n is
    (moves_by c k n (place to.array (to.index + 1)) (place from.array (from.index + 1)) (put_word to (word_at store from) store) is)

homes_fram : AreasLie → (d : Doing) (s : State) (at : Place) (n : ℕ) → IsWellFormed (core_of d) → kind_at (core_of d) at ≡ Nv → at.index + n ≤ room_at (layout_of (core_of d) 0) at.array → AllFram (address_in (core_of d) (worked d.scheme s.bank) at) 0 n
homes_fram areas d s at n well is inside j low below =
    let c : Core = core_of d in
    let bank : ℕ = worked d.scheme s.bank in
    let base : base_at (layout_of c 0) at.array ≡ 14 = nv_base free_at_first c.arrays at.array is in
    let home : IsHome c (place at.array (at.index + j)) = record { nonvolatile = ap (λ n. n == 14) base; inside = omega (arith, inside, below) } in
    let here = home_in c (λ k few. areas c k well few) bank (worked_low d.scheme s.bank) (place at.array (at.index + j)) home in
    let same : address_in c bank (place at.array (at.index + j)) ≡ address_in c bank at + j = omega arith in
    subst (λ a. is_fram a ≡ true) same (fram_is (address_in c bank (place at.array (at.index + j))) (omega (arith, here.below, worked_low d.scheme s.bank)))

-- a copy of so many words, seen or not
homes_over : (p : Program) (place_of : ℕ → journal.Place) (c : Core) (m : Spot) (k : Kind) (writes : List Write) (n : ℕ) → HomesBy c k writes n → (k ≡ Nv → IsOver p place_of m n) → IsOver p place_of m (length (home_writes c writes))
homes_over p place_of c m Nv writes n h over i is = over refl i (sym h ∙ is)
homes_over p place_of c m Const writes n h over i is = absurd (omega (arith, ap length h, is))
homes_over p place_of c m Vol writes n h over i is = absurd (omega (arith, ap length h, is))

-- ---- the acts

module _ (keep : WritesKeep) (fram : FramKeeps) (relates : IsRelatedThere) (p : Program) (place_of : ℕ → journal.Place) (d : Doing) (number : ℕ) (inner : Bool) (k : ℕ) where
  pub keep_words_cuts : CutsAct p place_of d number inner (act.KeepWords k) (KeepsCopy d k)
  keep_words_cuts next m s well has related runs follows asks = by_copy s.frame.copy refl
    where
      by_copy : (o : Option CopyValued) → s.frame.copy ≡ o → Cuts p place_of d m s (have o (λ v. silently (keep_writes (kept_at d k) (words_at s.store v.to v.length))))
      by_copy None is = absurd (asks.copy is)
      by_copy (Some v) is =
          let valued : HasValued (core_of d) (worked d.scheme s.bank) m.store v = related.memory.ram.frame.copy v is in
          let takes : TakesEnd d m s v.to (kept_at d k) v.length = takes_end relates p d m s v.to (kept_at d k) v.length 1048616 well related valued.to (asks.room v is) in
          let writes : List CellWrite = keep_writes (kept_at d k) (words_at s.store v.to v.length) in
          (ones_cut keep fram p place_of d true m s well related runs follows (map silent writes) takes.fit (silent_ones writes), record { epoch = refl; task = refl; bank = refl; looks = refl; cells = refl })

  pub to_kept_cuts : CutsAct p place_of d number inner (act.Transfer k ToKept) (KeepsCopy d k)
  to_kept_cuts next m s well has related runs follows asks = by_copy s.frame.copy refl
    where
      by_copy : (o : Option CopyValued) → s.frame.copy ≡ o
          → Cuts p place_of d m s (have o (λ v. does (shown_last (keep_writes (kept_at d k) (words_at s.store v.from v.length)) (copies k (shown v.from) journal.keep v.length)) same ahead))
      by_copy None is = absurd (asks.copy is)
      by_copy (Some v) is =
          let x : Fixed = fixed_in d.scheme s in
          let from : ℕ = address_in (core_of d) (worked d.scheme s.bank) v.from in
          let valued : HasValued (core_of d) (worked d.scheme s.bank) m.store v = related.memory.ram.frame.copy v is in
          let few : kept_at d k + v.length ≤ 16384 = asks.room v is in
          let takes : TakesEnd d m s v.from (kept_at d k) v.length = takes_end relates p d m s v.from (kept_at d k) v.length 1048618 well related valued.from few in
          let writes : List CellWrite = keep_writes (kept_at d k) (words_at s.store v.from v.length) in
          let all : AllFram (7042 + kept_at d k) 0 v.length = λ j low below. let same : 7042 + (kept_at d k + j) ≡ 7042 + kept_at d k + j = omega arith in
          subst (λ a. is_fram a ≡ true) same (kept_fram (kept_at d k + j) (omega (arith, few, below))) in
          let over : IsOver p place_of m v.length = over_by p place_of (7042 + kept_at d k) from v.length m
          (λ i long words fits. to_kept_over p place_of (frame_of d number) x i from k next m related.fixed valued.from.address (valued.length.holds ∙ long) words fits has)
          (keeps_there relates p d m s v.from (kept_at d k) v.length 1048618 well related valued.from few) all in
          (shown_cuts keep fram p place_of d m s well related runs follows k v.length (shown v.from) journal.keep writes takes.fit (λ i is. over i (sym takes.long ∙ is)), record { epoch = refl; task = refl; bank = refl; looks = refl; cells = refl })

module _ (areas : AreasLie) (apart : SuitsThere) (keep : WritesKeep) (fram : FramKeeps) (relates : IsRelatedThere) (p : Program) (place_of : ℕ → journal.Place) (d : Doing) (number : ℕ) (inner : Bool) (k : ℕ) where
  pub put_words_cuts : CutsAct p place_of d number inner (act.PutWords k) (PutsCopy d k)
  put_words_cuts next m s well has related runs follows asks = by_end (s.cells.to k) refl
    where
      by_end : (o : Option Place) → s.cells.to k ≡ o
          → Cuts p place_of d m s (have o (λ to. does (showing (journal.keeps k (s.cells.length k)) ∷ map silent (home_writes (core_of d) (put_writes to (recorded_words d k s)))) (with_volatile (core_of d) (put_words to (recorded_words d k s) s.store)) ahead))
      by_end None is = absurd (asks.there is)
      by_end (Some at) is =
          let writes : List Write = put_writes at (recorded_words d k s) in (
            ones_cut keep fram p place_of d true m s well related runs follows (showing (journal.keeps k (s.cells.length k)) ∷ map silent (home_writes (core_of d) writes))
                (tt, tt, writes_fit keep p d m.clock m.issued well writes m.store s (puts_goes apart relates p d k m s at well related asks.recorded is).good (cells_alone p d true m.store m.issued s related.memory)) (tt, silent_ones (home_writes (core_of d) writes)),
            record { epoch = refl; task = refl; bank = refl; looks = refl; cells = refl },
          )

  pub from_kept_cuts : (most : ℕ) → IsSite k → slice_get d.setting.task.sites (k - 1) ≡ Some (site.Copy most) → CutsAct p place_of d number inner (act.Transfer k FromKept) (PutsCopy d k)
  from_kept_cuts most here site_is next m s well has related runs follows asks = by_end (s.cells.to k) refl
    where
      by_end : (o : Option Place) → s.cells.to k ≡ o
          → Cuts p place_of d m s (have o (λ to. words_shown (core_of d) (put_writes to (recorded_words d k s)) (copies k journal.keep (shown to) (s.cells.length k)) (put_words to (recorded_words d k s) s.store)))
      by_end None is = absurd (asks.there is)
      by_end (Some at) is =
          let c : Core = core_of d in
          let x : Fixed = fixed_in d.scheme s in
          let n : ℕ = s.cells.length k in
          let to : ℕ = address_in c (worked d.scheme s.bank) at in
          let writes : List Write = put_writes at (recorded_words d k s) in
          let made : HasCopy (address_in c (worked d.scheme s.bank)) m.store s.cells k = copy_record p d k most m s here site_is related asks.recorded.held in
          let long : length (recorded_words d k s) ≡ n = ap length (recorded_are s.cells.kept (kept_at d k) n) ∙ by_long (λ i. s.cells.kept (kept_at d k + i)) 0 n in
          let over : kind_at c at ≡ Nv → IsOver p place_of m n = λ nv. over_by p place_of to (7042 + kept_at d k) n m
          (λ i is_n words fits. from_kept_over p place_of (frame_of d number) x i to k next m related.fixed here.few (made.to at is) (made.length ∙ is_n) words fits has)
          (puts_there relates p d k m s at well related asks.recorded is) (homes_fram areas d s at n well nv (asks.recorded.inside at is).inside) in (
            shown_cuts keep fram p place_of d m s well related runs follows k n journal.keep (shown at) (home_writes c writes)
                (writes_fit keep p d m.clock m.issued well writes m.store s (puts_goes apart relates p d k m s at well related asks.recorded is).good (cells_alone p d true m.store m.issued s related.memory))
                (homes_over p place_of c m (kind_at c at) writes n (subst (HomesBy c (kind_at c at) writes) long (puts_by c (kind_at c at) (recorded_words d k s) at refl)) over),
            record { epoch = refl; task = refl; bank = refl; looks = refl; cells = refl },
          )

  pub across_cuts : CutsAct p place_of d number inner (act.Transfer k Across) (MovesCopy d)
  across_cuts next m s well has related runs follows asks = by_copy s.frame.copy refl
    where
      by_copy : (o : Option CopyValued) → s.frame.copy ≡ o
          → Cuts p place_of d m s (have o (λ v. words_shown (core_of d) (move_writes v.length v.to v.from s.store) (copies k (shown v.from) (shown v.to) v.length) (move_words v.length v.to v.from s.store)))
      by_copy None is = absurd (asks.copy is)
      by_copy (Some v) is =
          let c : Core = core_of d in
          let bank : ℕ = worked d.scheme s.bank in
          let l : Layout = layout_of c bank in
          let x : Fixed = fixed_in d.scheme s in
          let n : ℕ = v.length in
          let to : ℕ = address_in c bank v.to in
          let from : ℕ = address_in c bank v.from in
          let writes : List Write = move_writes n v.to v.from s.store in
          let r : Related l (length c.pointers) m s.store = relates p d m s well related in
          let valued : HasValued c bank m.store v = related.memory.ram.frame.copy v is in
          let moves : Copies c l (length c.pointers) m to from 0 n m.store s.store writes (move_words n v.to v.from s.store) =
          move_goes c bank (length c.pointers) m (apart c bank well (worked_low d.scheme s.bank)) to from n 0 m.store s.store v.to v.from (record { is = omega arith; inside = valued.to.inside; written = asks.clear v is }) (omega arith) valued.from.inside r in
          let words : HasWords to from 0 n = record {
            source = λ j low below. (source_is l (length c.pointers) m s.store v.from n from r valued.from.inside refl j (omega (arith, below))).there;
            target = λ j low below. (source_is l (length c.pointers) m s.store v.to n to r valued.to.inside refl j (omega (arith, below))).there;
          } in
          let over : kind_at c v.to ≡ Nv → IsOver p place_of m n = λ nv. over_by p place_of to from n m
          (λ i is_n has_words fits. across_over p place_of (frame_of d number) x i to from k next m related.fixed valued.to.address valued.from.address (valued.length.holds ∙ is_n) has_words fits has)
          words (homes_fram areas d s v.to n well nv valued.to.inside) in (
            shown_cuts keep fram p place_of d m s well related runs follows k n (shown v.from) (shown v.to) (home_writes c writes)
                (writes_fit keep p d m.clock m.issued well writes m.store s moves.good (cells_alone p d true m.store m.issued s related.memory))
                (homes_over p place_of c m (kind_at c v.to) writes n (moves_by c (kind_at c v.to) n v.to v.from s.store refl) over),
            record { epoch = refl; task = refl; bank = refl; looks = refl; cells = refl },
          )
