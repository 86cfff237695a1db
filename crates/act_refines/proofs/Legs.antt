-- The engine moves a copy's words, and the copy's event comes with the last.
use Rattle.std.specs.Prelude.{map, slice_get, Option, Some, None}
use Rattle.std.proofs.Common.{◌≡◌, ◌∙◌, ℕ, zero, suc, ◌+◌, ◌-◌, ◌*◌, ◌≤◌, Bool, true, List, [], ◌∷◌, ◌++◌, length, refl, sym, ap, subst, arith}
use Rattle.devices.specs.declared.event.Event.TheVariants as the
use Rattle.devices.specs.Journal as journal
use Rattle.devices.specs.Journal.{copies, placed}
use Rattle.fram_ram.specs.Engine.{copied}
use Rattle.fram_ram.specs.Memories.{put}
use Rattle.task_ast.specs.declared.core_form.Core.{Core}
use Rattle.task_ast.specs.declared.core_form.Site.TheVariants as site
use Rattle.task_attempts.specs.Copies.{put_words, shown, words_at}
use Rattle.walk_run.specs.declared.place.Place.{Place}
use Rattle.walk_run.specs.PlainWrites.{Write}
use Rattle.walk_run.specs.Store.{Store, place, put_word, word_at}
use Rattle.walk_run.specs.Walk.{move_words}
use Rattle.word_isa.specs.declared.parts.Scheme.{Scheme}
use Rattle.word_machine.specs.State.{Program}
use Rattle.word_machine.specs.Straight.{Spot}
use Rattle.word_machine.specs.TransferLaws.{HasWords, copy_atoms}
use Rattle.word_machine.specs.Traces as trace
use Rattle.run_plan.specs.declared.act.Act.TheVariants as act
use Rattle.run_plan.specs.declared.act.Leg.TheVariants.{Across, FromKept, ToKept}
use Rattle.run_plan.specs.Cells.{CellWrite, CopyValued, State, after_write}
use Rattle.run_plan.specs.Deeds.{words_shown}
use Rattle.run_plan.specs.Small.{Doing, ahead, core_of, does, have, same, shown_last, silent, with_volatile}
use Rattle.run_plan.specs.Weights.{length_valued}
use Rattle.run_plan.specs.Words.{home_writes, keep_writes, kept_at, move_writes, put_writes, recorded_words}
use Rattle.line_laws.specs.Relation.{HasCell, IsApart, Layout, Related, place_address, room_at}
use Rattle.word_code.specs.Frames.{Frame}
use Rattle.act_laws.specs.Codes.{Fixed, HasFixed}
use Rattle.act_laws.specs.Templates.{AcrossDoes, FromKeptDoes, ToKeptDoes}
use Rattle.layout_laws.specs.Layouts.{layout_of}
use Rattle.cell_laws.specs.Standing.{HasCopy, IsSite, address_in, address_of, word_of, worked}
use Rattle.cell_laws.proofs.Writes.{worked_low}
use Rattle.ram_laws.specs.Ram.{HasValued}
use Rattle.act_refines.specs.Between.{AreRelated, fixed_in}
use Rattle.act_refines.specs.Does.{DoesAct, Ends, frame_of}
use Rattle.act_refines.specs.Moves.{ComesFromKept, GoesAcross, GoesToKept}
use Rattle.act_refines.specs.Seen.{Seen, behind, puts, steps_seen, tells, trace_seen}
use Rattle.act_refines.proofs.Calls.{IsRelatedThere}
use Rattle.act_refines.proofs.Going.{goes_on, related_at}
use Rattle.act_refines.proofs.Kept.{KeepsWords, keeps_goes, keeps_there, source_is}
use Rattle.act_refines.proofs.Moved.{Copies, IsAim, aim_next, copy_record, copy_shown, copy_stands, next_on, none_on, one_on, puts_goes, puts_there}
use Rattle.act_refines.proofs.Simple.{WritesKeep}
use Rattle.act_refines.proofs.Statements.{AreasLie, FramKeeps, IsSameRest, SuitsThere, rest_same}

-- ---- an event that comes with the last word

trace_both : (place_of : ℕ → journal.Place) (a b : List trace.Atom) → trace_seen place_of (a ++ b) ≡ trace_seen place_of a ++ trace_seen place_of b
trace_both place_of [] b = refl
trace_both place_of (trace.wrote at w ∷ a) b = ap (λ (xs : List Seen). puts at w ∷ xs) (trace_both place_of a b)
trace_both place_of (trace.showed e ∷ a) b = ap (λ (xs : List Seen). tells (placed place_of e) ∷ xs) (trace_both place_of a b)

-- the event of a copy changes nothing
last_seen : (c : Core) (scheme : Scheme) (k n : ℕ) (from to : journal.Place) (writes : List CellWrite) (s : State)
    → steps_seen c scheme (shown_last writes (copies k from to n)) s ≡ steps_seen c scheme (map silent writes) s ++ (tells (copies k from to n) ∷ [])
last_seen c scheme k n from to [] s = refl
last_seen c scheme k n from to (w ∷ []) s = refl
last_seen c scheme k n from to (w ∷ v ∷ writes) s = ap (λ (xs : List Seen). puts (address_of c scheme s w) (word_of c scheme s w) ∷ xs) (last_seen c scheme k n from to (v ∷ writes) (after_write c.arrays w s))

last_behind : (c : Core) (k n : ℕ) (from to : journal.Place) (writes : List CellWrite) (s : State) → behind c (shown_last writes (copies k from to n)) s ≡ behind c (map silent writes) s
last_behind c k n from to [] s = refl
last_behind c k n from to (w ∷ []) s = refl
last_behind c k n from to (w ∷ v ∷ writes) s = last_behind c k n from to (v ∷ writes) (after_write c.arrays w s)

copy_seen : (place_of : ℕ → journal.Place) (c : Core) (scheme : Scheme) (k n from to : ℕ) (first second : journal.Place) (atoms : List trace.Atom) (writes : List CellWrite) (s : State)
    → place_of from ≡ first → place_of to ≡ second → trace_seen place_of atoms ≡ steps_seen c scheme (map silent writes) s
    → trace_seen place_of (atoms ++ (trace.showed (the.Copied k from to n) ∷ [])) ≡ steps_seen c scheme (shown_last writes (copies k first second n)) s
copy_seen place_of c scheme k n from to first second atoms writes s one two same =
    trace_both place_of atoms (trace.showed (the.Copied k from to n) ∷ []) ∙ (λ i. same i ++ (tells (copies k (one i) (two i) n) ∷ [])) ∙ sym (last_seen c scheme k n first second writes s)

-- ---- to the kept words

pub to_kept_does : ((p : Program) (x : Fixed) (f : Frame) (n from k next : ℕ) (s : Spot) → ToKeptDoes p x f n from k next s) → WritesKeep → IsRelatedThere
    → (p : Program) (place_of : ℕ → journal.Place) (d : Doing) (number : ℕ) (inner : Bool) (k : ℕ) → DoesAct p place_of d number inner (act.Transfer k ToKept) (GoesToKept place_of d k)
to_kept_does template keep relates p place_of d number inner k next m s well has related asks = by_copy s.frame.copy refl
  where
    by_copy : (o : Option CopyValued) → s.frame.copy ≡ o → Ends p place_of d (act.Transfer k ToKept) (6 + 2 * length_valued o) (λ way. next) m s (have o (λ v.
        does (shown_last (keep_writes (kept_at d k) (words_at s.store v.from v.length)) (copies k (shown v.from) journal.keep v.length)) same ahead))
    by_copy None is = tt
    by_copy (Some v) is =
        let c : Core = core_of d in
        let x : Fixed = fixed_in d.scheme s in
        let from : ℕ = address_in c (worked d.scheme s.bank) v.from in
        let valued : HasValued c (worked d.scheme s.bank) m.store v = related.memory.ram.frame.copy v is in
        let few : kept_at d k + v.length ≤ 16384 = asks.room v is in
        let writes : List CellWrite = keep_writes (kept_at d k) (words_at s.store v.from v.length) in
        let left : ℕ → ℕ = copied (7042 + kept_at d k) from 0 v.length m.store in
        let goes : KeepsWords p place_of d m.store m.issued s left (copy_atoms (7042 + kept_at d k) from 0 v.length m.store) writes =
        keeps_goes keep relates p place_of d m s v.from (kept_at d k) v.length 1048618 well related valued.from few in
        let one : behind c (shown_last writes (copies k (shown v.from) journal.keep v.length)) s ≡ behind c (map silent writes) s = last_behind c k v.length (shown v.from) journal.keep writes s in
        goes_on p place_of x x (v.length + 5) (6 + 2 * v.length) m _ next _ _ related.fixed
        (template p x (frame_of d number) v.length from k next m valued.from.address valued.length.holds (keeps_there relates p d m s v.from (kept_at d k) v.length 1048618 well related valued.from few) has)
        (omega arith) refl (copy_seen place_of c d.scheme k v.length from (7042 + kept_at d k) (shown v.from) journal.keep (copy_atoms (7042 + kept_at d k) from 0 v.length m.store) writes s (asks.from v is) asks.kept goes.shown)
        (λ there fixed stored issued. subst (λ t. AreRelated p d true there t) (sym one)
        (related_at p d true there left m.issued (behind c (map silent writes) s) (subst (λ f. HasFixed f there) (sym goes.fixed) fixed) stored issued goes.memory))

-- ---- from the kept words

pub from_kept_does : ((p : Program) (x : Fixed) (f : Frame) (n to k next : ℕ) (s : Spot) → FromKeptDoes p x f n to k next s) → AreasLie → WritesKeep → FramKeeps → IsRelatedThere → SuitsThere
    → (p : Program) (place_of : ℕ → journal.Place) (d : Doing) (number : ℕ) (inner : Bool) (k most : ℕ) → IsSite k → slice_get d.setting.task.sites (k - 1) ≡ Some (site.Copy most)
    → DoesAct p place_of d number inner (act.Transfer k FromKept) (ComesFromKept place_of d k)
from_kept_does template areas keep fram relates apart p place_of d number inner k most here site_is next m s well has related asks = by_end (s.cells.to k) refl
  where
    by_end : (o : Option Place) → s.cells.to k ≡ o → Ends p place_of d (act.Transfer k FromKept) (6 + 2 * s.cells.length k) (λ way. next) m s (have o (λ to.
        words_shown (core_of d) (put_writes to (recorded_words d k s)) (copies k journal.keep (shown to) (s.cells.length k)) (put_words to (recorded_words d k s) s.store)))
    by_end None is = tt
    by_end (Some at) is =
        let c : Core = core_of d in
        let x : Fixed = fixed_in d.scheme s in
        let n : ℕ = s.cells.length k in
        let to : ℕ = address_in c (worked d.scheme s.bank) at in
        let from : ℕ = 7042 + kept_at d k in
        let writes : List Write = put_writes at (recorded_words d k s) in
        let after : Store = put_words at (recorded_words d k s) s.store in
        let left : ℕ → ℕ = copied to from 0 n m.store in
        let made : HasCopy (address_in c (worked d.scheme s.bank)) m.store s.cells k = copy_record p d k most m s here site_is related asks.recorded.held in
        let moves : Copies c (layout_of c (worked d.scheme s.bank)) (length c.pointers) m to from 0 n m.store s.store writes after = puts_goes apart relates p d k m s at well related asks.recorded is in
        let rest : IsSameRest d.scheme s (behind c (map silent (home_writes c writes)) s) = rest_same c d.scheme writes s in
        let one : behind c (shown_last (home_writes c writes) (copies k journal.keep (shown at) n)) s ≡ behind c (map silent (home_writes c writes)) s = last_behind c k n journal.keep (shown at) (home_writes c writes) s in
        goes_on p place_of x x (n + 5) (6 + 2 * n) m _ next _ _ related.fixed
        (template p x (frame_of d number) n to k next m here.few (made.to at is) made.length (puts_there relates p d k m s at well related asks.recorded is) has)
        (omega arith) refl (copy_seen place_of c d.scheme k n from to journal.keep (shown at) (copy_atoms to from 0 n m.store) (home_writes c writes) s asks.kept (asks.to at is)
        (copy_shown areas keep fram p place_of d m s well related to from n writes after moves))
        (λ there fixed stored issued. subst (λ t. AreRelated p d true there (with_volatile c after t)) (sym one)
        (related_at p d true there left m.issued (with_volatile c after (behind c (map silent (home_writes c writes)) s)) (subst (λ f. HasFixed f there) (sym rest.fixed) fixed) stored issued
        (copy_stands areas keep fram p place_of d m s well related to from n writes after moves)))

-- ---- across

module _ (c : Core) (bank count : ℕ) (x : Spot) (apart : IsApart (layout_of c bank)) (to from : ℕ) where
  pub move_goes : (n j : ℕ) (m : ℕ → ℕ) (store : Store) (at source : Place) → IsAim c bank at (to + j) n → address_in c bank source ≡ from + j → source.index + n ≤ room_at (layout_of c 0) source.array
      → Related (layout_of c bank) count (record x { store = m }) store
      → Copies c (layout_of c bank) count x to from j n m store (move_writes n at source store) (move_words n at source store)
  move_goes zero j m store at source aim is inside related = none_on c bank count x apart to from j m store related
  move_goes (suc n) j m store at source aim is inside related =
      let cell : HasCell (record x { store = m }) (place_address (layout_of c bank) source.array source.index) (word_at store source) = (related.arrays source.array).cells source.index (omega (arith, inside)) in
      one_on c bank count x apart to from j n m store at (word_at store source) _ _ aim (ap m (sym is) ∙ cell.holds) cell.fits related
      (move_goes n (j + 1) (put m (to + j) (word_at store source)) (put_word at (word_at store source) store) (place at.array (at.index + 1)) (place source.array (source.index + 1)) (aim_next c bank at to j n aim) (omega (arith, is)) (omega (arith, inside))
      (next_on c bank count x apart to from j n m store at (word_at store source) aim cell.fits related))

pub across_does : ((p : Program) (x : Fixed) (f : Frame) (n to from k next : ℕ) (s : Spot) → AcrossDoes p x f n to from k next s) → AreasLie → WritesKeep → FramKeeps → IsRelatedThere → SuitsThere
    → (p : Program) (place_of : ℕ → journal.Place) (d : Doing) (number : ℕ) (inner : Bool) (k : ℕ) → DoesAct p place_of d number inner (act.Transfer k Across) (GoesAcross place_of d)
across_does template areas keep fram relates apart p place_of d number inner k next m s well has related asks = by_copy s.frame.copy refl
  where
    by_copy : (o : Option CopyValued) → s.frame.copy ≡ o → Ends p place_of d (act.Transfer k Across) (6 + 2 * length_valued o) (λ way. next) m s (have o (λ v.
        words_shown (core_of d) (move_writes v.length v.to v.from s.store) (copies k (shown v.from) (shown v.to) v.length) (move_words v.length v.to v.from s.store)))
    by_copy None is = tt
    by_copy (Some v) is =
        let c : Core = core_of d in
        let bank : ℕ = worked d.scheme s.bank in
        let l : Layout = layout_of c bank in
        let x : Fixed = fixed_in d.scheme s in
        let n : ℕ = v.length in
        let to : ℕ = address_in c bank v.to in
        let from : ℕ = address_in c bank v.from in
        let writes : List Write = move_writes n v.to v.from s.store in
        let after : Store = move_words n v.to v.from s.store in
        let left : ℕ → ℕ = copied to from 0 n m.store in
        let r : Related l (length c.pointers) m s.store = relates p d m s well related in
        let valued : HasValued c bank m.store v = related.memory.ram.frame.copy v is in
        let moves : Copies c l (length c.pointers) m to from 0 n m.store s.store writes after =
        move_goes c bank (length c.pointers) m (apart c bank well (worked_low d.scheme s.bank)) to from n 0 m.store s.store v.to v.from (record { is = omega arith; inside = valued.to.inside; written = asks.clear v is }) (omega arith) valued.from.inside r in
        let words : HasWords to from 0 n = record {
          source = λ j low below. (source_is l (length c.pointers) m s.store v.from n from r valued.from.inside refl j (omega (arith, below))).there;
          target = λ j low below. (source_is l (length c.pointers) m s.store v.to n to r valued.to.inside refl j (omega (arith, below))).there;
        } in
        let rest : IsSameRest d.scheme s (behind c (map silent (home_writes c writes)) s) = rest_same c d.scheme writes s in
        let one : behind c (shown_last (home_writes c writes) (copies k (shown v.from) (shown v.to) n)) s ≡ behind c (map silent (home_writes c writes)) s = last_behind c k n (shown v.from) (shown v.to) (home_writes c writes) s in
        goes_on p place_of x x (n + 5) (6 + 2 * n) m _ next _ _ related.fixed
        (template p x (frame_of d number) n to from k next m valued.to.address valued.from.address valued.length.holds words has)
        (omega arith) refl (copy_seen place_of c d.scheme k n from to (shown v.from) (shown v.to) (copy_atoms to from 0 n m.store) (home_writes c writes) s (asks.from v is) (asks.to v is)
        (copy_shown areas keep fram p place_of d m s well related to from n writes after moves))
        (λ there fixed stored issued. subst (λ t. AreRelated p d true there (with_volatile c after t)) (sym one)
        (related_at p d true there left m.issued (with_volatile c after (behind c (map silent (home_writes c writes)) s)) (subst (λ f. HasFixed f there) (sym rest.fixed) fixed) stored issued
        (copy_stands areas keep fram p place_of d m s well related to from n writes after moves)))
