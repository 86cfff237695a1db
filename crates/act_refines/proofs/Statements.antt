-- Statements without sites: what their writes show, and what memory is behind them.
use Rattle.std.specs.Prelude.{map, slice_get, if◌then◌else◌}
use Rattle.std.specs.List.{AllByRecursion}
use Rattle.std.proofs.Common.{◌≡◌, ◌∙◌, ℕ, zero, suc, ◌+◌, ◌<◌, ◌≤◌, Bool, true, false, List, [], ◌∷◌, ◌++◌, length, length-set, refl, sym, ap, subst, arith, eqb-true, eq-eqb}
use Rattle.std.proofs.lemmas.Bool.Decides.{nat_tests}
use Rattle.devices.specs.Journal as journal
use Rattle.fram_ram.specs.Memories.{is_fram, put}
use Rattle.task_ast.specs.declared.tree.Kind.{Kind}
use Rattle.task_ast.specs.declared.tree.Kind.TheVariants.{Nv, Const, Vol}
use Rattle.task_ast.specs.declared.core_form.Array.{Array}
use Rattle.task_ast.specs.declared.core_form.Core.{Core}
use Rattle.task_ast.specs.declared.core_form.CoreStmt.{CoreStmt}
use Rattle.task_ast.specs.Pointing.{addresses, pointing}
use Rattle.task_ast.specs.WellFormed.{IsWellFormed, Scope, scope_of}
use Rattle.io_flow.specs.Written.{AllWithin, Covers}
use Rattle.walk_run.specs.declared.place.Place.{Place}
use Rattle.walk_run.specs.Plain.{Ran, done, trapped, plain_done, store_left}
use Rattle.walk_run.specs.PlainSteps.{plain_steps}
use Rattle.walk_run.specs.PlainWrites.{Write, after_writes, plain_writes, points, sets}
use Rattle.walk_run.specs.Store.{Store, first_if_shown, words_of}
use Rattle.walk_run.specs.WriteLaws.{plain_gives}
use Rattle.word_isa.specs.declared.parts.Scheme.{Scheme}
use Rattle.word_machine.specs.State.{Program}
use Rattle.word_machine.specs.Step.{exec}
use Rattle.word_machine.specs.Straight.{Spot, live}
use Rattle.word_machine.specs.TraceLaws.{traced}
use Rattle.word_machine.specs.Traces as trace
use Rattle.word_machine.specs.Traces.{applied}
use Rattle.line_code.specs.declared.areas.Free.{Free}
use Rattle.line_code.specs.Areas.{area_at, area_of, areas_from, free_at_first, free_of}
use Rattle.line_code.specs.Statements.{statement_code}
use Rattle.run_plan.specs.declared.act.Act.TheVariants as act
use Rattle.run_plan.specs.Cells.{State, after_write, puts_home}
use Rattle.run_plan.specs.Deeds.{plain_ends}
use Rattle.run_plan.specs.Small.{Doing, core_of, silent, with_volatile}
use Rattle.run_plan.specs.Words.{home_writes, kind_at, kind_or_volatile}
use Rattle.line_laws.specs.Gives.{Gives, IsKept}
use Rattle.line_laws.specs.Goals.{HasStore, atoms_of, is_frame, run_goal}
use Rattle.line_laws.specs.Relation.{IsApart, Layout, base_at, place_address}
use Rattle.line_laws.specs.Standing.{Lie}
use Rattle.line_laws.specs.Suits.{Suits}
use Rattle.word_code.specs.Acts.{jump}
use Rattle.act_laws.specs.Codes.{HasFixed}
use Rattle.act_laws.specs.Values.{PlainDoes}
use Rattle.act_laws.proofs.Counted.{counted, issued_traced}
use Rattle.layout_laws.specs.Layouts.{IsInArea, LieInAreas, layout_of}
use Rattle.cell_laws.specs.Standing.{IsHome, address_in, worked}
use Rattle.cell_laws.proofs.Writes.{home_in, worked_low}
use Rattle.ram_laws.proofs.Relating.{IsBase, base_in, of_constants, of_homes, of_volatile}
use Rattle.ram_laws.proofs.Stays.{frame_stays}
use Rattle.act_refines.specs.Between.{AreRelated, MemoryStands, fixed_in}
use Rattle.act_refines.specs.Does.{DoesAct, Ends, IsGoodWrite, IsWritable, StatementFits}
use Rattle.act_refines.specs.Seen.{Seen, behind, puts, steps_seen, trace_seen}
use Rattle.act_refines.proofs.Calls.{IsRelatedThere}
use Rattle.act_refines.proofs.Simple.{WritesKeep}
use Rattle.act_refines.proofs.Stores.{memory_again}

-- ---- kinds of arrays

nv_here : (f : Free) (k : Kind) (n : ℕ) → (area_of f k n).base ≡ 14 → k ≡ Nv
nv_here f Nv n is = refl
nv_here f Const n is = absurd (omega (arith, is))
nv_here f Vol n is = absurd (omega (arith, is))

nv_found : (f : Free) (arrays : List Array) (n : ℕ) → (area_at (areas_from f arrays) n).base ≡ 14 → kind_or_volatile (slice_get arrays n) ≡ Nv
nv_found f [] zero is = absurd (omega (arith, is))
nv_found f [] (suc n) is = absurd (omega (arith, is))
nv_found f (a ∷ arrays) zero is = nv_here f a.kind (length a.first) is
nv_found f (a ∷ arrays) (suc n) is = nv_found (free_of f a.kind (length a.first)) arrays n is

vol_here : (f : Free) (k : Kind) (n : ℕ) → (area_of f k n).base ≡ 15 → k ≡ Vol
vol_here f Nv n is = absurd (omega (arith, is))
vol_here f Const n is = absurd (omega (arith, is))
vol_here f Vol n is = refl

vol_found : (f : Free) (arrays : List Array) (n : ℕ) → (area_at (areas_from f arrays) n).base ≡ 15 → kind_or_volatile (slice_get arrays n) ≡ Vol
vol_found f [] zero is = absurd (omega (arith, is))
vol_found f [] (suc n) is = absurd (omega (arith, is))
vol_found f (a ∷ arrays) zero is = vol_here f a.kind (length a.first) is
vol_found f (a ∷ arrays) (suc n) is = vol_found (free_of f a.kind (length a.first)) arrays n is

-- a place that may be written is a home, or volatile; the address says which
data IsOneOf (c : Core) (scheme : Scheme) (bank : ℕ) (at : Place) : Type 0 where
  a_home : IsHome c at → is_fram (address_in c (worked scheme bank) at) ≡ true → kind_at c at ≡ Nv → IsOneOf c scheme bank at
  in_ram : is_fram (address_in c (worked scheme bank) at) ≡ false → kind_at c at ≡ Vol → IsOneOf c scheme bank at

fram_is : (a : ℕ) → a < 65536 → is_fram a ≡ true
fram_is a low = grind (arith, nat_tests, low)

ram_is : (a : ℕ) → 65536 ≤ a → is_fram a ≡ false
ram_is a far = grind (arith, nat_tests, far)

abbrev pub AreasLie : Type 0
AreasLie = (c : Core) (bank : ℕ) → IsWellFormed c → bank ≤ 2048 → LieInAreas (layout_of c bank)

one_of : AreasLie → (c : Core) (scheme : Scheme) (bank : ℕ) (at : Place) → IsWellFormed c → IsWritable c at → IsOneOf c scheme bank at
one_of areas c scheme bank at well may = by_base (base_in free_at_first c.arrays at.array)
  where
    area : IsInArea (worked scheme bank) (base_at (layout_of c 0) at.array) (address_in c (worked scheme bank) at)
    area = areas c (worked scheme bank) well (worked_low scheme bank) at.array at.index may.inside

    by_base : IsBase (base_at (layout_of c 0) at.array) → IsOneOf c scheme bank at
    by_base (of_homes is) =
        let home : IsHome c at = record { nonvolatile = eq-eqb (base_at (layout_of c 0) at.array) 14 is; inside = may.inside } in
        let here = home_in c (λ k few. areas c k well few) (worked scheme bank) (worked_low scheme bank) at home in
        a_home home (fram_is (address_in c (worked scheme bank) at) (omega (arith, here.below, worked_low scheme bank))) (nv_found free_at_first c.arrays at.array is)
    by_base (of_constants is) = absurd (may.written is)
    by_base (of_volatile is) =
        let here : IsInArea (worked scheme bank) 15 (address_in c (worked scheme bank) at) = subst (λ r. IsInArea (worked scheme bank) r (address_in c (worked scheme bank) at)) is area in
        in_ram (ram_is (address_in c (worked scheme bank) at) (omega (arith, here.from))) (vol_found free_at_first c.arrays at.array is)

-- ---- writes in a row

module _ (areas : AreasLie) (keep : WritesKeep) (p : Program) (place_of : ℕ → journal.Place) (d : Doing) (counts : ℕ → ℕ) (well : IsWellFormed (core_of d)) where
  abbrev c : Core
  c = core_of d

  abbrev l : State → Layout
  l s = layout_of c (worked d.scheme s.bank)

  pub writes_shown : (writes : List Write) (s : State) → AllByRecursion (IsGoodWrite c) writes → trace_seen place_of (atoms_of (l s) writes) ≡ steps_seen c d.scheme (map silent (home_writes c writes)) s
  writes_shown [] s good = refl
  writes_shown (points q at ∷ writes) s good = writes_shown writes s good.1
  writes_shown (sets at w ∷ writes) s good = by_place (one_of areas c d.scheme s.bank at well good.0.0) (writes_shown writes s good.1) (writes_shown writes (after_write c.arrays (puts_home at w) s) good.1)
    where
      by_place : IsOneOf c d.scheme s.bank at → trace_seen place_of (atoms_of (l s) writes) ≡ steps_seen c d.scheme (map silent (home_writes c writes)) s
          → trace_seen place_of (atoms_of (l s) writes) ≡ steps_seen c d.scheme (map silent (home_writes c writes)) (after_write c.arrays (puts_home at w) s)
          → trace_seen place_of ((if is_fram (address_in c (worked d.scheme s.bank) at) then trace.wrote (address_in c (worked d.scheme s.bank) at) w ∷ [] else []) ++ atoms_of (l s) writes)
          ≡ steps_seen c d.scheme (map silent (first_if_shown (kind_at c at) (puts_home at w) (home_writes c writes))) s
      by_place (a_home home fram kind) same next =
          ap (λ b. trace_seen place_of ((if b then trace.wrote (address_in c (worked d.scheme s.bank) at) w ∷ [] else []) ++ atoms_of (l s) writes)) fram
          ∙ ap (λ (xs : List Seen). puts (address_in c (worked d.scheme s.bank) at) w ∷ xs) next
          ∙ ap (λ k. steps_seen c d.scheme (map silent (first_if_shown k (puts_home at w) (home_writes c writes))) s) (sym kind)
      by_place (in_ram fram kind) same next =
          ap (λ b. trace_seen place_of ((if b then trace.wrote (address_in c (worked d.scheme s.bank) at) w ∷ [] else []) ++ atoms_of (l s) writes)) fram
          ∙ same ∙ ap (λ k. steps_seen c d.scheme (map silent (first_if_shown k (puts_home at w) (home_writes c writes))) s) (sym kind)

  -- and what FRAM has behind them
  pub writes_stand : (writes : List Write) (m : ℕ → ℕ) (s : State) → AllByRecursion (IsGoodWrite c) writes → MemoryStands p d false m counts s
      → MemoryStands p d false (applied (atoms_of (l s) writes) m) counts (behind c (map silent (home_writes c writes)) s)
  writes_stand [] m s good h = h
  writes_stand (points q at ∷ writes) m s good h = writes_stand writes m s good.1 h
  writes_stand (sets at w ∷ writes) m s good h =
      by_place (one_of areas c d.scheme s.bank at well good.0.0) (writes_stand writes m s good.1 h) (λ next. writes_stand writes (put m (address_in c (worked d.scheme s.bank) at) w) (after_write c.arrays (puts_home at w) s) good.1 next)
    where
      by_place : IsOneOf c d.scheme s.bank at → MemoryStands p d false (applied (atoms_of (l s) writes) m) counts (behind c (map silent (home_writes c writes)) s)
          → (MemoryStands p d false (put m (address_in c (worked d.scheme s.bank) at) w) counts (after_write c.arrays (puts_home at w) s)
          → MemoryStands p d false (applied (atoms_of (l s) writes) (put m (address_in c (worked d.scheme s.bank) at) w)) counts (behind c (map silent (home_writes c writes)) (after_write c.arrays (puts_home at w) s)))
          → MemoryStands p d false (applied ((if is_fram (address_in c (worked d.scheme s.bank) at) then trace.wrote (address_in c (worked d.scheme s.bank) at) w ∷ [] else []) ++ atoms_of (l s) writes) m) counts
          (behind c (map silent (first_if_shown (kind_at c at) (puts_home at w) (home_writes c writes))) s)
      by_place (a_home home fram kind) same next =
          let inside : at.index < length (words_of s.store at.array) = subst (λ n. at.index < n) (sym (h.tidy.homes.rooms at.array (eqb-true _ 14 home.nonvolatile))) home.inside in
          subst (λ b. MemoryStands p d false (applied ((if b then trace.wrote (address_in c (worked d.scheme s.bank) at) w ∷ [] else []) ++ atoms_of (l s) writes) m) counts (behind c (map silent (first_if_shown (kind_at c at) (puts_home at w) (home_writes c writes))) s)) (sym fram)
          (subst (λ k. MemoryStands p d false (applied (trace.wrote (address_in c (worked d.scheme s.bank) at) w ∷ atoms_of (l s) writes) m) counts (behind c (map silent (first_if_shown k (puts_home at w) (home_writes c writes))) s)) (sym kind)
          (next (keep p d false m counts s (puts_home at w) well h (home, inside) good.0.1)))
      by_place (in_ram fram kind) same next =
          subst (λ b. MemoryStands p d false (applied ((if b then trace.wrote (address_in c (worked d.scheme s.bank) at) w ∷ [] else []) ++ atoms_of (l s) writes) m) counts (behind c (map silent (first_if_shown (kind_at c at) (puts_home at w) (home_writes c writes))) s)) (sym fram)
          (subst (λ k. MemoryStands p d false (applied (atoms_of (l s) writes) m) counts (behind c (map silent (first_if_shown k (puts_home at w) (home_writes c writes))) s)) (sym kind) same)

-- writes of homes change nothing else
pub record IsSameRest (scheme : Scheme) (s t : State) : Type 0 where
  pub frame : t.frame ≡ s.frame
  pub bank : worked scheme t.bank ≡ worked scheme s.bank
  pub fixed : fixed_in scheme t ≡ fixed_in scheme s

pub rest_same : (c : Core) (scheme : Scheme) (writes : List Write) (s : State) → IsSameRest scheme s (behind c (map silent (home_writes c writes)) s)
rest_same c scheme [] s = record { frame = refl; bank = refl; fixed = refl }
rest_same c scheme (points q at ∷ writes) s = rest_same c scheme writes s
rest_same c scheme (sets at w ∷ writes) s = by_kind (kind_at c at) (rest_same c scheme writes s) (rest_same c scheme writes (after_write c.arrays (puts_home at w) s))
  where
    by_kind : (k : Kind) → IsSameRest scheme s (behind c (map silent (home_writes c writes)) s) → IsSameRest scheme (after_write c.arrays (puts_home at w) s) (behind c (map silent (home_writes c writes)) (after_write c.arrays (puts_home at w) s))
        → IsSameRest scheme s (behind c (map silent (first_if_shown k (puts_home at w) (home_writes c writes))) s)
    by_kind Nv same next = record { frame = next.frame; bank = next.bank; fixed = next.fixed }
    by_kind Const same next = same
    by_kind Vol same next = same

-- no issue is counted
noted_counts : (p : Program) (b : Bool) (a w : ℕ) (rest : List trace.Atom) (f : ℕ → ℕ) → counted p rest f ≡ f → counted p ((if b then trace.wrote a w ∷ [] else []) ++ rest) f ≡ f
noted_counts p true a w rest f same = same
noted_counts p false a w rest f same = same

no_counts : (p : Program) (l : Layout) (writes : List Write) (f : ℕ → ℕ) → counted p (atoms_of l writes) f ≡ f
no_counts p l [] f = refl
no_counts p l (points q at ∷ writes) f = no_counts p l writes f
no_counts p l (sets at w ∷ writes) f = noted_counts p (is_fram (place_address l at.array at.index)) (place_address l at.array at.index) w (atoms_of l writes) f (no_counts p l writes f)

-- and no array is lost
writes_long : (writes : List Write) (store : Store) → length (after_writes writes store).words ≡ length store.words
writes_long [] store = refl
writes_long (points q at ∷ writes) store = writes_long writes _
writes_long (sets at w ∷ writes) store = writes_long writes _ ∙ length-set store.words at.array _

-- where FRAM is the same, cells and constants are
abbrev pub FramKeeps : Type 0
FramKeeps = (p : Program) (d : Doing) (m n counts : ℕ → ℕ) (s : State) → IsWellFormed (core_of d) → MemoryStands p d false m counts s → ((a : ℕ) → a < 65536 → n a ≡ m a) → MemoryStands p d false n counts s

-- what a statement's code was told of
abbrev pub SuitsThere : Type 0
SuitsThere = (c : Core) (bank : ℕ) → IsWellFormed c → bank ≤ 2048 → IsApart (layout_of c bank)

frame_cell : (a : ℕ) → 1048608 ≤ a → a < 1048896 → is_frame a ≡ true
frame_cell a from below = grind (arith, nat_tests, from, below)

module _ (areas : AreasLie) (keep : WritesKeep) (fram : FramKeeps) (relates : IsRelatedThere) (apart : SuitsThere) (template : (p : Program) (scope : Scope) (l : Layout) (s : CoreStmt) (next : ℕ) (t : Spot) (store : Store) → PlainDoes p scope l s next t store)
    (p : Program) (place_of : ℕ → journal.Place) (d : Doing) (number : ℕ) (keeps : Bool) (x : CoreStmt) (next : ℕ) (m : Spot) (s : State) (well : IsWellFormed (core_of d)) (related : AreRelated p d true m s)
    (good : AllByRecursion (IsGoodWrite (core_of d)) (plain_writes x s.store)) where
  abbrev bank : ℕ
  bank = worked d.scheme s.bank

  abbrev layout : Layout
  layout = layout_of (core_of d) bank

  abbrev written_state : State
  written_state = behind (core_of d) (map silent (home_writes (core_of d) (plain_writes x s.store))) s

  -- memory before RAM counts
  cells_alone : MemoryStands p d false m.store m.issued s
  cells_alone = let h = related.memory in record { cells = h.cells; constants = h.constants; ram = tt; readings = h.readings; tidy = h.tidy }

  ends_by : (ran : Ran) → plain_done x s.store ≡ ran → Gives p 0 (plain_steps x s.store) m (run_goal layout (length (core_of d).pointers) next (plain_writes x s.store) ran)
      → Ends p place_of d (act.Plain x) (plain_steps x s.store) (λ way. next) m s (plain_ends (core_of d) (map silent (home_writes (core_of d) (plain_writes x s.store))) ran)
  ends_by (trapped why store) is g = record {
    steps = g.steps;
    few = g.few;
    ended = ap (λ u. u.ending) g.runs ∙ g.met.ended;
    shown = ap (trace_seen place_of) (g.shows ∙ g.met.shown) ∙ writes_shown areas keep p place_of d m.issued well (plain_writes x s.store) s good;
  }
  ends_by (done store) is g =
      let e : HasStore layout (length (core_of d).pointers) next store m g.there = g.met.ended in
      let there : Spot = e.there in
      let runs : exec p g.steps (live m) ≡ live there = g.runs ∙ e.goes_on in
      let rest : IsSameRest d.scheme s written_state = rest_same (core_of d) d.scheme (plain_writes x s.store) s in
      let words : (a : ℕ) → a < 65536 → there.store a ≡ applied (atoms_of layout (plain_writes x s.store)) m.store a = λ a low.
      sym (ap (λ u. u.store a) runs) ∙ traced p g.steps (live m) a (fram_is a low) ∙ ap (λ atoms. applied atoms m.store a) (g.shows ∙ g.met.shown) in
      let counts : there.issued ≡ m.issued = sym (ap (λ u. u.issued) runs) ∙ issued_traced p g.steps (live m) ∙ ap (λ atoms. counted p atoms m.issued) (g.shows ∙ g.met.shown) ∙ no_counts p layout (plain_writes x s.store) m.issued in
      let cells : MemoryStands p d false there.store m.issued written_state = fram p d (applied (atoms_of layout (plain_writes x s.store)) m.store) there.store m.issued written_state well
      (writes_stand areas keep p place_of d m.issued well (plain_writes x s.store) m.store s good cells_alone) words in
      let long : length store.words ≡ length (core_of d).arrays = ap (λ r. length (store_left r).words) (sym is) ∙ ap (λ (st : Store). length st.words) (sym (plain_gives x s.store)) ∙ writes_long (plain_writes x s.store) s.store ∙ related.memory.tidy.shape.homes in
      let frame = frame_stays (core_of d) bank m.store there.store s.frame (λ a from below. e.kept a (frame_cell a from below)) related.memory.ram.frame in
      let all : MemoryStands p d true there.store m.issued (with_volatile (core_of d) store written_state) = memory_again p d bank there m.issued written_state store s.frame cells e.related frame rest.frame rest.bank long in
      let kept : (r : ℕ) → IsKept r → there.regs r ≡ m.regs r = e.fixed in
      let fixed : HasFixed (fixed_in d.scheme s) there = (
        kept 0 (record { one = refl; two = refl; three = refl }) ∙ related.fixed.0,
        kept 12 (record { one = refl; two = refl; three = refl }) ∙ related.fixed.1,
        kept 13 (record { one = refl; two = refl; three = refl }) ∙ related.fixed.2,
        kept 14 (record { one = refl; two = refl; three = refl }) ∙ related.fixed.3,
        kept 15 (record { one = refl; two = refl; three = refl }) ∙ related.fixed.4,
      ) in
      record {
        steps = g.steps;
        few = g.few;
        there = there;
        atoms = g.atoms;
        goes = record { runs = runs; seen = g.shows };
        at = e.arrives;
        shown = ap (trace_seen place_of) g.met.shown ∙ writes_shown areas keep p place_of d m.issued well (plain_writes x s.store) s good;
        related = record {
          fixed = subst (λ f. HasFixed f there) (sym rest.fixed) fixed;
          memory = subst (λ k. MemoryStands p d true there.store k (with_volatile (core_of d) store written_state)) (sym counts) all;
        };
      }

  plain_ends_there : Lie p m.pc (statement_code (areas_from free_at_first (core_of d).arrays) x m.pc ++ jump next) → Suits layout (scope_of (core_of d) d.setting.task) x → Covers (pointing d.setting.task) (λ q. addresses q x)
      → AllWithin (pointing d.setting.task) s.store → 0 < plain_steps x s.store
      → Ends p place_of d (act.Plain x) (plain_steps x s.store) (λ way. next) m s (plain_ends (core_of d) (map silent (home_writes (core_of d) (plain_writes x s.store))) (plain_done x s.store))
  plain_ends_there has suits covers within some =
      ends_by (plain_done x s.store) refl (template p (scope_of (core_of d) d.setting.task) layout x next m s.store has (apart (core_of d) bank well (worked_low d.scheme s.bank)) (relates p d m s well related) suits covers within some)

pub plain_does : AreasLie → WritesKeep → FramKeeps → IsRelatedThere → SuitsThere → ((p : Program) (scope : Scope) (l : Layout) (s : CoreStmt) (next : ℕ) (t : Spot) (store : Store) → PlainDoes p scope l s next t store)
    → (p : Program) (place_of : ℕ → journal.Place) (d : Doing) (number : ℕ) (keeps : Bool) (x : CoreStmt) → ((bank : ℕ) → IsWellFormed (core_of d) → Suits (layout_of (core_of d) bank) (scope_of (core_of d) d.setting.task) x)
    → Covers (pointing d.setting.task) (λ q. addresses q x) → DoesAct p place_of d number keeps (act.Plain x) (StatementFits d x)
plain_does areas keep fram relates apart template p place_of d number keeps x suits covers next m s well has related fits =
    plain_ends_there areas keep fram relates apart template p place_of d number keeps x next m s well related fits.well has (suits (worked d.scheme s.bank) well) covers fits.within fits.some
