-- Memory that is related to a store stands for the plan's state with that store.
use Rattle.std.specs.Prelude.{slice_index, slice_index_or}
use Rattle.std.proofs.Common.{◌≡◌, ◌≢◌, ◌∙◌, ℕ, zero, suc, true, false, List, [], ◌∷◌, length, refl, sym, ap, subst, arith, eqb-true}
use Rattle.task_ast.specs.declared.tree.Kind.{Kind}
use Rattle.task_ast.specs.declared.tree.Kind.TheVariants.{Nv, Const, Vol}
use Rattle.task_ast.specs.declared.core_form.Array.{Array}
use Rattle.task_ast.specs.declared.core_form.Core.{Core}
use Rattle.walk_run.specs.Store.{Store, words_of}
use Rattle.word_machine.specs.State.{Program}
use Rattle.word_machine.specs.Straight.{Spot}
use Rattle.line_code.specs.declared.areas.Free.{Free}
use Rattle.line_code.specs.Areas.{area_at, area_of, areas_from, free_at_first, free_of}
use Rattle.run_plan.specs.Cells.{Frame, State, joined, of_home}
use Rattle.run_plan.specs.Small.{Doing, core_of, with_volatile}
use Rattle.line_laws.specs.Relation.{Related, base_at}
use Rattle.layout_laws.specs.Layouts.{layout_of}
use Rattle.cell_laws.specs.Standing.{worked}
use Rattle.ram_laws.specs.Ram.{HasArrays, HasFrame, HasPointers, HasRam}
use Rattle.ram_laws.proofs.Relating.{arrays_of, pointers_of}
use Rattle.ram_laws.proofs.Stays.{arrays_stay}
use Rattle.act_refines.specs.Between.{IsTidy, MemoryStands}
use Rattle.act_refines.proofs.Commits.{joined_home, joined_long, whole_like}

rest_here : (f : Free) (k : Kind) (n : ℕ) (h o : List ℕ) → (area_of f k n).base ≢ 14 → of_home k h o ≡ o
rest_here f Nv n h o other = absurd (other refl)
rest_here f Const n h o other = refl
rest_here f Vol n h o other = refl

-- all but homes are those of the second store
joined_rest : (f : Free) (arrays : List Array) (homes others : List (List ℕ)) (a : ℕ) → length homes ≡ length arrays → length others ≡ length arrays → (area_at (areas_from f arrays) a).base ≢ 14
    → slice_index_or (joined arrays homes others) a [] ≡ slice_index_or others a []
joined_rest f [] homes others a one two other = refl
joined_rest f (x ∷ arrays) [] others a one two other = absurd (omega (arith, one))
joined_rest f (x ∷ arrays) (h ∷ homes) [] a one two other = absurd (omega (arith, two))
joined_rest f (x ∷ arrays) (h ∷ homes) (o ∷ others) zero one two other = rest_here f x.kind (length x.first) h o other
joined_rest f (x ∷ arrays) (h ∷ homes) (o ∷ others) (suc a) one two other = joined_rest (free_of f x.kind (length x.first)) arrays homes others a (omega (arith, one)) (omega (arith, two)) other

not_home : (r : ℕ) → r ≢ 14 → (b : ℕ) → b ≡ r → b ≢ 14
not_home r other b is same = other (sym is ∙ same)

module _ (c : Core) (t : State) (store : Store) (many : length t.store.words ≡ length c.arrays) (as_many : length store.words ≡ length c.arrays) where
  -- the store of the state behind an act's end
  abbrev ended : Store
  ended = (with_volatile c store t).store

  home_words : (a : ℕ) → base_at (layout_of c 0) a ≡ 14 → words_of ended a ≡ words_of t.store a
  home_words a is = joined_home free_at_first c.arrays t.store.words store.words a many as_many is

  rest_words : (r : ℕ) → r ≢ 14 → (a : ℕ) → base_at (layout_of c 0) a ≡ r → words_of ended a ≡ words_of store a
  rest_words r other a is = joined_rest free_at_first c.arrays t.store.words store.words a many as_many (not_home r other (base_at (layout_of c 0) a) is)

  rest_arrays : (r : ℕ) → r ≢ 14 → (m : ℕ → ℕ) → HasArrays c r m store → HasArrays c r m ended
  rest_arrays r other m h =
      arrays_stay c r m m store ended (λ a is. ap length (rest_words r other a is)) (λ at here. ap (λ (ws : List ℕ). slice_index ws at.index) (rest_words r other at.array here.counts)) (λ at here. refl) h

-- all of memory, by its cells and what it is related to
pub memory_again : (p : Program) (d : Doing) (bank : ℕ) (u : Spot) (counts : ℕ → ℕ) (t : State) (store : Store) (f : Frame) → MemoryStands p d false u.store counts t → Related (layout_of (core_of d) bank) (length (core_of d).pointers) u store
    → HasFrame (core_of d) bank u.store f → t.frame ≡ f → worked d.scheme t.bank ≡ bank → length store.words ≡ length (core_of d).arrays → MemoryStands p d true u.store counts (with_volatile (core_of d) store t)
memory_again p d bank u counts t store f h related frame same_frame same_bank many =
    let c : Core = core_of d in
    let tidy : IsTidy c d.scheme t = h.tidy in
    let all : length t.store.words ≡ length c.arrays = tidy.shape.homes in
    let pointers : HasPointers c bank u.store store = pointers_of c bank u store related in
    let ram : HasRam c bank u.store (with_volatile c store t).store f = record {
      volatile = rest_arrays c t store all many 15 (λ e. absurd (omega (arith, e))) u.store (arrays_of c bank (length c.pointers) 15 u store refl related);
      pointers = record { few = pointers.few; many = pointers.many; points = pointers.points };
      frame = frame;
    } in
    record {
      cells = record {
        store = record {
          state = h.cells.store.state;
          homes = λ at home. h.cells.store.homes at home ∙ sym (ap (λ (ws : List ℕ). slice_index ws at.index) (home_words c t store all many at.array (eqb-true _ 14 home.nonvolatile)));
          aside = h.cells.store.aside;
        };
        cells = record { locks = h.cells.cells.locks; flags = h.cells.cells.flags; kept = h.cells.cells.kept; records = h.cells.cells.records };
      };
      constants = rest_arrays c t store all many 0 (λ e. absurd (omega (arith, e))) u.store (arrays_of c bank (length c.pointers) 0 u store refl related);
      ram = subst (λ b. HasRam c b u.store (with_volatile c store t).store t.frame) (sym same_bank) (subst (λ g. HasRam c bank u.store (with_volatile c store t).store g) (sym same_frame) ram);
      readings = h.readings;
      tidy = record {
        shape = record { homes = joined_long c.arrays t.store.words store.words all many; others = tidy.shape.others };
        homes = whole_like c t.store (with_volatile c store t).store (home_words c t store all many) tidy.homes;
        aside = record { rooms = tidy.aside.rooms; fits = tidy.aside.fits };
        words = tidy.words;
        flags = tidy.flags;
        started = tidy.started;
        bank = tidy.bank;
      };
    }
