-- Behind a failure FRAM stands for what the failure leaves of a plan's state.
use Rattle.std.specs.Prelude.{slice_get, slice_index, slice_index_or, Option, Some, None}
use Rattle.std.proofs.Common.{◌≡◌, ◌≢◌, ◌∙◌, ℕ, zero, suc, ◌+◌, ◌-◌, ◌<◌, ◌≤◌, ◌^◌, false, List, [], ◌∷◌, length, refl, sym, ap, subst, arith, eqb-true}
use Rattle.std.proofs.lemmas.Bool.{lt-ltb}
use Rattle.fram_ram.specs.Memories.{failed}
use Rattle.task_ast.specs.declared.core_form.Array.{Array}
use Rattle.task_ast.specs.declared.core_form.Core.{Core}
use Rattle.task_ast.specs.declared.core_form.Site.{Site}
use Rattle.task_ast.specs.declared.core_form.Site.TheVariants as site
use Rattle.task_ast.specs.declared.tree.Kind.{Kind}
use Rattle.task_ast.specs.declared.tree.Kind.TheVariants.{Nv, Const, Vol}
use Rattle.task_ast.specs.WellFormed.{IsWellFormed}
use Rattle.task_attempts.specs.State.{Rules}
use Rattle.walk_run.specs.declared.place.Place.{Place}
use Rattle.walk_run.specs.Store.{Store, word_at}
use Rattle.word_isa.specs.declared.parts.Scheme.{Scheme}
use Rattle.word_machine.specs.State.{Program}
use Rattle.line_code.specs.Areas.{area_at, area_of, areas_from, free_at_first, free_of}
use Rattle.line_code.specs.declared.areas.Free.{Free}
use Rattle.line_laws.specs.Relation.{base_at}
use Rattle.layout_laws.specs.Layouts.{layout_of}
use Rattle.run_plan.specs.Cells as cells
use Rattle.run_plan.specs.Cells.{State, lost, lost_words}
use Rattle.run_plan.specs.Small.{Doing, core_of}
use Rattle.ram_laws.specs.Ram.{AreWhole}
use Rattle.act_refines.specs.Between.{MemoryStands}
use Rattle.code_cuts.specs.Lasting.{MayFollow, RecordHolds, doing_of}
use Rattle.power_runs.specs.Due.{FailsWell}

-- where FRAM is the same, all that outlives a power failure is
abbrev pub SameFram : Type 0
SameFram = (p : Program) (d : Doing) (m n counts : ℕ → ℕ) (s : State) → IsWellFormed (core_of d) → MemoryStands p d false m counts s → ((a : ℕ) → a < 65536 → n a ≡ m a) → MemoryStands p d false n counts s

-- a failure keeps FRAM
fram_stays : (store : ℕ → ℕ) (fill a : ℕ) → a < 65536 → failed store fill a ≡ store a
fram_stays store fill a low = rw (lt-ltb a 65536 low)

-- ---- arrays

lost_here : (free : Free) (k : Kind) (room : ℕ) (words : List ℕ) → (area_of free k room).base ≢ 15 → lost_words k words ≡ words
lost_here free Nv room words other = refl
lost_here free Const room words other = refl
lost_here free Vol room words other = absurd (other refl)

-- only arrays that count from register 15 are lost
lost_at : (arrays : List Array) (free : Free) (words : List (List ℕ)) (a : ℕ) → (area_at (areas_from free arrays) a).base ≢ 15 → slice_index_or (lost arrays words) a [] ≡ slice_index_or words a []
lost_at [] free words a other = refl
lost_at (x ∷ arrays) free [] a other = refl
lost_at (x ∷ arrays) free (w ∷ words) zero other = lost_here free x.kind (length x.first) w other
lost_at (x ∷ arrays) free (w ∷ words) (suc a) other = lost_at arrays (free_of free x.kind (length x.first)) words a other

lost_long : (arrays : List Array) (words : List (List ℕ)) → length (lost arrays words) ≡ length words
lost_long [] words = refl
lost_long (x ∷ arrays) [] = refl
lost_long (x ∷ arrays) (w ∷ words) = ap suc (lost_long arrays words)

not_fifteen : (r n : ℕ) → r ≡ n → n ≢ 15 → r ≢ 15
not_fifteen r n is other same = other (sym is ∙ same)

module _ (c : Core) (s : State) where
  abbrev left : Store
  left = (cells.failed c s).store

  -- arrays that count from another register than 15 stay
  stays : (r a : ℕ) → base_at (layout_of c 0) a ≡ r → r ≢ 15 → slice_index_or left.words a [] ≡ slice_index_or s.store.words a []
  stays r a is other = lost_at c.arrays free_at_first s.store.words a (not_fifteen (base_at (layout_of c 0) a) r is other)

  word_stays : (r : ℕ) (at : Place) → base_at (layout_of c 0) at.array ≡ r → r ≢ 15 → word_at left at ≡ word_at s.store at
  word_stays r at is other = ap (λ ws. slice_index ws at.index) (stays r at.array is other)

  whole_stays : (r : ℕ) → r ≢ 15 → AreWhole c r s.store → AreWhole c r left
  whole_stays r other h = record {
    rooms = λ a is. ap length (stays r a is other) ∙ h.rooms a is;
    fits = λ at here. subst (λ w. w < 2 ^ 32) (sym (word_stays r at here.counts other)) (h.fits at here);
  }

zero_other : (r : ℕ) → r ≡ 0 → r ≢ 15
zero_other r zero_is is = absurd (omega (arith, zero_is, is))

fourteen_other : (r : ℕ) → r ≡ 14 → r ≢ 15
fourteen_other r fourteen_is is = absurd (omega (arith, fourteen_is, is))

-- what a failure leaves of a state has the same FRAM
pub state_fails : (p : Program) (d : Doing) (m counts : ℕ → ℕ) (s : State) → MemoryStands p d false m counts s → MemoryStands p d false m counts (cells.failed (core_of d) s)
state_fails p d m counts s h =
    let c : Core = core_of d in
    record {
      cells = record {
        store = record {
          state = h.cells.store.state;
          homes = λ at home. h.cells.store.homes at home ∙ sym (word_stays c s 14 at (eqb-true (base_at (layout_of c 0) at.array) 14 home.nonvolatile) (fourteen_other 14 refl));
          aside = λ at home. h.cells.store.aside at home;
        };
        cells = record { locks = h.cells.cells.locks; flags = h.cells.cells.flags; kept = h.cells.cells.kept; records = λ k is holds. h.cells.cells.records k is holds };
      };
      constants = record {
        whole = whole_stays c s 0 (zero_other 0 refl) h.constants.whole;
        holds = λ at here. h.constants.holds at here ∙ sym (word_stays c s 0 at here.counts (zero_other 0 refl));
      };
      ram = tt;
      readings = h.readings;
      tidy = record {
        shape = record { homes = lost_long c.arrays s.store.words ∙ h.tidy.shape.homes; others = h.tidy.shape.others };
        homes = whole_stays c s 14 (fourteen_other 14 refl) h.tidy.homes;
        aside = record { rooms = λ a is. h.tidy.aside.rooms a is; fits = λ at here. h.tidy.aside.fits at here };
        words = h.tidy.words;
        flags = h.tidy.flags;
        started = h.tidy.started;
        bank = h.tidy.bank;
      };
    }

-- what is recorded may be followed as before, and later
later_holds : (d : Doing) (s : State) (k : ℕ) (o : Option Site) → RecordHolds d k s o → RecordHolds d k (cells.failed (core_of d) s) o
later_holds d s k (Some (site.Io ann)) h = tt
later_holds d s k (Some (site.Block ann)) h = tt
later_holds d s k (Some (site.Copy most)) h = record { class = h.class; to = h.to; there = h.there; starts = h.starts; inside = h.inside; written = h.written; room = h.room }
later_holds d s k None h = tt

pub follows_failed : (d : Doing) (now later : ℕ) (s : State) → now ≤ later → MayFollow d now s → MayFollow d later (cells.failed (core_of d) s)
follows_failed d now later s less h = record {
  records = λ k is holds. later_holds d s k (slice_get d.setting.task.sites (k - 1)) (h.records k is holds);
  past = λ k. let past : s.cells.stamp k ≤ now = h.past k in omega (arith, past, less);
}

-- so it is behind each power row
pub failing : SameFram → (p : Program) (rules : Rules) (scheme : Scheme) → IsWellFormed rules.core → FailsWell p rules scheme
failing same p rules scheme well e s row on lasts t may = record {
  memory = state_fails p (doing_of rules scheme t) (failed e.store row.fill) e.issued s
      (same p (doing_of rules scheme t) e.store (failed e.store row.fill) e.issued s well (lasts t may).memory (λ a low. fram_stays e.store row.fill a low));
  follows = follows_failed (doing_of rules scheme t) e.clock (e.clock + row.off) s (omega arith) (lasts t may).follows;
}
