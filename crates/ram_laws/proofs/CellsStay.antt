-- Cells and constants stay where no word of FRAM is written.
use Rattle.std.specs.Prelude.{◌-◌, Option, Some, None, slice_get}
use Rattle.std.proofs.Common.{◌≡◌, ◌∙◌, ℕ, ◌+◌, ◌<◌, ◌≤◌, refl, sym, ap, subst, arith}
use Rattle.task_ast.specs.declared.core_form.Core.{Core}
use Rattle.task_ast.specs.declared.core_form.CoreTask.{CoreTask}
use Rattle.task_ast.specs.declared.core_form.Site.{Site}
use Rattle.task_ast.specs.declared.core_form.Site.TheVariants as site
use Rattle.task_ast.specs.WellFormed.{IsWellFormed}
use Rattle.walk_run.specs.declared.place.Place.{Place}
use Rattle.walk_run.specs.Store.{Store, word_at}
use Rattle.word_isa.specs.declared.parts.Scheme.{Scheme}
use Rattle.run_plan.specs.Cells.{Cells, State, aside_at}
use Rattle.word_code.specs.Frames.{ends_at, flag_at, lock_at, stamp_at, value_at}
use Rattle.layout_laws.specs.Layouts.{LieInAreas, layout_of}
use Rattle.cell_laws.specs.Standing.{HasCells, HasHomes, HasRecord, HasStore, IsSite, Stands, address_in, beside, worked}
use Rattle.cell_laws.proofs.Writes.{beside_low, home_in, worked_low}
use Rattle.ram_laws.specs.Ram.{HasConstants}
use Rattle.ram_laws.proofs.Stays.{arrays_stay, constant_in}

-- all of FRAM is the same
abbrev IsSameFram : (m n : ℕ → ℕ) → Type 0
IsSameFram m n = (a : ℕ) → a < 65536 → n a ≡ m a

record_same : (address : Place → ℕ) (o : Option Site) (m n : ℕ → ℕ) (x : Cells) (k : ℕ) → IsSite k → IsSameFram m n → HasRecord address o m x k → HasRecord address o n x k
record_same address (Some (site.Io ann)) m n x k here same h = (same (value_at k) (omega (arith, here.few)) ∙ h.0, same (stamp_at k) (omega (arith, here.few)) ∙ h.1)
record_same address (Some (site.Block ann)) m n x k here same h = same (stamp_at k) (omega (arith, here.few)) ∙ h
record_same address (Some (site.Copy words)) m n x k here same h = record {
  class = λ d is. same (value_at k) (omega (arith, here.few)) ∙ h.class d is;
  to = λ at is. same (ends_at k) (omega (arith, here.few)) ∙ h.to at is;
  from = λ at is. same (ends_at k + 1) (omega (arith, here.few)) ∙ h.from at is;
  length = same (ends_at k + 2) (omega (arith, here.few)) ∙ h.length;
}
record_same address None m n x k here same h = tt

module _ (areas : (c : Core) (bank : ℕ) → IsWellFormed c → bank ≤ 2048 → LieInAreas (layout_of c bank)) (c : Core) (well : IsWellFormed c) (m n : ℕ → ℕ) (same : IsSameFram m n) where
  homes_same : (bank : ℕ) → bank ≤ 2048 → (words : Place → ℕ) → HasHomes c bank m words → HasHomes c bank n words
  homes_same bank low words h at home =
      let here = home_in c (λ k few. areas c k well few) bank low at home in
      same (address_in c bank at) (omega (arith, here.below, low)) ∙ h at home

  pub cells_same : (scheme : Scheme) (t : CoreTask) (s : State) → Stands c scheme t m s → Stands c scheme t n s
  cells_same scheme t s h = record {
    store = record {
      state = same 0 (omega arith) ∙ h.store.state;
      homes = homes_same (worked scheme s.bank) (worked_low scheme s.bank) (word_at s.store) h.store.homes;
      aside = homes_same (beside scheme s.bank) (beside_low scheme s.bank) (aside_at s) h.store.aside;
    };
    cells = record {
      locks = λ r few. same (lock_at r) (omega (arith, few)) ∙ h.cells.locks r few;
      flags = λ k here. same (flag_at k) (omega (arith, here.few)) ∙ h.cells.flags k here;
      kept = λ i few. same (7042 + i) (omega (arith, few)) ∙ h.cells.kept i few;
      records = λ k here held. record_same (address_in c (worked scheme s.bank)) (slice_get t.sites (k - 1)) m n s.cells k here same (h.cells.records k here held);
    };
  }

  pub constants_same : (store : Store) → HasConstants c m store → HasConstants c n store
  constants_same store h =
      arrays_stay c 0 m n store store (λ array is. refl) (λ at here. refl) (λ at here. let lies = constant_in areas c at well here in same (address_in c 0 at) (omega (arith, lies.below))) h
