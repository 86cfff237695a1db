-- From what a template does to what its act does.
use Rattle.std.proofs.Common.{◌≡◌, ◌∙◌, ℕ, ◌≤◌, Bool, List, [], sym, ap, subst, arith}
use Rattle.devices.specs.Journal.{Place}
use Rattle.word_machine.specs.State.{Program}
use Rattle.word_machine.specs.Straight.{Spot}
use Rattle.run_plan.specs.Cells.{State}
use Rattle.run_plan.specs.Small.{Doing}
use Rattle.act_laws.specs.Codes.{Acts, End, Fixed, HasFixed, top}
use Rattle.act_laws.specs.CodeLaws.{shape_is}
use Rattle.act_laws.specs.Values.{Traps}
use Rattle.act_refines.specs.Between.{AreRelated, MemoryStands, fixed_in}
use Rattle.act_refines.specs.Does.{GoesOn, Stops}
use Rattle.act_refines.specs.Seen.{Seen, trace_seen}

-- from where the machine is
pub goes_from : (p : Program) (place_of : ℕ → Place) (y : Fixed) (n most : ℕ) (m : Spot) (e : End) (pc : ℕ) (seen : List Seen) (Related : Spot → Type 0) → Acts p y n m e → n ≤ most
    → e.pc ≡ pc → trace_seen place_of e.atoms ≡ seen → ((there : Spot) → HasFixed y there → there.store ≡ e.store → there.issued ≡ e.issued → Related there)
    → GoesOn p place_of most m pc seen Related
goes_from p place_of y n most m e pc seen Related a few at shown related = record {
  steps = a.steps;
  few = omega (arith, a.few, few);
  there = a.there;
  atoms = e.atoms;
  goes = a.goes;
  at = a.at ∙ at;
  shown = shown;
  related = related a.there a.fixed a.stored a.counts;
}

-- and where its fixed registers have their shape
pub goes_on : (p : Program) (place_of : ℕ → Place) (x y : Fixed) (n most : ℕ) (m : Spot) (e : End) (pc : ℕ) (seen : List Seen) (Related : Spot → Type 0) → HasFixed x m → Acts p y n (top x m) e → n ≤ most
    → e.pc ≡ pc → trace_seen place_of e.atoms ≡ seen → ((there : Spot) → HasFixed y there → there.store ≡ e.store → there.issued ≡ e.issued → Related there)
    → GoesOn p place_of most m pc seen Related
goes_on p place_of x y n most m e pc seen Related fixed acts few at shown related =
    goes_from p place_of y n most m e pc seen Related (subst (λ f. Acts p y n (record m { regs = f }) e) (sym (shape_is x m fixed)) acts) few at shown related

-- at the end of a template memory is as the template says
pub related_at : (p : Program) (d : Doing) (begun : Bool) (there : Spot) (store counts : ℕ → ℕ) (s : State) → HasFixed (fixed_in d.scheme s) there → there.store ≡ store → there.issued ≡ counts → MemoryStands p d begun store counts s
    → AreRelated p d begun there s
related_at p d begun there store counts s fixed stored issued h = record {
  fixed = fixed;
  memory = subst (λ m. MemoryStands p d begun m there.issued s) (sym stored) (subst (λ k. MemoryStands p d begun store k s) (sym issued) h);
}

-- a trap before anything is shown
pub stops : (p : Program) (place_of : ℕ → Place) (n most : ℕ) (m : Spot) (code : ℕ) → Traps p n m code → n ≤ most → Stops p place_of most m code []
stops p place_of n most m code h few = record { steps = h.steps; few = omega (arith, h.few, few); ended = h.ended; shown = ap (trace_seen place_of) h.quiet }
