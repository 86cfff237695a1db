-- What is known in an attempt, behind an act that has gone its way.
use Rattle.std.specs.Prelude.{◌≢◌, map, None, Option, Some}
use Rattle.std.specs.List.{AllByRecursion}
use Rattle.std.proofs.Common.{◌≡◌, ◌∙◌, ℕ, ◌-◌, ◌≤◌, ◌==◌, Bool, true, false, List, [], ◌∷◌, refl, sym, ap, subst, arith}
use Rattle.devices.specs.Journal.{Place}
use Rattle.io_flow.specs.Written.{AllWithin}
use Rattle.task_ast.specs.Pointing.{pointing}
use Rattle.task_ast.specs.declared.core_form.Core.{Core}
use Rattle.io_annot.specs.declared.choice.Mode.{Mode}
use Rattle.word_machine.specs.State.{Program}
use Rattle.word_machine.specs.Straight.{Spot}
use Rattle.run_plan.specs.Cells.{CellWrite, State, after_write, puts_aside, puts_class, puts_flag, puts_from, puts_home, puts_kept, puts_length, puts_lock, puts_stamp, puts_state, puts_to, puts_value, turned}
use Rattle.run_plan.specs.Small.{Atom, Doing, core_of, silent}
use Rattle.act_refines.specs.Seen.{behind, steps_seen}
use Rattle.code_cuts.specs.Lasting.{task_behind}
use Rattle.code_runs.proofs.Placing.{Gone, known_behind, later}
use Rattle.site_runs.specs.InAttempts.{In, IsAround}

-- ---- what is there

pub something : {A : Type 0} (a : A) → Some a ≢ None
something a is = cc

abbrev given : {A : Type 0} → A → Option A → A
given a None = a
given a (Some b) = b

pub same_thing : {A : Type 0} (a b : A) → Some a ≡ Some b → a ≡ b
same_thing a b is = ap (given a) is

-- ---- what lives between acts

-- writes without events leave what lives between acts beside the store
turned_frame : (c : Core) (s : State) (same : Bool) → (turned same c.arrays s).frame ≡ s.frame
turned_frame c s true = refl
turned_frame c s false = refl

written_frame : (c : Core) (s : State) (w : CellWrite) → (after_write c.arrays w s).frame ≡ s.frame
written_frame c s (puts_home at word) = refl
written_frame c s (puts_aside at word) = refl
written_frame c s (puts_lock r e) = refl
written_frame c s (puts_flag k e) = refl
written_frame c s (puts_value k word) = refl
written_frame c s (puts_stamp k u) = refl
written_frame c s (puts_class k x) = refl
written_frame c s (puts_to k at) = refl
written_frame c s (puts_from k at) = refl
written_frame c s (puts_length k n) = refl
written_frame c s (puts_kept n word) = refl
written_frame c s (puts_state e u b) = turned_frame c s (b == s.bank)

pub silent_frame : (c : Core) (writes : List CellWrite) (s : State) → (behind c (map silent writes) s).frame ≡ s.frame
silent_frame c [] s = refl
silent_frame c (w ∷ writes) s = silent_frame c writes (after_write c.arrays w s) ∙ written_frame c s w

-- blocks around are so later
pub around_later : (m there : Spot) (s to : State) (blocks : List ℕ) → m.clock ≤ there.clock → to.frame.begun ≡ s.frame.begun → to.frame.outer ≡ s.frame.outer → AllByRecursion (λ k. IsAround k m s) blocks → AllByRecursion (λ k. IsAround k there to) blocks
around_later m there s to [] on begun outer h = tt
around_later m there s to (k ∷ blocks) on begun outer h =
    let here : IsAround k m s = h.0 in (
      record {
        begun = subst (λ (f : ℕ → Option ℕ). f k ≢ None) (sym begun) here.begun;
        outer = subst (λ (f : ℕ → Option Mode). f k ≢ None) (sym outer) here.outer;
        past = λ u is. (let past : u ≤ m.clock = here.past u (ap (λ (f : ℕ → Option ℕ). f k) (sym begun) ∙ is) in omega (arith, past, on));
      },
      around_later m there s to blocks on begun outer h.1,
    )

module _ (p : Program) (place_of : ℕ → Place) (d : Doing) (number : ℕ) (blocks : List ℕ) (n steps : ℕ) (m there : Spot) (atoms : List Atom) (s to : State) where
  -- where the mode and the marks of blocks are as they were
  pub attempt_behind : In p place_of d number blocks n m s → Gone p place_of d number n steps m there atoms s to → task_behind (steps_seen (core_of d) d.scheme atoms s) s.task ≡ s.task
      → to.frame.mode ≡ s.frame.mode → to.frame.begun ≡ s.frame.begun → to.frame.outer ≡ s.frame.outer → AllWithin (pointing d.setting.task) to.store → In p place_of d number blocks (n - steps) there to
  attempt_behind h gone same mode begun outer within = record {
    common = known_behind p place_of d number n steps m there atoms s to h.common gone same;
    within = within;
    mode = subst (λ (o : Option Mode). o ≢ None) (sym mode) h.mode;
    around = around_later m there s to blocks (later p place_of d number n steps m there atoms s to gone) begun outer h.around;
  }

  -- where all of it is
  pub attempt_kept : In p place_of d number blocks n m s → Gone p place_of d number n steps m there atoms s to → task_behind (steps_seen (core_of d) d.scheme atoms s) s.task ≡ s.task → to.frame ≡ s.frame → AllWithin (pointing d.setting.task) to.store
      → In p place_of d number blocks (n - steps) there to
  attempt_kept h gone same frame within = attempt_behind h gone same (λ i. (frame i).mode) (λ i. (frame i).begun) (λ i. (frame i).outer) within
