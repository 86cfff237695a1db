-- What is known in an attempt is a claim, whatever blocks are around: acts without sites keep it.
use Rattle.std.specs.Prelude.{◌≢◌, None}
use Rattle.std.specs.List.{AllByRecursion}
use Rattle.std.proofs.Common.{◌≡◌, ◌∙◌, ℕ, ◌≤◌, List, [], ◌∷◌, sym, subst, arith}
use Rattle.devices.specs.Journal.{Place}
use Rattle.word_machine.specs.State.{Program}
use Rattle.word_machine.specs.Straight.{Spot}
use Rattle.run_plan.specs.Cells.{Frame, State}
use Rattle.run_plan.specs.Small.{Doing}
use Rattle.code_runs.specs.Claims.{IsClaim}
use Rattle.site_runs.specs.InAttempts.{In, IsAround}
use Rattle.site_runs.proofs.Behind.{around_later}

-- a block around is so later, where its beginning and the mode outside it are noted as they were
pub still_around : (k : ℕ) (m there : Spot) (s to : State) → m.clock ≤ there.clock → to.frame.begun k ≡ s.frame.begun k → to.frame.outer k ≡ s.frame.outer k → IsAround k m s → IsAround k there to
still_around k m there s to later begun outer h = record {
  begun = subst (λ o. o ≢ None) (sym begun) h.begun;
  outer = subst (λ o. o ≢ None) (sym outer) h.outer;
  past = λ u is. (let past : u ≤ m.clock = h.past u (sym begun ∙ is) in omega (arith, past, later));
}

-- so it is of blocks of some sites
pub all_around : (Some_of : ℕ → Type 0) (blocks : List ℕ) (m there : Spot) (s to : State) → m.clock ≤ there.clock → ((k : ℕ) → Some_of k → to.frame.begun k ≡ s.frame.begun k) → ((k : ℕ) → Some_of k → to.frame.outer k ≡ s.frame.outer k)
    → AllByRecursion Some_of blocks → AllByRecursion (λ k. IsAround k m s) blocks → AllByRecursion (λ k. IsAround k there to) blocks
all_around Some_of [] m there s to later begun outer some all = tt
all_around Some_of (k ∷ blocks) m there s to later begun outer some all =
    (still_around k m there s to later (begun k some.0) (outer k some.0) all.0, all_around Some_of blocks m there s to later begun outer some.1 all.1)

pub in_claim : (p : Program) (place_of : ℕ → Place) (d : Doing) (number : ℕ) (blocks : List ℕ) → IsClaim p place_of d.setting.rules d.scheme number d.setting.task (In p place_of d number blocks)
in_claim p place_of d number blocks = record {
  common = λ n m s h. h.common;
  within = λ n m s h. h.within;
  kept = λ n k m there s to h later frame common within. record {
    common = common;
    within = within;
    mode = subst (λ (f : Frame). f.mode ≢ None) (sym frame) h.mode;
    around = around_later m there s to blocks later (λ i. (frame i).begun) (λ i. (frame i).outer) h.around;
  };
}
