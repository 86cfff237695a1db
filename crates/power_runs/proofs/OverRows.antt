-- Boot by boot a machine follows its plan.
use Rattle.std.proofs.Common.{◌≡◌, ◌∙◌, ℕ, suc, ◌+◌, ◌-◌, ◌<◌, ◌≤◌, ◌^◌, List, [], ◌∷◌, ◌++◌, refl, sym, ap, subst, arith}
use Rattle.std.proofs.lemmas.List.Sums.{sum_by-cons}
use Rattle.devices.specs.Journal.{Place}
use Rattle.devices.specs.World.{steps_of, ticks_of}
use Rattle.devices.specs.declared.world.PowerRow.{PowerRow}
use Rattle.word_machine.specs.RunLaws.{clock_rises}
use Rattle.word_machine.specs.State.{Program}
use Rattle.word_machine.specs.Step.{exec}
use Rattle.word_machine.specs.Straight.{Spot, live}
use Rattle.run_plan.specs.Cells as cells
use Rattle.run_plan.specs.Cells.{State}
use Rattle.run_plan.specs.Runs.{Planned, after, boot_run}
use Rattle.code_cuts.specs.Boots.{IsBooted, RunsPlan, times_in}
use Rattle.code_cuts.specs.Lasting.{Lasts, looks_behind}
use Rattle.code_cuts.specs.Runs.{Cut, shown_by}
use Rattle.power_runs.specs.Due.{AreDueOver, FailsWell, StartsWell}
use Rattle.power_runs.specs.Followed.{AreFollowed, begun_again}
use Rattle.power_runs.proofs.Looks.{fewer_due, looks_left}

module _ (p : Program) (place_of : ℕ → Place) (x : Planned) (runs : RunsPlan p place_of x) (fails : FailsWell p x.rules x.plan.scheme) where
  -- how the machine is followed behind so many steps
  abbrev Cuts : ℕ → Spot → State → Type 0
  Cuts n m s = Cut p place_of x.rules.core x.plan.scheme (Lasts p x.rules x.plan.scheme) n 0 m s (boot_run x (suc n) s)

  -- where a run begins well, a boot of fewer steps does
  booted : (row : PowerRow) (rows : List PowerRow) (m : Spot) (s : State) → StartsWell p place_of x (row ∷ rows) m s → (n : ℕ) → n ≤ row.on → IsBooted p place_of x n m s
  booted row rows m s h n few =
      let total : steps_of (row ∷ rows) ≡ row.on + steps_of rows = sum_by-cons (λ (r : PowerRow). r.on) row rows in
      let room : s.epoch + steps_of (row ∷ rows) + 1 < 2 ^ 24 = h.room in
      let whole : row.on ≡ n + (row.on - n) = omega (arith, few) in
      record {
        pc = h.pc;
        lasts = h.lasts;
        next = h.next;
        room = omega (arith, total, few, room);
        ticks = (let ticks : ticks_of (row ∷ rows) ≡ row.on + row.off + ticks_of rows = omega (arith, sum_by-cons (λ (r : PowerRow). r.on + r.off) row rows) in let clock : m.clock + ticks_of (row ∷ rows) < 2 ^ 32 = h.ticks in omega (arith, ticks, clock, few));
        due = fewer_due p place_of m n (row.on - n) s.looks h.due.later (subst (λ k. s.looks ≡ times_in (shown_by p place_of k m) ++ h.due.later) whole h.due.due);
      }

  pub followed : (rows : List PowerRow) (m : Spot) (s : State) → StartsWell p place_of x rows m s → AreFollowed p place_of x rows m s
  followed [] m s h = tt
  followed (row ∷ rows) m s h =
      let last : Cuts row.on m s = runs.boots row.on (suc row.on) m s (omega arith) (booted row rows m s h row.on (omega arith)) in
      let to : State = after s last.front in
      let total : steps_of (row ∷ rows) ≡ row.on + steps_of rows = sum_by-cons (λ (r : PowerRow). r.on) row rows in
      let left : to.looks ≡ h.due.later =
      last.near.looks ∙ ap (λ xs. looks_behind xs s.looks) (sym last.shown) ∙ ap (looks_behind (shown_by p place_of row.on m)) h.due.due ∙ looks_left (shown_by p place_of row.on m) h.due.later in
      record {
        cuts = λ n many few less. runs.boots n many m s less (booted row rows m s h n few);
        last = last;
        rest = λ on. followed rows (begun_again row (exec p row.on (live m))) (cells.failed x.rules.core to) (record {
          pc = refl;
          lasts = fails (exec p row.on (live m)) to row on last.stood;
          next = last.near.there h.next;
          room = (let room : s.epoch + steps_of (row ∷ rows) + 1 < 2 ^ 24 = h.room in let near : to.epoch ≤ s.epoch + row.on = last.near.epoch in omega (arith, total, room, near));
          ticks = (let ticks : ticks_of (row ∷ rows) ≡ row.on + row.off + ticks_of rows = omega (arith, sum_by-cons (λ (r : PowerRow). r.on + r.off) row rows) in let clock : m.clock + ticks_of (row ∷ rows) < 2 ^ 32 = h.ticks in let now : (exec p row.on (live m)).clock ≡ m.clock + row.on = clock_rises p row.on (live m) on in omega (arith, ticks, clock, now));
          due = subst (λ ts. AreDueOver p place_of rows (begun_again row (exec p row.on (live m))) ts) (sym left) (h.due.rest on);
        });
      }
