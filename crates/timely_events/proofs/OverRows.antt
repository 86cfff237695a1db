-- Over all power rows: each event of each boot comes in time.
use Rattle.std.specs.Prelude.{map, if◌then◌else◌}
use Rattle.std.proofs.Common.{◌≡◌, ◌∙◌, ℕ, zero, suc, ◌+◌, Bool, true, false, List, [], ◌∷◌, length, refl, sym, ap, subst, arith}
use Rattle.task_ast.specs.declared.core_form.Core.{Core}
use Rattle.devices.specs.Journal.{Boot, Place}
use Rattle.devices.specs.declared.world.PowerRow.{PowerRow}
use Rattle.devices.specs.declared.world.World.{World}
use Rattle.word_isa.specs.declared.parts.Scheme.{Scheme}
use Rattle.task_attempts.specs.Boots
use Rattle.task_attempts.specs.Boots.{boot_costs, costs_from}
use Rattle.task_attempts.specs.Sound.{AllInTime, AreInTime, ends_from}
use Rattle.task_attempts.specs.State.{Standing}
use Rattle.word_machine.specs.RunLaws.{stays_halted, stays_trapped}
use Rattle.word_machine.specs.Runs.{boots, fail_behind, is_running, numbered, steps_done, total_steps}
use Rattle.word_machine.specs.State as machine
use Rattle.word_machine.specs.State.{Program}
use Rattle.word_machine.specs.Step.{exec, step}
use Rattle.word_machine.specs.Straight.{Spot, live}
use Rattle.word_machine.specs.declared.ending.Ending.{Ending}
use Rattle.word_machine.specs.declared.ending.Ending.TheVariants.{Running, Halted, Trapped}
use Rattle.run_plan.specs.Cells as cells
use Rattle.run_plan.specs.Cells.{State}
use Rattle.run_plan.specs.Runs.{Planned, Smalls, after, boot_run, cut_run}
use Rattle.plan_restore.specs.Kept.{planned}
use Rattle.code_cuts.specs.Lasting.{Lasts}
use Rattle.power_runs.specs.Due.{HaltsUnmarked}
use Rattle.power_runs.specs.Followed.{AreFollowed, BootFollows, begun_again}
use Rattle.power_runs.specs.Journals.{fails_live}
use Rattle.timely_events.proofs.Early.{as_long}
use Rattle.timely_events.proofs.Fronts.{as_many}
use Rattle.timely_events.proofs.InBoot.{boot_in_time, front_cut, front_told}
use Rattle.timely_events.proofs.Standing.{SoundFrom, count, sound_behind}

-- a machine that goes on has done all its steps
steps_running : (p : Program) (n : ℕ) (e : machine.State) → (exec p n e).ending ≡ Running → steps_done p n e ≡ n
unfolding steps_done exec step
steps_running p zero e on = refl
steps_running p (suc n) e on = by e.ending refl (steps_running p n (step p e) on)
  where
    by : (ending : Ending) → e.ending ≡ ending → steps_done p n (step p e) ≡ n → (if is_running ending then suc (steps_done p n (step p e)) else 0) ≡ suc n
    by Running is rest = ap suc rest
    by Halted is rest = let ended : (exec p (suc n) e).ending ≡ Halted = ap (λ t. t.ending) (stays_halted p (suc n) e is) ∙ is in let clash : Running ≡ Halted = sym on ∙ ended in absurd (cc clash)
    by (Trapped code) is rest =
        let ended : (exec p (suc n) e).ending ≡ Trapped code = ap (λ t. t.ending) (stays_trapped p (suc n) code e is) ∙ is in
        let clash : Running ≡ Trapped code = sym on ∙ ended in
        absurd (cc clash)

-- how many events each boot has
abbrev pub cuts_in : List Boot → List ℕ
cuts_in bs = map (λ b. length b.events) bs

module _ (c : Core) (world : World) (scheme : Scheme) (p : Program) (place_of : ℕ → Place) (unmarked : HaltsUnmarked p) where
  abbrev x : Planned
  x = planned c world scheme

  -- boots come in time, from a standing on
  abbrev InTime : List Boot → (last : ℕ) → Standing → Type 0
  InTime bs last st = AllInTime bs (ends_from bs last) (costs_from x.rules scheme (cuts_in bs) st)

  abbrev first_boot : PowerRow → (before : ℕ) → Spot → Boot
  first_boot row before m = record { begun_at = before; events = numbered place_of p before row.on (live m) }

  abbrev InFirst : PowerRow → (before ends : ℕ) → Spot → Standing → Type 0
  InFirst row before ends m st = AreInTime before ends (first_boot row before m).events (boot_costs x.rules scheme (length (first_boot row before m).events) st)

  -- one that is the last
  last_boot : (row : PowerRow) (before ends : ℕ) (m : Spot) (st : Standing) → InFirst row before ends m st → InTime (first_boot row before m ∷ []) ends st
  unfolding costs_from
  last_boot row before ends m st h = (h, tt)

  -- one behind which another begins
  more_boots : (row next : PowerRow) (rows : List PowerRow) (before ends : ℕ) (m there : Spot) (st : Standing) → InFirst row before (before + row.on) m st
      → InTime (boots place_of p (next ∷ rows) (before + row.on) (live there)) ends (Boots.left_by x.rules (length (first_boot row before m).events) st)
      → InTime (first_boot row before m ∷ boots place_of p (next ∷ rows) (before + row.on) (live there)) ends st
  unfolding boots costs_from
  more_boots row next rows before ends m there st h rest = (h, rest)

  -- where a boot leaves plan and rules
  record Behind (row : PowerRow) (before : ℕ) (m : Spot) (st : Standing) (to : State) : Type 0 where
    sound : SoundFrom x to (Boots.left_by x.rules (length (first_boot row before m).events) st)
    same : to.task ≡ (Boots.left_by x.rules (length (first_boot row before m).events) st).next

  behind : (row : PowerRow) (before : ℕ) (m : Spot) (s : State) (st : Standing) {Rest : State → Type 0} → SoundFrom x s st → s.task ≡ st.next → (h : BootFollows p place_of x row.on m s Rest)
      → Behind row before m st (cells.failed c (after s h.last.front))
  behind row before m s st sound same h =
      let cut = h.last in
      let counted : length (first_boot row before m).events ≡ count x cut.front =
      as_long p place_of unmarked c scheme (Lasts p x.rules scheme) m s before row.on (boot_run x (suc row.on) s) cut ∙ as_many cut.front in
      let told = front_told c world scheme (suc row.on) s st cut.front cut.rest cut.whole sound same in
      let left = sound_behind x (length cut.front) s st sound in
      let is : cut_run x (length cut.front) s ≡ cut.front = front_cut c world scheme (suc row.on) s cut.front cut.rest cut.whole in
      record {
        sound = subst (λ k. SoundFrom x (cells.failed c (after s cut.front)) (Boots.left_by x.rules k st)) (sym counted)
            (subst (λ (xs : Smalls). SoundFrom x (cells.failed c (after s xs)) (Boots.left_by x.rules (count x xs) st)) is left);
        same = told.next ∙ ap (λ k. (Boots.left_by x.rules k st).next) (sym counted);
      }

  first_in_time : (row : PowerRow) (before ends : ℕ) (m : Spot) (s : State) (st : Standing) {Rest : State → Type 0} → SoundFrom x s st → s.task ≡ st.next → BootFollows p place_of x row.on m s Rest
      → ((exec p row.on (live m)).ending ≡ Running → ends ≡ before + row.on) → InFirst row before ends m st
  first_in_time row before ends m s st sound same h at = boot_in_time c world scheme p place_of unmarked before row.on ends m s st sound same h.cuts at

  pub all_in_time : (rows : List PowerRow) (before : ℕ) (m : Spot) (s : State) (st : Standing) → SoundFrom x s st → s.task ≡ st.next → AreFollowed p place_of x rows m s
      → InTime (boots place_of p rows before (live m)) (before + total_steps p rows (live m)) st
  unfolding boots total_steps costs_from
  all_in_time [] before m s st sound same h = tt
  all_in_time (row ∷ []) before m s st sound same h =
      either (is_running (exec p row.on (live m)).ending) (last_boot row before (before + (steps_done p row.on (live m) + 0)) m st
      (first_in_time row before (before + (steps_done p row.on (live m) + 0)) m s st sound same h
      (λ on. let done : steps_done p row.on (live m) ≡ row.on = steps_running p row.on (live m) on in omega (arith, done))))
    where
      either : (again : Bool) → InTime (first_boot row before m ∷ []) (before + (steps_done p row.on (live m) + 0)) st → InTime (first_boot row before m ∷ (if again then [] else [])) (before + (steps_done p row.on (live m) + 0)) st
      either true h = h
      either false h = h
  all_in_time (row ∷ next ∷ rows) before m s st sound same h =
      let left = behind row before m s st sound same h in
      by (exec p row.on (live m)).ending refl
      (λ on. all_in_time (next ∷ rows) (before + row.on) (begun_again row (exec p row.on (live m))) (cells.failed c (after s h.last.front)) (Boots.left_by x.rules (length (first_boot row before m).events) st) left.sound left.same (h.rest on))
    where
      e : machine.State
      e = exec p row.on (live m)

      there : Spot
      there = begun_again row e

      ends : ℕ
      ends = before + (steps_done p row.on (live m) + total_steps p (next ∷ rows) (fail_behind row e))

      Goal : Bool → Type 0
      Goal again = InTime (first_boot row before m ∷ (if again then boots place_of p (next ∷ rows) (before + row.on) (fail_behind row e) else [])) ends st

      stops : (k : Ending) → e.ending ≡ k → (k ≡ Running → ⊥) → is_running k ≡ false → Goal (is_running e.ending)
      stops k is over not =
          subst Goal (sym (ap is_running is ∙ not))
          (last_boot row before ends m st (first_in_time row before ends m s st sound same h (λ on. absurd (over (sym is ∙ on)))))

      goes : e.ending ≡ Running → InTime (boots place_of p (next ∷ rows) (before + row.on) (live there)) (before + row.on + total_steps p (next ∷ rows) (live there)) (Boots.left_by x.rules (length (first_boot row before m).events) st) → Goal (is_running e.ending)
      goes is rest =
          let done : steps_done p row.on (live m) ≡ row.on = steps_running p row.on (live m) is in
          let live_is : fail_behind row e ≡ live there = fails_live row e is in
          let last : before + row.on + total_steps p (next ∷ rows) (live there) ≡ before + (steps_done p row.on (live m) + total_steps p (next ∷ rows) (live there)) = omega (arith, done) in
          let first : InFirst row before (before + row.on) m st = first_in_time row before (before + row.on) m s st sound same h (λ on. refl) in
          let both : InTime (first_boot row before m ∷ boots place_of p (next ∷ rows) (before + row.on) (live there)) (before + (steps_done p row.on (live m) + total_steps p (next ∷ rows) (live there))) st =
          subst (λ k. InTime (first_boot row before m ∷ boots place_of p (next ∷ rows) (before + row.on) (live there)) k st) last
          (more_boots row next rows before (before + row.on + total_steps p (next ∷ rows) (live there)) m there st first rest) in
          subst Goal (sym (ap is_running is))
          (subst (λ f. InTime (first_boot row before m ∷ boots place_of p (next ∷ rows) (before + row.on) f) (before + (steps_done p row.on (live m) + total_steps p (next ∷ rows) f)) st) (sym live_is) both)

      by : (k : Ending) → e.ending ≡ k
          → (e.ending ≡ Running → InTime (boots place_of p (next ∷ rows) (before + row.on) (live there)) (before + row.on + total_steps p (next ∷ rows) (live there)) (Boots.left_by x.rules (length (first_boot row before m).events) st))
          → Goal (is_running e.ending)
      by Running is rest = goes is (rest is)
      by Halted is rest = stops Halted is (λ on. cc on) refl
      by (Trapped code) is rest = stops (Trapped code) is (λ on. cc on) refl
