-- A journal of a followed machine is in time.
use Rattle.std.proofs.Common.{◌≡◌, ℕ, ◌+◌, List, refl, sym, subst, arith}
use Rattle.task_ast.specs.declared.core_form.Core.{Core}
use Rattle.devices.specs.Journal.{Place}
use Rattle.devices.specs.declared.world.World.{World}
use Rattle.word_isa.specs.declared.parts.Scheme.{Scheme}
use Rattle.task_attempts.specs.Boots.{costs, rules_of}
use Rattle.task_attempts.specs.Journals.{cuts_of, looks_of}
use Rattle.task_attempts.specs.Sound.{AllInTime, IsInTime, ends_from}
use Rattle.task_attempts.specs.State.{start}
use Rattle.word_machine.specs.Runs.{boots, journal, total_steps}
use Rattle.word_machine.specs.State.{Program}
use Rattle.word_machine.specs.Straight.{Spot, live}
use Rattle.run_plan.specs.Runs.{started}
use Rattle.run_plan.specs.Sound.{IsSoundRun}
use Rattle.plan_restore.specs.Kept.{planned}
use Rattle.power_runs.specs.Due.{HaltsUnmarked}
use Rattle.power_runs.specs.Followed.{AreFollowed}
use Rattle.timely_events.proofs.OverRows.{all_in_time}
use Rattle.timely_events.proofs.Standing.{SoundFrom}

pub journal_in_time : (c : Core) (world : World) (scheme : Scheme) → ((numbers looks : List ℕ) → IsSoundRun (planned c world scheme) numbers looks)
    → (p : Program) (place_of : ℕ → Place) → HaltsUnmarked p → (m : Spot) (looks : List ℕ) → AreFollowed p place_of (planned c world scheme) world.power m (started (planned c world scheme) looks)
    → looks_of (journal place_of p world.power (live m)) ≡ looks → IsInTime (rules_of c world) scheme (journal place_of p world.power (live m))
journal_in_time c world scheme sound p place_of unmarked m looks followed same =
    let x = planned c world scheme in
    let bs = boots place_of p world.power 0 (live m) in
    let steps : ℕ = total_steps p world.power (live m) in
    let from : SoundFrom x (started x looks) (start c looks) = (λ numbers. record {
      expected = (sound numbers looks).expected;
      weights = (sound numbers looks).weights;
      goes_on = (sound numbers looks).goes_on;
    }) in
    let e0 : 0 + steps ≡ steps = omega arith in
    let all = all_in_time c world scheme p place_of unmarked world.power 0 m (started x looks) (start c looks) from refl followed in
    subst (λ times. AllInTime bs (ends_from bs steps) (costs (rules_of c world) scheme (cuts_of (journal place_of p world.power (live m))) times)) (sym same)
    (subst (λ k. AllInTime bs (ends_from bs k) (costs (rules_of c world) scheme (cuts_of (journal place_of p world.power (live m))) looks)) e0 all)
