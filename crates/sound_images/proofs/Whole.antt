-- From laws on a machine's run to a sound image.
use Rattle.std.specs.Prelude.{slice_index}
use Rattle.std.specs.List.{AllByRecursion}
use Rattle.std.proofs.Common.{◌≡◌, ◌∙◌, ℕ, ◌+◌, List, map, length, refl, sym, ap, subst, arith}
use Rattle.devices.specs.Journal.{Boot, Journal, JournalEvent}
use Rattle.devices.specs.Reading.{values_in}
use Rattle.devices.specs.declared.world.World.{World}
use Rattle.power_trace.specs.Report.{place_in}
use Rattle.power_trace.specs.Run.{journal_on, program_in}
use Rattle.task_ast.specs.WellFormed.{IsWellFormed}
use Rattle.task_ast.specs.declared.core_form.Core.{Core}
use Rattle.task_attempts.specs.Boots.{boots_from, events_in, expect, rules_of}
use Rattle.task_attempts.specs.Journals.{all_events, cuts_of, looks_of}
use Rattle.task_attempts.specs.Sound.{AllEndWell, AllSealed, AreWalked, IsInTime, IsTimed, KeepsRules, TrapIsWalked, ends_from}
use Rattle.task_attempts.specs.State.{Standing, start}
use Rattle.walk_run.specs.declared.walked.State as walked
use Rattle.word_isa.specs.declared.image.Image.{Image}
use Rattle.word_isa.specs.declared.parts.Scheme.{Scheme}
use Rattle.word_machine.specs.Runs.{boots, end_of, last_ending, total_steps}
use Rattle.word_machine.specs.State as machine
use Rattle.word_machine.specs.Straight.{Spot, live}
use Rattle.run_plan.specs.PlanOf.{plan_of}
use Rattle.word_code.specs.ImageOf.{IsImageOf}
use Rattle.plan_restore.specs.Kept.{planned}
use Rattle.sound_runs.specs.Keeps.{IsSoundOn}
use Rattle.sound_images.specs.Sound.{states_on}
use Rattle.sound_images.proofs.States.{Shows, states_shown}

-- where an image's machine begins
abbrev pub first_spot : Image → Spot
first_spot i = record { pc = 0; regs = λ _. 0; store = slice_index i.fram; clock = 0; issued = λ _. 0 }

module _ (c : Core) (scheme : Scheme) (i : Image) (world : World) where
  abbrev its_journal : Journal
  its_journal = journal_on i world

  -- what laws on its run say
  pub record IsRun : Type 0 where
    pub sound : IsSoundOn (program_in i (values_in world.feeds)) (place_in i) (planned c world scheme) world.power (first_spot i)
    pub timed : AllByRecursion (λ (boot : Boot). AllByRecursion (λ (e : ℕ × JournalEvent). IsTimed world e.0 e.1) boot.events) (boots (place_in i) (program_in i (values_in world.feeds)) world.power 0 (live (first_spot i)))
    pub in_time : IsInTime (rules_of c world) scheme its_journal
    pub sealed : AllSealed c its_journal.boots (ends_from its_journal.boots its_journal.steps)
    pub ends : AllEndWell 1 (0 + total_steps (program_in i (values_in world.feeds)) world.power (live (first_spot i))) (boots (place_in i) (program_in i (values_in world.feeds)) world.power 0 (live (first_spot i)))
        (end_of (last_ending (program_in i (values_in world.feeds)) world.power (live (first_spot i))))

  pub run_keeps : IsWellFormed c → IsImageOf (plan_of c scheme) c i → Shows c scheme → IsRun → KeepsRules (rules_of c world) scheme its_journal (states_on i world)
  run_keeps well image shows h =
      let same : states_on i world ≡ h.sound.states = states_shown (program_in i (values_in world.feeds)) (rules_of c world) scheme i well image shows _ h.sound.states h.sound.committed in
      let none : 0 + total_steps (program_in i (values_in world.feeds)) world.power (live (first_spot i)) ≡ total_steps (program_in i (values_in world.feeds)) world.power (live (first_spot i)) = omega arith in
      record {
        legal = record { expected = h.sound.keeps.expected; timed = h.timed };
        walked = subst (AreWalked c (all_events its_journal)) (sym same) h.sound.keeps.walked;
        trap = subst (λ (states : List walked.State). TrapIsWalked c (all_events its_journal) (length states)) (sym same) h.sound.keeps.trap;
        in_time = h.in_time;
        sealed = h.sealed;
        agree = h.sound.keeps.agree;
        ends = subst (λ n. AllEndWell 1 n its_journal.boots its_journal.ending) none h.ends;
      }
