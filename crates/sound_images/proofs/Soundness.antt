-- An image of a program whose code runs its plan is sound.
use Rattle.std.specs.Prelude.{◌^◌, ◌%◌, slice_index}
use Rattle.std.specs.List.{AllByRecursion}
use Rattle.std.proofs.Common.{◌≡◌, ◌∙◌, ℕ, ◌+◌, ◌<◌, ◌≤◌, false, List, None, map, length, refl, sym, ap, subst, arith}
use Rattle.devices.specs.Journal.{Boot, JournalEvent, Place}
use Rattle.devices.specs.Reading.{values_in}
use Rattle.devices.specs.World.{IsWithinLimits, steps_of, ticks_of}
use Rattle.devices.specs.declared.world.PowerRow.{PowerRow}
use Rattle.devices.specs.declared.world.World.{World}
use Rattle.power_trace.specs.Report.{place_in}
use Rattle.power_trace.specs.Run.{journal_on, program_in}
use Rattle.task_ast.specs.WellFormed.{IsWellFormed}
use Rattle.task_ast.specs.declared.core_form.Core.{Core}
use Rattle.task_ast.specs.declared.core_form.CoreTask.{CoreTask}
use Rattle.task_attempts.specs.Boots.{rules_of}
use Rattle.task_attempts.specs.Journals.{looks_of}
use Rattle.task_attempts.specs.Sound.{AllEndWell, AllSealed, IsTimed, ends_from}
use Rattle.task_marks.specs.Told.{AtTheirTasks}
use Rattle.word_isa.specs.declared.image.Image.{Image}
use Rattle.word_isa.specs.declared.parts.Scheme.{Scheme}
use Rattle.word_isa.specs.declared.parts.Scheme.TheVariants.{Bank}
use Rattle.word_machine.specs.Runs.{boots, end_of, journal, last_ending, total_steps}
use Rattle.word_machine.specs.State as machine
use Rattle.word_machine.specs.State.{Program, program_of}
use Rattle.word_machine.specs.Straight.{Spot, live}
use Rattle.run_plan.specs.Cells.{State, first_state}
use Rattle.run_plan.specs.PlanOf.{plan_of}
use Rattle.run_plan.specs.Runs.{Planned, started}
use Rattle.word_code.specs.CodeOf.{fram_of}
use Rattle.word_code.specs.ImageOf.{IsImageOf}
use Rattle.plan_restore.specs.Kept.{planned}
use Rattle.act_refines.specs.Between.{MemoryStands}
use Rattle.code_cuts.specs.Boots.{RunsPlan}
use Rattle.code_cuts.specs.Lasting.{Lasts, doing_of}
use Rattle.code_places.specs.Placed.{program_by}
use Rattle.power_runs.specs.Due.{AreDueOver, FailsWell, HaltsUnmarked, StartsWell}
use Rattle.power_runs.specs.Followed.{AreFollowed}
use Rattle.power_runs.proofs.Failing.{state_fails}
use Rattle.sound_runs.specs.Committed.{committed_on}
use Rattle.sound_runs.specs.Keeps.{IsSoundOn}
use Rattle.sound_runs.proofs.Starting.{starts_well}
use Rattle.sound_runs.proofs.Whole.{sound_on}
use Rattle.timely_events.proofs.InTime.{journal_in_time}
use Rattle.sound_images.specs.Sound.{IsSound, RunsSoundly, TakeTurns, marks_shown}
use Rattle.sound_images.proofs.EveryRun.{every_run}
use Rattle.sound_images.proofs.States.{Shows}
use Rattle.sound_images.proofs.Tells.{tells_program}
use Rattle.sound_images.proofs.Turns.{all_turns}
use Rattle.sound_images.proofs.Unmarked.{halts_unmarked}
use Rattle.sound_images.proofs.Whole.{IsRun, first_spot, run_keeps}

-- ---- the laws that are used

pub record RunLaws : Type 0 where
  pub begins : (p : Program) (c : Core) (world : World) (scheme : Scheme) (times : List ℕ) → IsWellFormed c → ((q : ℕ) → p.values q ≡ values_in world.feeds q) → (t : CoreTask)
      → MemoryStands p (doing_of (rules_of c world) scheme t) false (slice_index (fram_of c.arrays)) (λ _. 0) (first_state c scheme times)
  pub shows : (c : Core) (scheme : Scheme) → Shows c scheme
  pub fails : (p : Program) (c : Core) (world : World) (scheme : Scheme) → IsWellFormed c → FailsWell p (rules_of c world) scheme
  pub due : (p : Program) (place_of : ℕ → Place) → HaltsUnmarked p → (rows : List PowerRow) (m : Spot) → AreDueOver p place_of rows m (looks_of (journal place_of p rows (live m)))
  pub follows : (p : Program) (place_of : ℕ → Place) (c : Core) (world : World) (scheme : Scheme) → RunsPlan p place_of (planned c world scheme) → IsWellFormed c
      → (rows : List PowerRow) (m : Spot) (s : State) → StartsWell p place_of (planned c world scheme) rows m s → AreFollowed p place_of (planned c world scheme) rows m s
  pub timed : (p : Program) (place_of : ℕ → Place) (world : World) (s : machine.State) → IsWithinLimits world → s.clock ≡ 0
      → AllByRecursion (λ (boot : Boot). AllByRecursion (λ (e : ℕ × JournalEvent). IsTimed world e.0 e.1) boot.events) (boots place_of p world.power 0 s)
  pub ends : (p : Program) (place_of : ℕ → Place) (c : Core) (world : World) (scheme : Scheme) → RunsPlan p place_of (planned c world scheme) → HaltsUnmarked p → FailsWell p (rules_of c world) scheme
      → (rows : List PowerRow) (before : ℕ) (m : Spot) (s : State) → m.pc ≡ 0 → Lasts p (rules_of c world) scheme (live m) s → s.task ≤ length c.tasks → AreFollowed p place_of (planned c world scheme) rows m s
      → AllEndWell s.task (before + total_steps p rows (live m)) (boots place_of p rows before (live m)) (end_of (last_ending p rows (live m)))

-- ---- one world

module _ (law : RunLaws) (c : Core) (scheme : Scheme) (i : Image) (well : IsWellFormed c) (image : IsImageOf (plan_of c scheme) c i) where
  -- an image's machine has the program of the plan's code
  pub program_same : (values : ℕ → List ℕ) → program_in i values ≡ program_by (plan_of c scheme) c values
  program_same values = λ j. program_of (image.code j) (image.marks j) values

  module _ (world : World) (limits : IsWithinLimits world) where
    abbrev pub its_program : Program
    its_program = program_in i (values_in world.feeds)

    abbrev looks_shown : List ℕ
    looks_shown = looks_of (journal_on i world)

    -- it begins with the plan's first state, whatever looks that is given
    first_lasts : (looks : List ℕ) → Lasts its_program (rules_of c world) scheme (live (first_spot i)) (started (planned c world scheme) looks)
    first_lasts looks t may = record {
      memory = state_fails its_program (doing_of (rules_of c world) scheme t) (slice_index i.fram) (λ _. 0) (first_state c scheme looks)
          (subst (λ (fram : List ℕ). MemoryStands its_program (doing_of (rules_of c world) scheme t) false (slice_index fram) (λ _. 0) (first_state c scheme looks)) (sym image.fram)
          (law.begins its_program c world scheme looks well (λ q. refl) t));
      follows = record { records = λ k site held. absurd (omega (arith, held)); past = λ k. omega arith };
    }

    module _ (plan : RunsPlan its_program (place_in i) (planned c world scheme)) where
      followed : AreFollowed its_program (place_in i) (planned c world scheme) world.power (first_spot i) (started (planned c world scheme) looks_shown)
      followed = law.follows its_program (place_in i) c world scheme plan well world.power (first_spot i) (started (planned c world scheme) looks_shown)
          (starts_well c world scheme well its_program (place_in i) (first_spot i) looks_shown refl (first_lasts looks_shown) limits.steps (let few : ticks_of world.power ≤ 4294967295 = limits.ticks in omega (arith, few))
          (law.due its_program (place_in i) (halts_unmarked i (values_in world.feeds)) world.power (first_spot i)))

      pub sound_run : IsSoundOn its_program (place_in i) (planned c world scheme) world.power (first_spot i)
      sound_run = sound_on c world scheme its_program (place_in i) (halts_unmarked i (values_in world.feeds)) (every_run c world scheme well) world.power (first_spot i) followed

      pub world_sound : AllSealed c (journal_on i world).boots (ends_from (journal_on i world).boots (journal_on i world).steps) → AtTheirTasks None (marks_shown i world) → RunsSoundly c scheme i world
      world_sound sealed marked = record {
        keeps = run_keeps c scheme i world well image (law.shows c scheme) (record {
          sound = sound_run;
          timed = law.timed its_program (place_in i) world (live (first_spot i)) limits refl;
          in_time = journal_in_time c world scheme (every_run c world scheme well) its_program (place_in i) (halts_unmarked i (values_in world.feeds)) (first_spot i) looks_shown followed refl;
          sealed = sealed;
          ends = law.ends its_program (place_in i) c world scheme plan (halts_unmarked i (values_in world.feeds)) (law.fails its_program c world scheme well) world.power 0 (first_spot i) (started (planned c world scheme) looks_shown) refl
              (first_lasts looks_shown) (let some : 0 < length c.tasks = well.some in omega (arith, some)) followed;
        });
        turns = λ bank.
            subst (λ a. TakeTurns 0 (map (λ (x : ℕ × machine.State). x.1.store a % 2) (committed_on its_program world.power (live (first_spot i))))) (sym image.state)
            (all_turns its_program (place_in i) (planned c world scheme) bank well world.power (first_spot i) (started (planned c world scheme) looks_shown) followed);
        marked = marked;
      }

  -- ---- every world

  pub image_sound : ((world : World) → IsWithinLimits world → RunsSoundly c scheme i world) → IsSound c scheme i
  image_sound runs = record { tells = tells_program c scheme i well image; runs = runs }
