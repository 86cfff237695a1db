-- Its code runs the plan, and its records are sealed in time.
use Rattle.std.proofs.Common.{refl, subst, sym}
use Rattle.code_cuts.specs.Boots.{RunsPlan}
use Rattle.devices.specs.Reading.{values_in}
use Rattle.plan_restore.specs.Kept.{planned}
use Rattle.power_trace.specs.Report.{place_in}
use Rattle.run_plan.specs.PlanOf.{plan_of}
use Rattle.task_attempts.specs.Boots.{rules_of}
use Rattle.code_places.specs.Placed.{IsPlaced, program_by}
use Rattle.site_runs.specs.Told.{TellsPlaces}
use Rattle.sound_images.proofs.Soundness.{RunLaws, image_sound, program_same, sound_run, world_sound}
use Rattle.sound_images.proofs.ToldPlaces.{told_kept, told_place}
use Rattle.sound_images.proofs.Whole.{first_spot}
use Rattle.sound_images.proofs.laws.every_image_is_sound.Goals as goal

pub returns : goal.returns
returns g = λ i image.
    let c = g.args.c.now in
    let scheme = g.args.scheme in
    let well = g.requires in
    let law : RunLaws = record {
      begins = λ p core world scheme times well values t. g.an_image_begins_with_the_first_state.ensures p core world scheme times well values t;
      shows = λ core scheme m s store tidy. g.the_symbols_show_what_is_committed.ensures core scheme m s store tidy;
      fails = λ p core world scheme well. g.a_failure_leaves_what_lasts.ensures p (rules_of core world) scheme well;
      due = λ p place_of unmarked rows m. g.the_looks_of_a_journal_are_due.ensures p place_of unmarked rows m;
      follows = λ p place_of core world scheme runs well rows m s starts. g.a_run_over_power_rows_is_followed.ensures p place_of (planned core world scheme) runs well rows m s starts;
      timed = λ p place_of world s limits zero_is. g.the_time_of_each_look_is_the_clock.ensures p place_of world s limits zero_is;
      ends = λ p place_of core world scheme runs unmarked fails rows before m s pc lasts there followed.
          g.a_machine_halts_where_nothing_is_left.ensures p place_of (planned core world scheme) runs unmarked fails rows before m s pc lasts there followed;
    } in
    image_sound law c scheme i well image (λ world limits.
    let values = values_in world.feeds in
    let same = program_same law c scheme i well image values in
    let placed : IsPlaced _ (plan_of c scheme) c = subst (λ p. IsPlaced p (plan_of c scheme) c) (sym same) (g.the_code_of_a_plan_lies_in_its_image.ensures values) in
    let tells : TellsPlaces (place_in i) c scheme = record { places = λ bank is at inside. told_place c scheme i well image bank is at inside; kept = λ n few. told_kept c scheme i image n few } in
    let plan : RunsPlan _ (place_in i) (planned c world scheme) =
    subst (λ p. RunsPlan p (place_in i) (planned c world scheme)) (sym same) (g.an_image_runs_its_plan.ensures world values (place_in i) limits tells) in
    world_sound law c scheme i well image world limits plan
    (g.a_journal_of_the_rules_is_sealed_in_time.ensures _ (place_in i) placed (g.the_places_of_an_image_tell_memory.ensures i image) (rules_of c world) refl world.power (first_spot i) refl
    (sound_run law c scheme i well image world limits plan).keeps.expected)
    (g.every_image_names_the_tasks_of_its_events.ensures i image world))
