-- The looks are those of the journal, and as many epochs as steps are there.
use Rattle.task_attempts.specs.Journals.{looks_of}
use Rattle.word_machine.specs.Runs.{journal}
use Rattle.word_machine.specs.Straight.{live}
use Rattle.plan_restore.specs.Kept.{planned}
use Rattle.run_plan.specs.Runs.{started}
use Rattle.sound_runs.proofs.Starting.{starts_well}
use Rattle.sound_runs.proofs.laws.code_that_runs_a_plan_keeps_what_the_rules_say.Goals as goal

pub returns : goal.returns
returns c = λ p place_of runs unmarked few m pc ticks lasts.
    let x = planned c.args.c.now c.args.world.now c.args.scheme in
    let rows = c.args.world.now.power in
    let times = looks_of (journal place_of p rows (live m)) in
    c.a_journal_keeps_what_the_rules_say.ensures p place_of unmarked rows m
    (c.a_run_over_power_rows_is_followed.ensures p place_of x runs c.requires rows m (started x times)
    (starts_well c.args.c.now c.args.world.now c.args.scheme c.requires p place_of m times pc (lasts times) few ticks (c.the_looks_of_a_journal_are_due.ensures p place_of unmarked rows m)))
