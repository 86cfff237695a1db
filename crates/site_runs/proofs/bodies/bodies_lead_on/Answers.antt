-- One induction over the statements of a body, with the laws on each act without sites.
use Rattle.std.specs.Prelude.{false}
use Rattle.code_runs.proofs.BareLaws.{BareLaws}
use Rattle.site_runs.proofs.Statements.{task_body_leads}
use Rattle.site_runs.proofs.bodies.bodies_lead_on.Goals as goal

pub returns : goal.returns
returns c = λ p place_of d number well here formed calls copies.
    let law : BareLaws p place_of = record {
      restores = λ d number r. c.a_region_is_restored_as_planned.ensures p place_of d number false r;
      restores_cut = λ d number r. c.a_region_is_restored_in_cuts.ensures p place_of d number false r;
      begins = λ d number task. c.an_attempt_begins_as_planned.ensures p place_of d number false task;
      begins_banks = λ d number task. c.an_attempt_begins_under_bank_as_planned.ensures p place_of d number false task;
      begins_cut = λ d number task. c.a_beginning_is_cut_well.ensures p place_of d number false task;
      saves = λ d number r. c.a_region_is_saved_as_planned.ensures p place_of d number false r;
      saves_cut = λ d number r. c.a_region_is_saved_in_cuts.ensures p place_of d number false r;
      locks = λ d number r. c.a_lock_is_set_as_planned.ensures p place_of d number false r;
      locks_cut = λ d number r. c.a_lock_is_cut_well.ensures p place_of d number false r;
      plains = λ d number. c.a_statement_is_done_as_planned.ensures p place_of d number false;
      plains_cut = λ d number. c.a_statement_is_cut_well.ensures p place_of d number false;
      tests = λ d number. c.a_test_goes_as_planned.ensures p place_of d number false;
      tests_cut = λ d number. c.a_test_is_cut_well.ensures p place_of d number false;
      commits = λ d number. c.a_commit_leaves_a_step.ensures p place_of d number false;
      commits_cut = λ d number. c.a_commit_is_cut_well.ensures p place_of d number false;
      relates = c.memory_is_related_between_acts.ensures p;
    } in
    task_body_leads p place_of law d number well here formed calls copies (c.blocks_lead_on.ensures p place_of d number well here)
