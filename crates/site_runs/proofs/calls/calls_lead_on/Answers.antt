-- The laws on each act, at the places where its code lies.
use Rattle.std.specs.Prelude.{false, true}
use Rattle.site_runs.proofs.CallLaws.{CallLaws}
use Rattle.site_runs.proofs.Calling.{calls_lead}
use Rattle.site_runs.proofs.calls.calls_lead_on.Goals as goal

pub returns : goal.returns
returns c = λ p place_of d number well here limits.
    let law : CallLaws p place_of = record {
      look = record {
        looked = λ x f k next m. c.a_look_keeps_the_time.ensures p x f k next m;
        looks = λ d number k. c.a_look_is_as_planned.ensures p place_of d number false k;
        looks_cut = λ d number k. c.a_look_is_cut_well.ensures p place_of d number false k;
      };
      values = λ d number. c.a_call_is_valued_as_planned.ensures p place_of d number false;
      values_aimed = λ d number. c.a_call_with_a_target_is_valued_as_planned.ensures p place_of d number false;
      values_cut = λ d number k. c.a_value_of_a_call_is_cut_well.ensures p place_of d number false k k;
      chooses = λ d number. c.a_call_chooses_as_planned.ensures p place_of d number false;
      chooses_cut = λ d number. c.a_choice_of_a_call_is_cut_well.ensures p place_of d number false;
      drops = λ d number. c.a_record_is_dropped_as_planned.ensures p place_of d number false;
      drops_cut = λ d number. c.a_dropped_record_is_cut_well.ensures p place_of d number false;
      issues = λ d number. c.a_call_is_issued_as_planned.ensures p place_of d number false;
      issues_cut = λ d number k. c.an_issue_is_cut_well.ensures p place_of d number false k k;
      seals = λ d number. c.a_call_is_sealed_as_planned.ensures p place_of d number false;
      seals_cut = λ d number. c.a_sealed_call_is_cut_well.ensures p place_of d number false;
      takes = λ d number. c.a_kept_word_is_taken_as_planned.ensures p place_of d number true;
      takes_cut = λ d number. c.a_taken_word_is_cut_well.ensures p place_of d number true;
      writes = λ d number. c.a_word_is_written_as_planned.ensures p place_of d number false;
      writes_nothing = λ d number. c.a_word_without_a_target_is_not_written_as_planned.ensures p place_of d number false;
      writes_cut = λ d number. c.a_written_word_is_cut_well.ensures p place_of d number false;
      relates = c.memory_is_related_between_acts.ensures p;
    } in
    calls_lead p place_of law d number well here limits
