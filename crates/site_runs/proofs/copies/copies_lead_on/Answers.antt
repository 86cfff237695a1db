-- The laws on each act, at the places where its code lies.
use Rattle.site_runs.proofs.CopyLaws.{CopyLaws}
use Rattle.site_runs.proofs.Copying.{copies_lead}
use Rattle.site_runs.proofs.copies.copies_lead_on.Goals as goal
use Rattle.std.specs.Prelude.{false}

pub returns : goal.returns
returns c = λ p place_of d number well here firsts told.
    let law : CopyLaws p place_of = record {
      way = record {
        saves = λ d number. c.a_region_is_saved_as_planned.ensures p place_of d number false;
        saves_cut = λ d number. c.a_region_is_saved_in_cuts.ensures p place_of d number false;
        locks = λ d number. c.a_lock_is_set_as_planned.ensures p place_of d number false;
        locks_cut = λ d number. c.a_lock_is_cut_well.ensures p place_of d number false;
        values = λ d number. c.a_copy_is_valued_as_planned.ensures p place_of d number false;
        values_cut = λ d number k. c.a_value_of_a_copy_is_cut_well.ensures p place_of d number false k k;
        chooses = λ d number. c.a_copy_chooses_as_planned.ensures p place_of d number false;
        chooses_cut = λ d number. c.a_choice_of_a_copy_is_cut_well.ensures p place_of d number false;
        classes = c.a_copy_goes_by_its_class_as_planned.ensures p place_of;
        classes_cut = c.a_copy_by_its_class_is_cut_well.ensures p place_of;
      };
      word = record {
        across = c.words_go_across_as_planned.ensures p place_of;
        across_cut = c.words_that_go_across_are_cut_well.ensures p place_of;
        aside = c.words_go_aside_as_planned.ensures p place_of;
        aside_cut = c.words_that_go_aside_are_cut_well.ensures p place_of;
        back = c.words_come_back_as_planned.ensures p place_of;
        back_cut = c.words_that_come_back_are_cut_well.ensures p place_of;
        keeps_words = c.words_are_kept_as_planned.ensures p place_of;
        keeps_cut = c.kept_words_are_cut_well.ensures p place_of;
        puts_words = c.kept_words_are_put_as_planned.ensures p place_of;
        puts_cut = c.put_words_are_cut_well.ensures p place_of;
        seals = c.a_copy_is_sealed_as_planned.ensures p place_of;
        seals_cut = c.a_sealed_copy_is_cut_well.ensures p place_of;
      };
      relates = c.memory_is_related_between_acts.ensures p;
    } in
    copies_lead p place_of law d number well here firsts told
