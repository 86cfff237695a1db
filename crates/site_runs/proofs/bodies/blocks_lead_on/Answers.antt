-- The laws on each act of a block.
use Rattle.std.specs.Prelude.{false}
use Rattle.site_runs.proofs.Blocks.{BlockLaws, blocks_lead}
use Rattle.site_runs.proofs.bodies.blocks_lead_on.Goals as goal

pub returns : goal.returns
returns c = λ p place_of d number well here.
    let law : BlockLaws p place_of = record {
      looks = λ d number. c.looks_lead_on.ensures p place_of d number;
      enters = λ d number. c.a_block_is_entered_as_planned.ensures p place_of d number false;
      enters_cut = λ d number. c.a_beginning_of_a_block_is_cut_well.ensures p place_of d number false;
      leaves = λ d number k acts. c.a_block_is_left_as_planned.ensures p place_of d number false k acts;
      leaves_cut = λ d number k acts. c.an_end_of_a_block_is_cut_well.ensures p place_of d number false k acts;
      dropped = λ d number. c.a_record_is_dropped_as_planned.ensures p place_of d number false;
      dropped_cut = λ d number. c.a_dropped_record_is_cut_well.ensures p place_of d number false;
      seals = λ d number. c.a_block_is_sealed_as_planned.ensures p place_of d number false;
      seals_cut = λ d number. c.a_sealed_block_is_cut_well.ensures p place_of d number false;
    } in
    blocks_lead p place_of law d number well here
