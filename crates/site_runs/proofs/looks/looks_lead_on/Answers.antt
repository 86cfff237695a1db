-- By the laws on a look's code.
use Rattle.std.specs.Prelude.{false}
use Rattle.site_runs.proofs.Looking.{LookLaws, attempt_looks}
use Rattle.site_runs.proofs.looks.looks_lead_on.Goals as goal

pub returns : goal.returns
returns c = λ p place_of d number well here k blocks most at next go lies leads.
    let law : LookLaws p place_of = record {
      looked = λ x f k next m. c.a_look_keeps_the_time.ensures p x f k next m;
      looks = λ d number k. c.a_look_is_as_planned.ensures p place_of d number false k;
      looks_cut = λ d number k. c.a_look_is_cut_well.ensures p place_of d number false k;
    } in
    attempt_looks p place_of law d number well here blocks k at next most go lies leads
