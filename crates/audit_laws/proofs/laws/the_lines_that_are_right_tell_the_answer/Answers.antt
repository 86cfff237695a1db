-- By the laws on definitions, and those on events and their texts.
use Rattle.audit_laws.proofs.FrontLaws.{fronts_of, answer_is, answer_only}
use Rattle.audit_laws.proofs.TextLaws.{event_whose}
use Rattle.audit_laws.proofs.laws.the_lines_that_are_right_tell_the_answer.Goals as goal

pub returns : goal.returns
returns c =
    let core = c.args.c.now in
    let world = c.args.world.now in
    let at = fronts_of world core (λ e named. c.an_event_and_its_text_give_each_other.ensures.given core e c.requires named)
    (λ t e good told. c.an_event_and_its_text_give_each_other.ensures.told core t e c.requires good told) (event_whose core) in
    record {
      right = λ bytes lines is boots these n reach. answer_is core world bytes lines _ is (at lines is.are boots these n reach);
      only = λ bytes lines is boots these n reach a answers. answer_only core world lines _ (at lines is.are boots these n reach) a answers;
      within = λ bytes lines is boots these n reach. (at lines is.are boots these n reach).within;
    }
