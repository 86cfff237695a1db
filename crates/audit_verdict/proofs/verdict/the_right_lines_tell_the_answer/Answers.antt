-- By the law on answers, at the report of these lines.
use Rattle.std.proofs.Common.{refl}
use Rattle.std.specs.List.{flat_map}
use Rattle.report_text.specs.Grammar.{IsReport, row}
use Rattle.audit_verdict.proofs.verdict.the_right_lines_tell_the_answer.Goals as goal

pub returns : goal.returns
returns c =
    let law = c.the_lines_that_are_right_tell_the_answer.ensures in
    let lines = c.args.lines.now in
    let boots = c.args.boots.now in
    let n = c.args.allowed in
    let at = c.requires.allowed in
    let is : IsReport (flat_map row lines) lines = record { are = c.requires.lines; spelled = refl } in
    record {
      right = law.right (flat_map row lines) lines is boots at.told n at.reach;
      only = law.only (flat_map row lines) lines is boots at.told n at.reach;
      within = law.within (flat_map row lines) lines is boots at.told n at.reach;
    }
