-- The boots, and then the end.
use Rattle.std.proofs.Common.{◌∙◌}
use Rattle.power_trace.proofs.ReportLemmas.{report_is, whole_is, front_all, front_last}
use Rattle.power_trace.proofs.runner.Runner.run.Goals as goal

pub returns-in_err-send_all-clause-front : goal.returns-in_err-send_all-clause-front
returns-in_err-send_all-clause-front g c =
    let is = report_is c.args.self c.args.brief _ _ _ _ _ c.args.power.now _ _ c.self.view_is c.self.invariant.state c.self.invariant.program c.as_slice.ensures c.in_ok-end.ensures.steps c.in_ok-end.ensures.end in
    let last = c.as_slice-2.ensures ∙ c.end_line.ensures c.self.inside.image.now in
    front_last _ _ _ _ _ _ _ _ _ c.in_ok-end.ensures.text c.in_err-send_all.ensures.front last is

pub returns-clause-whole : goal.returns-clause-whole
returns-clause-whole g c =
    let is = report_is c.args.self c.args.brief _ _ _ _ _ c.args.power.now _ _ c.self.view_is c.self.invariant.state c.self.invariant.program c.as_slice.ensures c.in_ok-end.ensures.steps c.in_ok-end.ensures.end in
    let last = c.as_slice-2.ensures ∙ c.end_line.ensures c.self.inside.image.now in
    whole_is _ _ _ _ _ _ _ _ _ c.in_ok-end.ensures.text c.in_ok-send_all.ensures.whole last is

pub returns-clause-front : goal.returns-clause-front
returns-clause-front g c =
    let is = report_is c.args.self c.args.brief _ _ _ _ _ c.args.power.now _ _ c.self.view_is c.self.invariant.state c.self.invariant.program c.as_slice.ensures c.in_ok-end.ensures.steps c.in_ok-end.ensures.end in
    let last = c.as_slice-2.ensures ∙ c.end_line.ensures c.self.inside.image.now in
    front_all _ _ _ (whole_is _ _ _ _ _ _ _ _ _ c.in_ok-end.ensures.text c.in_ok-send_all.ensures.whole last is)
