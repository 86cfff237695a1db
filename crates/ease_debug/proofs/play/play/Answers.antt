-- The first boot, the commands, and the end.
use Rattle.std.specs.Prelude.{◌++◌}
use Rattle.std.proofs.Common.{◌∙◌, subst}
use Rattle.ease_debug.proofs.SendLemmas.{both, broke_early, broke_late}
use Rattle.ease_debug.specs.Session.{boot_text, does_all, first, end_of}
use Rattle.ease_debug.specs.Shown.{last_line}
use Rattle.power_trace.specs.Live.{program_in_live}
use Rattle.power_trace.specs.Way.{broke}
use Rattle.power_trace.specs.Writing.{Wrote, BrokeOff}
use Rattle.ease_debug.proofs.play.play.Goals as goal

pub returns-in_err-send-clause-text : goal.returns-in_err-send-clause-text
returns-in_err-send-clause-text g c =
    let d = does_all c.args.debugger.now.image (program_in_live c.args.debugger.now.live) c.args.commands.now (first c.args.debugger.now.image) in
    let off = subst (BrokeOff (g.K.Sink.taken c.args.out.now) (g.K.Sink.taken c.send.new.out) (g.K.Sink.faults c.args.out.now) (g.K.Sink.faults c.send.new.out)) (c.as_slice.ensures ∙ c.boot_line.ensures c.args.debugger.now.image) c.in_err-send.ensures in
    broke _ _ _ _ _ _ c.from_residual.ensures.0 (broke_early _ _ _ _ (boot_text 1 ++ d.lines) (last_line (end_of d.session)) (broke_early _ _ _ _ (boot_text 1) d.lines off))

pub returns-in_err-do_all-clause-text : goal.returns-in_err-do_all-clause-text
returns-in_err-do_all-clause-text g c =
    let d = does_all c.args.debugger.now.image (program_in_live c.args.debugger.now.live) c.args.commands.now (first c.args.debugger.now.image) in
    let one = subst (Wrote (g.K.Sink.taken c.args.out.now) (g.K.Sink.taken c.send.new.out) (g.K.Sink.faults c.args.out.now) (g.K.Sink.faults c.send.new.out)) (c.as_slice.ensures ∙ c.boot_line.ensures c.args.debugger.now.image) c.in_ok-send.ensures in
    broke _ _ _ _ _ _ c.from_residual-in_err-do_all.ensures.0 (broke_early _ _ _ _ (boot_text 1 ++ d.lines) (last_line (end_of d.session)) (broke_late _ _ _ _ _ _ (boot_text 1) d.lines one (c.in_err-do_all.ensures.goes _ c.requires.first)))

pub returns-in_err-send_end-clause-text : goal.returns-in_err-send_end-clause-text
returns-in_err-send_end-clause-text g c =
    let d = does_all c.args.debugger.now.image (program_in_live c.args.debugger.now.live) c.args.commands.now (first c.args.debugger.now.image) in
    let one = subst (Wrote (g.K.Sink.taken c.args.out.now) (g.K.Sink.taken c.send.new.out) (g.K.Sink.faults c.args.out.now) (g.K.Sink.faults c.send.new.out)) (c.as_slice.ensures ∙ c.boot_line.ensures c.args.debugger.now.image) c.in_ok-send.ensures in
    let did = c.in_ok-do_all.ensures.goes _ c.requires.first in
    let two = both _ _ _ _ _ _ (boot_text 1) d.lines one did.1 in
    let off = subst (λ e. BrokeOff (g.K.Sink.taken c.do_all.new.out) (g.K.Sink.taken c.send_end.new.out) (g.K.Sink.faults c.do_all.new.out) (g.K.Sink.faults c.send_end.new.out) (last_line e)) (c.end-end.ensures d.session did.0) c.in_err-send_end.ensures in
    broke _ _ _ _ _ _ c.from_residual-in_err-send_end.ensures.0 (broke_late _ _ _ _ _ _ (boot_text 1 ++ d.lines) (last_line (end_of d.session)) two off)

pub returns-clause-text : goal.returns-clause-text
returns-clause-text g c =
    let d = does_all c.args.debugger.now.image (program_in_live c.args.debugger.now.live) c.args.commands.now (first c.args.debugger.now.image) in
    let one = subst (Wrote (g.K.Sink.taken c.args.out.now) (g.K.Sink.taken c.send.new.out) (g.K.Sink.faults c.args.out.now) (g.K.Sink.faults c.send.new.out)) (c.as_slice.ensures ∙ c.boot_line.ensures c.args.debugger.now.image) c.in_ok-send.ensures in
    let did = c.in_ok-do_all.ensures.goes _ c.requires.first in
    let two = both _ _ _ _ _ _ (boot_text 1) d.lines one did.1 in
    let three = subst (λ e. Wrote (g.K.Sink.taken c.do_all.new.out) (g.K.Sink.taken c.send_end.new.out) (g.K.Sink.faults c.do_all.new.out) (g.K.Sink.faults c.send_end.new.out) (last_line e)) (c.end-end.ensures d.session did.0) c.in_ok-send_end.ensures in
    both _ _ _ _ _ _ (boot_text 1 ++ d.lines) (last_line (end_of d.session)) two three

pub returns-clause-end : goal.returns-clause-end
returns-clause-end g c = c.end-end.ensures _ (c.in_ok-do_all.ensures.goes _ c.requires.first).0
