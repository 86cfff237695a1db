-- One register more.
use Rattle.std.proofs.Common.{◌≡◌, ◌-◌, ◌+◌, ℕ, suc, subst, arith}
use Rattle.std.specs.List.{flat_map}
use Rattle.ease_debug.proofs.SendLemmas.{words_at}
use Rattle.power_trace.specs.Report.{number}
use Rattle.power_trace.specs.Way.{IsOnWay, way_goes, way_fails, broke}
use Rattle.power_trace.specs.Writing.{Wrote, BrokeOff}
use Rattle.word_machine.specs.Held.{core_of}
use Rattle.word_machine.specs.Places.{words_from}
use Rattle.ease_debug.proofs.shown.send_sixteen.Goals as goal

pub returns-in_err-send_number : goal.returns-in_err-send_number
returns-in_err-send_number g c =
    let regs = (core_of c.args.machine.now.held).regs in
    let m : ℕ = 16 - (c.registers.r + 1) in
    let more : 16 - c.registers.r ≡ suc m = omega (arith, c.registers-test.true) in
    let there = subst (λ l. IsOnWay (g.K.Sink.taken c.args.out.now) (g.K.Sink.taken c.registers.out) (g.K.Sink.faults c.args.out.now) (g.K.Sink.faults c.registers.out) l (flat_map number (words_from 16 0 regs)))
    (words_at (16 - c.registers.r) m c.registers.r regs more) c.registers.invariant in
    let off = subst (λ n. BrokeOff (g.K.Sink.taken c.registers.out) (g.K.Sink.taken c.send_number.new.out) (g.K.Sink.faults c.registers.out) (g.K.Sink.faults c.send_number.new.out) (number n))
    c.register.ensures c.in_err-send_number.ensures in
    broke _ _ _ _ _ _ c.from_residual.ensures.0 (way_fails _ _ _ _ _ _ _ _ _ there off)

pub registers-preserved : goal.registers-preserved
registers-preserved g c =
    let regs = (core_of c.args.machine.now.held).regs in
    let m : ℕ = 16 - (c.registers.r + 1) in
    let more : 16 - c.registers.r ≡ suc m = omega (arith, c.registers-test.true) in
    let there = subst (λ l. IsOnWay (g.K.Sink.taken c.args.out.now) (g.K.Sink.taken c.registers.out) (g.K.Sink.faults c.args.out.now) (g.K.Sink.faults c.registers.out) l (flat_map number (words_from 16 0 regs)))
    (words_at (16 - c.registers.r) m c.registers.r regs more) c.registers.invariant in
    let on = subst (λ n. Wrote (g.K.Sink.taken c.registers.out) (g.K.Sink.taken c.send_number.new.out) (g.K.Sink.faults c.registers.out) (g.K.Sink.faults c.send_number.new.out) (number n))
    c.register.ensures c.in_ok-send_number.ensures in
    way_goes _ _ _ _ _ _ _ _ _ there on
