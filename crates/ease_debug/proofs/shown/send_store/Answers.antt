-- One word more.
use Rattle.std.proofs.Common.{◌≡◌, ◌-◌, ◌+◌, ℕ, suc, subst, arith}
use Rattle.std.specs.List.{flat_map}
use Rattle.ease_debug.proofs.SendLemmas.{words_open, at_number}
use Rattle.power_trace.specs.Report.{number}
use Rattle.power_trace.specs.Way.{IsOnWay, way_goes, way_fails, broke}
use Rattle.power_trace.specs.Writing.{Wrote, BrokeOff}
use Rattle.word_machine.specs.Held.{core_of}
use Rattle.word_machine.specs.Places.{words_from}
use Rattle.ease_debug.proofs.shown.send_store.Goals as goal

pub returns-in_err-send_number : goal.returns-in_err-send_number
returns-in_err-send_number g c =
    let store = (core_of c.args.machine.now.held).store in
    let m : ℕ = c.args.count - (c.words.done + 1) in
    let more : c.args.count - c.words.done ≡ suc m = omega (arith, c.words-test.true) in
    let there = subst (λ l. IsOnWay (g.K.Sink.taken c.args.out.now) (g.K.Sink.taken c.words.out) (g.K.Sink.faults c.args.out.now) (g.K.Sink.faults c.words.out) l (flat_map number (words_from c.args.count c.args.base store)))
    (words_open c.args.count c.words.done m c.args.base store more) c.words.invariant in
    let off = subst (λ n. BrokeOff (g.K.Sink.taken c.words.out) (g.K.Sink.taken c.send_number.new.out) (g.K.Sink.faults c.words.out) (g.K.Sink.faults c.send_number.new.out) (number n))
    (at_number store _ _ _ _ c.word_at.ensures c.from.ensures) c.in_err-send_number.ensures in
    broke _ _ _ _ _ _ c.from_residual.ensures.0 (way_fails _ _ _ _ _ _ _ _ _ there off)

pub words-preserved : goal.words-preserved
words-preserved g c =
    let store = (core_of c.args.machine.now.held).store in
    let m : ℕ = c.args.count - (c.words.done + 1) in
    let more : c.args.count - c.words.done ≡ suc m = omega (arith, c.words-test.true) in
    let there = subst (λ l. IsOnWay (g.K.Sink.taken c.args.out.now) (g.K.Sink.taken c.words.out) (g.K.Sink.faults c.args.out.now) (g.K.Sink.faults c.words.out) l (flat_map number (words_from c.args.count c.args.base store)))
    (words_open c.args.count c.words.done m c.args.base store more) c.words.invariant in
    let on = subst (λ n. Wrote (g.K.Sink.taken c.words.out) (g.K.Sink.taken c.send_number.new.out) (g.K.Sink.faults c.words.out) (g.K.Sink.faults c.send_number.new.out) (number n))
    (at_number store _ _ _ _ c.word_at.ensures c.from.ensures) c.in_ok-send_number.ensures in
    way_goes _ _ _ _ _ _ _ _ _ there on
