-- One piece after another.
use Rattle.std.specs.Prelude.{codes, ◌++◌}
use Rattle.std.specs.List.{flat_map}
use Rattle.std.proofs.Common.{◌≡◌, ℕ, ◌+◌, subst}
use Rattle.ease_debug.proofs.SendLemmas.{both, broke_early, broke_late, last_piece}
use Rattle.ease_debug.specs.Shown.{words_in_use}
use Rattle.power_trace.specs.Report.{number}
use Rattle.power_trace.specs.Way.{broke}
use Rattle.power_trace.specs.Writing.{BrokeOff, Wrote}
use Rattle.word_machine.specs.Held.{core_of}
use Rattle.word_machine.specs.Places.{words_from}
use Rattle.ease_debug.proofs.shown.send_words.Goals as goal

base_is : (a b x y : ℕ) → a ≡ x → b ≡ y → a + b ≡ x + y
base_is a b x y e f = λ i. e i + f i

pub returns-in_err-send : goal.returns-in_err-send
returns-in_err-send g c =
    let s = c.args.symbol.now in
    let r = flat_map number (words_in_use c.args.image.now s (core_of c.args.machine.now.held).store) in
    broke _ _ _ _ _ _ c.from_residual.ensures.0
    (broke_early _ _ _ _ (s.name ++ codes " =" ++ r) (codes "\n") (broke_early _ _ _ _ (s.name ++ codes " =") r (broke_early _ _ _ _ s.name (codes " =") (rw c.as_slice.ensures at c.in_err-send.ensures))))

pub returns-in_err-send-2 : goal.returns-in_err-send-2
returns-in_err-send-2 g c =
    let s = c.args.symbol.now in
    let r = flat_map number (words_in_use c.args.image.now s (core_of c.args.machine.now.held).store) in
    broke _ _ _ _ _ _ c.from_residual-in_err-send-2.ensures.0
    (broke_early _ _ _ _ (s.name ++ codes " =" ++ r) (codes "\n") (broke_early _ _ _ _ (s.name ++ codes " =") r (broke_late _ _ _ _ _ _ s.name (codes " =") (rw c.as_slice.ensures at c.in_ok-send.ensures) c.in_err-send-2.ensures)))

pub returns-in_err-send_store : goal.returns-in_err-send_store
returns-in_err-send_store g c =
    let s = c.args.symbol.now in
    let store = (core_of c.args.machine.now.held).store in
    let r = flat_map number (words_in_use c.args.image.now s store) in
    let two = both _ _ _ _ _ _ s.name (codes " =") (rw c.as_slice.ensures at c.in_ok-send.ensures) c.in_ok-send-2.ensures in
    let base = base_is _ _ _ _ c.from.ensures c.offset_in_use.ensures.value in
    let off = subst (λ b. BrokeOff (g.K.Sink.taken c.send-2.new.out) (g.K.Sink.taken c.send_store.new.out) (g.K.Sink.faults c.send-2.new.out) (g.K.Sink.faults c.send_store.new.out) (flat_map number (words_from s.length b store))) base c.in_err-send_store.ensures in
    broke _ _ _ _ _ _ c.from_residual-in_err-send_store.ensures.0
    (broke_early _ _ _ _ (s.name ++ codes " =" ++ r) (codes "\n") (broke_late _ _ _ _ _ _ (s.name ++ codes " =") r two off))

pub returns : goal.returns
returns g c =
    let s = c.args.symbol.now in
    let store = (core_of c.args.machine.now.held).store in
    let r = flat_map number (words_in_use c.args.image.now s store) in
    let two = both _ _ _ _ _ _ s.name (codes " =") (rw c.as_slice.ensures at c.in_ok-send.ensures) c.in_ok-send-2.ensures in
    let base = base_is _ _ _ _ c.from.ensures c.offset_in_use.ensures.value in
    let there = subst (λ b. Wrote (g.K.Sink.taken c.send-2.new.out) (g.K.Sink.taken c.send_store.new.out) (g.K.Sink.faults c.send-2.new.out) (g.K.Sink.faults c.send_store.new.out) (flat_map number (words_from s.length b store))) base c.in_ok-send_store.ensures in
    let three = both _ _ _ _ _ _ (s.name ++ codes " =") r two there in
    last_piece _ _ _ _ _ _ _ (s.name ++ codes " =" ++ r) (codes "\n") three c.send-3.ensures
