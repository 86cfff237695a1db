-- One piece after another.
use Rattle.std.specs.Prelude.{codes, ◌++◌}
use Rattle.std.specs.List.{flat_map}
use Rattle.ease_debug.proofs.SendLemmas.{both, broke_early, broke_late, last_piece}
use Rattle.power_trace.specs.Report.{number}
use Rattle.power_trace.specs.Way.{broke}
use Rattle.word_machine.specs.Held.{core_of}
use Rattle.word_machine.specs.Places.{words_from}
use Rattle.ease_debug.proofs.shown.send_registers.Goals as goal

pub returns-in_err-send : goal.returns-in_err-send
returns-in_err-send g c =
    let m = core_of c.args.machine.now.held in
    let r = flat_map number (words_from 16 0 m.regs) in
    broke _ _ _ _ _ _ c.from_residual.ensures.0
    (broke_early _ _ _ _ (codes "regs" ++ number m.pc ++ r) (codes "\n") (broke_early _ _ _ _ (codes "regs" ++ number m.pc) r (broke_early _ _ _ _ (codes "regs") (number m.pc) c.in_err-send.ensures)))

pub returns-in_err-send_number : goal.returns-in_err-send_number
returns-in_err-send_number g c =
    let m = core_of c.args.machine.now.held in
    let r = flat_map number (words_from 16 0 m.regs) in
    broke _ _ _ _ _ _ c.from_residual-in_err-send_number.ensures.0
    (broke_early _ _ _ _ (codes "regs" ++ number m.pc ++ r) (codes "\n") (broke_early _ _ _ _ (codes "regs" ++ number m.pc) r (broke_late _ _ _ _ _ _ (codes "regs") (number m.pc) c.in_ok-send.ensures (rw c.pc.ensures at c.in_err-send_number.ensures))))

pub returns-in_err-send_sixteen : goal.returns-in_err-send_sixteen
returns-in_err-send_sixteen g c =
    let m = core_of c.args.machine.now.held in
    let r = flat_map number (words_from 16 0 m.regs) in
    let two = both _ _ _ _ _ _ (codes "regs") (number m.pc) c.in_ok-send.ensures (rw c.pc.ensures at c.in_ok-send_number.ensures) in
    broke _ _ _ _ _ _ c.from_residual-in_err-send_sixteen.ensures.0
    (broke_early _ _ _ _ (codes "regs" ++ number m.pc ++ r) (codes "\n") (broke_late _ _ _ _ _ _ (codes "regs" ++ number m.pc) r two c.in_err-send_sixteen.ensures))

pub returns : goal.returns
returns g c =
    let m = core_of c.args.machine.now.held in
    let r = flat_map number (words_from 16 0 m.regs) in
    let two = both _ _ _ _ _ _ (codes "regs") (number m.pc) c.in_ok-send.ensures (rw c.pc.ensures at c.in_ok-send_number.ensures) in
    let three = both _ _ _ _ _ _ (codes "regs" ++ number m.pc) r two c.in_ok-send_sixteen.ensures in
    last_piece _ _ _ _ _ _ _ (codes "regs" ++ number m.pc ++ r) (codes "\n") three c.send-2.ensures
