-- The line of a trap is written as one piece.
use Rattle.std.proofs.Common.{◌∙◌}
use Rattle.power_trace.specs.Way.{sent}
use Rattle.power_trace.proofs.rows.send_trap.Goals as goal

pub returns : goal.returns
returns g c image =
    let call = c.send_all.ensures in
    sent _ _ _ _ _ _ _ call.whole call.front call.failed call.faults call.steady (c.as_slice.ensures ∙ c.trap_line.ensures image)
