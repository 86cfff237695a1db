-- The peripherals that are left.
use Rattle.std.proofs.Common.{length}
use Rattle.power_trace.proofs.event_text.+put_peripheral.Given as goal

abbrev pub decreases-put_peripheral : goal.decreases-put_peripheral
decreases-put_peripheral l = length l.peripherals.now
