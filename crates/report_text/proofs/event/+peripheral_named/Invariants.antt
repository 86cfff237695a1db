-- The peripherals that are left.
use Rattle.std.proofs.Common.{length}
use Rattle.report_text.proofs.event.+peripheral_named.Given as goal

abbrev pub decreases-peripheral_named : goal.decreases-peripheral_named
decreases-peripheral_named l = length l.peripherals.now
