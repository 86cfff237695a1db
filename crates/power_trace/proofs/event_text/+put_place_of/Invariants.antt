-- The symbols that are left.
use Rattle.std.proofs.Common.{length}
use Rattle.power_trace.proofs.event_text.+put_place_of.Given as goal

abbrev pub decreases-put_place_of : goal.decreases-put_place_of
decreases-put_place_of l = length l.symbols.now
