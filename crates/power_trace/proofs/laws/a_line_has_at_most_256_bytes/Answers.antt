-- By the bounds on the parts of a line.
use Rattle.power_trace.proofs.ShortLemmas.{event_line_short, boot_line_short, end_line_short}
use Rattle.power_trace.proofs.laws.a_line_has_at_most_256_bytes.Goals as goal

pub returns : goal.returns
returns c = record { event = event_line_short; boot = boot_line_short; end = end_line_short }
