-- The answer is a trap, and its line is written.
use Rattle.std.proofs.Common.{ap, sym}
use Rattle.power_trace.specs.Run.{told_text}
use Rattle.power_trace.specs.Way.{written_as}
use Rattle.power_trace.proofs.rows.send_told.Goals as goal

pub returns-in-Trapped : goal.returns-in-Trapped
returns-in-Trapped g c =
    written_as _ _ _ _ _ _ _ (c.send_trap.ensures c.args.image.now) (sym (ap (told_text c.args.image.now c.args.brief c.args.step) c.in-Trapped.is))
