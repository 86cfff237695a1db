-- It has room.
use Rattle.ease_debug.proofs.SendLemmas.{number_whole}
use Rattle.ease_debug.proofs.shown.number_line.Goals as goal

pub returns : goal.returns
returns c = number_whole _ _ _ c.args.n _ c.new-line.ensures c.ranges.n.fits c.from.ensures c.put.ensures c.put_number.ensures
