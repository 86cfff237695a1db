-- It has room.
use Rattle.ease_debug.proofs.SendLemmas.{why_whole}
use Rattle.ease_debug.proofs.shown.why_text.Goals as goal

pub returns : goal.returns
returns c = why_whole _ _ _ _ _ _ _ c.args.site _ c.args.why c.new-line.ensures c.ranges.site.fits c.from.ensures c.word.ensures c.put.ensures c.put_number.ensures c.put-2.ensures c.put-3.ensures c.put-4.ensures
