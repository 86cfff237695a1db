-- A word more is read.
use Rattle.walk_run.specs.Store.{words_of}
use Rattle.audit_check.proofs.RangeLaws.{word_read}
use Rattle.audit_check.proofs.ranges.words_at.Goals as goal

pub words-preserved : goal.words-preserved
words-preserved c =
    word_read (words_of c.args.live.now c.args.at.array) c.words.read c.push_behind.new.read c.args.at.index c.words.behind c.words.invariant c.in_ok-push_behind.ensures
