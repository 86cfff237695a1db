-- A word more is moved.
use Rattle.std.proofs.Common.{◌∙◌}
use Rattle.walk_run.proofs.Steps.{word_moved}
use Rattle.audit_check.proofs.ranges.move_words.Goals as goal

pub words-preserved : goal.words-preserved
words-preserved c =
    word_moved c.args.words c.words.moved c.args.to.array c.args.to.index c.args.from.array c.args.from.index _ _ _ c.words-test.true c.word_behind-word.ensures c.put_behind.ensures
    ∙ c.words.invariant
