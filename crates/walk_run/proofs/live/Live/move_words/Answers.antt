-- A word more is moved.
use Rattle.std.proofs.Common.{◌∙◌}
use Rattle.walk_run.proofs.Steps.{word_moved, room_after}
use Rattle.walk_run.proofs.live.Live.move_words.Goals as goal

pub words-preserved : goal.words-preserved
words-preserved c = record {
  left = word_moved c.args.words c.words.moved c.args.to.array c.args.to.index c.args.from.array c.args.from.index _ _ _ c.words-test.true c.get-word.ensures c.set.ensures.word
      ∙ c.words.invariant.left;
  to = room_after _ _ _ _ _ _ c.set.ensures.word c.words.invariant.to;
  from = room_after _ _ _ _ _ _ c.set.ensures.word c.words.invariant.from;
}
