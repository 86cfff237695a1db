-- A word more is put.
use Rattle.std.proofs.Common.{refl, ◌∙◌, arith}
use Rattle.audit_check.proofs.RangeLaws.{word_put}
use Rattle.audit_check.proofs.ranges.put_words.Goals as goal

pub words-preserved : goal.words-preserved
words-preserved c =
    word_put c.args.words.now c.words.put c.args.to.array c.args.to.index _ _ _ (omega (arith, c.words-test.true, c.requires)) refl c.put_behind.ensures ∙ c.words.invariant
