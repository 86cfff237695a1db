-- One block more for each turn.
use Rattle.std.proofs.Common.{refl, arith}
use Rattle.word_code.specs.Beginnings.{moved_code}
use Rattle.word_code.proofs.RepeatLemmas.{run_begins, run_goes_on, run_ends}
use Rattle.word_code.proofs.beginnings.moved.Goals as goal

pub words-init : goal.words-init
words-init c = run_begins (moved_code c.args.from c.args.to) 2 c.args.code.now c.args.count

pub words-preserved : goal.words-preserved
words-preserved c = run_goes_on (moved_code c.args.from c.args.to) 2 c.args.code.now c.words.code c.put_all.new.self c.words.word c.args.count c.words.invariant c.words-test.true refl c.in_ok-put_all.ensures.lines c.in_ok-put_all.ensures.count

pub returns-clause-lines : goal.returns-clause-lines
returns-clause-lines c = run_ends (moved_code c.args.from c.args.to) 2 c.args.code.now c.words.code c.words.word c.args.count c.words.invariant c.words-test.false

pub returns-clause-count : goal.returns-clause-count
returns-clause-count c = omega (arith, c.words.invariant.grown, c.words-test.false, c.words.auto.word-end)
