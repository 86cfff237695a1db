-- One block more for each turn.
use Rattle.std.proofs.Common.{refl, arith}
use Rattle.word_code.specs.Acts.{load_code}
use Rattle.word_code.proofs.RepeatLemmas.{run_begins, run_goes_on, run_ends}
use Rattle.word_code.proofs.simple.load.Goals as goal

pub arguments-init : goal.arguments-init
arguments-init c = run_begins load_code 1 c.args.code.now c.args.count

pub arguments-preserved : goal.arguments-preserved
arguments-preserved c = run_goes_on load_code 1 c.args.code.now c.arguments.code c.put.new.self c.arguments.number c.args.count c.arguments.invariant c.arguments-test.true refl c.in_ok-put.ensures.lines c.in_ok-put.ensures.count

pub returns-clause-lines : goal.returns-clause-lines
returns-clause-lines c = run_ends load_code 1 c.args.code.now c.arguments.code c.arguments.number c.args.count c.arguments.invariant c.arguments-test.false

pub returns-clause-count : goal.returns-clause-count
returns-clause-count c = omega (arith, c.arguments.invariant.grown, c.arguments-test.false, c.arguments.auto.number-end)
