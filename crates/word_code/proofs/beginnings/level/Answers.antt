-- One block more for each turn.
use Rattle.std.proofs.Common.{refl, arith}
use Rattle.word_code.specs.Beginnings.{level_code}
use Rattle.word_code.proofs.RepeatLemmas.{run_begins, run_goes_on, run_ends}
use Rattle.word_code.proofs.beginnings.level.Goals as goal

pub homes-init : goal.homes-init
homes-init c = run_begins level_code 2 c.args.code.now c.args.count

pub homes-preserved : goal.homes-preserved
homes-preserved c = run_goes_on level_code 2 c.args.code.now c.homes.code c.put_all.new.self c.homes.word c.args.count c.homes.invariant c.homes-test.true refl c.in_ok-put_all.ensures.lines c.in_ok-put_all.ensures.count

pub returns-clause-lines : goal.returns-clause-lines
returns-clause-lines c = run_ends level_code 2 c.args.code.now c.homes.code c.homes.word c.args.count c.homes.invariant c.homes-test.false

pub returns-clause-count : goal.returns-clause-count
returns-clause-count c = omega (arith, c.homes.invariant.grown, c.homes-test.false, c.homes.auto.word-end)
