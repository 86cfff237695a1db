use Rattle.std.proofs.Common.{◌∙◌, arith}
use Rattle.ease_base.proofs.NumberLemmas.{length_digit, length_step, length_fits, nothing_behind, digit_put, first_digit_put}
use Rattle.ease_base.proofs.number.digits_at_end.Goals as goal

pub loop-left-init : goal.loop-left-init
loop-left-init c = record {
  room = length_fits c.args.n c.ranges.n.fits;
  within = omega arith;
  written = nothing_behind c.args.n 20 c.args.into.now (omega arith);
}

pub overflow_sub-start : goal.overflow_sub-start
overflow_sub-start c = omega (arith, length_step c.loop-left.left c.loop-left-test.true c.loop-left.auto.left-fits.fits)

pub loop-left-preserved : goal.loop-left-preserved
loop-left-preserved c =
    let length = length_step c.loop-left.left c.loop-left-test.true c.loop-left.auto.left-fits.fits in record {
      room = omega arith;
      within = omega arith;
      written = digit_put c.loop-left.left c.loop-left.start c.loop-left.into c.loop-left-test.true c.loop-left.auto.left-fits.fits (omega arith) (omega arith) ∙ c.loop-left.invariant.written;
    }

pub overflow_sub-into : goal.overflow_sub-into
overflow_sub-into c = omega (arith, length_digit c.loop-left.left c.loop-left-test.false)

pub overflow_sub-result : goal.overflow_sub-result
overflow_sub-result c = omega (arith, length_digit c.loop-left.left c.loop-left-test.false)

pub returns-clause-written : goal.returns-clause-written
returns-clause-written c =
    let one = length_digit c.loop-left.left c.loop-left-test.false in
    first_digit_put c.loop-left.left c.loop-left.start c.loop-left.into c.loop-left-test.false (omega arith) (omega arith) ∙ c.loop-left.invariant.written
