use Rattle.std.proofs.Common.{rules, arith}
use Rattle.word_isa.proofs.ListingLemmas.{part_at}
use Rattle.word_isa.proofs.listing.put_operands.Goals as goal

pub returns-in_err-put_operand-clause-partly : goal.returns-in_err-put_operand-clause-partly
returns-in_err-put_operand-clause-partly c =
    let part = part_at c.args.out.now c.operands.out c.put_operand.new.out c.args.operands.now c.operands.operand-index _ (omega (arith, c.operands-test.true)) c.operands.invariant c.in_err-put_operand.ensures.partly in
    search (rules, part)
