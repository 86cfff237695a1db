use Rattle.std.specs.Prelude.{◌≡◌, ◌++◌, take}
use Rattle.word_isa.specs.Listing.{operands_text}
use Rattle.word_isa.proofs.listing.put_operands.Given as goal

abbrev pub invariant-operands : goal.invariant-operands
invariant-operands l = l.out ≡ l.fn.out ++ operands_text (take l.operand-index l.operands)
