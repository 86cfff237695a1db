use Rattle.std.proofs.Common.{arith}
use Rattle.image_file.proofs.PutLemmas.{all_written}
use Rattle.image_file.proofs.puts.put_marks.Goals as goal

pub returns : goal.returns
returns c = all_written c.items.out c.args.out.now 4 c.items.m-index _ _ c.args.marks.now c.items.invariant (omega (arith, c.items-test.false))
