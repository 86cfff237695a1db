use Rattle.std.proofs.Common.{arith}
use Rattle.task_text.proofs.ReadableTrees.{readable-from}
use Rattle.task_text.proofs.ReadLaws.{found-from, refused-from, only-from, breaks-from, wide-from}
use Rattle.task_text.proofs.read.read_program.Goals as goal

pub returns : goal.returns
returns c = record {
  found = found-from _ _ c.read.ensures;
  only = only-from c.one_division.ensures _ _ c.read.ensures;
  refused = refused-from _ _ c.read.ensures;
  breaks = breaks-from c.one_division.ensures _ _ c.read.ensures;
  wide = wide-from c.one_division.ensures _ _ c.read.ensures;
  readable = readable-from c.tokens_are_fair.ensures.fair c.tokens_are_fair.ensures.few _ _ (omega (arith, c.requires)) c.read.ensures;
}
