-- As many lines as instructions.
use Rattle.line_code.specs.PartLaws.{count_behind, all_put}
use Rattle.line_code.proofs.code.Code.put_all.Goals as goal

pub returns-clause-count : goal.returns-clause-count
returns-clause-count c = count_behind c.args.self.now c.instructions.self c.args.instrs.now (all_put c.args.self.now c.instructions.self c.args.instrs.now c.instructions.instr-index c.instructions.invariant c.instructions-test.false)
