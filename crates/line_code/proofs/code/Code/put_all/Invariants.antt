-- What is there with what is left is all.
use Rattle.std.proofs.Common.{◌≡◌, ◌++◌, drop}
use Rattle.line_code.specs.Lines.{bares}
use Rattle.line_code.proofs.code.Code.put_all.Given as goal

abbrev pub invariant-instructions : goal.invariant-instructions
invariant-instructions l = l.self ++ bares (drop l.instr-index l.instrs) ≡ l.initial.self ++ bares l.instrs
