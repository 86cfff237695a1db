-- What is counted with what is left is all.
use Rattle.std.proofs.Common.{◌≡◌, ◌≤◌, ◌+◌, drop, min}
use Rattle.line_code.specs.Sizes.{body_size}
use Rattle.line_code.proofs.sizes.+statements.Given as goal

abbrev pub invariant-statements_size-statements : goal.invariant-statements_size-statements
invariant-statements_size-statements l = (min (l.size + body_size (drop l.s-index l.body)) 4294967295 ≡ min (body_size l.body) 4294967295) × (l.size ≤ 4294967295)
