-- What is there with what is left is all; each call has fewer lines to put.
use Rattle.std.proofs.Common.{◌+◌, drop}
use Rattle.line_code.specs.Sizes.{expr_size, statement_size, body_size}
use Rattle.line_code.proofs.StatementLemmas.{IsOnWay}
use Rattle.line_code.proofs.code.Code.+statements.Given as goal

abbrev pub invariant-statements-statements : goal.invariant-statements-statements
invariant-statements-statements l = IsOnWay l.areas l.initial.self l.body l.self (drop l.s-index l.body)

abbrev pub decreases-statement : goal.decreases-statement
decreases-statement l = statement_size l.s.now

abbrev pub decreases-choose : goal.decreases-choose
decreases-choose l = expr_size l.c.now + body_size l.yes_part.now + body_size l.no_part.now + 2

abbrev pub decreases-turns : goal.decreases-turns
decreases-turns l = body_size l.body.now + 2

abbrev pub decreases-statements : goal.decreases-statements
decreases-statements l = body_size l.body.now + 1
