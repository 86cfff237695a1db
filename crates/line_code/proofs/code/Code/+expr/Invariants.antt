-- Each call has fewer lines to put.
use Rattle.std.specs.Prelude.{◌+◌}
use Rattle.line_code.specs.Sizes.{expr_size}
use Rattle.line_code.proofs.code.Code.+expr.Given as goal

abbrev pub decreases-expr : goal.decreases-expr
decreases-expr l = expr_size l.e.now

abbrev pub decreases-sides : goal.decreases-sides
decreases-sides l = expr_size l.left.now + expr_size l.right.now + 1

abbrev pub decreases-both : goal.decreases-both
decreases-both l = expr_size l.left.now + expr_size l.right.now + 1

abbrev pub decreases-either : goal.decreases-either
decreases-either l = expr_size l.left.now + expr_size l.right.now + 1
