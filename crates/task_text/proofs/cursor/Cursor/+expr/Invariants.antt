use Rattle.std.proofs.Common.{◌≤◌, ◌+◌, ◌-◌, ◌*◌}
use Rattle.task_text.proofs.Terms.{Terms}
use Rattle.task_text.proofs.cursor.Cursor.+expr.Given as goal

abbrev pub decreases-expr : goal.decreases-expr
decreases-expr l = 5 * l.allowed

abbrev pub decreases-enclosed : goal.decreases-enclosed
decreases-enclosed l = 5 * l.allowed + 1

abbrev pub decreases-behind_name : goal.decreases-behind_name
decreases-behind_name l = 5 * l.allowed + 2

abbrev pub decreases-named : goal.decreases-named
decreases-named l = 5 * l.allowed + 3

abbrev pub decreases-paren : goal.decreases-paren
decreases-paren l = 5 * l.allowed + 3

abbrev pub decreases-prefixed : goal.decreases-prefixed
decreases-prefixed l = 5 * l.allowed + 3

abbrev pub decreases-part : goal.decreases-part
decreases-part l = 5 * l.allowed + 4

abbrev pub invariant-expr-terms : goal.invariant-expr-terms
invariant-expr-terms l = record {
  terms : Terms l.fn.allowed l.fn.level l.fn.self l.left l.self;
  deep : l.left.depth ≤ l.fn.allowed;
}

abbrev pub decreases-expr-terms : goal.decreases-expr-terms
decreases-expr-terms l = l.fn.allowed - l.left.depth
