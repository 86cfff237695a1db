-- An attempt more, one that breaks off, and none left.
use Rattle.audit_check.proofs.AttemptCode.{attempts_begin, attempts_go_on, attempts_end}
use Rattle.audit_check.proofs.walking.Walking.attempts.Goals as goal

pub attempts-init : goal.attempts-init
attempts-init c = attempts_begin c.args.tasks.now c.args.attempts c.args.self.now c.requires

pub attempts-preserved : goal.attempts-preserved
attempts-preserved c = attempts_go_on c.args.tasks.now c.args.attempts c.attempts._done _ _ _ _ c.attempts.invariant c.attempts-test.true c.in_ok-attempt_next.ensures

pub attempt_next-requires : goal.attempt_next-requires
attempt_next-requires c = c.attempts.invariant.kept

pub returns : goal.returns
returns c = attempts_end c.args.tasks.now c.args.attempts c.attempts._done _ _ c.attempts.invariant c.attempts-test.false
