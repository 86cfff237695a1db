-- The parts of an attempt leave the stores the program's.
use Rattle.audit_check.proofs.AttemptCode.{before_commit}
use Rattle.audit_check.proofs.walking.Walking.attempt.Goals as goal

pub commit-requires : goal.commit-requires
commit-requires c = before_commit c.args.around.now c.as_slice.result.now _ c.args.self.now _ _ _ c.requires c.in_ok-begin.ensures c.in_ok-body.ensures c.in_ok-next.ensures
