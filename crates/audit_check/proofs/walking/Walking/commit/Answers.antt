-- The commit's event leaves the stores as they are.
use Rattle.audit_check.proofs.AttemptCode.{commits_alike}
use Rattle.audit_check.proofs.walking.Walking.commit.Goals as goal

pub settle-requires : goal.settle-requires
settle-requires c = commits_alike c.args.around.now c.args.next c.args.self.now _ c.requires c.in_ok-take_commit.ensures
