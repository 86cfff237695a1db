-- The words that are left.
use Rattle.std.proofs.Common.{length}
use Rattle.audit_check.proofs.same.+alike.Given as goal

abbrev pub decreases-alike : goal.decreases-alike
decreases-alike l = length l.told.now
