use Rattle.task_attempts.specs.Boots.{rules_of}
use Rattle.task_attempts.proofs.AttemptLaws.{attempt_is_whole}
use Rattle.task_attempts.proofs.laws.an_attempt_ends_by_a_commit_or_a_trap.Goals as goal

-- src/laws.rt:16:1
pub returns : goal.returns
returns c = attempt_is_whole (rules_of c.args.c.now c.args.world.now)
