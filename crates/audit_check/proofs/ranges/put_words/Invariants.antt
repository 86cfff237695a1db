-- The words that are left to put give all.
use Rattle.std.proofs.Common.{◌≡◌, ◌+◌, drop}
use Rattle.walk_run.specs.Store.{place}
use Rattle.task_attempts.specs.Copies as copies
use Rattle.audit_check.proofs.ranges.put_words.Given as goal

abbrev pub invariant-words : goal.invariant-words
invariant-words l = copies.put_words (place l.to.array (l.to.index + l.put)) (drop l.put l.words) l.live ≡ copies.put_words l.to l.words l.initial.live
