-- The words that are left to move give the whole copy.
use Rattle.std.proofs.Common.{◌≡◌, ◌+◌, ◌-◌}
use Rattle.walk_run.specs.Store.{place}
use Rattle.walk_run.specs.Walk as walk
use Rattle.audit_check.proofs.ranges.move_words.Given as goal

abbrev pub invariant-words : goal.invariant-words
invariant-words l =
    walk.move_words (l.words - l.moved) (place l.to.array (l.to.index + l.moved)) (place l.from.array (l.from.index + l.moved)) l.live ≡ walk.move_words l.words l.to l.from l.initial.live
