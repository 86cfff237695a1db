-- The words so far are the first ones.
use Rattle.std.proofs.Common.{◌≡◌, take, drop}
use Rattle.walk_run.specs.Store.{words_of}
use Rattle.audit_check.proofs.ranges.words_at.Given as goal

abbrev pub invariant-words : goal.invariant-words
invariant-words l = l.read ≡ take l.behind (drop l.at.index (words_of l.live l.at.array))
