-- The words that are left to move give the whole copy, and the rooms stay.
use Rattle.std.proofs.Common.{◌≡◌, ◌+◌, ◌-◌, ◌≤◌, length}
use Rattle.walk_run.specs.Store.{place, words_of}
use Rattle.walk_run.specs.Walk.{move_words}
use Rattle.walk_run.proofs.live.Live.move_words.Given as goal

abbrev pub invariant-words : goal.invariant-words
invariant-words l = record {
  left : move_words (l.words - l.moved) (place l.to.array (l.to.index + l.moved)) (place l.from.array (l.from.index + l.moved)) l.self ≡ move_words l.words l.to l.from l.initial.self;
  to : l.to.index + l.words ≤ length (words_of l.self l.to.array);
  from : l.from.index + l.words ≤ length (words_of l.self l.from.array);
}
