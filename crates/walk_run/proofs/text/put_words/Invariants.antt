-- What is written so far.
use Rattle.std.proofs.Common.{◌≡◌, ◌++◌, take}
use Rattle.std.specs.List.{flat_map}
use Rattle.walk_run.specs.WalkText.{word_text}
use Rattle.walk_run.proofs.text.put_words.Given as goal

abbrev pub invariant-words : goal.invariant-words
invariant-words l = l.out ≡ l.initial.out ++ flat_map word_text (take l.word-index l.words)
