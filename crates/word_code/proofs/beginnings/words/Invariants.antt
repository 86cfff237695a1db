-- What is there with what is left is all.
use Rattle.std.proofs.Common.{◌≡◌, ◌+◌, ◌*◌, ◌++◌, drop, length}
use Rattle.line_code.specs.Lines.{bares}
use Rattle.word_code.specs.Beginnings.{words_code}
use Rattle.word_code.proofs.beginnings.words.Given as goal

abbrev pub invariant-words : goal.invariant-words
invariant-words l =
    (l.code ++ bares (words_code (l.at + l.place) (drop l.place l.words)) ≡ l.initial.code ++ bares (words_code l.at l.words))
    × (length l.code ≡ length l.initial.code + 3 * l.place)
