-- The words so far are texts.
use Rattle.std.proofs.Common.{take, map, string_bytes}
use Rattle.command_line.specs.Parsed.{AreTexts}
use Rattle.command_line.proofs.line.words_are_texts.Given as goal

abbrev pub invariant-words : goal.invariant-words
invariant-words l = AreTexts (map string_bytes (take l.word-index l.words))
