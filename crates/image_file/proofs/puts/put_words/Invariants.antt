-- What is written so far.
use Rattle.std.proofs.Common.{◌≡◌, ◌++◌, length, take}
use Rattle.std.specs.List.{flat_map}
use Rattle.image_file.specs.Fields.{field}
use Rattle.image_file.proofs.puts.put_words.Given as goal

abbrev pub invariant-items : goal.invariant-items
invariant-items l = l.out ≡ l.fn.out ++ field 4 (length l.words) ++ flat_map (field 4) (take l.word-index l.words)
