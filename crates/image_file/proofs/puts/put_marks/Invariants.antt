-- What is written so far.
use Rattle.std.proofs.Common.{◌≡◌, ◌++◌, length, take}
use Rattle.std.specs.List.{flat_map}
use Rattle.image_file.specs.Fields.{field}
use Rattle.image_file.specs.Layout.{mark, raw_mark}
use Rattle.image_file.proofs.puts.put_marks.Given as goal

abbrev pub invariant-items : goal.invariant-items
invariant-items l = l.out ≡ l.fn.out ++ field 4 (length l.marks) ++ flat_map (λ m. (mark l.version).spell (raw_mark m)) (take l.m-index l.marks)
