-- What is written so far.
use Rattle.std.proofs.Common.{◌≡◌, ◌++◌, length, take}
use Rattle.std.specs.List.{flat_map}
use Rattle.image_file.specs.Fields.{field}
use Rattle.image_file.specs.Layout.{peripheral}
use Rattle.image_file.proofs.puts.put_peripherals.Given as goal

abbrev pub invariant-items : goal.invariant-items
invariant-items l = l.out ≡ l.fn.out ++ field 2 (length l.peripherals) ++ flat_map peripheral.spell (take l.p-index l.peripherals)
