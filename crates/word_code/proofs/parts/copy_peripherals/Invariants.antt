-- What is there with what is left is all.
use Rattle.std.proofs.Common.{◌≡◌, ◌++◌, drop}
use Rattle.word_code.proofs.parts.copy_peripherals.Given as goal

abbrev pub invariant-peripherals : goal.invariant-peripherals
invariant-peripherals l = l.copies ++ drop l.peripheral-index l.peripherals ≡ l.peripherals
