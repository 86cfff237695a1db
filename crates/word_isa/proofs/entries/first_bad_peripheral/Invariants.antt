use Rattle.word_isa.specs.Entries.{peripheral_passes}
use Rattle.word_isa.proofs.SearchLemmas.{IsSearched}
use Rattle.word_isa.proofs.entries.first_bad_peripheral.Given as goal

abbrev pub invariant-peripherals : goal.invariant-peripherals
invariant-peripherals l = IsSearched (peripheral_passes l.symbols) l.peripherals l.at
