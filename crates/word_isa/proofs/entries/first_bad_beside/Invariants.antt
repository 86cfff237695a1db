use Rattle.word_isa.specs.Entries.{symbol_passes}
use Rattle.word_isa.proofs.SearchLemmas.{IsSearched}
use Rattle.word_isa.proofs.entries.first_bad_beside.Given as goal

abbrev pub invariant-symbols : goal.invariant-symbols
invariant-symbols l = IsSearched (symbol_passes l.kept l.stride) l.symbols l.at
