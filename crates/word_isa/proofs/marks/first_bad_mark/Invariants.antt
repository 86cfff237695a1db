use Rattle.word_isa.specs.Marks.{mark_passes}
use Rattle.word_isa.proofs.SearchLemmas.{IsSearched}
use Rattle.word_isa.proofs.marks.first_bad_mark.Given as goal

abbrev pub invariant-marks : goal.invariant-marks
invariant-marks l = IsSearched (mark_passes l.version l.code) l.marks l.at
