-- What is left gives what the whole gives.
use Rattle.std.proofs.Common.{◌≡◌, drop}
use Rattle.word_code.specs.Finding.{found}
use Rattle.word_code.proofs.finding.+find.Given as goal

abbrev pub invariant-find-statements : goal.invariant-find-statements
invariant-find-statements l = found l.site (drop l.s-index l.body) ≡ found l.site l.body
