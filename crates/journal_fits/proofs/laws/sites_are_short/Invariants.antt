-- Where the sites that are left are short, all are.
use Rattle.std.proofs.Common.{drop}
use Rattle.journal_fits.specs.Words.{HaveWordSites}
use Rattle.journal_fits.proofs.laws.sites_are_short.Given as goal

abbrev pub invariant-marks : goal.invariant-marks
invariant-marks l = HaveWordSites (drop l.mark-index l.marks) → HaveWordSites l.marks
