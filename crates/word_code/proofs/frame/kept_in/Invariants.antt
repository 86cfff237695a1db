-- What is counted with what is left is all.
use Rattle.std.proofs.Common.{◌≡◌, ◌+◌, drop}
use Rattle.std.specs.Prelude.{sum_by}
use Rattle.task_ast.specs.WellFormed.{site_words}
use Rattle.word_code.proofs.frame.kept_in.Given as goal

abbrev pub invariant-sites : goal.invariant-sites
invariant-sites l = l.words + sum_by site_words (drop l.site-index l.sites) ≡ sum_by site_words l.sites
