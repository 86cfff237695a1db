-- By what is told.
use Rattle.std.proofs.Common.{◌∙◌}
use Rattle.io_depend.proofs.depends.Depends.later.Goals as goal

pub returns-clause-exact : goal.returns-clause-exact
returns-clause-exact c = λ core t told a k. c.tells.ensures ∙ told.later _ _ a k
