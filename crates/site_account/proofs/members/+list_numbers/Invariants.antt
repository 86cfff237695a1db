-- What is listed so far, with what is left, is the whole.
use Rattle.std.proofs.Common.{◌≡◌, ◌++◌, drop}
use Rattle.task_ast.specs.CoreSites.{all_numbers}
use Rattle.site_account.proofs.members.+list_numbers.Given as goal

abbrev pub invariant-list_body-statements : goal.invariant-list_body-statements
invariant-list_body-statements l = l.row.items ++ all_numbers (drop l.s-index l.body) ≡ l.initial.row.items ++ all_numbers l.body
