-- What is written so far, with the lines that are left, is the whole.
use Rattle.std.proofs.Common.{◌≡◌, ◌++◌, drop}
use Rattle.site_account.specs.Account.{body_lines}
use Rattle.site_account.specs.Told.{told}
use Rattle.site_account.proofs.sites.+put_sites.Given as goal

abbrev pub invariant-put_body-statements : goal.invariant-put_body-statements
invariant-put_body-statements l = l.out ++ body_lines (told l.view) (drop l.s-index l.body) ≡ l.initial.out ++ body_lines (told l.view) l.body
