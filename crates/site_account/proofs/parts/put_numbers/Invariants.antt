-- What is written so far.
use Rattle.std.proofs.Common.{◌≡◌, ◌++◌, take}
use Rattle.site_account.specs.Account.{numbers}
use Rattle.site_account.proofs.parts.put_numbers.Given as goal

abbrev pub invariant-numbers : goal.invariant-numbers
invariant-numbers l = l.out ≡ l.initial.out ++ numbers (take l.number-index l.row)
