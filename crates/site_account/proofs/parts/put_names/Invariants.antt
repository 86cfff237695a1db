-- What is written so far.
use Rattle.std.proofs.Common.{◌≡◌, ◌++◌, take}
use Rattle.site_account.specs.Account.{names}
use Rattle.site_account.proofs.parts.put_names.Given as goal

abbrev pub invariant-arrays : goal.invariant-arrays
invariant-arrays l = l.out ≡ l.initial.out ++ names l.arrays (take l.number-index l.row)
