-- What is written so far, with the lines that are left, is the whole.
use Rattle.std.proofs.Common.{◌≡◌, ◌++◌, drop}
use Rattle.site_account.specs.Account.{first_lines}
use Rattle.site_account.proofs.regions.put_regions.Given as goal

abbrev pub invariant-regions : goal.invariant-regions
invariant-regions l = l.out ++ first_lines l.arrays l.region (drop l.region l.regions) ≡ l.initial.out ++ first_lines l.arrays 0 l.regions
