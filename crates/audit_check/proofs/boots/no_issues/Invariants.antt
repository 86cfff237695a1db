-- The numbers so far are 0.
use Rattle.std.proofs.Common.{◌≡◌, replicate}
use Rattle.audit_check.proofs.boots.no_issues.Given as goal

abbrev pub invariant-peripherals : goal.invariant-peripherals
invariant-peripherals l = l.issued.items ≡ replicate l._number 0
