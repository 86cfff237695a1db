-- The symbols that are left tell it.
use Rattle.std.proofs.Common.{◌≡◌, drop}
use Rattle.soak_run.specs.Ends.{base_of}
use Rattle.soak_run.proofs.named.base_of.Given as goal

abbrev pub invariant-symbols : goal.invariant-symbols
invariant-symbols l = base_of l.name (drop l.symbol-index l.symbols) ≡ base_of l.name l.symbols
