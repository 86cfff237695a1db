-- The codes of the traps.
use Rattle.std.specs.Prelude.{ℕ}
use Rattle.walk_run.specs.declared.trap.Trap.{Trap}
use Rattle.walk_run.specs.declared.trap.Trap.TheVariants.{Index, Divisor, Unset, Range}

-- the number by which a run's end names a trap
abbrev pub code_of : Trap → ℕ
code_of Index = 1
code_of Divisor = 2
code_of Unset = 3
code_of Range = 4
