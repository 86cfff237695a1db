-- Code that repeats a block of instructions for each number of a range.
use Rattle.std.specs.Prelude.{ℕ, zero, suc, ◌+◌, List, [], ◌++◌}
use Rattle.word_isa.specs.declared.instr.Instr.{Instr}

-- a block for each of so many numbers, from a number on
abbrev pub each : (ℕ → List Instr) → (from count : ℕ) → List Instr
each block from zero = []
each block from (suc n) = block from ++ each block (from + 1) n
