-- Lines of code: instructions, bare or marked.
use Rattle.std.specs.Prelude.{List, [], ◌∷◌, Some, None}
use Rattle.word_isa.specs.declared.instr.Instr.{Instr}
use Rattle.line_code.specs.declared.line.Line.{Line}
use Rattle.line_code.specs.declared.line.Sign.{Sign}

-- an instruction without a mark, and one with its mark
abbrev pub bare : Instr → Line
bare i = record { instr = i; sign = None }

abbrev pub marked : Sign → Instr → Line
marked sign i = record { instr = i; sign = Some sign }

-- instructions without marks
abbrev pub bares : List Instr → List Line
bares [] = []
bares (i ∷ is) = bare i ∷ bares is
