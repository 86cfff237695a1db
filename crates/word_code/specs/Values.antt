-- The code that values a site (docs/CODE.md, "Acts"): a call's target and arguments, a copy's ends, length and class.
use Rattle.std.specs.Prelude.{ℕ, ◌+◌, List, [], ◌∷◌, ◌++◌, Option, Some, None}
use Rattle.task_ast.specs.declared.core_form.CoreExpr.{CoreExpr}
use Rattle.task_ast.specs.declared.core_form.CoreTarget.{CoreTarget}
use Rattle.task_ast.specs.declared.core_form.CoreEnd.{CoreEnd}
use Rattle.task_ast.specs.declared.core_form.CoreEnd.TheVariants as end
use Rattle.task_ast.specs.declared.core_form.CoreStmt.{CoreStmt}
use Rattle.task_ast.specs.declared.core_form.CoreStmt.TheVariants as stmt
use Rattle.word_isa.specs.declared.instr.Instr.TheVariants.{Ld, Ltu, Jz, Trap, St}
use Rattle.line_code.specs.declared.areas.Placed.{Placed}
use Rattle.line_code.specs.declared.line.Line.{Line}
use Rattle.line_code.specs.Areas.{area_at, pointer_at}
use Rattle.line_code.specs.Lines.{bares}
use Rattle.line_code.specs.Sizes.{expr_size, target_size}
use Rattle.line_code.specs.Expressions.{expr_code, target_code, place_code, room_code}
use Rattle.word_code.specs.Tables.{class_code}

-- the address of a target goes to its cell
abbrev pub aim_code : List Placed → Option CoreTarget → (at : ℕ) → List Line
aim_code areas None at = []
aim_code areas (Some x) at = target_code areas x at ++ bares (St 1 15 32 ∷ [])

abbrev pub aim_size : Option CoreTarget → ℕ
aim_size None = 0
aim_size (Some x) = target_size x + 1

-- arguments go to their cells
abbrev pub args_code : List Placed → List CoreExpr → (cell at : ℕ) → List Line
args_code areas [] cell at = []
args_code areas (e ∷ es) cell at = expr_code areas e 0 at ++ (bares (St 1 15 cell ∷ []) ++ args_code areas es (cell + 1) (at + expr_size e + 1))

abbrev pub args_size : List CoreExpr → ℕ
args_size [] = 0
args_size (e ∷ es) = expr_size e + 1 + args_size es

-- an end of a copy, and the room from there on, go to their cells
abbrev pub end_code : List Placed → CoreEnd → (cell at : ℕ) → List Line
end_code areas (end.Cell array index) cell at = expr_code areas index 0 at ++ (place_code (area_at areas array) ++ bares (St 1 15 cell ∷ St 2 15 (cell + 1) ∷ []))
end_code areas (end.Pointer p) cell at = room_code (pointer_at p) ++ bares (Ld 1 15 (pointer_at p) ∷ St 1 15 cell ∷ St 2 15 (cell + 1) ∷ [])

abbrev pub end_size : CoreEnd → ℕ
end_size (end.Cell array index) = expr_size index + 11
end_size (end.Pointer p) = 8

-- trap 4 where the length in register 1 is more than the room of a cell
abbrev pub fits_code : (cell : ℕ) → List Line
fits_code cell = bares (Ld 3 15 cell ∷ Ltu 3 1 ∷ Jz 3 1 ∷ Trap 4 ∷ [])

-- the length goes to its cell and is tested, and then the class goes to its own
abbrev pub length_code : List Line
length_code = bares (St 1 15 44 ∷ []) ++ (fits_code 41 ++ (fits_code 43 ++ (class_code ++ bares (St 1 15 45 ∷ []))))

abbrev pub copy_code : List Placed → (to from : CoreEnd) → CoreExpr → (at : ℕ) → List Line
copy_code areas to from n at =
    end_code areas to 40 at ++ (end_code areas from 42 (at + end_size to) ++ (expr_code areas n 0 (at + end_size to + end_size from) ++ length_code))

-- a site's statement is valued
abbrev pub value_code : List Placed → Option CoreStmt → (at : ℕ) → List Line
value_code areas (Some (stmt.Io k x p args)) at = aim_code areas x at ++ args_code areas args 33 (at + aim_size x)
value_code areas (Some (stmt.Copy k to from n)) at = copy_code areas to from n at
value_code areas _ at = []

abbrev pub value_size : Option CoreStmt → ℕ
value_size (Some (stmt.Io k x p args)) = aim_size x + args_size args
value_size (Some (stmt.Copy k to from n)) = end_size to + end_size from + expr_size n + 20
value_size _ = 0
