-- The code of statements without sites (docs/CODE.md, "Statements").
use Rattle.std.specs.Prelude.{ℕ, ◌+◌, List, [], ◌∷◌, ◌++◌}
use Rattle.task_ast.specs.declared.core_form.CoreExpr.{CoreExpr}
use Rattle.task_ast.specs.declared.core_form.CoreTarget.{CoreTarget}
use Rattle.task_ast.specs.declared.core_form.CoreStmt.{CoreStmt, Row_of-CoreStmt, end_of-CoreStmt, more_of-CoreStmt}
use Rattle.task_ast.specs.declared.core_form.CoreStmt.TheVariants as stmt
use Rattle.word_isa.specs.declared.instr.Instr.TheVariants.{Ldi, Eq, Ltu, Adi, Ld, St, Jmp, Jz}
use Rattle.line_code.specs.declared.areas.Placed.{Placed}
use Rattle.line_code.specs.declared.line.Line.{Line}
use Rattle.line_code.specs.Areas.{area_at, pointer_at}
use Rattle.line_code.specs.Lines.{bares}
use Rattle.line_code.specs.Sizes.{expr_size, target_size, statement_size, row_size}
use Rattle.line_code.specs.Expressions.{expr_code, target_code, place_code}

-- an assignment: the place's address is in the first cell while the word is made
abbrev pub assign_code : List Placed → CoreTarget → CoreExpr → (at : ℕ) → List Line
assign_code areas x e at = target_code areas x at ++ (bares (St 1 15 0 ∷ []) ++ (expr_code areas e 1 (at + target_size x + 1) ++ bares (Ld 2 15 0 ∷ St 1 2 0 ∷ [])))

-- the assignment of a pointer: a place's address and the room from there on
abbrev pub point_code : List Placed → (pointer array : ℕ) → CoreExpr → (at : ℕ) → List Line
point_code areas pointer array index at =
    expr_code areas index 0 at ++ (place_code (area_at areas array) ++ bares (St 1 15 (pointer_at pointer) ∷ St 2 15 (pointer_at pointer + 1) ∷ []))

-- goes to an address where register 1 is 0
abbrev pub unless_code : (to : ℕ) → List Line
unless_code to = bares (Eq 1 0 ∷ Jz 1 1 ∷ Jmp to ∷ [])

-- a condition, and its two parts: where the second begins, and where both end
abbrev pub if_code : (other end : ℕ) → (condition yes_part no_part : List Line) → List Line
if_code other end condition yes_part no_part = condition ++ (unless_code other ++ (yes_part ++ (bares (Jmp end ∷ []) ++ no_part)))

-- a loop's variable is tested before each turn, and grows behind it
abbrev pub loop_code : Placed → (turns top end : ℕ) → (body : List Line) → List Line
loop_code i turns top end body =
    bares (Ldi 1 0 ∷ St 1 i.base i.offset ∷ Ld 1 i.base i.offset ∷ Ldi 2 turns ∷ Ltu 1 2 ∷ [])
    ++ (unless_code end ++ (body ++ bares (Ld 1 i.base i.offset ∷ Adi 1 1 ∷ St 1 i.base i.offset ∷ Jmp top ∷ [])))

abbrev mutual
  -- the code of a statement without sites, from an address on
  pub statement_code : List Placed → CoreStmt → (at : ℕ) → List Line
  statement_code areas (stmt.Assign x e) at = assign_code areas x e at
  statement_code areas (stmt.Point p array i) at = point_code areas p array i at
  statement_code areas (stmt.If' c m yes_row n no_row) at =
      let yes_at = at + expr_size c + 3 in
      let no_at = yes_at + row_size yes_row + 1 in
      if_code no_at (no_at + row_size no_row) (expr_code areas c 0 at) (row_code areas yes_row yes_at) (row_code areas no_row no_at)
  statement_code areas (stmt.Loop' i turns m row) at = loop_code (area_at areas i) turns (at + 2) (at + 8 + row_size row + 4) (row_code areas row (at + 8))
  statement_code areas (stmt.Io site x p args) at = []
  statement_code areas (stmt.Block' site m row) at = []
  statement_code areas (stmt.Copy site to from n) at = []

  -- the code of a row's statements
  pub row_code : List Placed → {n : _} → Row_of-CoreStmt n → (at : ℕ) → List Line
  row_code areas end_of-CoreStmt at = []
  row_code areas (more_of-CoreStmt s rest) at = statement_code areas s at ++ row_code areas rest (at + statement_size s)

-- the code of statements, one after another
abbrev pub body_code : List Placed → List CoreStmt → (at : ℕ) → List Line
body_code areas [] at = []
body_code areas (s ∷ rest) at = statement_code areas s at ++ body_code areas rest (at + statement_size s)
