-- The arrays that a checked statement may reach through a pointer (docs/LANGUAGE.md, "Pointers"): a pointer may point
-- to the arrays whose address is given to it anywhere in its task.
use Rattle.std.specs.Prelude.{◌≡◌, ℕ, cond, ◌==◌, List, [], ◌∷◌, ◌++◌, Option, None, Some}
use Rattle.std.proofs.Common.{refl, ap, ◌∙◌}
use Rattle.task_ast.specs.declared.core_form.CoreExpr.{CoreExpr}
use Rattle.task_ast.specs.declared.core_form.CoreTarget.{CoreTarget}
use Rattle.task_ast.specs.declared.core_form.CoreTarget.TheVariants as target
use Rattle.task_ast.specs.declared.core_form.CoreEnd.{CoreEnd}
use Rattle.task_ast.specs.declared.core_form.CoreEnd.TheVariants as end
use Rattle.task_ast.specs.declared.core_form.CoreStmt.{CoreStmt, Row_of-CoreStmt, end_of-CoreStmt, more_of-CoreStmt, items-the_row-CoreStmt}
use Rattle.task_ast.specs.declared.core_form.CoreStmt.TheVariants as stmt
use Rattle.task_ast.specs.declared.core_form.CoreTask.{CoreTask}
use Rattle.task_ast.specs.Rows.{core_row_of, core_row_shows}

abbrev mutual
  -- the arrays whose address a statement gives to a pointer, in text order
  pub addresses : (pointer : ℕ) → CoreStmt → List ℕ
  addresses pointer (stmt.Assign x e) = []
  addresses pointer (stmt.Point p array i) = cond (p == pointer) (array ∷ []) []
  addresses pointer (stmt.If' c m yes_row n no_row) = row_addresses pointer yes_row ++ row_addresses pointer no_row
  addresses pointer (stmt.Loop' i turns m row) = row_addresses pointer row
  addresses pointer (stmt.Io site x p args) = []
  addresses pointer (stmt.Block' site m row) = row_addresses pointer row
  addresses pointer (stmt.Copy site to from n) = []

  -- those of a row's statements
  pub row_addresses : (pointer : ℕ) → {n : _} → Row_of-CoreStmt n → List ℕ
  row_addresses pointer end_of-CoreStmt = []
  row_addresses pointer (more_of-CoreStmt s rest) = addresses pointer s ++ row_addresses pointer rest

-- those of statements, one after another
abbrev pub all_addresses : (pointer : ℕ) → List CoreStmt → List ℕ
all_addresses pointer [] = []
all_addresses pointer (s ∷ rest) = addresses pointer s ++ all_addresses pointer rest

-- the arrays to which each pointer may point
abbrev pub Pointing : Type 0
Pointing = ℕ → List ℕ

-- those of a task
abbrev pub pointing : CoreTask → Pointing
pointing t pointer = all_addresses pointer t.body

-- the arrays that a target may be in
abbrev pub target_arrays : Pointing → CoreTarget → List ℕ
target_arrays points (target.Cell array i) = array ∷ []
target_arrays points (target.Through pointer i) = points pointer

-- the arrays that a reading's target may be in, if there is one
abbrev pub reading_arrays : Pointing → Option CoreTarget → List ℕ
reading_arrays points None = []
reading_arrays points (Some x) = target_arrays points x

-- the arrays that a copy's end may be in
abbrev pub end_arrays : Pointing → CoreEnd → List ℕ
end_arrays points (end.Cell array i) = array ∷ []
end_arrays points (end.Pointer pointer) = points pointer

-- the addresses of a row are those of the statements that it shows
row_is : (pointer : ℕ) (n : _) (row : Row_of-CoreStmt n) → row_addresses pointer row ≡ all_addresses pointer (items-the_row-CoreStmt n row)
row_is pointer n end_of-CoreStmt = refl
row_is pointer n (more_of-CoreStmt s rest) = ap (λ (arrays : List ℕ). addresses pointer s ++ arrays) (row_is pointer _ rest)

body_is : (pointer : ℕ) (body : List CoreStmt) → row_addresses pointer (core_row_of body).1 ≡ all_addresses pointer body
body_is pointer body = row_is pointer (core_row_of body).0 (core_row_of body).1 ∙ ap (all_addresses pointer) (core_row_shows body)

-- the addresses in an `if`
pub addresses_if : (pointer : ℕ) (c : CoreExpr) (yes_part no_part : List CoreStmt) →
    addresses pointer (stmt.If c yes_part no_part) ≡ all_addresses pointer yes_part ++ all_addresses pointer no_part
addresses_if pointer c yes_part no_part = λ i. body_is pointer yes_part i ++ body_is pointer no_part i

-- the addresses in a loop
pub addresses_loop : (pointer i turns : ℕ) (body : List CoreStmt) → addresses pointer (stmt.Loop i turns body) ≡ all_addresses pointer body
addresses_loop pointer i turns body = body_is pointer body

-- the addresses in a block
pub addresses_block : (pointer site : ℕ) (body : List CoreStmt) → addresses pointer (stmt.Block site body) ≡ all_addresses pointer body
addresses_block pointer site body = body_is pointer body
