-- The size and the code of statements, by their parts.
use Rattle.std.specs.Prelude.{◌≡◌, ℕ, ◌+◌, ◌<◌, List, ◌++◌, refl}
use Rattle.std.proofs.Common.{ap, ◌∙◌}
use Rattle.task_ast.specs.declared.core_form.CoreExpr.{CoreExpr}
use Rattle.task_ast.specs.declared.core_form.CoreStmt.{CoreStmt, Row_of-CoreStmt, end_of-CoreStmt, more_of-CoreStmt, items-the_row-CoreStmt}
use Rattle.task_ast.specs.declared.core_form.CoreStmt.TheVariants as stmt
use Rattle.task_ast.specs.Rows.{core_row_of, core_row_shows}
use Rattle.line_code.specs.declared.areas.Placed.{Placed}
use Rattle.line_code.specs.declared.line.Line.{Line}
use Rattle.line_code.specs.Areas.{area_at}
use Rattle.line_code.specs.Sizes.{expr_size, statement_size, row_size, body_size}
use Rattle.line_code.specs.Expressions.{expr_code}
use Rattle.line_code.specs.Statements.{if_code, loop_code, statement_code, row_code, body_code}
use Rattle.line_code.specs.Fitting.{IsShort, IsShortStmt, AreShortStmts, IsShortBody}

-- a row has the size, the code and the shortness of the statements that it shows
row_size_is : (n : _) (row : Row_of-CoreStmt n) → row_size row ≡ body_size (items-the_row-CoreStmt n row)
row_size_is n end_of-CoreStmt = refl
row_size_is n (more_of-CoreStmt s rest) = ap (λ (k : ℕ). statement_size s + k) (row_size_is _ rest)

pub size_of_body : (body : List CoreStmt) → row_size (core_row_of body).1 ≡ body_size body
size_of_body body = row_size_is (core_row_of body).0 (core_row_of body).1 ∙ ap body_size (core_row_shows body)

row_code_is : (areas : List Placed) (at : ℕ) (n : _) (row : Row_of-CoreStmt n) → row_code areas row at ≡ body_code areas (items-the_row-CoreStmt n row) at
row_code_is areas at n end_of-CoreStmt = refl
row_code_is areas at n (more_of-CoreStmt s rest) = ap (λ (code : List Line). statement_code areas s at ++ code) (row_code_is areas (at + statement_size s) _ rest)

pub code_of_body : (areas : List Placed) (at : ℕ) (body : List CoreStmt) → row_code areas (core_row_of body).1 at ≡ body_code areas body at
code_of_body areas at body = row_code_is areas at (core_row_of body).0 (core_row_of body).1 ∙ ap (λ b. body_code areas b at) (core_row_shows body)

row_short : (n : _) (row : Row_of-CoreStmt n) → AreShortStmts row ≡ IsShortBody (items-the_row-CoreStmt n row)
row_short n end_of-CoreStmt = refl
row_short n (more_of-CoreStmt s rest) = ap (λ t. IsShortStmt s × t) (row_short _ rest)

pub short_body : (body : List CoreStmt) → AreShortStmts (core_row_of body).1 ≡ IsShortBody body
short_body body = row_short (core_row_of body).0 (core_row_of body).1 ∙ ap IsShortBody (core_row_shows body)

-- an `if`
pub size_if : (c : CoreExpr) (yes_part no_part : List CoreStmt) → statement_size (stmt.If c yes_part no_part) ≡ expr_size c + body_size yes_part + body_size no_part + 4
size_if c yes_part no_part = λ i. expr_size c + size_of_body yes_part i + size_of_body no_part i + 4

pub code_if : (areas : List Placed) (at : ℕ) (c : CoreExpr) (yes_part no_part : List CoreStmt) →
    let yes_at = at + expr_size c + 3 in
    let no_at = yes_at + body_size yes_part + 1 in
    statement_code areas (stmt.If c yes_part no_part) at ≡ if_code no_at (no_at + body_size no_part) (expr_code areas c 0 at) (body_code areas yes_part yes_at) (body_code areas no_part no_at)
code_if areas at c yes_part no_part = λ i.
    let yes_at = at + expr_size c + 3 in
    let no_at = yes_at + size_of_body yes_part i + 1 in
    if_code no_at (no_at + size_of_body no_part i) (expr_code areas c 0 at) (code_of_body areas yes_at yes_part i) (code_of_body areas no_at no_part i)

pub short_if : (c : CoreExpr) (yes_part no_part : List CoreStmt) → IsShortStmt (stmt.If c yes_part no_part) ≡ (IsShort 0 c × IsShortBody yes_part × IsShortBody no_part)
short_if c yes_part no_part = λ i. IsShort 0 c × short_body yes_part i × short_body no_part i

-- a loop
pub size_loop : (variable turns : ℕ) (body : List CoreStmt) → statement_size (stmt.Loop variable turns body) ≡ body_size body + 12
size_loop variable turns body = λ i. size_of_body body i + 12

pub code_loop : (areas : List Placed) (at variable turns : ℕ) (body : List CoreStmt) →
    statement_code areas (stmt.Loop variable turns body) at ≡ loop_code (area_at areas variable) turns (at + 2) (at + 8 + body_size body + 4) (body_code areas body (at + 8))
code_loop areas at variable turns body = λ i. loop_code (area_at areas variable) turns (at + 2) (at + 8 + size_of_body body i + 4) (code_of_body areas (at + 8) body i)

pub short_loop : (variable turns : ℕ) (body : List CoreStmt) → IsShortStmt (stmt.Loop variable turns body) ≡ ((turns < 65536) × IsShortBody body)
short_loop variable turns body = λ i. (turns < 65536) × short_body body i
