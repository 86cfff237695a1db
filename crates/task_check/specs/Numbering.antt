-- The numbers of a task's sites, put into its checked statements in text order.
use Rattle.std.specs.Prelude.{◌≡◌, ℕ, ◌+◌, List, [], ◌∷◌, length}
use Rattle.std.proofs.Common.{refl, ap, ◌∙◌}
use Rattle.task_ast.specs.declared.core_form.CoreExpr.{CoreExpr}
use Rattle.task_ast.specs.declared.core_form.CoreStmt.{CoreStmt, Row_of-CoreStmt, end_of-CoreStmt, more_of-CoreStmt, items-the_row-CoreStmt}
use Rattle.task_ast.specs.declared.core_form.CoreStmt.TheVariants as stmt
use Rattle.task_ast.specs.CoreSites.{site_numbers, row_numbers, all_numbers, body_numbers}
use Rattle.task_ast.specs.Rows.{core_row_of, core_row_shows}

abbrev mutual
  -- A statement whose first site has the number k; a block's own number comes before its body's.
  pub numbered : (k : ℕ) → CoreStmt → CoreStmt
  numbered k (stmt.Assign x e) = stmt.Assign x e
  numbered k (stmt.Point p array i) = stmt.Point p array i
  numbered k (stmt.If' c m yes_row n no_row) = stmt.If c (row_numbered k yes_row) (row_numbered (k + length (row_numbers yes_row)) no_row)
  numbered k (stmt.Loop' i turns m row) = stmt.Loop i turns (row_numbered k row)
  numbered k (stmt.Io site x p args) = stmt.Io k x p args
  numbered k (stmt.Block' site m row) = stmt.Block k (row_numbered (k + 1) row)
  numbered k (stmt.Copy site to from n) = stmt.Copy k to from n

  -- the statements of a row, whose first site has the number k
  pub row_numbered : (k : ℕ) → {n : _} → Row_of-CoreStmt n → List CoreStmt
  row_numbered k end_of-CoreStmt = []
  row_numbered k (more_of-CoreStmt s rest) = numbered k s ∷ row_numbered (k + length (site_numbers s)) rest

-- statements whose first site has the number k
abbrev pub all_numbered : (k : ℕ) → List CoreStmt → List CoreStmt
all_numbered k [] = []
all_numbered k (s ∷ rest) = numbered k s ∷ all_numbered (k + length (site_numbers s)) rest

row_numbered_is : (k : ℕ) (n : _) (row : Row_of-CoreStmt n) → row_numbered k row ≡ all_numbered k (items-the_row-CoreStmt n row)
row_numbered_is k n end_of-CoreStmt = refl
row_numbered_is k n (more_of-CoreStmt s rest) = ap (λ (l : List CoreStmt). numbered k s ∷ l) (row_numbered_is (k + length (site_numbers s)) _ rest)

body_numbered : (k : ℕ) (body : List CoreStmt) → row_numbered k (core_row_of body).1 ≡ all_numbered k body
body_numbered k body = row_numbered_is k (core_row_of body).0 (core_row_of body).1 ∙ ap (all_numbered k) (core_row_shows body)

-- an `if`, a loop and a block
pub numbered_if : (k : ℕ) (c : CoreExpr) (yes_part no_part : List CoreStmt) →
    numbered k (stmt.If c yes_part no_part) ≡ stmt.If c (all_numbered k yes_part) (all_numbered (k + length (all_numbers yes_part)) no_part)
numbered_if k c yes_part no_part =
    (λ i. stmt.If c (body_numbered k yes_part i) (row_numbered (k + length (body_numbers yes_part i)) (core_row_of no_part).1))
    ∙ ap (λ (l : List CoreStmt). stmt.If c (all_numbered k yes_part) l) (body_numbered (k + length (all_numbers yes_part)) no_part)

pub numbered_loop : (k i turns : ℕ) (body : List CoreStmt) → numbered k (stmt.Loop i turns body) ≡ stmt.Loop i turns (all_numbered k body)
numbered_loop k i turns body = ap (stmt.Loop i turns) (body_numbered k body)

pub numbered_block : (k site : ℕ) (body : List CoreStmt) → numbered k (stmt.Block site body) ≡ stmt.Block k (all_numbered (k + 1) body)
numbered_block k site body = ap (stmt.Block k) (body_numbered (k + 1) body)
