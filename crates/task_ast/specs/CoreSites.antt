-- The sites of checked statements in text order: I/O calls, blocks at their beginning, and copies.
use Rattle.std.specs.Prelude.{◌≡◌, ℕ, min, max, List, [], ◌∷◌, ◌++◌, length, Option, None, Some, slice_get}
use Rattle.std.proofs.Common.{refl, ap, ◌∙◌}
use Rattle.task_ast.specs.declared.core_form.Array.{Array}
use Rattle.task_ast.specs.declared.core_form.Site.{Site}
use Rattle.task_ast.specs.declared.core_form.Site.TheVariants as site
use Rattle.task_ast.specs.declared.core_form.CoreExpr.{CoreExpr}
use Rattle.task_ast.specs.declared.core_form.CoreEnd.{CoreEnd}
use Rattle.task_ast.specs.declared.core_form.CoreStmt.{CoreStmt, Row_of-CoreStmt, end_of-CoreStmt, more_of-CoreStmt, items-the_row-CoreStmt}
use Rattle.task_ast.specs.declared.core_form.CoreStmt.TheVariants as stmt
use Rattle.task_ast.specs.Pointing.{Pointing, end_arrays}
use Rattle.task_ast.specs.Rows.{core_row_of, core_row_shows}

-- the words of an array that may not be there
abbrev pub room : Option Array → ℕ
room None = 0
room (Some a) = length a.first

-- the words of the longest of these arrays; 0 where there is none
abbrev pub longest : List Array → List ℕ → ℕ
longest arrays [] = 0
longest arrays (a ∷ rest) = max (room (slice_get arrays a)) (longest arrays rest)

-- The greatest length of a copy: the lesser of the longest array that may be its destination and the longest that may
-- be its source.
abbrev pub greatest : List Array → Pointing → (to from : CoreEnd) → ℕ
greatest arrays points to from = min (longest arrays (end_arrays points to)) (longest arrays (end_arrays points from))

-- what stands at a site, its annotation aside; a copy has its greatest length
pub data Standing : Type 0 where
  a_call : Standing
  a_block : Standing
  a_copy : ℕ → Standing

-- what is said to stand at a site
abbrev pub standing_of : Site → Standing
standing_of (site.Io a) = a_call
standing_of (site.Block a) = a_block
standing_of (site.Copy n) = a_copy n

abbrev mutual
  -- the numbers of a statement's sites, in text order
  pub site_numbers : CoreStmt → List ℕ
  site_numbers (stmt.Assign x e) = []
  site_numbers (stmt.Point p array i) = []
  site_numbers (stmt.If' c m yes_row n no_row) = row_numbers yes_row ++ row_numbers no_row
  site_numbers (stmt.Loop' i turns m row) = row_numbers row
  site_numbers (stmt.Io k x p args) = k ∷ []
  site_numbers (stmt.Block' k m row) = k ∷ row_numbers row
  site_numbers (stmt.Copy k to from n) = k ∷ []

  -- those of a row's statements
  pub row_numbers : {n : _} → Row_of-CoreStmt n → List ℕ
  row_numbers end_of-CoreStmt = []
  row_numbers (more_of-CoreStmt s rest) = site_numbers s ++ row_numbers rest

-- those of statements, one after another
abbrev pub all_numbers : List CoreStmt → List ℕ
all_numbers [] = []
all_numbers (s ∷ rest) = site_numbers s ++ all_numbers rest

abbrev mutual
  -- what stands at a statement's sites, in text order
  pub standings : List Array → Pointing → CoreStmt → List Standing
  standings arrays points (stmt.Assign x e) = []
  standings arrays points (stmt.Point p array i) = []
  standings arrays points (stmt.If' c m yes_row n no_row) = row_standings arrays points yes_row ++ row_standings arrays points no_row
  standings arrays points (stmt.Loop' i turns m row) = row_standings arrays points row
  standings arrays points (stmt.Io k x p args) = a_call ∷ []
  standings arrays points (stmt.Block' k m row) = a_block ∷ row_standings arrays points row
  standings arrays points (stmt.Copy k to from n) = a_copy (greatest arrays points to from) ∷ []

  -- what stands at those of a row's statements
  pub row_standings : List Array → Pointing → {n : _} → Row_of-CoreStmt n → List Standing
  row_standings arrays points end_of-CoreStmt = []
  row_standings arrays points (more_of-CoreStmt s rest) = standings arrays points s ++ row_standings arrays points rest

-- what stands at those of statements, one after another
abbrev pub all_standings : List Array → Pointing → List CoreStmt → List Standing
all_standings arrays points [] = []
all_standings arrays points (s ∷ rest) = standings arrays points s ++ all_standings arrays points rest

-- the numbers of a row are those of the statements that it shows
row_numbers_are : (n : _) (row : Row_of-CoreStmt n) → row_numbers row ≡ all_numbers (items-the_row-CoreStmt n row)
row_numbers_are n end_of-CoreStmt = refl
row_numbers_are n (more_of-CoreStmt s rest) = ap (λ (ks : List ℕ). site_numbers s ++ ks) (row_numbers_are _ rest)

-- the numbers of the row that a body has inside a statement
pub body_numbers : (body : List CoreStmt) → row_numbers (core_row_of body).1 ≡ all_numbers body
body_numbers body = row_numbers_are (core_row_of body).0 (core_row_of body).1 ∙ ap all_numbers (core_row_shows body)

-- the sites in an `if`
pub numbers_if : (c : CoreExpr) (yes_part no_part : List CoreStmt) → site_numbers (stmt.If c yes_part no_part) ≡ all_numbers yes_part ++ all_numbers no_part
numbers_if c yes_part no_part = λ i. body_numbers yes_part i ++ body_numbers no_part i

-- the sites in a loop, which has none where it is well formed
pub numbers_loop : (i turns : ℕ) (body : List CoreStmt) → site_numbers (stmt.Loop i turns body) ≡ all_numbers body
numbers_loop i turns body = body_numbers body

-- the sites in a block, itself first
pub numbers_block : (k : ℕ) (body : List CoreStmt) → site_numbers (stmt.Block k body) ≡ k ∷ all_numbers body
numbers_block k body = ap (λ (ks : List ℕ). k ∷ ks) (body_numbers body)

-- what stands in a row is what stands in the statements that it shows
row_standings_are : (arrays : List Array) (points : Pointing) (n : _) (row : Row_of-CoreStmt n) →
    row_standings arrays points row ≡ all_standings arrays points (items-the_row-CoreStmt n row)
row_standings_are arrays points n end_of-CoreStmt = refl
row_standings_are arrays points n (more_of-CoreStmt s rest) = ap (λ (xs : List Standing). standings arrays points s ++ xs) (row_standings_are arrays points _ rest)

body_standings : (arrays : List Array) (points : Pointing) (body : List CoreStmt) → row_standings arrays points (core_row_of body).1 ≡ all_standings arrays points body
body_standings arrays points body =
    row_standings_are arrays points (core_row_of body).0 (core_row_of body).1 ∙ ap (all_standings arrays points) (core_row_shows body)

-- what stands in an `if`
pub standings_if : (arrays : List Array) (points : Pointing) (c : CoreExpr) (yes_part no_part : List CoreStmt) →
    standings arrays points (stmt.If c yes_part no_part) ≡ all_standings arrays points yes_part ++ all_standings arrays points no_part
standings_if arrays points c yes_part no_part = λ i. body_standings arrays points yes_part i ++ body_standings arrays points no_part i

-- what stands in a loop
pub standings_loop : (arrays : List Array) (points : Pointing) (i turns : ℕ) (body : List CoreStmt) →
    standings arrays points (stmt.Loop i turns body) ≡ all_standings arrays points body
standings_loop arrays points i turns body = body_standings arrays points body

-- what stands in a block, itself first
pub standings_block : (arrays : List Array) (points : Pointing) (k : ℕ) (body : List CoreStmt) →
    standings arrays points (stmt.Block k body) ≡ a_block ∷ all_standings arrays points body
standings_block arrays points k body = ap (λ (xs : List Standing). a_block ∷ xs) (body_standings arrays points body)
