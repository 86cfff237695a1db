-- The sites of a program as it is read: where they are, and what the list of a task's sites has at each, in text order.
use Rattle.std.specs.Prelude.{◌≡◌, ℕ, zero, suc, Bool, true, false, ◌||◌, List, [], ◌∷◌, ◌++◌}
use Rattle.std.specs.List.{list_any, flat_map}
use Rattle.std.proofs.Common.{refl, ap, ◌∙◌}
use Rattle.ease_base.specs.declared.place.Pos.{Pos}
use Rattle.task_ast.specs.declared.tree.Ann.{Ann}
use Rattle.task_ast.specs.declared.tree.Name.{Name}
use Rattle.task_ast.specs.declared.tree.Expr.{Expr}
use Rattle.task_ast.specs.declared.tree.Place.{Place}
use Rattle.task_ast.specs.declared.tree.Stmt.{Stmt, Row_of-Stmt, end_of-Stmt, more_of-Stmt, items-the_row-Stmt}
use Rattle.task_ast.specs.declared.tree.Stmt.TheVariants as stmt
use Rattle.task_ast.specs.Rows.{row_of, row_shows}
use Rattle.task_ast.specs.declared.core_form.Site.{Site}
use Rattle.task_ast.specs.declared.core_form.Site.TheVariants as site

abbrev mutual
  -- a call, a block or a copy stands in a statement, at any depth
  pub has_sites : Stmt → Bool
  has_sites (stmt.Assign x e) = false
  has_sites (stmt.Point p to) = false
  has_sites (stmt.If' c m yes_row n no_row) = row_has_sites yes_row || row_has_sites no_row
  has_sites (stmt.For' i turns at m row word) = row_has_sites row
  has_sites (stmt.Io x p a args word) = true
  has_sites (stmt.Block' a m row word) = true
  has_sites (stmt.Dma to from n word) = true

  -- or in one of a row's
  pub row_has_sites : {n : _} → Row_of-Stmt n → Bool
  row_has_sites end_of-Stmt = false
  row_has_sites (more_of-Stmt s rest) = has_sites s || row_has_sites rest

-- or in one of a body's; the loop around it is then unrolled
abbrev pub body_has_sites : List Stmt → Bool
body_has_sites body = list_any has_sites body

-- a list so many times over
abbrev pub repeated : {A : Type 0} → ℕ → List A → List A
repeated zero xs = []
repeated (suc n) xs = xs ++ repeated n xs

abbrev mutual
  -- what stands at a statement's sites, given the greatest length of a copy by its ends; those of a loop once each turn
  pub stmt_sites : (Place → Place → ℕ) → Stmt → List Site
  stmt_sites words (stmt.Assign x e) = []
  stmt_sites words (stmt.Point p to) = []
  stmt_sites words (stmt.If' c m yes_row n no_row) = row_sites words yes_row ++ row_sites words no_row
  stmt_sites words (stmt.For' i turns at m row word) = repeated turns (row_sites words row)
  stmt_sites words (stmt.Io x p a args word) = site.Io a ∷ []
  stmt_sites words (stmt.Block' a m row word) = site.Block a ∷ row_sites words row
  stmt_sites words (stmt.Dma to from n word) = site.Copy (words to from) ∷ []

  -- at those of a row's statements
  pub row_sites : (Place → Place → ℕ) → {n : _} → Row_of-Stmt n → List Site
  row_sites words end_of-Stmt = []
  row_sites words (more_of-Stmt s rest) = stmt_sites words s ++ row_sites words rest

-- at those of statements, one after another
abbrev pub body_sites : (Place → Place → ℕ) → List Stmt → List Site
body_sites words body = flat_map (stmt_sites words) body

row_has : (n : _) (row : Row_of-Stmt n) → row_has_sites row ≡ body_has_sites (items-the_row-Stmt n row)
row_has n end_of-Stmt = refl
row_has n (more_of-Stmt s rest) = ap (λ b. has_sites s || b) (row_has _ rest)

-- whether the row that a body has inside a statement has sites
pub body_has : (body : List Stmt) → row_has_sites (row_of body).1 ≡ body_has_sites body
body_has body = row_has (row_of body).0 (row_of body).1 ∙ ap body_has_sites (row_shows body)

-- whether an `if` has sites, and a loop
pub has_if : (c : Expr) (yes_part no_part : List Stmt) → has_sites (stmt.If c yes_part no_part) ≡ (body_has_sites yes_part || body_has_sites no_part)
has_if c yes_part no_part = λ i. body_has yes_part i || body_has no_part i

pub has_for : (i : Name) (turns : ℕ) (at : Pos) (body : List Stmt) (word : Pos) → has_sites (stmt.For i turns at body word) ≡ body_has_sites body
has_for i turns at body word = body_has body

row_sites_are : (words : Place → Place → ℕ) (n : _) (row : Row_of-Stmt n) → row_sites words row ≡ body_sites words (items-the_row-Stmt n row)
row_sites_are words n end_of-Stmt = refl
row_sites_are words n (more_of-Stmt s rest) = ap (λ (l : List Site). stmt_sites words s ++ l) (row_sites_are words _ rest)

-- the sites of the row that a body has inside a statement
pub body_sites_are : (words : Place → Place → ℕ) (body : List Stmt) → row_sites words (row_of body).1 ≡ body_sites words body
body_sites_are words body = row_sites_are words (row_of body).0 (row_of body).1 ∙ ap (body_sites words) (row_shows body)

-- the sites of an `if`, of a loop and of a block
pub sites_if : (words : Place → Place → ℕ) (c : Expr) (yes_part no_part : List Stmt) → stmt_sites words (stmt.If c yes_part no_part) ≡ body_sites words yes_part ++ body_sites words no_part
sites_if words c yes_part no_part = λ i. body_sites_are words yes_part i ++ body_sites_are words no_part i

pub sites_for : (words : Place → Place → ℕ) (i : Name) (turns : ℕ) (at : Pos) (body : List Stmt) (word : Pos) → stmt_sites words (stmt.For i turns at body word) ≡ repeated turns (body_sites words body)
sites_for words i turns at body word = ap (repeated turns) (body_sites_are words body)

pub sites_block : (words : Place → Place → ℕ) (a : Ann) (body : List Stmt) (word : Pos) → stmt_sites words (stmt.Block a body word) ≡ site.Block a ∷ body_sites words body
sites_block words a body word = ap (λ (l : List Site). site.Block a ∷ l) (body_sites_are words body)
