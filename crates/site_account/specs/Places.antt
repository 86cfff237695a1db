-- Where the sites of a program stand in its text: the word of each, and its place. A loop's come once each turn.
use Rattle.std.specs.Prelude.{◌≡◌, ℕ, List, [], ◌∷◌, ◌++◌, map}
use Rattle.std.specs.List.{flat_map}
use Rattle.std.proofs.Common.{refl, ap, ◌∙◌}
use Rattle.ease_base.specs.declared.place.Pos.{Pos}
use Rattle.site_account.specs.declared.places.SitePlace.{SitePlace}
use Rattle.site_account.specs.declared.places.SiteWord.{SiteWord}
use Rattle.site_account.specs.declared.places.SiteWord.TheVariants as word
use Rattle.task_ast.specs.declared.core_form.Site.{Site}
use Rattle.task_ast.specs.declared.core_form.Site.TheVariants as site
use Rattle.task_ast.specs.declared.tree.Ann.{Ann}
use Rattle.task_ast.specs.declared.tree.Expr.{Expr}
use Rattle.task_ast.specs.declared.tree.Name.{Name}
use Rattle.task_ast.specs.declared.tree.Program.{Program}
use Rattle.task_ast.specs.declared.tree.Stmt.{Stmt, Row_of-Stmt, end_of-Stmt, more_of-Stmt, items-the_row-Stmt}
use Rattle.task_ast.specs.declared.tree.Stmt.TheVariants as stmt
use Rattle.task_ast.specs.Rows.{row_of, row_shows}
use Rattle.task_check.specs.Sites.{repeated}

-- a word at a place
abbrev pub standing : SiteWord → Pos → SitePlace
standing word at = record { word = word; at = at }

abbrev mutual
  -- the places of a statement's sites, in the order of their numbers: a block before what is inside it
  pub stmt_places : Stmt → List SitePlace
  stmt_places (stmt.Assign x e) = []
  stmt_places (stmt.Point p to) = []
  stmt_places (stmt.If' c m yes_row n no_row) = row_places yes_row ++ row_places no_row
  stmt_places (stmt.For' i turns at m row for_word) = repeated turns (row_places row)
  stmt_places (stmt.Io x p a args io_word) = standing word.Io io_word ∷ []
  stmt_places (stmt.Block' a m row block_word) = standing word.Block block_word ∷ row_places row
  stmt_places (stmt.Dma to from n dma_word) = standing word.Dma dma_word ∷ []

  -- those of a row's statements
  pub row_places : {n : _} → Row_of-Stmt n → List SitePlace
  row_places end_of-Stmt = []
  row_places (more_of-Stmt s rest) = stmt_places s ++ row_places rest

-- those of statements, one after another
abbrev pub body_places : List Stmt → List SitePlace
body_places body = flat_map stmt_places body

-- those of each task of a program; the place of site k is the k-th of its task
abbrev pub program_places : Program → List (List SitePlace)
program_places p = map (λ t. body_places t.body) p.tasks

-- the word of a site in the checked form
abbrev pub word_of : Site → SiteWord
word_of (site.Io a) = word.Io
word_of (site.Block a) = word.Block
word_of (site.Copy n) = word.Dma

row_is : (n : _) (row : Row_of-Stmt n) → row_places row ≡ body_places (items-the_row-Stmt n row)
row_is n end_of-Stmt = refl
row_is n (more_of-Stmt s rest) = ap (λ (l : List SitePlace). stmt_places s ++ l) (row_is _ rest)

body_is : (body : List Stmt) → row_places (row_of body).1 ≡ body_places body
body_is body = row_is (row_of body).0 (row_of body).1 ∙ ap body_places (row_shows body)

-- the places in an `if`, in a loop and in a block
pub places_if : (c : Expr) (yes_part no_part : List Stmt) → stmt_places (stmt.If c yes_part no_part) ≡ body_places yes_part ++ body_places no_part
places_if c yes_part no_part = λ i. body_is yes_part i ++ body_is no_part i

pub places_for : (i : Name) (turns : ℕ) (at : Pos) (body : List Stmt) (for_word : Pos) → stmt_places (stmt.For i turns at body for_word) ≡ repeated turns (body_places body)
places_for i turns at body for_word = ap (repeated turns) (body_is body)

pub places_block : (a : Ann) (body : List Stmt) (block_word : Pos) → stmt_places (stmt.Block a body block_word) ≡ standing word.Block block_word ∷ body_places body
places_block a body block_word = ap (λ (l : List SitePlace). standing word.Block block_word ∷ l) (body_is body)
