-- Each site of the checked form has its place, with its word.
use Rattle.std.proofs.Common.{◌≡◌, ◌∙◌, ℕ, zero, suc, List, [], ◌∷◌, ◌++◌, map, refl, sym, ap}
use Rattle.std.proofs.lemmas.List.{map-append}
use Rattle.site_account.specs.Places.{stmt_places, row_places, body_places, program_places, word_of}
use Rattle.site_account.specs.declared.places.SitePlace.{SitePlace}
use Rattle.site_account.specs.declared.places.SiteWord.{SiteWord}
use Rattle.site_account.specs.declared.places.SiteWord.TheVariants as word
use Rattle.task_ast.specs.declared.core_form.Array.{Array}
use Rattle.task_ast.specs.declared.core_form.CoreTask.{CoreTask}
use Rattle.task_ast.specs.declared.core_form.Site.{Site}
use Rattle.task_ast.specs.declared.tree.Place.{Place}
use Rattle.task_ast.specs.declared.tree.Program.{Program}
use Rattle.task_ast.specs.declared.tree.Stmt.{Stmt, Row_of-Stmt, end_of-Stmt, more_of-Stmt}
use Rattle.task_ast.specs.declared.tree.Stmt.TheVariants as stmt
use Rattle.task_ast.specs.declared.tree.Task.{Task}
use Rattle.task_check.specs.CheckedForm.{core_of, core_task, arrays_of, words_between, reach_in}
use Rattle.task_check.specs.Names.{Meanings, names_of}
use Rattle.task_check.specs.Sites.{repeated, stmt_sites, row_sites, body_sites}

-- the words of places, and of sites
abbrev words : List SitePlace → List SiteWord
words = map (λ place. place.word)

abbrev site_words : List Site → List SiteWord
site_words = map word_of

-- one list after another, and a list so many times
joined : (ps bs : List SitePlace) (xs ys : List Site) → words ps ≡ site_words xs → words bs ≡ site_words ys → words (ps ++ bs) ≡ site_words (xs ++ ys)
joined ps bs xs ys first second =
    map-append (λ place. place.word) ps bs ∙ (λ i. first i ++ second i) ∙ sym (map-append word_of xs ys)

times : (n : ℕ) (ps : List SitePlace) (xs : List Site) → words ps ≡ site_words xs → words (repeated n ps) ≡ site_words (repeated n xs)
times zero ps xs same = refl
times (suc n) ps xs same = joined ps (repeated n ps) xs (repeated n xs) same (times n ps xs same)

mutual
  -- the words of a statement's places are those of its sites
  stmt_words : (lengths : Place → Place → ℕ) (s : Stmt) → words (stmt_places s) ≡ site_words (stmt_sites lengths s)
  stmt_words lengths (stmt.Assign x e) = refl
  stmt_words lengths (stmt.Point p to) = refl
  stmt_words lengths (stmt.If' c m yes_row n no_row) =
      joined (row_places yes_row) (row_places no_row) (row_sites lengths yes_row) (row_sites lengths no_row) (row_words lengths yes_row) (row_words lengths no_row)
  stmt_words lengths (stmt.For' i turns at m row for_word) = times turns (row_places row) (row_sites lengths row) (row_words lengths row)
  stmt_words lengths (stmt.Io x p a args io_word) = refl
  stmt_words lengths (stmt.Block' a m row block_word) = ap (λ (l : List SiteWord). word.Block ∷ l) (row_words lengths row)
  stmt_words lengths (stmt.Dma to from n dma_word) = refl

  -- and those of a row
  row_words : (lengths : Place → Place → ℕ) {n : _} (row : Row_of-Stmt n) → words (row_places row) ≡ site_words (row_sites lengths row)
  row_words lengths end_of-Stmt = refl
  row_words lengths (more_of-Stmt s rest) =
      joined (stmt_places s) (row_places rest) (stmt_sites lengths s) (row_sites lengths rest) (stmt_words lengths s) (row_words lengths rest)

body_words : (lengths : Place → Place → ℕ) (body : List Stmt) → words (body_places body) ≡ site_words (body_sites lengths body)
body_words lengths [] = refl
body_words lengths (s ∷ rest) = joined (stmt_places s) (body_places rest) (stmt_sites lengths s) (body_sites lengths rest) (stmt_words lengths s) (body_words lengths rest)

tasks_words : (names : Meanings) (arrays : List Array) (tasks : List Task)
    → map words (map (λ t. body_places t.body) tasks) ≡ map (λ (t : CoreTask). site_words t.sites) (map (core_task names arrays) tasks)
tasks_words names arrays [] = refl
tasks_words names arrays (t ∷ tasks) =
    λ i. body_words (words_between names arrays (reach_in names arrays t)) t.body i ∷ tasks_words names arrays tasks i

-- of a whole program
pub program_words : (p : Program) → map words (program_places p) ≡ map (λ (t : CoreTask). site_words t.sites) (core_of p).tasks
unfolding core_of
program_words p = tasks_words (names_of p) (arrays_of p) p.tasks
