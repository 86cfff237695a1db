-- The account of a program's sites (docs/COMMANDS.md, "Sites"), over its checked form and the places of the sites.
use Rattle.std.specs.Prelude.{◌≡◌, ℕ, ◌+◌, ◌-◌, List, [], ◌∷◌, ◌++◌, codes, decimal, length, Option, None, Some, slice_get, slice_index_or}
use Rattle.std.specs.List.{flat_map}
use Rattle.std.proofs.Common.{refl, ap, ◌∙◌}
use Rattle.ease_base.specs.Lines.{line}
use Rattle.ease_base.specs.declared.place.Peripheral.{Peripheral}
use Rattle.io_depend.specs.Depend.{dependents, points}
use Rattle.region_split.specs.Owners.{all_first}
use Rattle.site_account.specs.declared.places.SitePlace.{SitePlace}
use Rattle.task_ast.specs.CoreSites.{row_numbers, all_numbers, body_numbers}
use Rattle.task_ast.specs.Pointing.{Pointing, end_arrays}
use Rattle.task_ast.specs.Rows.{core_row_of, core_row_shows}
use Rattle.task_ast.specs.declared.core_form.Array.{Array}
use Rattle.task_ast.specs.declared.core_form.Core.{Core}
use Rattle.task_ast.specs.declared.core_form.CoreEnd.{CoreEnd}
use Rattle.task_ast.specs.declared.core_form.CoreExpr.{CoreExpr}
use Rattle.task_ast.specs.declared.core_form.CoreStmt.{CoreStmt, Row_of-CoreStmt, end_of-CoreStmt, more_of-CoreStmt, items-the_row-CoreStmt}
use Rattle.task_ast.specs.declared.core_form.CoreStmt.TheVariants as stmt
use Rattle.task_ast.specs.declared.core_form.CoreTask.{CoreTask}
use Rattle.task_ast.specs.declared.core_form.Site.{Site}
use Rattle.task_ast.specs.declared.core_form.Site.TheVariants as site
use Rattle.task_ast.specs.declared.tree.Ann.{Ann}
use Rattle.task_ast.specs.declared.tree.Ann.TheVariants as ann

-- What the lines of a task are made of: what is declared, the task's sites with their places, the later sites that
-- depend on each I/O site, and the arrays to which each pointer may point, both ascending.
pub record Facts : Type 0 where
  pub arrays : List Array
  pub peripherals : List Peripheral
  pub sites : List Site
  pub places : List SitePlace
  pub forced : (site : ℕ) → List ℕ
  pub points : Pointing

-- those of a task of a program
abbrev pub facts_of : Core → CoreTask → List SitePlace → Facts
facts_of c t places = record {
  arrays = c.arrays;
  peripherals = c.peripherals;
  sites = t.sites;
  places = places;
  forced = dependents t;
  points = points c t;
}

-- a text after a space
abbrev pub spaced : List ℕ → List ℕ
spaced text = 32 ∷ text

-- numbers, each after a space
abbrev pub numbers : List ℕ → List ℕ
numbers ns = flat_map (λ n. spaced (decimal n)) ns

-- a word with numbers behind it, where there are any
abbrev pub listed : (word : List ℕ) → List ℕ → List ℕ
listed word [] = []
listed word (n ∷ ns) = word ++ numbers (n ∷ ns)

-- the name of an array, and of a peripheral; none where it isn't there
abbrev pub array_name : Option Array → List ℕ
array_name None = []
array_name (Some a) = a.name

abbrev pub peripheral_name : Option Peripheral → List ℕ
peripheral_name None = []
peripheral_name (Some p) = p.name

-- the names of arrays, each after a space
abbrev pub names : List Array → List ℕ → List ℕ
names arrays ns = flat_map (λ n. spaced (array_name (slice_get arrays n))) ns

-- a place as line and column
abbrev pub place_text : Option SitePlace → List ℕ
place_text None = []
place_text (Some p) = decimal p.at.line ++ 58 ∷ decimal p.at.column

-- an annotation
abbrev pub ann_text : Ann → List ℕ
ann_text ann.Single = codes " single"
ann_text (ann.Timely ticks) = codes " timely " ++ decimal ticks
ann_text ann.Always = codes " always"

-- how a site is marked: its annotation, or a copy's greatest length
abbrev pub mark_text : Option Site → List ℕ
mark_text None = []
mark_text (Some (site.Io a)) = ann_text a
mark_text (Some (site.Block a)) = ann_text a
mark_text (Some (site.Copy n)) = codes " greatest " ++ decimal n

-- the number of a site, and its place
abbrev pub site_front : Facts → (site : ℕ) → List ℕ
site_front f k = codes "site " ++ decimal k ++ spaced (place_text (slice_get f.places (k - 1)))

-- how it is marked
abbrev pub mark : Facts → (site : ℕ) → List ℕ
mark f k = mark_text (slice_get f.sites (k - 1))

-- the line of a call: the peripheral, how it is marked, and the sites that a new result forces
unfoldable pub call_line : Facts → (site peripheral : ℕ) → List ℕ
call_line f k p = line (site_front f k ++ codes " io" ++ spaced (peripheral_name (slice_get f.peripherals p)) ++ mark f k ++ listed (codes " forces") (f.forced k))

-- the line of a block: how it is marked, and its members
unfoldable pub block_line : Facts → (site : ℕ) → (members : List ℕ) → List ℕ
block_line f k members = line (site_front f k ++ codes " block" ++ mark f k ++ codes " members" ++ numbers members)

-- the line of a copy: the arrays that its destination and its source may be in, and its greatest length
unfoldable pub copy_line : Facts → (site : ℕ) → (to from : CoreEnd) → List ℕ
copy_line f k to from =
    line (site_front f k ++ codes " copy to" ++ names f.arrays (end_arrays f.points to) ++ codes " from" ++ names f.arrays (end_arrays f.points from) ++ mark f k)

abbrev mutual
  -- a line for each site of a statement; a block's members are the sites inside it at any depth
  pub stmt_lines : Facts → CoreStmt → List ℕ
  stmt_lines f (stmt.Assign x e) = []
  stmt_lines f (stmt.Point p array i) = []
  stmt_lines f (stmt.If' c m yes_row n no_row) = row_lines f yes_row ++ row_lines f no_row
  stmt_lines f (stmt.Loop' i turns m row) = row_lines f row
  stmt_lines f (stmt.Io k x p args) = call_line f k p
  stmt_lines f (stmt.Block' k m row) = block_line f k (row_numbers row) ++ row_lines f row
  stmt_lines f (stmt.Copy k to from n) = copy_line f k to from

  -- for each site of a row's statements
  pub row_lines : Facts → {n : _} → Row_of-CoreStmt n → List ℕ
  row_lines f end_of-CoreStmt = []
  row_lines f (more_of-CoreStmt s rest) = stmt_lines f s ++ row_lines f rest

-- for each site of statements, one after another
abbrev pub body_lines : Facts → List CoreStmt → List ℕ
body_lines f [] = []
body_lines f (s ∷ rest) = stmt_lines f s ++ body_lines f rest

-- the line of a region's first arrays, where it has any
abbrev pub first_line : List Array → (region : ℕ) → List ℕ → List ℕ
first_line arrays r [] = []
first_line arrays r (n ∷ ns) = line (codes "first " ++ decimal r ++ names arrays (n ∷ ns))

-- the lines of regions from this number on
abbrev pub first_lines : List Array → (region : ℕ) → List (List ℕ) → List ℕ
first_lines arrays r [] = []
first_lines arrays r (row ∷ rows) = first_line arrays r row ++ first_lines arrays (r + 1) rows

-- how many regions there are, and what each of them writes first
unfoldable pub regions_text : List Array → List (List ℕ) → List ℕ
regions_text arrays rows = line (codes "regions " ++ decimal (length rows)) ++ first_lines arrays 0 rows

-- a task: its number and its name, its sites, its regions
unfoldable pub task_text : Core → (number : ℕ) → CoreTask → List SitePlace → List ℕ
task_text c number t places =
    line (codes "task " ++ decimal number ++ spaced t.name) ++ body_lines (facts_of c t places) t.body ++ regions_text c.arrays (all_first c t)

-- tasks with so many before them, each with the places of its sites; their numbers go from 1
abbrev pub tasks_text : Core → List (List SitePlace) → (before : ℕ) → List CoreTask → List ℕ
tasks_text c places n [] = []
tasks_text c places n (t ∷ ts) = task_text c (n + 1) t (slice_index_or places n []) ++ tasks_text c places (n + 1) ts

-- all tasks, and the end
unfoldable pub account_of : Core → List (List SitePlace) → List ℕ
account_of c places = tasks_text c places 0 c.tasks ++ line (codes "end")

-- the lines of a row are those of the statements that it shows
row_is : (f : Facts) (n : _) (row : Row_of-CoreStmt n) → row_lines f row ≡ body_lines f (items-the_row-CoreStmt n row)
row_is f n end_of-CoreStmt = refl
row_is f n (more_of-CoreStmt s rest) = ap (λ (l : List ℕ). stmt_lines f s ++ l) (row_is f _ rest)

body_is : (f : Facts) (body : List CoreStmt) → row_lines f (core_row_of body).1 ≡ body_lines f body
body_is f body = row_is f (core_row_of body).0 (core_row_of body).1 ∙ ap (body_lines f) (core_row_shows body)

-- the lines of an `if`, of a loop and of a block
pub lines_if : (f : Facts) (c : CoreExpr) (yes_part no_part : List CoreStmt) → stmt_lines f (stmt.If c yes_part no_part) ≡ body_lines f yes_part ++ body_lines f no_part
lines_if f c yes_part no_part = λ i. body_is f yes_part i ++ body_is f no_part i

pub lines_loop : (f : Facts) (i turns : ℕ) (body : List CoreStmt) → stmt_lines f (stmt.Loop i turns body) ≡ body_lines f body
lines_loop f i turns body = body_is f body

pub lines_block : (f : Facts) (k : ℕ) (body : List CoreStmt) → stmt_lines f (stmt.Block k body) ≡ block_line f k (all_numbers body) ++ body_lines f body
lines_block f k body = λ i. block_line f k (body_numbers body i) ++ body_is f body i
