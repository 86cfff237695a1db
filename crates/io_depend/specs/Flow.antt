-- Where words of I/O calls flow (docs/LANGUAGE.md, "Dependence"): one forward pass from some I/O sites, over the arrays
-- and pointers that may carry their words.
use Rattle.std.specs.Prelude.{ℕ, Bool, false, ◌||◌, cond, List, [], ◌∷◌, ◌++◌, Option, Some, None}
use Rattle.std.specs.List.{list_any}
use Rattle.task_ast.specs.declared.core_form.CoreExpr.{CoreExpr, end_of-CoreExpr, more_of-CoreExpr}
use Rattle.task_ast.specs.declared.core_form.CoreExpr.TheVariants as expr
use Rattle.task_ast.specs.declared.core_form.CoreTarget.{CoreTarget}
use Rattle.task_ast.specs.declared.core_form.CoreTarget.TheVariants as target
use Rattle.task_ast.specs.declared.core_form.CoreEnd.{CoreEnd}
use Rattle.task_ast.specs.declared.core_form.CoreEnd.TheVariants as end
use Rattle.task_ast.specs.declared.core_form.CoreStmt.{CoreStmt, Row_of-CoreStmt, end_of-CoreStmt, more_of-CoreStmt}
use Rattle.task_ast.specs.declared.core_form.CoreStmt.TheVariants as stmt
use Rattle.task_ast.specs.Pointing.{Pointing, target_arrays, reading_arrays, end_arrays}
use Rattle.io_depend.specs.Sets.{has, joined, has_some}

-- the arrays and pointers that may carry a word of these sites so far, and the sites found to depend on one
pub record Carrying : Type 0 where
  pub arrays : List ℕ
  pub pointers : List ℕ
  pub sites : List ℕ

-- whether one of these arrays carries
abbrev pub one_carries : Carrying → List ℕ → Bool
one_carries c arrays = list_any (has c.arrays) arrays

-- whether a pointer that is indexed through carries, or an array to which it may point
abbrev pub through_carries : Pointing → Carrying → ℕ → Bool
through_carries points c pointer = has c.pointers pointer || one_carries c (points pointer)

-- whether an expression reads what carries; its indexes are read too
abbrev pub carries : Pointing → Carrying → CoreExpr → Bool
carries points c (expr.Number word) = false
carries points c (expr.Cell' array u (more_of-CoreExpr i end_of-CoreExpr)) = has c.arrays array || carries points c i
carries points c (expr.Through' pointer u (more_of-CoreExpr i end_of-CoreExpr)) = through_carries points c pointer || carries points c i
carries points c (expr.One' op u (more_of-CoreExpr e end_of-CoreExpr)) = carries points c e
carries points c (expr.Two' op u (more_of-CoreExpr a end_of-CoreExpr) v (more_of-CoreExpr b end_of-CoreExpr)) = carries points c a || carries points c b

-- whether what finds a target carries: its index, and the pointer that it goes through
abbrev pub target_carries : Pointing → Carrying → CoreTarget → Bool
target_carries points c (target.Cell array i) = carries points c i
target_carries points c (target.Through pointer i) = has c.pointers pointer || carries points c i

-- whether what finds a reading's target carries, if there is one
abbrev pub reading_carries : Pointing → Carrying → Option CoreTarget → Bool
reading_carries points c None = false
reading_carries points c (Some x) = target_carries points c x

-- whether what finds a copy's end carries: its index or its pointer
abbrev pub end_carries : Pointing → Carrying → CoreEnd → Bool
end_carries points c (end.Cell array i) = carries points c i
end_carries points c (end.Pointer pointer) = has c.pointers pointer

-- where it flows, it flows into these arrays
abbrev pub into_arrays : Bool → List ℕ → Carrying → Carrying
into_arrays flows arrays c = cond flows (record c { arrays = joined arrays c.arrays }) c

-- and into these pointers
abbrev pub into_pointers : Bool → List ℕ → Carrying → Carrying
into_pointers flows pointers c = cond flows (record c { pointers = joined pointers c.pointers }) c

-- a site is found to depend
abbrev pub into_sites : Bool → ℕ → Carrying → Carrying
into_sites flows k c = cond flows (record c { sites = k ∷ c.sites }) c

-- what carries after one of two branches
abbrev pub either : Carrying → Carrying → Carrying
either a b = record { arrays = joined a.arrays b.arrays; pointers = joined a.pointers b.pointers; sites = joined a.sites b.sites }

-- whether an assignment in a loop reads what carries: a pointer of its target is read with all to which it may point
abbrev pub assignment_reads : Pointing → Carrying → CoreTarget → CoreExpr → Bool
assignment_reads points c (target.Cell array i) e = carries points c i || carries points c e
assignment_reads points c (target.Through pointer i) e = through_carries points c pointer || (carries points c i || carries points c e)

abbrev mutual
  -- whether a statement of a loop reads what carries; a site, which no loop has, reads nothing here
  pub reads : Pointing → Carrying → CoreStmt → Bool
  reads points c (stmt.Assign x e) = assignment_reads points c x e
  reads points c (stmt.Point p array i) = carries points c i
  reads points c (stmt.If' e m yes_row n no_row) = carries points c e || (row_reads points c yes_row || row_reads points c no_row)
  reads points c (stmt.Loop' i turns m row) = row_reads points c row
  reads points c (stmt.Io k x p args) = false
  reads points c (stmt.Block' k m row) = false
  reads points c (stmt.Copy k to from n) = false

  -- whether a statement of a row does
  pub row_reads : Pointing → Carrying → {n : _} → Row_of-CoreStmt n → Bool
  row_reads points c end_of-CoreStmt = false
  row_reads points c (more_of-CoreStmt s rest) = reads points c s || row_reads points c rest

abbrev mutual
  -- the arrays that a statement may assign
  pub assigns : Pointing → CoreStmt → List ℕ
  assigns points (stmt.Assign x e) = target_arrays points x
  assigns points (stmt.Point p array i) = []
  assigns points (stmt.If' c m yes_row n no_row) = row_assigns points yes_row ++ row_assigns points no_row
  assigns points (stmt.Loop' i turns m row) = i ∷ row_assigns points row
  assigns points (stmt.Io k x p args) = reading_arrays points x
  assigns points (stmt.Block' k m row) = row_assigns points row
  assigns points (stmt.Copy k to from n) = end_arrays points to

  -- those that a row's statements may assign
  pub row_assigns : Pointing → {n : _} → Row_of-CoreStmt n → List ℕ
  row_assigns points end_of-CoreStmt = []
  row_assigns points (more_of-CoreStmt s rest) = assigns points s ++ row_assigns points rest

abbrev mutual
  -- the pointers that a statement assigns
  pub moves : CoreStmt → List ℕ
  moves (stmt.Assign x e) = []
  moves (stmt.Point p array i) = p ∷ []
  moves (stmt.If' c m yes_row n no_row) = row_moves yes_row ++ row_moves no_row
  moves (stmt.Loop' i turns m row) = row_moves row
  moves (stmt.Io k x p args) = []
  moves (stmt.Block' k m row) = row_moves row
  moves (stmt.Copy k to from n) = []

  -- those that a row's statements assign
  pub row_moves : {n : _} → Row_of-CoreStmt n → List ℕ
  row_moves end_of-CoreStmt = []
  row_moves (more_of-CoreStmt s rest) = moves s ++ row_moves rest

-- what flows into a loop flows into all arrays and pointers that it assigns
abbrev pub loop_passed : (flows : Bool) → (arrays pointers : List ℕ) → Carrying → Carrying
loop_passed flows arrays pointers c = into_pointers flows pointers (into_arrays flows arrays c)

-- an I/O site k depends by its arguments; its target takes the word of the site itself, if it is one of the sources, and what finds its place
abbrev pub io_passed : Pointing → (sources : ℕ → Bool) → (around : Bool) → (k : ℕ) → Option CoreTarget → List CoreExpr → Carrying → Carrying
io_passed points sources around k x args c =
    into_arrays (sources k || (around || reading_carries points c x)) (reading_arrays points x)
    (into_sites (around || list_any (carries points c) args) k c)

-- whether a copy depends: by its ends, its length and its source
abbrev pub copy_carries : Pointing → Carrying → (to from : CoreEnd) → CoreExpr → Bool
copy_carries points c to from n = end_carries points c to || (end_carries points c from || (carries points c n || one_carries c (end_arrays points from)))

-- a copy's destination takes all by which the copy depends
abbrev pub copy_passed : Pointing → (around : Bool) → (k : ℕ) → (to from : CoreEnd) → CoreExpr → Carrying → Carrying
copy_passed points around k to from n c =
    let flows = around || copy_carries points c to from n in
    into_arrays flows (end_arrays points to) (into_sites flows k c)

-- a block depends by what is around it and by its members: where the pass over its body found a site
abbrev pub block_passed : (around : Bool) → (k : ℕ) → (sites : List ℕ) → (inside : Carrying) → Carrying
block_passed around k sites inside =
    into_sites (around || has_some inside.sites) k (record inside { sites = inside.sites ++ sites })

-- the pass goes into a block with no site found yet
abbrev pub no_sites : Carrying → Carrying
no_sites c = record c { sites = [] }

abbrev mutual
  -- what carries after a statement; `around` says whether a condition around it carries
  pub passed : Pointing → (sources : ℕ → Bool) → CoreStmt → (around : Bool) → Carrying → Carrying
  passed points sources (stmt.Assign x e) around c =
      into_arrays (around || (target_carries points c x || carries points c e)) (target_arrays points x) c
  passed points sources (stmt.Point p array i) around c = into_pointers (around || carries points c i) (p ∷ []) c
  passed points sources (stmt.If' e m yes_row n no_row) around c =
      let inside = around || carries points c e in
      either (row_passed points sources yes_row inside c) (row_passed points sources no_row inside c)
  passed points sources (stmt.Loop' i turns m row) around c =
      loop_passed (around || row_reads points c row) (i ∷ row_assigns points row) (row_moves row) c
  passed points sources (stmt.Io k x p args) around c = io_passed points sources around k x args c
  passed points sources (stmt.Block' k m row) around c = block_passed around k c.sites (row_passed points sources row around (no_sites c))
  passed points sources (stmt.Copy k to from n) around c = copy_passed points around k to from n c

  -- what carries after a row's statements, one after another
  pub row_passed : Pointing → (sources : ℕ → Bool) → {n : _} → Row_of-CoreStmt n → (around : Bool) → Carrying → Carrying
  row_passed points sources end_of-CoreStmt around c = c
  row_passed points sources (more_of-CoreStmt s rest) around c = row_passed points sources rest around (passed points sources s around c)

-- what carries after statements, one after another
abbrev pub all_passed : Pointing → (sources : ℕ → Bool) → List CoreStmt → (around : Bool) → Carrying → Carrying
all_passed points sources [] around c = c
all_passed points sources (s ∷ rest) around c = all_passed points sources rest around (passed points sources s around c)

-- nothing carries yet
abbrev pub no_carrying : Carrying
no_carrying = record { arrays = []; pointers = []; sites = [] }
