-- The same pass for all I/O sites at once, as the code does it: a row of bits for each array, pointer and site, where
-- bit k - 1 stands for the I/O site k.
use Rattle.std.specs.Prelude.{ℕ, zero, suc, ◌+◌, ◌^◌, Bool, ◌==◌, ltb, cond, List, [], ◌∷◌, Option, Some, None, slice_index, slice_index_or, slice_set, replicate, bit_or}
use Rattle.std.specs.Int.{bit_at}
use Rattle.task_ast.specs.declared.core_form.CoreExpr.{CoreExpr, end_of-CoreExpr, more_of-CoreExpr}
use Rattle.task_ast.specs.declared.core_form.CoreExpr.TheVariants as expr
use Rattle.task_ast.specs.declared.core_form.CoreTarget.{CoreTarget}
use Rattle.task_ast.specs.declared.core_form.CoreTarget.TheVariants as target
use Rattle.task_ast.specs.declared.core_form.CoreEnd.{CoreEnd}
use Rattle.task_ast.specs.declared.core_form.CoreEnd.TheVariants as end
use Rattle.task_ast.specs.declared.core_form.CoreStmt.{CoreStmt, Row_of-CoreStmt, end_of-CoreStmt, more_of-CoreStmt}
use Rattle.task_ast.specs.declared.core_form.CoreStmt.TheVariants as stmt
use Rattle.task_ast.specs.Pointing.{Pointing, target_arrays, reading_arrays, end_arrays}

-- the rows of all arrays, pointers and sites, and the bits of all sites that were found since a block began
pub record Rows : Type 0 where
  pub arrays : List ℕ
  pub pointers : List ℕ
  pub sites : List ℕ
  pub found : ℕ

-- whether a row has a bit
abbrev pub has_bit : (row bit : ℕ) → Bool
has_bit row bit = bit_at row bit == 1

-- the rows of arrays and pointers, kept over a branch
pub record Branch : Type 0 where
  pub arrays : List ℕ
  pub pointers : List ℕ

-- empty rows of so many arrays, pointers and sites; the sites' row 0 is none's
abbrev pub no_rows : (arrays pointers sites : ℕ) → Rows
no_rows arrays pointers sites = record { arrays = replicate arrays 0; pointers = replicate pointers 0; sites = replicate (sites + 1) 0; found = 0 }

-- the rows of arrays and pointers
abbrev pub branch_of : Rows → Branch
branch_of r = record { arrays = r.arrays; pointers = r.pointers }

-- lists of arrays, one for each pointer, as the arrays to which each may point
abbrev pub listed : List (List ℕ) → Pointing
listed rows pointer = slice_index_or rows pointer []

-- a row with the bits of another
abbrev pub with_bits : List ℕ → (number row : ℕ) → List ℕ
with_bits rows number row = slice_set rows number (bit_or (slice_index rows number) row)

-- the rows of several numbers with these bits
abbrev pub with_each : List ℕ → (numbers : List ℕ) → (row : ℕ) → List ℕ
with_each rows [] row = rows
with_each rows (n ∷ numbers) row = with_each (with_bits rows n row) numbers row

-- rows with the bits of others, from this number on
abbrev pub with_all : List ℕ → (from : ℕ) → (others : List ℕ) → List ℕ
with_all rows from [] = rows
with_all rows from (row ∷ others) = with_all (with_bits rows from row) (from + 1) others

-- the bits of several rows, and of one more
abbrev pub each_bits : List ℕ → ℕ → (numbers : List ℕ) → ℕ
each_bits rows row [] = row
each_bits rows row (n ∷ numbers) = each_bits rows (bit_or row (slice_index rows n)) numbers

-- the bit of a site; none for the number 0, and none past 128
abbrev pub own_bit : (site : ℕ) → ℕ
own_bit zero = 0
own_bit (suc k) = cond (ltb k 128) (2 ^ k) 0

-- the bits of a pointer that is indexed through, and of all arrays to which it may point
abbrev pub through_bits : Pointing → Rows → ℕ → ℕ
through_bits points r pointer = each_bits r.arrays (slice_index r.pointers pointer) (points pointer)

-- the bits of an expression
abbrev pub expr_bits : Pointing → Rows → CoreExpr → ℕ
expr_bits points r (expr.Number word) = 0
expr_bits points r (expr.Cell' array u (more_of-CoreExpr i end_of-CoreExpr)) = bit_or (slice_index r.arrays array) (expr_bits points r i)
expr_bits points r (expr.Through' pointer u (more_of-CoreExpr i end_of-CoreExpr)) = bit_or (through_bits points r pointer) (expr_bits points r i)
expr_bits points r (expr.One' op u (more_of-CoreExpr e end_of-CoreExpr)) = expr_bits points r e
expr_bits points r (expr.Two' op u (more_of-CoreExpr a end_of-CoreExpr) v (more_of-CoreExpr b end_of-CoreExpr)) = bit_or (expr_bits points r a) (expr_bits points r b)

-- the bits of expressions, and more
abbrev pub exprs_bits : Pointing → Rows → ℕ → List CoreExpr → ℕ
exprs_bits points r row [] = row
exprs_bits points r row (e ∷ es) = exprs_bits points r (bit_or row (expr_bits points r e)) es

-- the bits of what finds a target, a reading's target and a copy's end
abbrev pub target_bits : Pointing → Rows → CoreTarget → ℕ
target_bits points r (target.Cell array i) = expr_bits points r i
target_bits points r (target.Through pointer i) = bit_or (slice_index r.pointers pointer) (expr_bits points r i)

abbrev pub reading_bits : Pointing → Rows → Option CoreTarget → ℕ
reading_bits points r None = 0
reading_bits points r (Some x) = target_bits points r x

abbrev pub end_bits : Pointing → Rows → CoreEnd → ℕ
end_bits points r (end.Cell array i) = expr_bits points r i
end_bits points r (end.Pointer pointer) = slice_index r.pointers pointer

-- the bits of all that an assignment in a loop reads
abbrev pub assignment_bits : Pointing → Rows → CoreTarget → CoreExpr → ℕ
assignment_bits points r (target.Cell array i) e = bit_or (expr_bits points r i) (expr_bits points r e)
assignment_bits points r (target.Through pointer i) e = bit_or (bit_or (through_bits points r pointer) (expr_bits points r i)) (expr_bits points r e)

abbrev mutual
  -- the bits of all that a statement of a loop reads
  pub read_bits : Pointing → Rows → CoreStmt → ℕ
  read_bits points r (stmt.Assign x e) = assignment_bits points r x e
  read_bits points r (stmt.Point p array i) = expr_bits points r i
  read_bits points r (stmt.If' e m yes_row n no_row) = bit_or (bit_or (expr_bits points r e) (row_bits points r 0 yes_row)) (row_bits points r 0 no_row)
  read_bits points r (stmt.Loop' i turns m row) = row_bits points r 0 row
  read_bits points r (stmt.Io k x p args) = 0
  read_bits points r (stmt.Block' k m row) = 0
  read_bits points r (stmt.Copy k to from n) = 0

  -- those of a row's statements, and more
  pub row_bits : Pointing → Rows → ℕ → {n : _} → Row_of-CoreStmt n → ℕ
  row_bits points r bits end_of-CoreStmt = bits
  row_bits points r bits (more_of-CoreStmt s rest) = row_bits points r (bit_or bits (read_bits points r s)) rest

-- those of statements one after another, and more
abbrev pub all_bits : Pointing → Rows → ℕ → List CoreStmt → ℕ
all_bits points r bits [] = bits
all_bits points r bits (s ∷ rest) = all_bits points r (bit_or bits (read_bits points r s)) rest

-- the rows of these arrays, of a pointer, and of a site that is found, with more bits
abbrev pub in_arrays : Rows → List ℕ → (row : ℕ) → Rows
in_arrays r arrays row = record r { arrays = with_each r.arrays arrays row }

abbrev pub in_pointer : Rows → (pointer row : ℕ) → Rows
in_pointer r pointer row = record r { pointers = with_bits r.pointers pointer row }

abbrev pub in_site : Rows → (k row : ℕ) → Rows
in_site r k row = record r { sites = with_bits r.sites k row; found = bit_or r.found row }

abbrev mutual
  -- all that a statement may assign, with these bits
  pub spread : Pointing → CoreStmt → (row : ℕ) → Rows → Rows
  spread points (stmt.Assign x e) row r = in_arrays r (target_arrays points x) row
  spread points (stmt.Point p array i) row r = in_pointer r p row
  spread points (stmt.If' e m yes_row n no_row) row r = row_spread points no_row row (row_spread points yes_row row r)
  spread points (stmt.Loop' i turns m body) row r = row_spread points body row (in_arrays r (i ∷ []) row)
  spread points (stmt.Io k x p args) row r = in_arrays r (reading_arrays points x) row
  spread points (stmt.Block' k m body) row r = row_spread points body row r
  spread points (stmt.Copy k to from n) row r = in_arrays r (end_arrays points to) row

  -- all that a row's statements may assign
  pub row_spread : Pointing → {n : _} → Row_of-CoreStmt n → (row : ℕ) → Rows → Rows
  row_spread points end_of-CoreStmt row r = r
  row_spread points (more_of-CoreStmt s rest) row r = row_spread points rest row (spread points s row r)

-- all that statements may assign
abbrev pub all_spread : Pointing → List CoreStmt → (row : ℕ) → Rows → Rows
all_spread points [] row r = r
all_spread points (s ∷ rest) row r = all_spread points rest row (spread points s row r)

-- an I/O site: it is found, and its target takes its own bit and those of what finds its place
abbrev pub io_done : Pointing → (around k : ℕ) → Option CoreTarget → List CoreExpr → Rows → Rows
io_done points around k x args r =
    in_arrays (in_site r k (exprs_bits points r around args)) (reading_arrays points x)
    (bit_or (bit_or (own_bit k) around) (reading_bits points r x))

-- the bits by which a copy depends
abbrev pub copy_bits : Pointing → (around : ℕ) → (to from : CoreEnd) → CoreExpr → Rows → ℕ
copy_bits points around to from n r =
    each_bits r.arrays (bit_or (bit_or (bit_or around (end_bits points r to)) (end_bits points r from)) (expr_bits points r n)) (end_arrays points from)

-- a copy: it is found, and its destination takes all its bits
abbrev pub copy_done : Pointing → (around k : ℕ) → (to from : CoreEnd) → CoreExpr → Rows → Rows
copy_done points around k to from n r =
    let row = copy_bits points around to from n r in in_arrays (in_site r k row) (end_arrays points to) row

-- a block is left: it is found with the bits of what was found in it; `outside` was found before it
abbrev pub block_left : (around k outside : ℕ) → Rows → Rows
block_left around k outside r = let after = in_site r k (bit_or around r.found) in record after { found = bit_or after.found outside }

-- a block is entered with nothing found in it yet
abbrev pub block_entered : Rows → Rows
block_entered r = record r { found = 0 }

-- the other branch begins with the rows before the first one, and goes on with what was found
abbrev pub other_branch : (before : Branch) (after : Rows) → Rows
other_branch before after = record after { arrays = before.arrays; pointers = before.pointers }

-- after both branches each row has the bits of both
abbrev pub both_branches : (one : Branch) (other : Rows) → Rows
both_branches one other =
    record other { arrays = with_all other.arrays 0 one.arrays; pointers = with_all other.pointers 0 one.pointers }

abbrev mutual
  -- the rows after a statement; `around` are the bits of all conditions around it
  pub done : Pointing → CoreStmt → (around : ℕ) → Rows → Rows
  done points (stmt.Assign x e) around r =
      in_arrays r (target_arrays points x) (bit_or (bit_or around (target_bits points r x)) (expr_bits points r e))
  done points (stmt.Point p array i) around r = in_pointer r p (bit_or around (expr_bits points r i))
  done points (stmt.If' e m yes_row n no_row) around r =
      let inside = bit_or around (expr_bits points r e) in
      let one = row_done points yes_row inside r in
      both_branches (branch_of one) (row_done points no_row inside (other_branch (branch_of r) one))
  done points (stmt.Loop' i turns m body) around r =
      let row = bit_or around (row_bits points r 0 body) in
      row_spread points body row (in_arrays r (i ∷ []) row)
  done points (stmt.Io k x p args) around r = io_done points around k x args r
  done points (stmt.Block' k m body) around r = block_left around k r.found (row_done points body around (block_entered r))
  done points (stmt.Copy k to from n) around r = copy_done points around k to from n r

  -- the rows after a row's statements, one after another
  pub row_done : Pointing → {n : _} → Row_of-CoreStmt n → (around : ℕ) → Rows → Rows
  row_done points end_of-CoreStmt around r = r
  row_done points (more_of-CoreStmt s rest) around r = row_done points rest around (done points s around r)

-- the rows after statements, one after another
abbrev pub all_done : Pointing → List CoreStmt → (around : ℕ) → Rows → Rows
all_done points [] around r = r
all_done points (s ∷ rest) around r = all_done points rest around (done points s around r)
