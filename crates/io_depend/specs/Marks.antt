-- Arrays that are marked, one by one.
use Rattle.std.specs.Prelude.{ℕ, Bool, true, false, List, [], ◌∷◌, length, map, filter, slice_index_or, slice_set}
use Rattle.std.specs.List.{range_with_len}
use Rattle.task_ast.specs.declared.core_form.CoreStmt.{CoreStmt}
use Rattle.task_ast.specs.Pointing.{addresses, all_addresses}
use Rattle.io_depend.specs.Sets.{has}

-- whether an array is marked
abbrev pub is_marked : (marks : List Bool) → (array : ℕ) → Bool
is_marked marks array = slice_index_or marks array false

-- marks with these arrays marked too
abbrev pub with_marks : (marks : List Bool) → (arrays : List ℕ) → List Bool
with_marks marks [] = marks
with_marks marks (a ∷ arrays) = with_marks (slice_set marks a true) arrays

-- marks after statements, with the arrays whose address they give to a pointer
abbrev pub marks_after : (pointer : ℕ) → List CoreStmt → (marks : List Bool) → List Bool
marks_after pointer [] marks = marks
marks_after pointer (s ∷ rest) marks = marks_after pointer rest (with_marks marks (addresses pointer s))

-- the marked arrays, ascending
abbrev pub marked : (marks : List Bool) → List ℕ
marked marks = filter (is_marked marks) (range_with_len 0 (length marks))

-- the arrays of so many whose address statements give to a pointer, ascending
abbrev pub given_arrays : (body : List CoreStmt) → (arrays pointer : ℕ) → List ℕ
given_arrays body arrays pointer = filter (has (all_addresses pointer body)) (range_with_len 0 arrays)

-- those of so many pointers
abbrev pub all_given : (body : List CoreStmt) → (arrays pointers : ℕ) → List (List ℕ)
all_given body arrays pointers = map (given_arrays body arrays) (range_with_len 0 pointers)
