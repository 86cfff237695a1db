-- Where the words of a program lie (docs/CODE.md, "Memory").
use Rattle.std.specs.Prelude.{ℕ, ◌+◌, ◌*◌, List, [], ◌∷◌, length, slice_index_or, sum_by}
use Rattle.task_ast.specs.declared.tree.Kind.{Kind}
use Rattle.task_ast.specs.declared.tree.Kind.TheVariants.{Nv, Const, Vol}
use Rattle.task_ast.specs.declared.core_form.Array.{Array}
use Rattle.line_code.specs.declared.areas.Placed.{Placed}
use Rattle.line_code.specs.declared.areas.Free.{Free}

-- the next array of a kind counts from the kind's register, at the kind's next free offset
abbrev pub area_of : Free → Kind → (room : ℕ) → Placed
area_of free Nv room = record { base = 14; offset = free.nv; room = room }
area_of free Const room = record { base = 0; offset = free.constant; room = room }
area_of free Vol room = record { base = 15; offset = free.volatile; room = room }

-- what is free behind it
abbrev pub free_of : Free → Kind → (room : ℕ) → Free
free_of free Nv room = record { nv = free.nv + room; constant = free.constant; volatile = free.volatile }
free_of free Const room = record { nv = free.nv; constant = free.constant + room; volatile = free.volatile }
free_of free Vol room = record { nv = free.nv; constant = free.constant; volatile = free.volatile + room }

-- arrays of a kind lie in order
abbrev pub areas_from : Free → List Array → List Placed
areas_from free [] = []
areas_from free (a ∷ arrays) = area_of free a.kind (length a.first) ∷ areas_from (free_of free a.kind (length a.first)) arrays

-- homes begin at 1, constants at 4097, and volatile words at offset 832 of RAM
abbrev pub free_at_first : Free
free_at_first = record { nv = 1; constant = 4097; volatile = 832 }

-- where an array lies; there is none behind the last
abbrev pub area_at : List Placed → (array : ℕ) → Placed
area_at areas array = slice_index_or areas array (record { base = 0; offset = 0; room = 0 })

-- the offset in RAM of a pointer's address, behind which its room is
abbrev pub pointer_at : (pointer : ℕ) → ℕ
pointer_at pointer = 320 + 2 * pointer

-- the words of all arrays
abbrev pub total : List Array → ℕ
total arrays = sum_by (λ a. length a.first) arrays
