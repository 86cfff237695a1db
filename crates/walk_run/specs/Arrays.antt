-- The words of arrays by themselves, as code writes them.
use Rattle.std.specs.Prelude.{◌<◌, ◌^◌, ℕ, List, [], map, length, slice_index_or, slice_set}
use Rattle.std.specs.List.{AllByRecursion}
use Rattle.task_ast.specs.declared.core_form.Array.{Array}
use Rattle.walk_run.specs.Store.{fresh_words}

-- the words of an array by its number; none where there is no such array
abbrev pub array_words : List (List ℕ) → (array : ℕ) → List ℕ
array_words words array = slice_index_or words array []

-- words of arrays with one array as it is when a task begins
abbrev pub with_fresh : Array → (number : ℕ) → List (List ℕ) → List (List ℕ)
with_fresh a number words = slice_set words number (fresh_words a.kind a.first (array_words words number))

-- a number that fits a word
abbrev pub IsShort : ℕ → Type 0
IsShort n = n < 2 ^ 32

-- each array's number of words fits a word
abbrev pub IsNarrow : List (List ℕ) → Type 0
IsNarrow words = AllByRecursion IsShort (map length words)
