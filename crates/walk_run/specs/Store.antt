-- The store of a run: the words of each array and the place of each pointer, by their numbers.
use Rattle.std.specs.Prelude.{◌≡◌, ◌<◌, ℕ, List, [], ◌∷◌, map, length, slice_index, slice_index_or, slice_set, Option, Some, None, IfSome}
use Rattle.std.specs.List.{AllByRecursion}
use Rattle.task_ast.specs.declared.tree.Kind.{Kind}
use Rattle.task_ast.specs.declared.tree.Kind.TheVariants.{Nv, Const, Vol}
use Rattle.task_ast.specs.declared.core_form.Array.{Array}
use Rattle.task_ast.specs.declared.core_form.Core.{Core}
use Rattle.walk_run.specs.declared.place.Place.{Place}

-- the words of each array; the place that each pointer points to, or nothing
pub record Store : Type 0 where
  pub words : List (List ℕ)
  pub pointers : List (Option Place)

-- a place by its two numbers
abbrev pub place : (array index : ℕ) → Place
place array index = record { array = array; index = index }

-- pointers that point to nothing
abbrev pub unset : {A : Type 0} → List A → List (Option Place)
unset names = map (λ _. None) names

-- the store that a program starts with
abbrev pub declared_store : Core → Store
declared_store c = record { words = map (λ a. a.first) c.arrays; pointers = unset c.pointers }

-- the words of an array; none where there is no such array
abbrev pub words_of : Store → (array : ℕ) → List ℕ
words_of store array = slice_index_or store.words array []

-- the word at a place
abbrev pub word_at : Store → Place → ℕ
word_at store at = slice_index (words_of store at.array) at.index

-- words of arrays, with another word at a place
abbrev pub with_word : Place → (word : ℕ) → List (List ℕ) → List (List ℕ)
with_word at word words = slice_set words at.array (slice_set (slice_index_or words at.array []) at.index word)

-- the store with another word at a place
abbrev pub put_word : Place → (word : ℕ) → Store → Store
put_word at word store = record store { words = with_word at word store.words }

-- the place that a pointer points to; nothing where there is no such pointer
abbrev pub pointed : Store → (pointer : ℕ) → Option Place
pointed store pointer = slice_index_or store.pointers pointer None

-- the store with a pointer that points to a place
abbrev pub put_pointer : (pointer : ℕ) → Place → Store → Store
put_pointer pointer at store = record store { pointers = slice_set store.pointers pointer (Some at) }

-- the words of an array when a task begins: those of a volatile one are as declared
abbrev pub fresh_words : Kind → (first words : List ℕ) → List ℕ
fresh_words Vol first words = first
fresh_words Nv first words = words
fresh_words Const first words = words

-- the words of all arrays when a task begins
abbrev pub fresh_arrays : List Array → List (List ℕ) → List (List ℕ)
fresh_arrays [] words = words
fresh_arrays (a ∷ arrays) [] = []
fresh_arrays (a ∷ arrays) (w ∷ words) = fresh_words a.kind a.first w ∷ fresh_arrays arrays words

-- the store when a task begins: volatile arrays are as declared, and pointers point to nothing
abbrev pub fresh : Core → Store → Store
fresh c store = record { words = fresh_arrays c.arrays store.words; pointers = unset c.pointers }

-- a state shows an array that is kept from task to task and isn't constant
abbrev pub first_if_shown : {A : Type 0} → Kind → A → List A → List A
first_if_shown Nv x rest = x ∷ rest
first_if_shown Const x rest = rest
first_if_shown Vol x rest = rest

-- the words that a state shows, in the order of their arrays' declarations
abbrev pub shown_words : List Array → List (List ℕ) → List (List ℕ)
shown_words [] words = []
shown_words (a ∷ arrays) [] = []
shown_words (a ∷ arrays) (w ∷ words) = first_if_shown a.kind w (shown_words arrays words)

-- the names of the arrays that a state shows, in the order of their declarations
abbrev pub shown_names : List Array → List (List ℕ)
shown_names [] = []
shown_names (a ∷ arrays) = first_if_shown a.kind a.name (shown_names arrays)

-- a place lies in its array
abbrev pub IsInside : Store → Place → Type 0
IsInside store at = at.index < length (words_of store at.array)

-- each array has as many words as are declared
abbrev pub HasShape : List Array → List (List ℕ) → Type 0
HasShape arrays words = map length words ≡ map (λ a. length a.first) arrays

-- A store of a program: its arrays with their lengths, and its pointers, each at nothing or at a place inside an array.
pub record Fits (c : Core) (store : Store) : Type 0 where
  pub shape : HasShape c.arrays store.words
  pub count : length store.pointers ≡ length c.pointers
  pub inside : AllByRecursion (λ p. IfSome p (IsInside store)) store.pointers

-- a store of a program stays one
abbrev pub KeepsFit : (old new : Store) → Type 0
KeepsFit old new = (c : Core) → Fits c old → Fits c new

-- the array and the index of a place
abbrev pub pair_of : Place → ℕ × ℕ
pair_of at = (at.array, at.index)
