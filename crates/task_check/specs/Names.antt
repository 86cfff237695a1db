-- The names of a program, and what each of them stands for.
use Rattle.std.specs.Prelude.{ℕ, ◌+◌, List, [], ◌∷◌, ◌++◌, Option, None, Some, if◌then◌else◌, bytes_eq}
use Rattle.task_ast.specs.declared.tree.Name.{Name}
use Rattle.task_ast.specs.declared.tree.Decl.{Decl}
use Rattle.task_ast.specs.declared.tree.Decl.TheVariants.{Words, Pointer, Peripheral}
use Rattle.task_ast.specs.declared.tree.Task.{Task}
use Rattle.task_ast.specs.declared.tree.Program.{Program}
use Rattle.task_check.specs.declared.names.Meaning.{Meaning}
use Rattle.task_check.specs.declared.names.Meaning.TheVariants as meaning
use Rattle.task_check.specs.declared.names.Numbers.{Numbers}

-- a declared name and what it stands for
abbrev pub Declared : Type 0
Declared = List ℕ × Meaning

-- what each text stands for as a name; None is a text that isn't declared
abbrev pub Meanings : Type 0
Meanings = List ℕ → Option Meaning

-- the first meaning, or else the second
abbrev pub or_else : Option Meaning → Option Meaning → Option Meaning
or_else None second = second
or_else (Some m) second = Some m

-- what a text stands for by the first of these names that it is
abbrev pub look_up : List Declared → Meanings
look_up [] text = None
look_up (d ∷ ds) text = if bytes_eq text d.0 then Some d.1 else look_up ds text

-- names, and behind them further declared ones
abbrev pub extended : Meanings → List Declared → Meanings
extended names declared text = or_else (names text) (look_up declared text)

-- the name that a declaration declares
abbrev pub decl_name : Decl → Name
decl_name (Words kind x size values) = x
decl_name (Pointer x) = x
decl_name (Peripheral x number) = x

-- the texts of the names that declarations and tasks declare
abbrev pub decl_text : Decl → List ℕ
decl_text d = (decl_name d).text

abbrev pub task_text : Task → List ℕ
task_text t = t.name.text

-- no arrays, pointers and peripherals yet
abbrev pub none_yet : Numbers
none_yet = record { arrays = 0; pointers = 0; peripherals = 0 }

-- what a declaration declares behind so many arrays, pointers and peripherals; words without brackets are a scalar
abbrev pub decl_meaning : Numbers → Decl → Meaning
decl_meaning n (Words kind x None values) = meaning.Scalar n.arrays kind
decl_meaning n (Words kind x (Some size) values) = meaning.Array n.arrays kind
decl_meaning n (Pointer x) = meaning.Pointer n.pointers
decl_meaning n (Peripheral x number) = meaning.Peripheral n.peripherals

-- so many arrays, pointers and peripherals, and a declaration behind them
abbrev pub with_decl : Numbers → Decl → Numbers
with_decl n (Words kind x size values) = record { arrays = n.arrays + 1; pointers = n.pointers; peripherals = n.peripherals }
with_decl n (Pointer x) = record { arrays = n.arrays; pointers = n.pointers + 1; peripherals = n.peripherals }
with_decl n (Peripheral x number) = record { arrays = n.arrays; pointers = n.pointers; peripherals = n.peripherals + 1 }

-- the same with declarations behind them, one after another
abbrev pub with_decls : Numbers → List Decl → Numbers
with_decls n [] = n
with_decls n (d ∷ ds) = with_decls (with_decl n d) ds

-- declarations in order declare their names, each kind numbered for itself
abbrev pub declared_words : Numbers → List Decl → List Declared
declared_words n [] = []
declared_words n (d ∷ ds) = (decl_text d, decl_meaning n d) ∷ declared_words (with_decl n d) ds

-- tasks in order declare their names with these numbers upward
abbrev pub declared_tasks : ℕ → List Task → List Declared
declared_tasks n [] = []
declared_tasks n (t ∷ ts) = (task_text t, meaning.Task n) ∷ declared_tasks (n + 1) ts

-- the declared names in text order: arrays, pointers and peripherals are numbered from 0, tasks from 1
abbrev pub declared : Program → List Declared
declared p = declared_words none_yet p.decls ++ declared_tasks 1 p.tasks

-- what the names of a program stand for, in all its tasks
abbrev pub names_of : Program → Meanings
names_of p = look_up (declared p)

-- a number, or 0 in the place of none
abbrev pub or_zero : Option ℕ → ℕ
or_zero None = 0
or_zero (Some n) = n

-- the number of the array that a name stands for, if it stands for one
abbrev pub array_of : Option Meaning → Option ℕ
array_of None = None
array_of (Some (meaning.Scalar a kind)) = Some a
array_of (Some (meaning.Array a kind)) = Some a
array_of (Some (meaning.Pointer p)) = None
array_of (Some (meaning.Peripheral p)) = None
array_of (Some (meaning.Task t)) = None

-- the same; 0 where it stands for none
abbrev pub array_number : Option Meaning → ℕ
array_number m = or_zero (array_of m)

-- the number of the pointer that a name stands for, if it stands for one
abbrev pub pointer_of : Option Meaning → Option ℕ
pointer_of None = None
pointer_of (Some (meaning.Scalar a kind)) = None
pointer_of (Some (meaning.Array a kind)) = None
pointer_of (Some (meaning.Pointer p)) = Some p
pointer_of (Some (meaning.Peripheral p)) = None
pointer_of (Some (meaning.Task t)) = None

-- the number of the peripheral that a name stands for; 0 where it stands for none
abbrev pub peripheral_number : Option Meaning → ℕ
peripheral_number None = 0
peripheral_number (Some (meaning.Scalar a kind)) = 0
peripheral_number (Some (meaning.Array a kind)) = 0
peripheral_number (Some (meaning.Pointer p)) = 0
peripheral_number (Some (meaning.Peripheral p)) = p
peripheral_number (Some (meaning.Task t)) = 0

-- the number of the task that a name stands for; 0 where it stands for none
abbrev pub task_number : Option Meaning → ℕ
task_number None = 0
task_number (Some (meaning.Scalar a kind)) = 0
task_number (Some (meaning.Array a kind)) = 0
task_number (Some (meaning.Pointer p)) = 0
task_number (Some (meaning.Peripheral p)) = 0
task_number (Some (meaning.Task t)) = t
