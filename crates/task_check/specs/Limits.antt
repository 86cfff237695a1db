-- The limits of a program, each as the refusal that it gives where a count passes it. The count is the one that passes.
use Rattle.std.specs.Prelude.{ℕ, ◌≤◌, Bool, List, [], length, nat_lt, ◌==◌, if◌then◌else◌}
use Rattle.ease_base.specs.declared.place.Pos.{Pos}
use Rattle.task_ast.specs.declared.limits.TheConstants.{MOST_TASKS, MOST_NAMES, MOST_NV_WORDS, MOST_VOL_WORDS, LONGEST_NAME, HIGHEST_PERIPHERAL, MOST_UNROLLED, MOST_TURNS, MOST_LOOPS, MOST_SITES, MOST_KEPT_WORDS, MOST_NODES}
use Rattle.task_ast.specs.declared.tree.Name.{Name}
use Rattle.task_ast.specs.declared.tree.Decl.{Decl}
use Rattle.task_ast.specs.declared.tree.Decl.TheVariants as decl
use Rattle.task_ast.specs.declared.core_form.Array.{Array}
use Rattle.task_ast.specs.WellFormed.{fram_size, ram_size}
use Rattle.task_check.specs.declared.error.CheckError.{CheckError}
use Rattle.task_check.specs.declared.error.CheckError.TheVariants.{LimitReached}
use Rattle.task_check.specs.declared.error.Limit.{Limit}
use Rattle.task_check.specs.declared.error.Limit.TheVariants.{Tasks, Names, NvWords, VolWords, Length, NameBytes, PeripheralNumber, Turns, Loops, Sites, KeptWords, Nodes}
use Rattle.task_check.specs.Refusals.{where_true, size_words}

-- at a place a count is above the most that a limit allows
abbrev pub passes : Limit → ℕ → Pos → ℕ → List CheckError
passes limit most at count = where_true (nat_lt most count) (LimitReached at limit count)

-- the 65th task; its name
abbrev pub task_limit : Pos → ℕ → List CheckError
task_limit at number = passes Tasks MOST_TASKS at number

-- the 257th declared name; it
abbrev pub name_limit : Pos → ℕ → List CheckError
name_limit at number = passes Names MOST_NAMES at number

-- a declaration's words in FRAM, nonvolatile or constant, and its volatile words in RAM
abbrev pub fram_words : Decl → ℕ
fram_words (decl.Words kind x size values) = fram_size kind (size_words size)
fram_words (decl.Pointer x) = 0
fram_words (decl.Peripheral x number) = 0

abbrev pub ram_words : Decl → ℕ
ram_words (decl.Words kind x size values) = ram_size kind (size_words size)
ram_words (decl.Pointer x) = 0
ram_words (decl.Peripheral x number) = 0

-- with a declaration the nonvolatile and constant words are more than 2,048; its name
abbrev pub nv_limit : Pos → ℕ → List CheckError
nv_limit at words = passes NvWords MOST_NV_WORDS at words

-- with a declaration the volatile words are more than 2,048; its name
abbrev pub vol_limit : Pos → ℕ → List CheckError
vol_limit at words = passes VolWords MOST_VOL_WORDS at words

-- an array of length 0; the name
abbrev pub length_limit : Decl → List CheckError
length_limit (decl.Words kind x size values) = where_true (size_words size == 0) (LimitReached x.at Length 0)
length_limit (decl.Pointer x) = []
length_limit (decl.Peripheral x number) = []

-- a declared name of more than 32 bytes; the name
abbrev pub bytes_limit : Name → List CheckError
bytes_limit x = passes NameBytes LONGEST_NAME x.at (length x.text)

-- a peripheral's number above 255; the name
abbrev pub number_limit : Decl → List CheckError
number_limit (decl.Words kind x size values) = []
number_limit (decl.Pointer x) = []
number_limit (decl.Peripheral x number) = passes PeripheralNumber HIGHEST_PERIPHERAL x.at number

-- a number that a peripheral may have
abbrev pub IsByte : ℕ → Type 0
IsByte n = n ≤ HIGHEST_PERIPHERAL

-- an array of at most as many words as there may be in FRAM
abbrev pub IsSmall : Array → Type 0
IsSmall a = length a.first ≤ MOST_NV_WORDS

-- a loop that is unrolled of more than 64 turns, a pure loop of more than 65,535; the turns
abbrev pub turns_limit : (unrolled : Bool) → Pos → ℕ → List CheckError
turns_limit unrolled at turns = passes Turns (if unrolled then MOST_UNROLLED else MOST_TURNS) at turns

-- a pure loop inside three pure loops; the word `for`
abbrev pub loops_limit : (unrolled : Bool) → Pos → ℕ → List CheckError
loops_limit unrolled word level = if unrolled then [] else passes Loops MOST_LOOPS word level

-- more than 128 sites in a task; its closing brace
abbrev pub sites_limit : Pos → ℕ → List CheckError
sites_limit close sites = passes Sites MOST_SITES close sites

-- more than 16,384 kept words in a task; its closing brace
abbrev pub kept_limit : Pos → ℕ → List CheckError
kept_limit close words = passes KeptWords MOST_KEPT_WORDS close words

-- with a task the nodes are more than 32,768; its closing brace
abbrev pub node_limit : Pos → ℕ → List CheckError
node_limit close nodes = passes Nodes MOST_NODES close nodes
