-- The rules on names and declarations, each as the refusal that it gives at a place, or none.
use Rattle.std.specs.Prelude.{ℕ, Bool, true, false, List, [], ◌∷◌, length, nat_lt, ◌==◌, Option, None, Some, bytes_eq}
use Rattle.std.specs.List.{list_any}
use Rattle.ease_base.specs.declared.place.Pos.{Pos}
use Rattle.task_ast.specs.declared.limits.TheConstants.{MOST_ARGUMENTS}
use Rattle.task_ast.specs.declared.tree.Kind.TheVariants.{Nv, Const, Vol}
use Rattle.task_ast.specs.declared.tree.Name.{Name}
use Rattle.task_ast.specs.declared.tree.Decl.{Decl}
use Rattle.task_ast.specs.declared.tree.Decl.TheVariants as decl
use Rattle.task_ast.specs.WellFormed.{is_turning}
use Rattle.task_check.specs.declared.error.CheckError.{CheckError}
use Rattle.task_check.specs.declared.error.CheckError.TheVariants.{UnknownName, TwiceNamed, WrongKind, ConstWritten, DmaUnderIf, TooMany}
use Rattle.task_check.specs.declared.names.Meaning.{Meaning}
use Rattle.task_check.specs.declared.names.Meaning.TheVariants as meaning
use Rattle.task_check.specs.Reach.{Reach, is_const_kind}

-- an error where a test holds
abbrev pub where_true : Bool → CheckError → List CheckError
where_true true e = e ∷ []
where_true false e = []

-- a name is used that isn't declared; the use
abbrev pub unknown_name : Pos → Option Meaning → List CheckError
unknown_name at None = UnknownName at ∷ []
unknown_name at (Some m) = []

-- a declared name is one of those declared earlier; the later name
abbrev pub twice_named : List (List ℕ) → Name → List CheckError
twice_named earlier x = where_true (list_any (bytes_eq x.text) earlier) (TwiceNamed x.at)

-- the number of a peripheral
abbrev pub decl_number : Decl → List ℕ
decl_number (decl.Words kind x size values) = []
decl_number (decl.Pointer x) = []
decl_number (decl.Peripheral x number) = number ∷ []

-- a peripheral's number is that of one declared earlier; the later name
abbrev pub twice_numbered : List ℕ → Decl → List CheckError
twice_numbered earlier (decl.Words kind x size values) = []
twice_numbered earlier (decl.Pointer x) = []
twice_numbered earlier (decl.Peripheral x number) = where_true (list_any (λ n. n == number) earlier) (TwiceNamed x.at)

-- a bare name that is read or assigned isn't a scalar; the use
abbrev pub not_scalar : Pos → Option Meaning → List CheckError
not_scalar at None = []
not_scalar at (Some (meaning.Scalar a kind)) = []
not_scalar at (Some (meaning.Array a kind)) = WrongKind at ∷ []
not_scalar at (Some (meaning.Pointer p)) = WrongKind at ∷ []
not_scalar at (Some (meaning.Peripheral p)) = WrongKind at ∷ []
not_scalar at (Some (meaning.Task t)) = WrongKind at ∷ []

-- a name indexed behind `&` isn't an array; the use
abbrev pub not_array : Pos → Option Meaning → List CheckError
not_array at None = []
not_array at (Some (meaning.Scalar a kind)) = WrongKind at ∷ []
not_array at (Some (meaning.Array a kind)) = []
not_array at (Some (meaning.Pointer p)) = WrongKind at ∷ []
not_array at (Some (meaning.Peripheral p)) = WrongKind at ∷ []
not_array at (Some (meaning.Task t)) = WrongKind at ∷ []

-- an indexed name that is read or assigned, or a copy's bare end, is neither an array nor a pointer; the use
abbrev pub not_array_or_pointer : Pos → Option Meaning → List CheckError
not_array_or_pointer at None = []
not_array_or_pointer at (Some (meaning.Scalar a kind)) = WrongKind at ∷ []
not_array_or_pointer at (Some (meaning.Array a kind)) = []
not_array_or_pointer at (Some (meaning.Pointer p)) = []
not_array_or_pointer at (Some (meaning.Peripheral p)) = WrongKind at ∷ []
not_array_or_pointer at (Some (meaning.Task t)) = WrongKind at ∷ []

-- what is given an address isn't a pointer; the use
abbrev pub not_pointer : Pos → Option Meaning → List CheckError
not_pointer at None = []
not_pointer at (Some (meaning.Scalar a kind)) = WrongKind at ∷ []
not_pointer at (Some (meaning.Array a kind)) = WrongKind at ∷ []
not_pointer at (Some (meaning.Pointer p)) = []
not_pointer at (Some (meaning.Peripheral p)) = WrongKind at ∷ []
not_pointer at (Some (meaning.Task t)) = WrongKind at ∷ []

-- the name in a call isn't a peripheral; the use
abbrev pub not_peripheral : Pos → Option Meaning → List CheckError
not_peripheral at None = []
not_peripheral at (Some (meaning.Scalar a kind)) = WrongKind at ∷ []
not_peripheral at (Some (meaning.Array a kind)) = WrongKind at ∷ []
not_peripheral at (Some (meaning.Pointer p)) = WrongKind at ∷ []
not_peripheral at (Some (meaning.Peripheral p)) = []
not_peripheral at (Some (meaning.Task t)) = WrongKind at ∷ []

-- a name after NEXT isn't a task; the use
abbrev pub not_task : Pos → Option Meaning → List CheckError
not_task at None = []
not_task at (Some (meaning.Scalar a kind)) = WrongKind at ∷ []
not_task at (Some (meaning.Array a kind)) = WrongKind at ∷ []
not_task at (Some (meaning.Pointer p)) = WrongKind at ∷ []
not_task at (Some (meaning.Peripheral p)) = WrongKind at ∷ []
not_task at (Some (meaning.Task t)) = []

-- a loop's variable isn't a volatile scalar; the use
abbrev pub not_variable : Pos → Option Meaning → List CheckError
not_variable at None = []
not_variable at (Some (meaning.Scalar a Nv)) = WrongKind at ∷ []
not_variable at (Some (meaning.Scalar a Const)) = WrongKind at ∷ []
not_variable at (Some (meaning.Scalar a Vol)) = []
not_variable at (Some (meaning.Array a kind)) = WrongKind at ∷ []
not_variable at (Some (meaning.Pointer p)) = WrongKind at ∷ []
not_variable at (Some (meaning.Peripheral p)) = WrongKind at ∷ []
not_variable at (Some (meaning.Task t)) = WrongKind at ∷ []

-- The variable of a loop around the place is written, or may be through a pointer; the use. The variables are given by
-- the numbers of their arrays.
abbrev pub variable_written : (ℕ → Reach) → (barred : List ℕ) → Pos → Option Meaning → List CheckError
variable_written reach barred at None = []
variable_written reach barred at (Some (meaning.Scalar a kind)) = where_true (is_turning barred a) (WrongKind at)
variable_written reach barred at (Some (meaning.Array a kind)) = where_true (is_turning barred a) (WrongKind at)
variable_written reach barred at (Some (meaning.Pointer p)) = where_true (list_any (reach p).holds barred) (WrongKind at)
variable_written reach barred at (Some (meaning.Peripheral p)) = []
variable_written reach barred at (Some (meaning.Task t)) = []

-- a constant is written, or may be through a pointer; the use
abbrev pub const_written : (ℕ → Reach) → Pos → Option Meaning → List CheckError
const_written reach at None = []
const_written reach at (Some (meaning.Scalar a kind)) = where_true (is_const_kind kind) (ConstWritten at)
const_written reach at (Some (meaning.Array a kind)) = where_true (is_const_kind kind) (ConstWritten at)
const_written reach at (Some (meaning.Pointer p)) = where_true (reach p).constant (ConstWritten at)
const_written reach at (Some (meaning.Peripheral p)) = []
const_written reach at (Some (meaning.Task t)) = []

-- a copy under an `if`; the word `DMA`
abbrev pub copy_under_if : Bool → Pos → List CheckError
copy_under_if branched word = where_true branched (DmaUnderIf word)

-- a call has more than four arguments; the word `IO`
abbrev pub too_many_arguments : Pos → ℕ → List CheckError
too_many_arguments word count = where_true (nat_lt MOST_ARGUMENTS count) (TooMany word)

-- the words that are declared: 1, or as many as the brackets say
abbrev pub size_words : Option ℕ → ℕ
size_words None = 1
size_words (Some size) = size

-- a declaration has more values than words; the declared name
abbrev pub too_many_values : Decl → List CheckError
too_many_values (decl.Words kind x size values) = where_true (nat_lt (size_words size) (length values)) (TooMany x.at)
too_many_values (decl.Pointer x) = []
too_many_values (decl.Peripheral x number) = []
