-- The value of an expression, of a target and of a copy's end: what it is, or its trap.
use Rattle.std.specs.Prelude.{ℕ, ◌+◌, nat_lt, nat_le, length, if◌then◌else◌, Option, Some, None, Result, Ok, Err}
use Rattle.ease_base.specs.Found.{with_found}
use Rattle.task_ast.specs.declared.core_form.CoreExpr.{CoreExpr, end_of-CoreExpr, more_of-CoreExpr}
use Rattle.task_ast.specs.declared.core_form.CoreExpr.TheVariants as expr
use Rattle.task_ast.specs.declared.core_form.CoreTarget.{CoreTarget}
use Rattle.task_ast.specs.declared.core_form.CoreTarget.TheVariants as target
use Rattle.task_ast.specs.declared.core_form.CoreEnd.{CoreEnd}
use Rattle.task_ast.specs.declared.core_form.CoreEnd.TheVariants as end
use Rattle.walk_run.specs.declared.trap.Trap.{Trap}
use Rattle.walk_run.specs.declared.trap.Trap.TheVariants.{Index, Unset, Range}
use Rattle.walk_run.specs.declared.place.Place.{Place}
use Rattle.walk_run.specs.Operators.{one_word, two_values}
use Rattle.walk_run.specs.Store.{Store, place, words_of, word_at, pointed}

-- the place that an index names; trap Index where it isn't below the array's length
abbrev pub place_in : Store → (array index : ℕ) → Result Place Trap
place_in store array index = if nat_lt index (length (words_of store array)) then Ok (place array index) else Err Index

-- so many places behind the one that is pointed to; trap Unset where nothing is
abbrev pub place_behind : Store → Option Place → (index : ℕ) → Result Place Trap
place_behind store None index = Err Unset
place_behind store (Some at) index = place_in store at.array (at.index + index)

-- An index that was valued is tested: for an array against its length.
abbrev pub cell_place : Store → (array : ℕ) → Result ℕ Trap → Result Place Trap
cell_place store array index = with_found index (place_in store array)

-- For a pointer, first whether it points to a place, and then the place that is so many further.
abbrev pub through_place : Store → (pointer : ℕ) → Result ℕ Trap → Result Place Trap
through_place store pointer index = with_found index (place_behind store (pointed store pointer))

-- the word at a place that was found
abbrev pub word_found : Store → Result Place Trap → Result ℕ Trap
word_found store found = with_found found (λ at. Ok (word_at store at))

-- the value of an expression over a store
abbrev pub value_of : CoreExpr → Store → Result ℕ Trap
value_of (expr.Number word) store = Ok word
value_of (expr.Cell' array u (more_of-CoreExpr index end_of-CoreExpr)) store = word_found store (cell_place store array (value_of index store))
value_of (expr.Through' pointer u (more_of-CoreExpr index end_of-CoreExpr)) store = word_found store (through_place store pointer (value_of index store))
value_of (expr.One' op u (more_of-CoreExpr e end_of-CoreExpr)) store = with_found (value_of e store) (λ word. Ok (one_word op word))
value_of (expr.Two' op u (more_of-CoreExpr a end_of-CoreExpr) v (more_of-CoreExpr b end_of-CoreExpr)) store =
    two_values op (value_of a store) (value_of b store)

-- the place of a target
abbrev pub target_place : CoreTarget → Store → Result Place Trap
target_place (target.Cell array index) store = cell_place store array (value_of index store)
target_place (target.Through pointer index) store = through_place store pointer (value_of index store)

-- a place that is pointed to; trap Unset where nothing is
abbrev pub place_pointed : Option Place → Result Place Trap
place_pointed None = Err Unset
place_pointed (Some at) = Ok at

-- the place of a copy's end
abbrev pub end_place : CoreEnd → Store → Result Place Trap
end_place (end.Cell array index) store = cell_place store array (value_of index store)
end_place (end.Pointer pointer) store = place_pointed (pointed store pointer)

-- a place from which on so many words are in its array; else trap Range
abbrev pub with_room : Store → Place → (words : ℕ) → Result Place Trap
with_room store at words = if nat_le (at.index + words) (length (words_of store at.array)) then Ok at else Err Range
