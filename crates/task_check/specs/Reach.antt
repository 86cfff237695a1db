-- What is said of the arrays to which a pointer may point, as far as the rules and counts ask for it.
use Rattle.std.specs.Prelude.{ℕ, min, Bool, true, false, List, [], ◌∷◌, Option, None, Some, slice_get}
use Rattle.std.specs.List.{list_any}
use Rattle.task_ast.specs.declared.tree.Kind.{Kind}
use Rattle.task_ast.specs.declared.tree.Kind.TheVariants.{Nv, Const, Vol}
use Rattle.task_ast.specs.declared.core_form.Array.{Array}
use Rattle.task_ast.specs.declared.core_form.CoreEnd.{CoreEnd}
use Rattle.task_ast.specs.declared.core_form.CoreEnd.TheVariants as end
use Rattle.task_ast.specs.CoreSites.{longest}
use Rattle.task_ast.specs.WellFormed.{is_turning}

-- words of this kind never change
abbrev pub is_const_kind : Kind → Bool
is_const_kind Nv = false
is_const_kind Const = true
is_const_kind Vol = false

-- an array that may not be there is constant
abbrev pub is_const_found : Option Array → Bool
is_const_found None = false
is_const_found (Some a) = is_const_kind a.kind

-- the array of this number is constant
abbrev pub is_const : List Array → ℕ → Bool
is_const arrays a = is_const_found (slice_get arrays a)

-- Of some arrays: whether one of them is constant, whether one of them is a given one, and the words of the longest.
pub record Reach : Type 0 where
  pub constant : Bool
  pub holds : ℕ → Bool
  pub longest : ℕ

-- that of the arrays of these numbers
abbrev pub reach_of : List Array → List ℕ → Reach
reach_of arrays numbers = record { constant = list_any (is_const arrays) numbers; holds = is_turning numbers; longest = longest arrays numbers }

-- the words of the longest array that a copy's end may be in
abbrev pub end_words : List Array → (ℕ → Reach) → CoreEnd → ℕ
end_words arrays reach (end.Cell a i) = longest arrays (a ∷ [])
end_words arrays reach (end.Pointer p) = (reach p).longest

-- the greatest length of a copy
abbrev pub copy_words : List Array → (ℕ → Reach) → (to from : CoreEnd) → ℕ
copy_words arrays reach to from = min (end_words arrays reach to) (end_words arrays reach from)
