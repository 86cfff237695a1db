-- What is valued over a store of words is a word.
use Rattle.std.specs.Prelude.{◌*◌, ◌/◌, ◌%◌, ◌==◌, nat_lt, nat_le, not, ◌&&◌, ◌||◌, if◌then◌else◌, ⊤, length, Option, Some, None, Result, Ok, Err}
use Rattle.std.proofs.lemmas.Nat.{and_le_l, or_of_32, xor_of_32}
use Rattle.std.proofs.Common.{◌≡◌, ℕ, zero, suc, ◌+◌, ◌^◌, ◌<◌, Bool, true, false, refl, subst, arith}
use Rattle.std.proofs.lemmas.Bool.Decides.{nat_tests}
use Rattle.ease_base.specs.Found.{with_found}
use Rattle.task_ast.specs.Pointing.{Pointing}
use Rattle.task_ast.specs.WellFormed.{IsOver, Scope}
use Rattle.task_ast.specs.declared.tree.Op1.{Op1}
use Rattle.task_ast.specs.declared.tree.Op1.TheVariants as one
use Rattle.task_ast.specs.declared.tree.Op2.{Op2}
use Rattle.task_ast.specs.declared.tree.Op2.TheVariants as two
use Rattle.task_ast.specs.declared.core_form.Core.{Core}
use Rattle.task_ast.specs.declared.core_form.CoreExpr.{CoreExpr, end_of-CoreExpr, more_of-CoreExpr}
use Rattle.task_ast.specs.declared.core_form.CoreExpr.TheVariants as expr
use Rattle.io_flow.specs.Written.{AllWithin}
use Rattle.walk_run.specs.declared.place.Place.{Place}
use Rattle.walk_run.specs.declared.trap.Trap.{Trap}
use Rattle.walk_run.specs.declared.trap.Trap.TheVariants.{Index}
use Rattle.walk_run.specs.Operators.{decided, holds, one_word, truth, two_values, two_words, unless_decided}
use Rattle.walk_run.specs.Store.{Store, place, pointed, word_at, words_of}
use Rattle.walk_run.specs.Value.{cell_place, place_behind, place_in, through_place, value_of, word_found}
use Rattle.line_laws.specs.Relation.{room_at}
use Rattle.layout_laws.specs.Layouts.{layout_of}

-- each array has as many words as its room, each of them a word of 32 bits, and pointers point where they may
pub record IsSound (c : Core) (points : Pointing) (x : Store) : Type 0 where
  pub rooms : (a : ℕ) → length (words_of x a) ≡ room_at (layout_of c 0) a
  pub fits : (a i : ℕ) → i < room_at (layout_of c 0) a → word_at x (place a i) < 2 ^ 32
  pub within : AllWithin points x

-- a word, if there is one
abbrev pub FitsFound : Result ℕ Trap → Type 0
FitsFound (Ok word) = word < 2 ^ 32
FitsFound (Err why) = ⊤

-- ---- operators

truth_fits : (b : Bool) → truth b < 2 ^ 32
truth_fits true = omega arith
truth_fits false = omega arith

one_fits : (op : Op1) (x : ℕ) → x < 2 ^ 32 → one_word op x < 2 ^ 32
one_fits one.Not x fits = truth_fits (not (holds x))
one_fits one.Inv x fits = omega arith
one_fits one.Neg x fits = omega arith

quotient_fits : (x y : ℕ) → x < 2 ^ 32 → x / suc y < 2 ^ 32
quotient_fits x y fits = omega (arith, fits)

rest_fits : (x y : ℕ) → x < 2 ^ 32 → x % suc y < 2 ^ 32
rest_fits x y fits = omega (arith, fits)

shifted_fits : (b : Bool) (word : ℕ) → word < 2 ^ 32 → FitsFound (if b then Ok word else Ok 0)
shifted_fits true word fits = fits
shifted_fits false word fits = omega arith

two_fit : (op : Op2) (x y : ℕ) → x < 2 ^ 32 → y < 2 ^ 32 → FitsFound (two_words op x y)
two_fit two.Add x y h k = omega arith
two_fit two.Sub x y h k = omega arith
two_fit two.Mul x y h k = omega arith
two_fit two.Div x zero h k = tt
two_fit two.Div x (suc y) h k = quotient_fits x y h
two_fit two.Rem x zero h k = tt
two_fit two.Rem x (suc y) h k = rest_fits x y h
two_fit two.And x y h k = omega (arith, and_le_l x y, h)
two_fit two.Or x y h k = or_of_32 x y h k
two_fit two.Xor x y h k = xor_of_32 x y h k
two_fit two.Shl x y h k = shifted_fits (nat_lt y 32) (x * 2 ^ y % 2 ^ 32) (omega arith)
two_fit two.Shr x y h k = shifted_fits (nat_lt y 32) (x / 2 ^ y) (omega (arith, h))
two_fit two.Eq x y h k = truth_fits (x == y)
two_fit two.Ne x y h k = truth_fits (not (x == y))
two_fit two.Lt x y h k = truth_fits (nat_lt x y)
two_fit two.Le x y h k = truth_fits (nat_le x y)
two_fit two.Gt x y h k = truth_fits (nat_lt y x)
two_fit two.Ge x y h k = truth_fits (nat_le y x)
two_fit two.Both x y h k = truth_fits (holds x && holds y)
two_fit two.Either x y h k = truth_fits (holds x || holds y)

decided_fits : (op : Op2) (left : ℕ) (r : Result ℕ Trap) → FitsFound r → FitsFound (unless_decided (decided op left) r)
decided_fits two.Add left r h = h
decided_fits two.Sub left r h = h
decided_fits two.Mul left r h = h
decided_fits two.Div left r h = h
decided_fits two.Rem left r h = h
decided_fits two.And left r h = h
decided_fits two.Or left r h = h
decided_fits two.Xor left r h = h
decided_fits two.Shl left r h = h
decided_fits two.Shr left r h = h
decided_fits two.Eq left r h = h
decided_fits two.Ne left r h = h
decided_fits two.Lt left r h = h
decided_fits two.Le left r h = h
decided_fits two.Gt left r h = h
decided_fits two.Ge left r h = h
decided_fits two.Both zero r h = omega arith
decided_fits two.Both (suc n) r h = h
decided_fits two.Either zero r h = h
decided_fits two.Either (suc n) r h = omega arith

right_fits : (op : Op2) (left : ℕ) (r : Result ℕ Trap) → left < 2 ^ 32 → FitsFound r → FitsFound (with_found r (two_words op left))
right_fits op left (Ok right) h k = two_fit op left right h k
right_fits op left (Err why) h k = tt

both_fit : (op : Op2) (x y : Result ℕ Trap) → FitsFound x → FitsFound y → FitsFound (two_values op x y)
both_fit op (Ok left) y h k = decided_fits op left (with_found y (two_words op left)) (right_fits op left y h k)
both_fit op (Err why) y h k = tt

single_fits : (op : Op1) (r : Result ℕ Trap) → FitsFound r → FitsFound (with_found r (λ word. Ok (one_word op word)))
single_fits op (Ok word) h = one_fits op word h
single_fits op (Err why) h = tt

-- ---- values

pub is_below : (n m : ℕ) → nat_lt n m ≡ true → n < m
is_below n m is = grind (arith, nat_tests)

module _ (c : Core) (points : Pointing) (x : Store) (sound : IsSound c points x) where
  -- a word that is found by an index
  found_fits : (a k : ℕ) → FitsFound (word_found x (place_in x a k))
  found_fits a k = by_room (nat_lt k (length (words_of x a))) refl
    where
      by_room : (b : Bool) → nat_lt k (length (words_of x a)) ≡ b → FitsFound (word_found x (if b then Ok (place a k) else Err Index))
      by_room true is = let low : k < length (words_of x a) = is_below k (length (words_of x a)) is in sound.fits a k (subst (λ n. k < n) (sound.rooms a) low)
      by_room false is = tt

  cell_fits : (a : ℕ) (r : Result ℕ Trap) → FitsFound (word_found x (cell_place x a r))
  cell_fits a (Ok k) = found_fits a k
  cell_fits a (Err why) = tt

  behind_fits : (o : Option Place) (k : ℕ) → FitsFound (word_found x (place_behind x o k))
  behind_fits None k = tt
  behind_fits (Some at) k = found_fits at.array (at.index + k)

  through_fits : (p : ℕ) (r : Result ℕ Trap) → FitsFound (word_found x (through_place x p r))
  through_fits p (Ok k) = behind_fits (pointed x p) k
  through_fits p (Err why) = tt

  pub value_fits : (scope : Scope) (e : CoreExpr) → IsOver scope e → FitsFound (value_of e x)
  value_fits scope (expr.Number word) over = over
  value_fits scope (expr.Cell' array u (more_of-CoreExpr index end_of-CoreExpr)) over = cell_fits array (value_of index x)
  value_fits scope (expr.Through' pointer u (more_of-CoreExpr index end_of-CoreExpr)) over = through_fits pointer (value_of index x)
  value_fits scope (expr.One' op u (more_of-CoreExpr e end_of-CoreExpr)) over = single_fits op (value_of e x) (value_fits scope e over)
  value_fits scope (expr.Two' op u (more_of-CoreExpr a end_of-CoreExpr) v (more_of-CoreExpr b end_of-CoreExpr)) over = both_fit op (value_of a x) (value_of b x) (value_fits scope a over.0) (value_fits scope b over.1)
