-- The faults of a program whose places rise stand in the order of their places, and at one place in that of their rows.
use Rattle.std.proofs.Common.{◌≡◌, ◌∙◌, ◌⊎◌, inl, inr, ℕ, ◌+◌, ◌≤◌, Bool, true, false, List, [], ◌∷◌, ◌++◌, length, map, Option, Some, None, refl, sym, ap, subst, arith, append_assoc}
use Rattle.std.specs.Prelude.{sum_by}
use Rattle.std.specs.List.{AllByRecursion, flat_map}
use Rattle.ease_base.specs.declared.place.Pos.{Pos}
use Rattle.task_ast.specs.declared.tree.Kind.TheVariants.{Nv, Const, Vol}
use Rattle.task_ast.specs.declared.tree.Name.{Name}
use Rattle.task_ast.specs.declared.tree.Expr.{Expr, end_of-Expr, more_of-Expr}
use Rattle.task_ast.specs.declared.tree.Expr.TheVariants as expr
use Rattle.task_ast.specs.declared.tree.Target.{Target}
use Rattle.task_ast.specs.declared.tree.Target.TheVariants as target
use Rattle.task_ast.specs.declared.tree.Place.{Place}
use Rattle.task_ast.specs.declared.tree.Place.TheVariants as place
use Rattle.task_ast.specs.declared.tree.Stmt.{Stmt, Row_of-Stmt, end_of-Stmt, more_of-Stmt}
use Rattle.task_ast.specs.declared.tree.Stmt.TheVariants as stmt
use Rattle.task_ast.specs.declared.tree.Exit.{Exit, end_of-Exit, more_of-Exit}
use Rattle.task_ast.specs.declared.tree.Exit.TheVariants as exit
use Rattle.task_ast.specs.declared.tree.Decl.{Decl}
use Rattle.task_ast.specs.declared.tree.Decl.TheVariants as decl
use Rattle.task_ast.specs.declared.tree.Task.{Task}
use Rattle.task_ast.specs.declared.tree.Program.{Program}
use Rattle.task_ast.specs.declared.core_form.Array.{Array}
use Rattle.task_ast.specs.WellFormed.{site_words}
use Rattle.task_check.specs.declared.error.CheckError.{CheckError}
use Rattle.task_check.specs.declared.error.CheckError.TheVariants.{UnknownName, TwiceNamed, WrongKind, ConstWritten, DmaUnderIf, TooMany, LimitReached}
use Rattle.task_check.specs.declared.error.Limit.TheVariants as limit
use Rattle.task_check.specs.declared.names.Meaning.{Meaning}
use Rattle.task_check.specs.declared.names.Meaning.TheVariants as meaning
use Rattle.task_check.specs.Around.{Around, in_task, in_branch, in_loop}
use Rattle.task_check.specs.CheckedForm.{task_sites, arrays_of}
use Rattle.task_check.specs.Faults.{scalar_faults, array_faults, indexed_faults, variable_faults, written_faults, expr_faults, target_faults, reading_faults, place_faults, destination_faults, head_faults, stmt_faults, row_faults, body_faults, exit_faults, inner_faults, close_faults, decl_faults, decls_faults, rest_faults, tasks_faults, faults, first, first_fault}
use Rattle.task_check.specs.Limits.{fram_words, ram_words, length_limit, number_limit, loops_limit}
use Rattle.task_check.specs.Names.{Meanings, decl_name, decl_text, task_text, names_of, array_number}
use Rattle.task_check.specs.Nodes.{nodes_of_task}
use Rattle.task_check.specs.Order.{expr_places, target_places, reading_places, place_places, stmt_places, row_places, exit_places, decl_places, task_places, program_places, IsBefore, Rise, fault_place, fault_row, IsEarlier}
use Rattle.task_check.specs.Reach.{Reach}
use Rattle.task_check.specs.Refusals.{where_true, unknown_name, twice_named, decl_number, twice_numbered, not_scalar, not_array, not_array_or_pointer, not_pointer, not_peripheral, not_task, not_variable, variable_written, const_written, copy_under_if, too_many_values}
use Rattle.task_check.specs.Sites.{row_has_sites}

-- each of these faults is no later than those behind it
abbrev AreSorted : List CheckError → Type 0
AreSorted [] = Unit {0}
AreSorted (e ∷ es) = AllByRecursion (IsEarlier e) es × AreSorted es

-- a place is one of these
abbrev IsOf : List Pos → Pos → Type 0
IsOf [] p = ⊥
IsOf (q ∷ ps) p = (q ≡ p) ⊎ IsOf ps p

-- where these places rise, these faults are at some of them, in order
abbrev Along : List Pos → List CheckError → Type 0
Along ps fs = Rise ps → AreSorted fs × AllByRecursion (λ e. IsOf ps (fault_place e)) fs

-- these faults are at a place and in order, their rows from one to another
abbrev IsAt : Pos → (low high : ℕ) → List CheckError → Type 0
IsAt p low high fs = AreSorted fs × AllByRecursion (λ e. (fault_place e ≡ p) × (low ≤ fault_row e) × (fault_row e ≤ high)) fs

all_append : {A : Type 0} (P : A → Type 0) (xs ys : List A) → AllByRecursion P xs → AllByRecursion P ys → AllByRecursion P (xs ++ ys)
all_append P [] ys h k = k
all_append P (x ∷ xs) ys h k = (h.0, all_append P xs ys h.1 k)

all_map : {A : Type 0} (P Q : A → Type 0) → ((x : A) → P x → Q x) → (xs : List A) → AllByRecursion P xs → AllByRecursion Q xs
all_map P Q f [] h = tt
all_map P Q f (x ∷ xs) h = (f x h.0, all_map P Q f xs h.1)

sorted_append : (xs ys : List CheckError) → AreSorted xs → AreSorted ys → AllByRecursion (λ e. AllByRecursion (IsEarlier e) ys) xs → AreSorted (xs ++ ys)
sorted_append [] ys h k cross = k
sorted_append (x ∷ xs) ys h k cross = (all_append (IsEarlier x) xs ys h.0 cross.0, sorted_append xs ys h.1 k cross.1)

none_at : (p : Pos) (low high : ℕ) → IsAt p low high []
none_at p low high = (tt, tt)

one_at : (p : Pos) (e : CheckError) → fault_place e ≡ p → IsAt p (fault_row e) (fault_row e) (e ∷ [])
one_at p e is = ((tt, tt), ((is, omega arith, omega arith), tt))

where_at : (p : Pos) (e : CheckError) → fault_place e ≡ p → (b : Bool) → IsAt p (fault_row e) (fault_row e) (where_true b e)
where_at p e is true = one_at p e is
where_at p e is false = none_at p (fault_row e) (fault_row e)

-- two parts at one place
join_at : (p : Pos) (low mid mid' high : ℕ) (xs ys : List CheckError) → mid ≤ mid' → low ≤ mid' → mid ≤ high → IsAt p low mid xs → IsAt p mid' high ys → IsAt p low high (xs ++ ys)
join_at p low mid mid' high xs ys m l h a b = (
  sorted_append xs ys a.0 b.0 (all_map (λ e. (fault_place e ≡ p) × (low ≤ fault_row e) × (fault_row e ≤ mid)) (λ e. AllByRecursion (IsEarlier e) ys)
      (λ e x. all_map (λ f. (fault_place f ≡ p) × (mid' ≤ fault_row f) × (fault_row f ≤ high)) (IsEarlier e) (λ f y. inr (x.0 ∙ sym y.0, omega (arith, x.2, y.1, m))) ys b.1) xs a.1),
  all_append (λ e. (fault_place e ≡ p) × (low ≤ fault_row e) × (fault_row e ≤ high)) xs ys
      (all_map (λ e. (fault_place e ≡ p) × (low ≤ fault_row e) × (fault_row e ≤ mid)) (λ e. (fault_place e ≡ p) × (low ≤ fault_row e) × (fault_row e ≤ high)) (λ e x. (x.0, x.1, omega (arith, x.2, h))) xs a.1)
      (all_map (λ e. (fault_place e ≡ p) × (mid' ≤ fault_row e) × (fault_row e ≤ high)) (λ e. (fault_place e ≡ p) × (low ≤ fault_row e) × (fault_row e ≤ high)) (λ e y. (y.0, omega (arith, y.1, l), y.2)) ys b.1),
)

-- faults at one place are along it
along_one : (p : Pos) (low high : ℕ) (fs : List CheckError) → IsAt p low high fs → Along (p ∷ []) fs
along_one p low high fs a rise = (a.0, all_map (λ e. (fault_place e ≡ p) × (low ≤ fault_row e) × (fault_row e ≤ high)) (λ e. IsOf (p ∷ []) (fault_place e)) (λ e x. inl (sym x.0)) fs a.1)

rise_front : (ps qs : List Pos) → Rise (ps ++ qs) → Rise ps
rise_front [] qs h = tt
rise_front (p ∷ ps) qs h = (all_front (IsBefore p) ps qs h.0, rise_front ps qs h.1)
  where
    all_front : (P : Pos → Type 0) (ps qs : List Pos) → AllByRecursion P (ps ++ qs) → AllByRecursion P ps
    all_front P [] qs h = tt
    all_front P (p ∷ ps) qs h = (h.0, all_front P ps qs h.1)

rise_behind : (ps qs : List Pos) → Rise (ps ++ qs) → Rise qs
rise_behind [] qs h = h
rise_behind (p ∷ ps) qs h = rise_behind ps qs h.1

of_all : (P : Pos → Type 0) (qs : List Pos) (q : Pos) → AllByRecursion P qs → IsOf qs q → P q
of_all P [] q h k = absurd k
of_all P (r ∷ qs) q h (inl is) = subst P is h.0
of_all P (r ∷ qs) q h (inr k) = of_all P qs q h.1 k

all_behind : (P : Pos → Type 0) (ps qs : List Pos) → AllByRecursion P (ps ++ qs) → AllByRecursion P qs
all_behind P [] qs h = h
all_behind P (p ∷ ps) qs h = all_behind P ps qs h.1

rise_across : (ps qs : List Pos) (p q : Pos) → Rise (ps ++ qs) → IsOf ps p → IsOf qs q → IsBefore p q
rise_across [] qs p q h k l = absurd k
rise_across (r ∷ ps) qs p q h (inl is) l = of_all (IsBefore p) qs q (all_behind (IsBefore p) ps qs (subst (λ x. AllByRecursion (IsBefore x) (ps ++ qs)) is h.0)) l
rise_across (r ∷ ps) qs p q h (inr k) l = rise_across ps qs p q h.1 k l

of_front : (ps qs : List Pos) (p : Pos) → IsOf ps p → IsOf (ps ++ qs) p
of_front [] qs p k = absurd k
of_front (r ∷ ps) qs p (inl is) = inl is
of_front (r ∷ ps) qs p (inr k) = inr (of_front ps qs p k)

of_behind : (ps qs : List Pos) (p : Pos) → IsOf qs p → IsOf (ps ++ qs) p
of_behind [] qs p k = k
of_behind (r ∷ ps) qs p k = inr (of_behind ps qs p k)

-- two parts behind one another
join : (ps qs : List Pos) (xs ys : List CheckError) → Along ps xs → Along qs ys → Along (ps ++ qs) (xs ++ ys)
join ps qs xs ys a b rise =
    let h = a (rise_front ps qs rise) in
    let k = b (rise_behind ps qs rise) in (
      sorted_append xs ys h.0 k.0 (all_map (λ e. IsOf ps (fault_place e)) (λ e. AllByRecursion (IsEarlier e) ys)
          (λ e x. all_map (λ f. IsOf qs (fault_place f)) (IsEarlier e) (λ f y. inl (rise_across ps qs (fault_place e) (fault_place f) rise x y)) ys k.1) xs h.1),
      all_append (λ e. IsOf (ps ++ qs) (fault_place e)) xs ys
          (all_map (λ e. IsOf ps (fault_place e)) (λ e. IsOf (ps ++ qs) (fault_place e)) (λ e x. of_front ps qs (fault_place e) x) xs h.1)
          (all_map (λ e. IsOf qs (fault_place e)) (λ e. IsOf (ps ++ qs) (fault_place e)) (λ e y. of_behind ps qs (fault_place e) y) ys k.1),
    )

nothing : (ps : List Pos) → Along ps []
nothing ps rise = (tt, tt)

-- three and four parts, joined to the left, along places that are joined to the right
join_three : (ps qs rs : List Pos) (xs ys zs : List CheckError) → Along ps xs → Along qs ys → Along rs zs → Along (ps ++ (qs ++ rs)) (xs ++ ys ++ zs)
join_three ps qs rs xs ys zs a b c = subst (Along (ps ++ (qs ++ rs))) (sym (append_assoc xs ys zs)) (join ps (qs ++ rs) xs (ys ++ zs) a (join qs rs ys zs b c))

join_four : (ps qs rs ss : List Pos) (xs ys zs ws : List CheckError) → Along ps xs → Along qs ys → Along rs zs → Along ss ws → Along (ps ++ (qs ++ (rs ++ ss))) (xs ++ ys ++ zs ++ ws)
join_four ps qs rs ss xs ys zs ws a b c d =
    subst (Along (ps ++ (qs ++ (rs ++ ss)))) (sym (append_assoc xs ys (zs ++ ws)) ∙ sym (append_assoc (xs ++ ys) zs ws)) (join ps (qs ++ (rs ++ ss)) xs (ys ++ (zs ++ ws)) a (join_three'))
  where
    join_three' : Along (qs ++ (rs ++ ss)) (ys ++ (zs ++ ws))
    join_three' = join qs (rs ++ ss) ys (zs ++ ws) b (join rs ss zs ws c d)

unknown_rule : (at : Pos) (m : Option Meaning) → IsAt at 1 1 (unknown_name at m)
unknown_rule at None = one_at at (UnknownName at) refl
unknown_rule at (Some m) = none_at at 1 1

scalar_rule : (at : Pos) (m : Option Meaning) → IsAt at 3 3 (not_scalar at m)
scalar_rule at None = none_at at 3 3
scalar_rule at (Some (meaning.Scalar a kind)) = none_at at 3 3
scalar_rule at (Some (meaning.Array a kind)) = one_at at (WrongKind at) refl
scalar_rule at (Some (meaning.Pointer p)) = one_at at (WrongKind at) refl
scalar_rule at (Some (meaning.Peripheral p)) = one_at at (WrongKind at) refl
scalar_rule at (Some (meaning.Task t)) = one_at at (WrongKind at) refl

array_rule : (at : Pos) (m : Option Meaning) → IsAt at 3 3 (not_array at m)
array_rule at None = none_at at 3 3
array_rule at (Some (meaning.Scalar a kind)) = one_at at (WrongKind at) refl
array_rule at (Some (meaning.Array a kind)) = none_at at 3 3
array_rule at (Some (meaning.Pointer p)) = one_at at (WrongKind at) refl
array_rule at (Some (meaning.Peripheral p)) = one_at at (WrongKind at) refl
array_rule at (Some (meaning.Task t)) = one_at at (WrongKind at) refl

indexed_rule : (at : Pos) (m : Option Meaning) → IsAt at 3 3 (not_array_or_pointer at m)
indexed_rule at None = none_at at 3 3
indexed_rule at (Some (meaning.Scalar a kind)) = one_at at (WrongKind at) refl
indexed_rule at (Some (meaning.Array a kind)) = none_at at 3 3
indexed_rule at (Some (meaning.Pointer p)) = none_at at 3 3
indexed_rule at (Some (meaning.Peripheral p)) = one_at at (WrongKind at) refl
indexed_rule at (Some (meaning.Task t)) = one_at at (WrongKind at) refl

pointer_rule : (at : Pos) (m : Option Meaning) → IsAt at 3 3 (not_pointer at m)
pointer_rule at None = none_at at 3 3
pointer_rule at (Some (meaning.Scalar a kind)) = one_at at (WrongKind at) refl
pointer_rule at (Some (meaning.Array a kind)) = one_at at (WrongKind at) refl
pointer_rule at (Some (meaning.Pointer p)) = none_at at 3 3
pointer_rule at (Some (meaning.Peripheral p)) = one_at at (WrongKind at) refl
pointer_rule at (Some (meaning.Task t)) = one_at at (WrongKind at) refl

peripheral_rule : (at : Pos) (m : Option Meaning) → IsAt at 3 3 (not_peripheral at m)
peripheral_rule at None = none_at at 3 3
peripheral_rule at (Some (meaning.Scalar a kind)) = one_at at (WrongKind at) refl
peripheral_rule at (Some (meaning.Array a kind)) = one_at at (WrongKind at) refl
peripheral_rule at (Some (meaning.Pointer p)) = one_at at (WrongKind at) refl
peripheral_rule at (Some (meaning.Peripheral p)) = none_at at 3 3
peripheral_rule at (Some (meaning.Task t)) = one_at at (WrongKind at) refl

task_rule : (at : Pos) (m : Option Meaning) → IsAt at 3 3 (not_task at m)
task_rule at None = none_at at 3 3
task_rule at (Some (meaning.Scalar a kind)) = one_at at (WrongKind at) refl
task_rule at (Some (meaning.Array a kind)) = one_at at (WrongKind at) refl
task_rule at (Some (meaning.Pointer p)) = one_at at (WrongKind at) refl
task_rule at (Some (meaning.Peripheral p)) = one_at at (WrongKind at) refl
task_rule at (Some (meaning.Task t)) = none_at at 3 3

variable_rule : (at : Pos) (m : Option Meaning) → IsAt at 3 3 (not_variable at m)
variable_rule at None = none_at at 3 3
variable_rule at (Some (meaning.Scalar a Nv)) = one_at at (WrongKind at) refl
variable_rule at (Some (meaning.Scalar a Const)) = one_at at (WrongKind at) refl
variable_rule at (Some (meaning.Scalar a Vol)) = none_at at 3 3
variable_rule at (Some (meaning.Array a kind)) = one_at at (WrongKind at) refl
variable_rule at (Some (meaning.Pointer p)) = one_at at (WrongKind at) refl
variable_rule at (Some (meaning.Peripheral p)) = one_at at (WrongKind at) refl
variable_rule at (Some (meaning.Task t)) = one_at at (WrongKind at) refl

barred_rule : (reach : ℕ → Reach) (barred : List ℕ) (at : Pos) (m : Option Meaning) → IsAt at 3 3 (variable_written reach barred at m)
barred_rule reach barred at None = none_at at 3 3
barred_rule reach barred at (Some (meaning.Scalar a kind)) = where_at at (WrongKind at) refl _
barred_rule reach barred at (Some (meaning.Array a kind)) = where_at at (WrongKind at) refl _
barred_rule reach barred at (Some (meaning.Pointer p)) = where_at at (WrongKind at) refl _
barred_rule reach barred at (Some (meaning.Peripheral p)) = none_at at 3 3
barred_rule reach barred at (Some (meaning.Task t)) = none_at at 3 3

const_rule : (reach : ℕ → Reach) (at : Pos) (m : Option Meaning) → IsAt at 4 4 (const_written reach at m)
const_rule reach at None = none_at at 4 4
const_rule reach at (Some (meaning.Scalar a kind)) = where_at at (ConstWritten at) refl _
const_rule reach at (Some (meaning.Array a kind)) = where_at at (ConstWritten at) refl _
const_rule reach at (Some (meaning.Pointer p)) = where_at at (ConstWritten at) refl _
const_rule reach at (Some (meaning.Peripheral p)) = none_at at 4 4
const_rule reach at (Some (meaning.Task t)) = none_at at 4 4

-- an unknown name, and then one of the wrong kind
used : (at : Pos) (m : Option Meaning) (fs : List CheckError) → IsAt at 3 3 fs → IsAt at 1 3 (unknown_name at m ++ fs)
used at m fs h = join_at at 1 1 3 3 (unknown_name at m) fs (omega arith) (omega arith) (omega arith) (unknown_rule at m) h

scalar_at : (names : Meanings) (x : Name) → IsAt x.at 1 3 (scalar_faults names x)
scalar_at names x = used x.at (names x.text) _ (scalar_rule x.at (names x.text))

array_at : (names : Meanings) (x : Name) → IsAt x.at 1 3 (array_faults names x)
array_at names x = used x.at (names x.text) _ (array_rule x.at (names x.text))

indexed_at : (names : Meanings) (x : Name) → IsAt x.at 1 3 (indexed_faults names x)
indexed_at names x = used x.at (names x.text) _ (indexed_rule x.at (names x.text))

written_at : (a : Around) (x : Name) → IsAt x.at 3 4 (written_faults a x)
written_at a x = join_at x.at 3 3 4 4 _ _ (omega arith) (omega arith) (omega arith) (barred_rule a.reach a.barred x.at (a.names x.text)) (const_rule a.reach x.at (a.names x.text))

expr_along : (names : Meanings) (e : Expr) → Along (expr_places e) (expr_faults names e)
expr_along names (expr.Number n at) = nothing (at ∷ [])
expr_along names (expr.Read x) = along_one x.at 1 3 _ (scalar_at names x)
expr_along names (expr.Index' x u (more_of-Expr i end_of-Expr)) = join (x.at ∷ []) (expr_places i) _ _ (along_one x.at 1 3 _ (indexed_at names x)) (expr_along names i)
expr_along names (expr.Paren' u (more_of-Expr e end_of-Expr)) = expr_along names e
expr_along names (expr.One' op u (more_of-Expr e end_of-Expr)) = expr_along names e
expr_along names (expr.Two' op u (more_of-Expr a end_of-Expr) v (more_of-Expr b end_of-Expr)) = join (expr_places a) (expr_places b) _ _ (expr_along names a) (expr_along names b)

exprs_along : (names : Meanings) (es : List Expr) → Along (flat_map expr_places es) (flat_map (expr_faults names) es)
exprs_along names [] = nothing []
exprs_along names (e ∷ es) = join (expr_places e) (flat_map expr_places es) _ _ (expr_along names e) (exprs_along names es)

target_along : (a : Around) (x : Target) → Along (target_places x) (target_faults a x)
target_along a (target.Scalar x) = along_one x.at 1 4 _ (join_at x.at 1 3 3 4 _ _ (omega arith) (omega arith) (omega arith) (scalar_at a.names x) (written_at a x))
target_along a (target.Element x i) =
    join (x.at ∷ []) (expr_places i) _ _ (along_one x.at 1 4 _ (join_at x.at 1 3 3 4 _ _ (omega arith) (omega arith) (omega arith) (indexed_at a.names x) (written_at a x))) (expr_along a.names i)

reading_along : (a : Around) (x : Option Target) → Along (reading_places x) (reading_faults a x)
reading_along a None = nothing []
reading_along a (Some x) = target_along a x

append_none : {A : Type 0} (xs : List A) → xs ++ [] ≡ xs
append_none [] = refl
append_none (x ∷ xs) = ap (λ l. x ∷ l) (append_none xs)

place_along : (names : Meanings) (x : Place) → Along (place_places x) (place_faults names x)
place_along names (place.Bare x) = join (x.at ∷ []) [] _ _ (along_one x.at 1 3 _ (indexed_at names x)) (nothing [])
place_along names (place.Scalar x) = join (x.at ∷ []) [] _ _ (along_one x.at 1 3 _ (scalar_at names x)) (nothing [])
place_along names (place.Element x i) = join (x.at ∷ []) (expr_places i) _ _ (along_one x.at 1 3 _ (array_at names x)) (expr_along names i)

free_at : (a : Around) (x : Name) (fs : List CheckError) → IsAt x.at 1 3 fs → IsAt x.at 1 4 (fs ++ const_written a.reach x.at (a.names x.text))
free_at a x fs h = join_at x.at 1 3 4 4 fs _ (omega arith) (omega arith) (omega arith) h (const_rule a.reach x.at (a.names x.text))

destination_along : (a : Around) (x : Place) → Along (place_places x) (destination_faults a x)
destination_along a (place.Bare x) = join (x.at ∷ []) [] _ _ (along_one x.at 1 4 _ (free_at a x _ (indexed_at a.names x))) (nothing [])
destination_along a (place.Scalar x) = join (x.at ∷ []) [] _ _ (along_one x.at 1 4 _ (free_at a x _ (scalar_at a.names x))) (nothing [])
destination_along a (place.Element x i) = join (x.at ∷ []) (expr_places i) _ _ (along_one x.at 1 4 _ (free_at a x _ (array_at a.names x))) (expr_along a.names i)

loops_at : (u : Bool) (word : Pos) (n : ℕ) → IsAt word 15 15 (loops_limit u word n)
loops_at true word n = none_at word 15 15
loops_at false word n = where_at word (LimitReached word limit.Loops n) refl _

variable_at : (a : Around) (x : Name) → IsAt x.at 1 3 (variable_faults a x)
variable_at a x = join_at x.at 1 3 3 3 _ _ (omega arith) (omega arith) (omega arith) (used x.at (a.names x.text) _ (variable_rule x.at (a.names x.text))) (barred_rule a.reach a.barred x.at (a.names x.text))

head_along : (a : Around) (u : Bool) (i : Name) (turns : ℕ) (at word : Pos) → Along (word ∷ i.at ∷ at ∷ []) (head_faults a u i turns at word)
head_along a u i turns at word =
    join_three (word ∷ []) (i.at ∷ []) (at ∷ []) _ _ _ (along_one word 15 15 _ (loops_at u word (a.level + 1))) (along_one i.at 1 3 _ (variable_at a i)) (along_one at 14 14 _ (where_at at (LimitReached at limit.Turns turns) refl _))

mutual
  stmt_along : (a : Around) (s : Stmt) → Along (stmt_places s) (stmt_faults a s)
  stmt_along a (stmt.Assign x e) = join (target_places x) (expr_places e) _ _ (target_along a x) (expr_along a.names e)
  stmt_along a (stmt.Point p to) = join (p.at ∷ []) (place_places to) _ _ (along_one p.at 1 3 _ (used p.at (a.names p.text) _ (pointer_rule p.at (a.names p.text)))) (place_along a.names to)
  stmt_along a (stmt.If' c m yes_row n no_row) =
      join (expr_places c ++ row_places yes_row) (row_places no_row) _ _ (join (expr_places c) (row_places yes_row) _ _ (expr_along a.names c) (row_along (in_branch a) yes_row)) (row_along (in_branch a) no_row)
  stmt_along a (stmt.For' i turns at m row word) =
      join (word ∷ i.at ∷ at ∷ []) (row_places row) _ _ (head_along a (row_has_sites row) i turns at word) (row_along (in_loop a (row_has_sites row) (array_number (a.names i.text))) row)
  stmt_along a (stmt.Io x p n args word) =
      join_four (reading_places x) (word ∷ []) (p.at ∷ []) (flat_map expr_places args) _ _ _ _ (reading_along a x) (along_one word 6 6 _ (where_at word (TooMany word) refl _))
      (along_one p.at 1 3 _ (used p.at (a.names p.text) _ (peripheral_rule p.at (a.names p.text)))) (exprs_along a.names args)
  stmt_along a (stmt.Block' n m row word) = join (word ∷ []) (row_places row) [] _ (nothing (word ∷ [])) (row_along a row)
  stmt_along a (stmt.Dma to from n word) =
      subst (λ ps. Along (word ∷ ps) (copy_under_if a.branched word ++ destination_faults a to ++ place_faults a.names from ++ expr_faults a.names n)) (sym (append_assoc (place_places to) (place_places from) (expr_places n)))
      (join_four (word ∷ []) (place_places to) (place_places from) (expr_places n) _ _ _ _ (along_one word 5 5 _ (where_at word (DmaUnderIf word) refl a.branched)) (destination_along a to) (place_along a.names from) (expr_along a.names n))

  row_along : (a : Around) {n : _} (row : Row_of-Stmt n) → Along (row_places row) (row_faults a row)
  row_along a end_of-Stmt = nothing []
  row_along a (more_of-Stmt s rest) = join (stmt_places s) (row_places rest) _ _ (stmt_along a s) (row_along a rest)

body_along : (a : Around) (body : List Stmt) → Along (flat_map stmt_places body) (body_faults a body)
body_along a [] = nothing []
body_along a (s ∷ body) = join (stmt_places s) (flat_map stmt_places body) _ _ (stmt_along a s) (body_along a body)

exit_along : (names : Meanings) (e : Exit) → Along (exit_places e) (exit_faults names e)
exit_along names (exit.Next x) = along_one x.at 1 3 _ (used x.at (names x.text) _ (task_rule x.at (names x.text)))
exit_along names exit.Stop = nothing []
exit_along names (exit.Choose' c u (more_of-Exit a end_of-Exit) v (more_of-Exit b end_of-Exit)) =
    join (expr_places c ++ exit_places a) (exit_places b) _ _ (join (expr_places c) (exit_places a) _ _ (expr_along names c) (exit_along names a)) (exit_along names b)

-- the next row at one place
next_at : (p : Pos) (low mid : ℕ) (e : CheckError) (b : Bool) (xs : List CheckError) → fault_place e ≡ p → mid ≤ fault_row e → low ≤ fault_row e → IsAt p low mid xs → IsAt p low (fault_row e) (xs ++ where_true b e)
next_at p low mid e b xs is m l h = join_at p low mid (fault_row e) (fault_row e) xs (where_true b e) m l m h (where_at p e is b)

numbered_at : (before : List ℕ) (d : Decl) → IsAt (decl_name d).at 2 2 (twice_numbered before d)
numbered_at before (decl.Words kind x size values) = none_at x.at 2 2
numbered_at before (decl.Pointer x) = none_at x.at 2 2
numbered_at before (decl.Peripheral x n) = where_at x.at (TwiceNamed x.at) refl _

many_at : (d : Decl) → IsAt (decl_name d).at 6 6 (too_many_values d)
many_at (decl.Words kind x size values) = where_at x.at (TooMany x.at) refl _
many_at (decl.Pointer x) = none_at x.at 6 6
many_at (decl.Peripheral x n) = none_at x.at 6 6

length_at : (d : Decl) → IsAt (decl_name d).at 11 11 (length_limit d)
length_at (decl.Words kind x size values) = where_at x.at (LimitReached x.at limit.Length 0) refl _
length_at (decl.Pointer x) = none_at x.at 11 11
length_at (decl.Peripheral x n) = none_at x.at 11 11

number_at : (d : Decl) → IsAt (decl_name d).at 13 13 (number_limit d)
number_at (decl.Words kind x size values) = none_at x.at 13 13
number_at (decl.Pointer x) = none_at x.at 13 13
number_at (decl.Peripheral x n) = where_at x.at (LimitReached x.at limit.PeripheralNumber n) refl _

decl_along : (before : List Decl) (d : Decl) → Along (decl_places d) (decl_faults before d)
decl_along before d =
    let p = (decl_name d).at in
    let a2 = join_at p 2 2 2 2 _ _ (omega arith) (omega arith) (omega arith) (where_at p (TwiceNamed p) refl _) (numbered_at (flat_map decl_number before) d) in
    let a6 = join_at p 2 2 6 6 _ _ (omega arith) (omega arith) (omega arith) a2 (many_at d) in
    let a8 = next_at p 2 6 (LimitReached p limit.Names (length before + 1)) _ _ refl (omega arith) (omega arith) a6 in
    let a9 = next_at p 2 8 (LimitReached p limit.NvWords (sum_by fram_words before + fram_words d)) _ _ refl (omega arith) (omega arith) a8 in
    let a10 = next_at p 2 9 (LimitReached p limit.VolWords (sum_by ram_words before + ram_words d)) _ _ refl (omega arith) (omega arith) a9 in
    let a11 = join_at p 2 10 11 11 _ _ (omega arith) (omega arith) (omega arith) a10 (length_at d) in
    let a12 = next_at p 2 11 (LimitReached p limit.NameBytes (length (decl_name d).text)) _ _ refl (omega arith) (omega arith) a11 in
    along_one p 2 13 _ (join_at p 2 12 13 13 _ _ (omega arith) (omega arith) (omega arith) a12 (number_at d))

decls_along : (before ds : List Decl) → Along (flat_map decl_places ds) (decls_faults before ds)
decls_along before [] = nothing []
decls_along before (d ∷ ds) = join (decl_places d) (flat_map decl_places ds) _ _ (decl_along before d) (decls_along (before ++ d ∷ []) ds)

close_along : (names : Meanings) (arrays : List Array) (nodes : ℕ) (t : Task) → Along (t.close ∷ []) (close_faults names arrays nodes t)
close_along names arrays nodes t =
    let p = t.close in
    let a16 = where_at p (LimitReached p limit.Sites (length (task_sites names arrays t))) refl _ in
    let a17 = next_at p 16 16 (LimitReached p limit.KeptWords (sum_by site_words (task_sites names arrays t))) _ _ refl (omega arith) (omega arith) a16 in
    along_one p 16 18 _ (next_at p 16 17 (LimitReached p limit.Nodes (nodes + nodes_of_task t)) _ _ refl (omega arith) (omega arith) a17)

-- the name's part stands before the inside and the brace
front_out : (a b c d e f : List CheckError) → (a ++ b ++ c ++ d) ++ e ++ f ≡ a ++ (b ++ c ++ d ++ e ++ f)
front_out [] b c d e f = refl
front_out (x ∷ a) b c d e f = ap (λ (l : List CheckError). x ∷ l) (front_out a b c d e f)

task_along : (names : Meanings) (arrays : List Array) (words : List (List ℕ)) (before : List Task) (t : Task)
    → Along (task_places t) (twice_named (words ++ map task_text before) t.name ++ rest_faults names arrays (length words) before t)
task_along names arrays words before t =
    let p = t.name.at in
    let a2 = where_at p (TwiceNamed p) refl _ in
    let a7 = next_at p 2 2 (LimitReached p limit.Tasks (length before + 1)) _ _ refl (omega arith) (omega arith) a2 in
    let a8 = next_at p 2 7 (LimitReached p limit.Names (length words + length before + 1)) _ _ refl (omega arith) (omega arith) a7 in
    let a12 = next_at p 2 8 (LimitReached p limit.NameBytes (length t.name.text)) _ _ refl (omega arith) (omega arith) a8 in
    let inside = join (flat_map stmt_places t.body) (exit_places t.exit) _ _ (body_along (in_task names arrays t) t.body) (exit_along names t.exit) in
    subst (Along (task_places t)) (front_out _ _ _ _ (inner_faults names arrays t) (close_faults names arrays (sum_by nodes_of_task before) t))
    (join_three (p ∷ []) (flat_map stmt_places t.body ++ exit_places t.exit) (t.close ∷ []) _ _ _ (along_one p 2 12 _ a12) inside (close_along names arrays (sum_by nodes_of_task before) t))

tasks_along : (names : Meanings) (arrays : List Array) (words : List (List ℕ)) (before ts : List Task) → Along (flat_map task_places ts) (tasks_faults names arrays words before ts)
tasks_along names arrays words before [] = nothing []
tasks_along names arrays words before (t ∷ ts) = join (task_places t) (flat_map task_places ts) _ _ (task_along names arrays words before t) (tasks_along names arrays words (before ++ t ∷ []) ts)

first_earlier : (fs : List CheckError) (e : CheckError) → AreSorted fs → first fs ≡ Some e → AllByRecursion (λ f. (e ≡ f) ⊎ IsEarlier e f) fs
first_earlier [] e h is = tt
first_earlier (f ∷ fs) e h is =
    let same : f ≡ e = ap (or_this f) is in
    (inl (sym same), all_map (IsEarlier f) (λ g. (e ≡ g) ⊎ IsEarlier e g) (λ g k. inr (subst (λ x. IsEarlier x g) same k)) fs h.0)
  where
    or_this : CheckError → Option CheckError → CheckError
    or_this d None = d
    or_this d (Some x) = x

-- the first fault of a program whose places rise is at the least place, and there of the earliest row
pub first_is_earliest : (p : Program) (e : CheckError) → Rise (program_places p) → first_fault p ≡ Some e → AllByRecursion (λ f. (e ≡ f) ⊎ IsEarlier e f) (faults p)
unfolding faults
first_is_earliest p e rise is =
    first_earlier (faults p) e (join (flat_map decl_places p.decls) (flat_map task_places p.tasks) (decls_faults [] p.decls) (tasks_faults (names_of p) (arrays_of p) (map decl_text p.decls) [] p.tasks)
    (decls_along [] p.decls) (tasks_along (names_of p) (arrays_of p) (map decl_text p.decls) [] p.tasks) rise).0 is
