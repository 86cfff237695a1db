-- The arrays to which a pointer may point are those that are marked for it.
use Rattle.std.proofs.Common.{◌≡◌, ◌∙◌, ℕ, zero, suc, ◌+◌, ◌<◌, Bool, true, false, ◌||◌, ◌==◌, cond, List, [], ◌∷◌, ◌++◌, length, filter, replicate, slice_set, Result, Ok, Err, IfOk, Vec, Global, refl, sym, ap, arith}
use Rattle.std.specs.List.{range_with_len}
use Rattle.std.proofs.lemmas.Bool.{cases_eq, eq-eqb, ne_eqb}
use Rattle.std.proofs.lemmas.List.{length-set, length-replicate, get_or-set_same, get_or-set_other, get_or-replicate}
use Rattle.std.proofs.lemmas.List.Elements.{filter-append}
use Rattle.std.proofs.lemmas.List.FromFn.{map-range_with_len_more}
use mathlib.Core.Logic.{⊎_elim}
use Rattle.task_ast.specs.declared.core_form.CoreExpr.{CoreExpr}
use Rattle.task_ast.specs.declared.core_form.CoreStmt.{CoreStmt}
use Rattle.task_ast.specs.declared.core_form.CoreStmt.TheVariants as stmt
use Rattle.task_ast.specs.Pointing.{addresses, all_addresses, addresses_if, addresses_loop, addresses_block}
use Rattle.io_depend.specs.Sets.{has}
use Rattle.io_depend.specs.Marks.{is_marked, with_marks, marks_after, marked, given_arrays, all_given}
use Rattle.io_depend.specs.RangeLaws.{same_filter, range_more}
use Rattle.io_depend.proofs.SetLemmas.{or_none, or_grouped, or_swapped}

-- marks of arrays that come one behind the other
with_append : (marks : List Bool) (xs ys : List ℕ) → with_marks marks (xs ++ ys) ≡ with_marks (with_marks marks xs) ys
with_append marks [] ys = refl
with_append marks (x ∷ xs) ys = with_append (slice_set marks x true) xs ys

pub after_is : (p : ℕ) (body : List CoreStmt) (marks : List Bool) → marks_after p body marks ≡ with_marks marks (all_addresses p body)
after_is p [] marks = refl
after_is p (s ∷ rest) marks = after_is p rest (with_marks marks (addresses p s)) ∙ sym (with_append marks (addresses p s) (all_addresses p rest))

-- an `if`, a loop and a block by their bodies
pub mark_if : (p : ℕ) (s : CoreStmt) (e : CoreExpr) (yes_part no_part one other : List CoreStmt) (marks x y : List Bool)
    → s ≡ stmt.If e yes_part no_part → one ≡ yes_part → other ≡ no_part → x ≡ marks_after p one marks → y ≡ marks_after p other x → y ≡ with_marks marks (addresses p s)
mark_if p s e yes_part no_part one other marks x y is at then left right =
    let first = left ∙ ap (λ b. marks_after p b marks) at ∙ after_is p yes_part marks in
    right ∙ (λ j. marks_after p (then j) (first j)) ∙ after_is p no_part _ ∙ sym (with_append marks (all_addresses p yes_part) (all_addresses p no_part))
    ∙ ap (with_marks marks) (sym (ap (addresses p) is ∙ addresses_if p e yes_part no_part))

pub mark_loop : (p : ℕ) (s : CoreStmt) (i turns : ℕ) (body got : List CoreStmt) (marks y : List Bool)
    → s ≡ stmt.Loop i turns body → got ≡ body → y ≡ marks_after p got marks → y ≡ with_marks marks (addresses p s)
mark_loop p s i turns body got marks y is at right =
    right ∙ ap (λ b. marks_after p b marks) at ∙ after_is p body marks ∙ ap (with_marks marks) (sym (ap (addresses p) is ∙ addresses_loop p i turns body))

pub mark_block : (p : ℕ) (s : CoreStmt) (k : ℕ) (body got : List CoreStmt) (marks y : List Bool)
    → s ≡ stmt.Block k body → got ≡ body → y ≡ marks_after p got marks → y ≡ with_marks marks (addresses p s)
mark_block p s k body got marks y is at right =
    right ∙ ap (λ b. marks_after p b marks) at ∙ after_is p body marks ∙ ap (with_marks marks) (sym (ap (addresses p) is ∙ addresses_block p k body))

-- which arrays are marked
pub marks_length : (marks : List Bool) (xs : List ℕ) → length (with_marks marks xs) ≡ length marks
marks_length marks [] = refl
marks_length marks (x ∷ xs) = marks_length (slice_set marks x true) xs ∙ length-set marks x true

set_marked : (marks : List Bool) (x a : ℕ) → a < length marks → is_marked (slice_set marks x true) a ≡ ((x == a) || is_marked marks a)
set_marked marks x a there = ⊎_elim
    (λ e. ap (λ j. is_marked (slice_set marks j true) a) e ∙ get_or-set_same marks a true false there ∙ ap (λ t. t || is_marked marks a) (sym (eq-eqb x a e)))
    (λ apart. get_or-set_other marks x a true false (λ e. apart (sym e)) ∙ ap (λ t. t || is_marked marks a) (sym (ne_eqb x a apart)))
    (cases_eq x a)

all_marked : (marks : List Bool) (xs : List ℕ) (a : ℕ) → a < length marks → is_marked (with_marks marks xs) a ≡ (is_marked marks a || has xs a)
all_marked marks [] a there = sym (or_none _)
all_marked marks (x ∷ xs) a there =
    all_marked (slice_set marks x true) xs a (omega (arith, length-set marks x true))
    ∙ ap (λ t. t || has xs a) (set_marked marks x a there ∙ or_swapped (x == a) (is_marked marks a))
    ∙ sym (or_grouped (is_marked marks a) (x == a) (has xs a))

pub after_length : (p : ℕ) (body : List CoreStmt) (arrays : ℕ) (marks after : List Bool) → marks ≡ replicate arrays false → after ≡ marks_after p body marks → length after ≡ arrays
after_length p body arrays marks after none is =
    ap length is ∙ ap length (after_is p body marks) ∙ marks_length marks (all_addresses p body) ∙ ap length none ∙ length-replicate arrays false

-- a row of marked arrays
pub given_is : (p : ℕ) (body : List CoreStmt) (arrays : ℕ) (marks after : List Bool) (got : List Bool) (row : List ℕ)
    → marks ≡ replicate arrays false → after ≡ marks_after p body marks → got ≡ after → row ≡ marked got → row ≡ given_arrays body arrays p
given_is p body arrays marks after got row none is at listed =
    let long : length after ≡ arrays = after_length p body arrays marks after none is in
    let fresh : length marks ≡ arrays = ap length none ∙ length-replicate arrays false in
    let test : (a : ℕ) → a < 0 + arrays → is_marked after a ≡ has (all_addresses p body) a =
    λ a l. ap (λ m. is_marked m a) (is ∙ after_is p body marks) ∙ all_marked marks (all_addresses p body) a (omega (arith, fresh))
    ∙ ap (λ t. t || has (all_addresses p body) a) (ap (λ m. is_marked m a) none ∙ get_or-replicate arrays a false false (omega arith)) in
    listed ∙ ap marked at ∙ ap (λ n. filter (is_marked after) (range_with_len 0 n)) long ∙ same_filter (is_marked after) (has (all_addresses p body)) 0 arrays test

-- one array more is listed
pub listed_more : (marks : List Bool) (n : ℕ) (is : Bool) (row after : List ℕ) → is ≡ is_marked marks n → row ≡ filter (is_marked marks) (range_with_len 0 n) → after ≡ row ++ cond is (n ∷ []) []
    → after ≡ filter (is_marked marks) (range_with_len 0 (n + 1))
listed_more marks n is row after test so_far put =
    let at : 0 + n ≡ n = omega arith in
    put ∙ (λ i. so_far i ++ cond (test i) (n ∷ []) []) ∙ sym (filter-append (is_marked marks) (range_with_len 0 n) (n ∷ []))
    ∙ ap (filter (is_marked marks)) (sym (range_more 0 n ∙ ap (λ k. range_with_len 0 n ++ k ∷ []) at))

-- one pointer more
pub given_more : (body : List CoreStmt) (arrays p : ℕ) (row : List ℕ) → row ≡ given_arrays body arrays p → all_given body arrays p ++ row ∷ [] ≡ all_given body arrays (p + 1)
given_more body arrays p row is =
    ap (λ r. all_given body arrays p ++ r ∷ []) is ∙ sym (map-range_with_len_more (given_arrays body arrays) 0 p p (omega arith))

-- the same of a row that may be missing for want of memory
pub given_row : {E : Type 0} (p : ℕ) (body : List CoreStmt) (arrays : ℕ) (marks after : List Bool) (got : List Bool) (result : Result (Vec ℕ Global) E)
    → marks ≡ replicate arrays false → after ≡ marks_after p body marks → got ≡ after → IfOk result (λ row. row.items ≡ marked got) → IfOk result (λ row. row.items ≡ given_arrays body arrays p)
given_row p body arrays marks after got (Ok row) none is at listed = given_is p body arrays marks after got row.items none is at listed
given_row p body arrays marks after got (Err e) none is at listed = listed
