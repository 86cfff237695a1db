-- A statement of a checked form suits its layout.
use Rattle.std.specs.Prelude.{◌||◌, ◌==◌, Option, Some, None, slice_get}
use Rattle.std.specs.List.{AllByRecursion, list_any}
use Rattle.std.specs.Option.{ForSome}
use Rattle.std.proofs.Common.{◌≡◌, ◌∙◌, ℕ, zero, suc, ◌+◌, ◌<◌, ◌≤◌, Bool, true, false, List, [], ◌∷◌, ◌++◌, length, map, refl, sym, ap, subst, arith, eqb-true, eq-eqb}
use Rattle.std.proofs.Common.{length-append}
use Rattle.task_ast.specs.declared.core_form.Array.{Array}
use Rattle.task_ast.specs.declared.core_form.Core.{Core}
use Rattle.task_ast.specs.declared.core_form.CoreTask.{CoreTask}
use Rattle.task_ast.specs.declared.core_form.CoreExpr.{CoreExpr, end_of-CoreExpr, more_of-CoreExpr}
use Rattle.task_ast.specs.declared.core_form.CoreExpr.TheVariants as expr
use Rattle.task_ast.specs.declared.core_form.CoreTarget.{CoreTarget}
use Rattle.task_ast.specs.declared.core_form.CoreTarget.TheVariants as target
use Rattle.task_ast.specs.declared.core_form.CoreStmt.{CoreStmt, Row_of-CoreStmt, end_of-CoreStmt, more_of-CoreStmt}
use Rattle.task_ast.specs.declared.core_form.CoreStmt.TheVariants as stmt
use Rattle.task_ast.specs.CoreSites.{row_numbers, site_numbers}
use Rattle.task_ast.specs.Pointing.{target_arrays}
use Rattle.task_ast.specs.WellFormed.{Scope, core_depth, core_names, is_turning, scope_of, IsOver, IsCoreExpr, IsTarget, IsVariable, IsWritable, IsCoreStmt, AreCoreStmts, IsWellFormed}
use Rattle.io_depend.specs.Flow.{assigns, row_assigns}
use Rattle.io_depend.specs.Sets.{has}
use Rattle.io_flow.specs.Written.{has-append}
use Rattle.line_code.specs.Areas.{areas_from, area_at, free_at_first}
use Rattle.line_code.specs.Fitting.{HasFields, IsShort}
use Rattle.line_laws.specs.Relation.{Layout, room_at}
use Rattle.line_laws.specs.Suits.{IsOverTarget, RowSuits, Suits}
use Rattle.layout_laws.specs.Layouts.{layout_of}
use Rattle.layout_laws.proofs.Apart.{room_is, room_of}

-- ---- numbers and cells

over_fields : (s : Scope) → s.pointers ≤ 256 → (e : CoreExpr) → IsOver s e → HasFields e
over_fields s few (expr.Number n) h = h
over_fields s few (expr.Cell' array u (more_of-CoreExpr i end_of-CoreExpr)) h = over_fields s few i h.1
over_fields s few (expr.Through' pointer u (more_of-CoreExpr i end_of-CoreExpr)) h = (omega (arith, h.0, few), over_fields s few i h.1)
over_fields s few (expr.One' op u (more_of-CoreExpr e end_of-CoreExpr)) h = over_fields s few e h
over_fields s few (expr.Two' op u (more_of-CoreExpr a end_of-CoreExpr) v (more_of-CoreExpr b end_of-CoreExpr)) h = (over_fields s few a h.0, over_fields s few b h.1)

expr_short : (s : Scope) → s.pointers ≤ 256 → (d : ℕ) (e : CoreExpr) → d ≤ 1 → IsCoreExpr s e → IsShort d e
expr_short s few d e low h =
    let deep : core_depth e ≤ 24 = h.0 in
    record { cells = omega (arith, deep, low); fields = over_fields s few e h.1 }

target_suits : (s : Scope) → s.pointers ≤ 256 → (turning : List ℕ) (x : CoreTarget) → IsTarget s turning x → IsOverTarget s x
target_suits s few turning (target.Cell array i) h = (h.1.1, expr_short s few 0 i (omega arith) h.1)
target_suits s few turning (target.Through p i) h = (h.0, h.2.1, expr_short s few 0 i (omega arith) h.2)

-- ---- a loop's body leaves the variables of the loops around it

-- a number that turns isn't one that doesn't
other_than : (turning : List ℕ) (x a : ℕ) → is_turning turning x ≡ false → is_turning turning a ≡ true → (x == a) ≡ false
other_than turning x a still turns = by_test (x == a) refl
  where
    by_test : (b : Bool) → (x == a) ≡ b → b ≡ false
    by_test true is = absurd (cc (still, turns, eqb-true x a is))
    by_test false is = refl

many_leave : (s : Scope) (turning arrays : List ℕ) (a : ℕ) → is_turning turning a ≡ true → AllByRecursion (IsWritable s.arrays turning) arrays → has arrays a ≡ false
many_leave s turning [] a turns h = refl
many_leave s turning (x ∷ xs) a turns h = rw (other_than turning x a h.0.still turns) (many_leave s turning xs a turns h.1)

target_leaves : (s : Scope) (turning : List ℕ) (a : ℕ) (x : CoreTarget) → is_turning turning a ≡ true → IsTarget s turning x → has (target_arrays s.points x) a ≡ false
target_leaves s turning a (target.Cell n i) turns h = rw (other_than turning n a h.0.still turns) refl
target_leaves s turning a (target.Through p i) turns h = many_leave s turning (s.points p) a turns h.1

joined_leave : (xs ys : List ℕ) (a : ℕ) → has xs a ≡ false → has ys a ≡ false → has (xs ++ ys) a ≡ false
joined_leave xs ys a front behind = has-append xs ys a ∙ rw (front, behind) refl

front_empty : (xs ys : List ℕ) → xs ++ ys ≡ [] → xs ≡ []
front_empty [] ys h = refl
front_empty (x ∷ xs) ys h = absurd (cc h)

back_empty : (xs ys : List ℕ) → xs ++ ys ≡ [] → ys ≡ []
back_empty [] ys h = h
back_empty (x ∷ xs) ys h = absurd (cc h)

still_turns : (i a : ℕ) (turning : List ℕ) → is_turning turning a ≡ true → is_turning (i ∷ turning) a ≡ true
still_turns i a turning h = by_test (i == a)
  where
    by_test : (b : Bool) → (b || is_turning turning a) ≡ true
    by_test true = refl
    by_test false = h

mutual
  leaves : (s : Scope) (level : ℕ) (branched : Bool) (turning : List ℕ) (a : ℕ) (x : CoreStmt) → is_turning turning a ≡ true → IsCoreStmt s level branched turning x → site_numbers x ≡ [] → has (assigns s.points x) a ≡ false
  leaves s level branched turning a (stmt.Assign x e) turns h none = target_leaves s turning a x turns h.1
  leaves s level branched turning a (stmt.Point p array i) turns h none = refl
  leaves s level branched turning a (stmt.If' c m yes_row n no_row) turns h none =
      joined_leave (row_assigns s.points yes_row) (row_assigns s.points no_row) a
      (row_leaves s (1 + level) true turning a yes_row turns h.2 (front_empty (row_numbers yes_row) (row_numbers no_row) none))
      (row_leaves s (1 + level) true turning a no_row turns h.3 (back_empty (row_numbers yes_row) (row_numbers no_row) none))
  leaves s level branched turning a (stmt.Loop' i count m row) turns h none =
      rw (other_than turning i a h.1.still turns) (row_leaves s (1 + level) branched (i ∷ turning) a row (still_turns i a turning turns) h.5 h.4)
  leaves s level branched turning a (stmt.Io k x p args) turns h none = absurd (cc none)
  leaves s level branched turning a (stmt.Block' k m row) turns h none = absurd (cc none)
  leaves s level branched turning a (stmt.Copy k to from n) turns h none = absurd (cc none)

  row_leaves : (s : Scope) (level : ℕ) (branched : Bool) (turning : List ℕ) (a : ℕ) → {n : _} (row : Row_of-CoreStmt n) → is_turning turning a ≡ true → AreCoreStmts s level branched turning row → row_numbers row ≡ [] → has (row_assigns s.points row) a ≡ false
  row_leaves s level branched turning a end_of-CoreStmt turns h none = refl
  row_leaves s level branched turning a (more_of-CoreStmt x rest) turns h none =
      joined_leave (assigns s.points x) (row_assigns s.points rest) a
      (leaves s level branched turning a x turns h.0 (front_empty (site_numbers x) (row_numbers rest) none))
      (row_leaves s level branched turning a rest turns h.1 (back_empty (site_numbers x) (row_numbers rest) none))

turns_itself : (i : ℕ) (turning : List ℕ) → is_turning (i ∷ turning) i ≡ true
turns_itself i turning = ap (λ b. b || is_turning turning i) (eq-eqb i i refl)

-- ---- statements

room_found : (arrays : List Array) (i : ℕ) (found : Array) → slice_get arrays i ≡ Some found → room_of arrays i ≡ length found.first
room_found [] i found is = absurd (cc is)
room_found (a ∷ arrays) zero found is = cc is
room_found (a ∷ arrays) (suc i) found is = room_found arrays i found is

variable_room : (c : Core) (bank i : ℕ) (turning : List ℕ) → IsVariable c.arrays turning i → 0 < room_at (layout_of c bank) i
variable_room c bank i turning v = omega (arith, room_is free_at_first c.arrays i, room_found c.arrays i v.found v.there, v.one)

module _ (c : Core) (bank : ℕ) (t : CoreTask) (few : length c.pointers ≤ 256) where
  mutual
    suits : (level : ℕ) (branched : Bool) (turning : List ℕ) (x : CoreStmt) → IsCoreStmt (scope_of c t) level branched turning x → Suits (layout_of c bank) (scope_of c t) x
    suits level branched turning (stmt.Assign x e) h = (target_suits (scope_of c t) few turning x h.1, h.2.1, expr_short (scope_of c t) few 1 e (omega arith) h.2)
    suits level branched turning (stmt.Point p array i) h = (h.1, h.3.1, expr_short (scope_of c t) few 0 i (omega arith) h.3)
    suits level branched turning (stmt.If' e m yes_row n no_row) h =
        ((h.1.1, expr_short (scope_of c t) few 0 e (omega arith) h.1), row_suits (1 + level) true turning yes_row h.2, row_suits (1 + level) true turning no_row h.3)
    suits level branched turning (stmt.Loop' i count m row) h =
        let small : count ≤ 65535 = h.2 in
        (variable_room c bank i turning h.1, omega (arith, small), row_leaves (scope_of c t) (1 + level) branched (i ∷ turning) i row (turns_itself i turning) h.5 h.4, row_suits (1 + level) branched (i ∷ turning) row h.5)
    suits level branched turning (stmt.Io k x p args) h = tt
    suits level branched turning (stmt.Block' k m row) h = tt
    suits level branched turning (stmt.Copy k to from n) h = tt

    row_suits : (level : ℕ) (branched : Bool) (turning : List ℕ) → {n : _} (row : Row_of-CoreStmt n) → AreCoreStmts (scope_of c t) level branched turning row → RowSuits (layout_of c bank) (scope_of c t) row
    row_suits level branched turning end_of-CoreStmt h = tt
    row_suits level branched turning (more_of-CoreStmt x rest) h = (suits level branched turning x h.0, row_suits level branched turning rest h.1)

few_pointers : (c : Core) → IsWellFormed c → length c.pointers ≤ 256
few_pointers c w =
    let few : length (core_names c) ≤ 256 = w.few_names in
    omega (
      arith,
      few,
      length-append (map (λ a. a.name) c.arrays ++ c.pointers ++ map (λ p. p.name) c.peripherals) (map (λ x. x.name) c.tasks),
      length-append (map (λ a. a.name) c.arrays ++ c.pointers) (map (λ p. p.name) c.peripherals),
      length-append (map (λ a. a.name) c.arrays) c.pointers,
    )

pub program_suits : (c : Core) (bank : ℕ) (t : CoreTask) (level : ℕ) (branched : Bool) (turning : List ℕ) (s : CoreStmt) → IsWellFormed c → IsCoreStmt (scope_of c t) level branched turning s → Suits (layout_of c bank) (scope_of c t) s
program_suits c bank t level branched turning s w h = suits c bank t (few_pointers c w) level branched turning s h
