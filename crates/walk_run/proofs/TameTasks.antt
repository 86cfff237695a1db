-- What the tasks of a well-formed program can meet: without pointers no unset pointer, and without sites no range and no
-- want of a reading.
use Rattle.std.proofs.Common.{◌≡◌, ◌≢◌, ◌∙◌, ℕ, ◌+◌, ◌<◌, Bool, true, false, List, [], ◌∷◌, length, Option, Some, None, refl, ap, arith}
use Rattle.std.specs.List.{AllByRecursion, range_with_len}
use Rattle.std.specs.Option.{ForSome}
use Rattle.task_ast.specs.declared.core_form.CoreExpr.{CoreExpr, end_of-CoreExpr, more_of-CoreExpr}
use Rattle.task_ast.specs.declared.core_form.CoreExpr.TheVariants as expr
use Rattle.task_ast.specs.declared.core_form.CoreTarget.{CoreTarget}
use Rattle.task_ast.specs.declared.core_form.CoreTarget.TheVariants as target
use Rattle.task_ast.specs.declared.core_form.CoreEnd.{CoreEnd}
use Rattle.task_ast.specs.declared.core_form.CoreEnd.TheVariants as end
use Rattle.task_ast.specs.declared.core_form.CoreStmt.{CoreStmt, Row_of-CoreStmt, end_of-CoreStmt, more_of-CoreStmt}
use Rattle.task_ast.specs.declared.core_form.CoreStmt.TheVariants as stmt
use Rattle.task_ast.specs.declared.core_form.CoreExit.{CoreExit, end_of-CoreExit, more_of-CoreExit}
use Rattle.task_ast.specs.declared.core_form.CoreExit.TheVariants as exit
use Rattle.task_ast.specs.declared.core_form.CoreTask.{CoreTask}
use Rattle.task_ast.specs.declared.core_form.Core.{Core}
use Rattle.task_ast.specs.CoreSites.{site_numbers, row_numbers, all_numbers}
use Rattle.task_ast.specs.WellFormed.{IsWellFormed, Scope, IsOver, IsCoreExpr, IsTarget, IsEnd, IsCoreStmt, AreCoreStmts, IsCoreExit, IsCoreTask, scope_of}
use Rattle.walk_run.specs.declared.trap.Trap.TheVariants.{Unset, Range}
use Rattle.walk_run.specs.declared.walked.EarlyEnd.{EarlyEnd}
use Rattle.walk_run.specs.declared.walked.EarlyEnd.TheVariants as early
use Rattle.walk_run.specs.declared.walked.WalkEnd.{WalkEnd}
use Rattle.walk_run.specs.declared.walked.WalkEnd.TheVariants.{Stopped, Limit, Trapped, NoReading}
use Rattle.walk_run.specs.Laws.{HasNoSites}
use Rattle.walk_run.specs.PlainWalks.{some_is_none, none_in_front, none_behind}
use Rattle.walk_run.specs.Walk.{walk_of}
use Rattle.walk_run.proofs.Traps.{Allows, IsTame, IsTameTarget, IsTameReading, IsTameEnd, IsTameStmt, AreTame, IsTameExit, IsTameTask, EndsSo, walk_goes}

-- each end but that at an unset pointer
abbrev NotUnset : EarlyEnd → Type 0
NotUnset why = why ≢ early.Trapped Unset

unset_allows : Allows NotUnset
unset_allows = record { index = λ e. cc; divisor = λ e. cc }

module _ (s : Scope) (none : s.pointers ≡ 0) where
  nowhere : {A : Type 0} (p : ℕ) → p < s.pointers → A
  nowhere p there = absurd (omega (arith, there, none))

  over_tame : (e : CoreExpr) → IsOver s e → IsTame NotUnset e
  over_tame (expr.Number n) h = tt
  over_tame (expr.Cell' array u (more_of-CoreExpr i end_of-CoreExpr)) h = over_tame i h.1
  over_tame (expr.Through' p u (more_of-CoreExpr i end_of-CoreExpr)) h = nowhere p h.0
  over_tame (expr.One' o u (more_of-CoreExpr e end_of-CoreExpr)) h = over_tame e h
  over_tame (expr.Two' o u (more_of-CoreExpr a end_of-CoreExpr) v (more_of-CoreExpr b end_of-CoreExpr)) h = (over_tame a h.0, over_tame b h.1)

  overs_tame : (es : List CoreExpr) → AllByRecursion (IsCoreExpr s) es → AllByRecursion (IsTame NotUnset) es
  overs_tame [] h = tt
  overs_tame (e ∷ es) h = (over_tame e h.0.1, overs_tame es h.1)

  target_tame : (turning : List ℕ) (x : CoreTarget) → IsTarget s turning x → IsTameTarget NotUnset x
  target_tame turning (target.Cell array i) h = over_tame i h.1.1
  target_tame turning (target.Through p i) h = nowhere p h.0

  reading_tame : (turning : List ℕ) (x : Option CoreTarget) → ForSome x (IsTarget s turning) → IsTameReading NotUnset x
  reading_tame turning None h = tt
  reading_tame turning (Some x) h = target_tame turning x (h x refl)

  end_tame : (e : CoreEnd) → IsEnd s e → IsTameEnd NotUnset e
  end_tame (end.Cell array i) h = over_tame i h.1.1
  end_tame (end.Pointer p) h = nowhere p h

  mutual
    stmt_tame : (level : ℕ) (branched : Bool) (turning : List ℕ) (x : CoreStmt) → IsCoreStmt s level branched turning x → IsTameStmt NotUnset x
    stmt_tame level branched turning (stmt.Assign x e) h = (target_tame turning x h.1, over_tame e h.2.1)
    stmt_tame level branched turning (stmt.Point p array i) h = nowhere p h.1
    stmt_tame level branched turning (stmt.If' c m yes_row n no_row) h = (over_tame c h.1.1, row_tame (1 + level) true turning yes_row h.2, row_tame (1 + level) true turning no_row h.3)
    stmt_tame level branched turning (stmt.Loop' variable turns m row) h = row_tame (1 + level) branched (variable ∷ turning) row h.5
    stmt_tame level branched turning (stmt.Io site x p args) h = ((λ e. cc), reading_tame turning x h.1, overs_tame args h.4)
    stmt_tame level branched turning (stmt.Block' site m row) h = row_tame (1 + level) branched turning row h.1
    stmt_tame level branched turning (stmt.Copy site to from n) h = ((λ e. cc), end_tame to h.2.0, end_tame from h.3, over_tame n h.4.1)

    row_tame : (level : ℕ) (branched : Bool) (turning : List ℕ) {n : _} (row : Row_of-CoreStmt n) → AreCoreStmts s level branched turning row → AreTame NotUnset row
    row_tame level branched turning end_of-CoreStmt h = tt
    row_tame level branched turning (more_of-CoreStmt x rest) h = (stmt_tame level branched turning x h.0, row_tame level branched turning rest h.1)

  body_tame : (body : List CoreStmt) → AllByRecursion (IsCoreStmt s 1 false []) body → AllByRecursion (IsTameStmt NotUnset) body
  body_tame [] h = tt
  body_tame (x ∷ rest) h = (stmt_tame 1 false [] x h.0, body_tame rest h.1)

  exit_tame : (tasks level : ℕ) (e : CoreExit) → IsCoreExit s tasks level e → IsTameExit NotUnset e
  exit_tame tasks level (exit.Next t) h = tt
  exit_tame tasks level exit.Stop h = tt
  exit_tame tasks level (exit.Choose' c u (more_of-CoreExit a end_of-CoreExit) v (more_of-CoreExit b end_of-CoreExit)) h =
      (over_tame c h.1.1, exit_tame tasks (1 + level) a h.2, exit_tame tasks (1 + level) b h.3)

tasks_tame : (c : Core) → length c.pointers ≡ 0 → (ts : List CoreTask) → AllByRecursion (IsCoreTask c) ts → AllByRecursion (IsTameTask NotUnset unset_allows) ts
tasks_tame c none [] h = tt
tasks_tame c none (t ∷ ts) h =
    (record { body = body_tame (scope_of c t) none t.body h.0.body; leaves = exit_tame (scope_of c t) none (length c.tasks) 1 t.exit h.0.exit }, tasks_tame c none ts h.1)

-- an end that is one of these isn't that at an unset pointer
not_unset : (w : WalkEnd) → EndsSo NotUnset unset_allows w → w ≢ Trapped Unset
not_unset Stopped h e = cc
not_unset Limit h e = cc
not_unset (Trapped trap) h e = h (ap early.Trapped (same_trap e))
  where
    same_trap : {x y : _} → Trapped x ≡ Trapped y → x ≡ y
    same_trap is = cc
not_unset NoReading h e = cc

pub never_unset : (c : Core) → IsWellFormed c → (readings : List ℕ) (tasks : ℕ) → c.pointers ≡ [] → (walk_of c readings tasks).end ≢ Trapped Unset
never_unset c well readings tasks none =
    not_unset (walk_of c readings tasks).end (walk_goes NotUnset unset_allows c (tasks_tame c (ap length none) c.tasks well.tasks) readings tasks)

-- each end but those of a copy and of a call
abbrev OfPlain : EarlyEnd → Type 0
OfPlain why = (why ≢ early.Trapped Range) × (why ≢ early.NoReading)

plain_allows : Allows OfPlain
plain_allows = record { index = ((λ e. cc), (λ e. cc)); divisor = ((λ e. cc), (λ e. cc)) }

each_tame : (e : CoreExpr) → IsTame OfPlain e
each_tame (expr.Number n) = tt
each_tame (expr.Cell' array u (more_of-CoreExpr i end_of-CoreExpr)) = each_tame i
each_tame (expr.Through' p u (more_of-CoreExpr i end_of-CoreExpr)) = (((λ e. cc), (λ e. cc)), each_tame i)
each_tame (expr.One' o u (more_of-CoreExpr e end_of-CoreExpr)) = each_tame e
each_tame (expr.Two' o u (more_of-CoreExpr a end_of-CoreExpr) v (more_of-CoreExpr b end_of-CoreExpr)) = (each_tame a, each_tame b)

each_target : (x : CoreTarget) → IsTameTarget OfPlain x
each_target (target.Cell array i) = each_tame i
each_target (target.Through p i) = (((λ e. cc), (λ e. cc)), each_tame i)

mutual
  plain_tame : (x : CoreStmt) → site_numbers x ≡ [] → IsTameStmt OfPlain x
  plain_tame (stmt.Assign x e) none = (each_target x, each_tame e)
  plain_tame (stmt.Point p array i) none = each_tame i
  plain_tame (stmt.If' c m yes_row n no_row) none =
      (each_tame c, plain_row yes_row (none_in_front (row_numbers yes_row) (row_numbers no_row) none), plain_row no_row (none_behind (row_numbers yes_row) (row_numbers no_row) none))
  plain_tame (stmt.Loop' variable turns m row) none = plain_row row none
  plain_tame (stmt.Io k x p args) none = absurd (some_is_none k [] none)
  plain_tame (stmt.Block' k m row) none = absurd (some_is_none k (row_numbers row) none)
  plain_tame (stmt.Copy k to from n) none = absurd (some_is_none k [] none)

  plain_row : {n : _} (row : Row_of-CoreStmt n) → row_numbers row ≡ [] → AreTame OfPlain row
  plain_row end_of-CoreStmt none = tt
  plain_row (more_of-CoreStmt x rest) none = (plain_tame x (none_in_front (site_numbers x) (row_numbers rest) none), plain_row rest (none_behind (site_numbers x) (row_numbers rest) none))

plain_body : (body : List CoreStmt) → all_numbers body ≡ [] → AllByRecursion (IsTameStmt OfPlain) body
plain_body [] none = tt
plain_body (x ∷ rest) none = (plain_tame x (none_in_front (site_numbers x) (all_numbers rest) none), plain_body rest (none_behind (site_numbers x) (all_numbers rest) none))

each_exit : (e : CoreExit) → IsTameExit OfPlain e
each_exit (exit.Next t) = tt
each_exit exit.Stop = tt
each_exit (exit.Choose' c u (more_of-CoreExit a end_of-CoreExit) v (more_of-CoreExit b end_of-CoreExit)) = (each_tame c, each_exit a, each_exit b)

plain_tasks : (c : Core) (ts : List CoreTask) → AllByRecursion (IsCoreTask c) ts → AllByRecursion (λ t. t.sites ≡ []) ts → AllByRecursion (IsTameTask OfPlain plain_allows) ts
plain_tasks c [] h none = tt
plain_tasks c (t ∷ ts) h none =
    (record { body = plain_body t.body (h.0.sites.numbers ∙ ap (λ xs. range_with_len 1 (length xs)) none.0); leaves = each_exit t.exit }, plain_tasks c ts h.1 none.1)

of_plain : (c : Core) → IsWellFormed c → (readings : List ℕ) (tasks : ℕ) → HasNoSites c → EndsSo OfPlain plain_allows (walk_of c readings tasks).end
of_plain c well readings tasks none = walk_goes OfPlain plain_allows c (plain_tasks c c.tasks well.tasks none) readings tasks

not_range : (w : WalkEnd) → EndsSo OfPlain plain_allows w → w ≢ Trapped Range
not_range Stopped h e = cc
not_range Limit h e = cc
not_range (Trapped trap) h e = h.0 (ap early.Trapped (same_trap e))
  where
    same_trap : {x y : _} → Trapped x ≡ Trapped y → x ≡ y
    same_trap is = cc
not_range NoReading h e = cc

not_reading : (w : WalkEnd) → EndsSo OfPlain plain_allows w → w ≢ NoReading
not_reading Stopped h e = cc
not_reading Limit h e = cc
not_reading (Trapped trap) h e = cc
not_reading NoReading h e = h.1 refl

pub never_range : (c : Core) → IsWellFormed c → (readings : List ℕ) (tasks : ℕ) → HasNoSites c → (walk_of c readings tasks).end ≢ Trapped Range
never_range c well readings tasks none = not_range (walk_of c readings tasks).end (of_plain c well readings tasks none)

pub never_without_reading : (c : Core) → IsWellFormed c → (readings : List ℕ) (tasks : ℕ) → HasNoSites c → (walk_of c readings tasks).end ≢ NoReading
never_without_reading c well readings tasks none = not_reading (walk_of c readings tasks).end (of_plain c well readings tasks none)
