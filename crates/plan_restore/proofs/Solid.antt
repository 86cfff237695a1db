-- What a task may write isn't constant.
use Rattle.std.proofs.Common.{◌≡◌, ◌∙◌, ℕ, zero, suc, Bool, true, false, ◌==◌, ◌||◌, List, [], ◌∷◌, map, refl, sym, ap, subst, eqb-true}
use Rattle.std.specs.Prelude.{Option, Some, None}
use Rattle.std.specs.List.{AllByRecursion}
use Rattle.std.specs.Option.{ForSome}
use Rattle.task_ast.specs.declared.tree.Kind.TheVariants.{Const, Vol}
use Rattle.task_ast.specs.declared.core_form.CoreTarget.{CoreTarget}
use Rattle.task_ast.specs.declared.core_form.CoreTarget.TheVariants as target
use Rattle.task_ast.specs.declared.core_form.CoreStmt.{CoreStmt, Row_of-CoreStmt, end_of-CoreStmt, more_of-CoreStmt}
use Rattle.task_ast.specs.declared.core_form.CoreStmt.TheVariants as stmt
use Rattle.task_ast.specs.declared.core_form.CoreTask.{CoreTask}
use Rattle.task_ast.specs.declared.core_form.Core.{Core}
use Rattle.task_ast.specs.Pointing.{pointing, target_arrays, reading_arrays, end_arrays}
use Rattle.task_ast.specs.WellFormed.{IsWritable, IsVariable, IsTarget, IsCoreStmt, AreCoreStmts, scope_of}
use Rattle.region_split.specs.Regions.{Touch, may_write, next_region, touches, row_touches, all_touches, writes_in}
use Rattle.plan_restore.proofs.Lists.{all_joined, all_mapped}
use Rattle.plan_restore.proofs.Puts.{NotConst}
use Rattle.plan_restore.proofs.Writing.{TouchMay}

module _ (c : Core) (t : CoreTask) where
  abbrev Solid : List Touch → Type 0
  Solid ts = AllByRecursion (TouchMay (NotConst c)) ts

  writable : (turning : List ℕ) (n : ℕ) → IsWritable c.arrays turning n → NotConst c n
  writable turning n h a is const = let same : h.found ≡ a = cc (h.there, is) in h.kept (ap (λ x. x.kind) same ∙ const)

  variable_solid : (turning : List ℕ) (n : ℕ) → IsVariable c.arrays turning n → NotConst c n
  variable_solid turning n h a is const = let same : h.found ≡ a = cc (h.there, is) in let clash : Vol ≡ Const = sym h.volatile ∙ ap (λ x. x.kind) same ∙ const in cc clash

  many_solid : (turning : List ℕ) (arrays : List ℕ) → AllByRecursion (IsWritable c.arrays turning) arrays → Solid (map may_write arrays)
  many_solid turning arrays all = all_mapped (IsWritable c.arrays turning) (TouchMay (NotConst c)) may_write arrays (λ n h. writable turning n h) all

  target_solid : (turning : List ℕ) (x : CoreTarget) → IsTarget (scope_of c t) turning x → Solid (map may_write (target_arrays (pointing t) x))
  target_solid turning (target.Cell n i) w = (writable turning n w.0, tt)
  target_solid turning (target.Through q i) w = many_solid turning (pointing t q) w.1

  reading_solid : (turning : List ℕ) (x : Option CoreTarget) → ForSome x (IsTarget (scope_of c t) turning) → Solid (map may_write (reading_arrays (pointing t) x))
  reading_solid turning None w = tt
  reading_solid turning (Some x) w = target_solid turning x (w x refl)

  mutual
    stmt_solid : (s : CoreStmt) (level : ℕ) (branched : Bool) (turning : List ℕ) → IsCoreStmt (scope_of c t) level branched turning s → Solid (touches (pointing t) s)
    stmt_solid (stmt.Assign x e) level branched turning w = target_solid turning x w.1
    stmt_solid (stmt.Point q n i) level branched turning w = tt
    stmt_solid (stmt.If' e m yes_row n no_row) level branched turning w =
        all_joined (TouchMay (NotConst c)) (row_touches (pointing t) yes_row) (row_touches (pointing t) no_row) (row_solid yes_row _ _ turning w.2) (row_solid no_row _ _ turning w.3)
    stmt_solid (stmt.Loop' i count m row) level branched turning w = (variable_solid turning i w.1, row_solid row _ _ _ w.5)
    stmt_solid (stmt.Io k x q args) level branched turning w = reading_solid turning x w.1
    stmt_solid (stmt.Block' k m row) level branched turning w = row_solid row _ _ turning w.1
    stmt_solid (stmt.Copy k to from n) level branched turning w = (tt, many_solid [] (end_arrays (pointing t) to) w.2.1)

    row_solid : {n : _} (row : Row_of-CoreStmt n) (level : ℕ) (branched : Bool) (turning : List ℕ) → AreCoreStmts (scope_of c t) level branched turning row → Solid (row_touches (pointing t) row)
    row_solid end_of-CoreStmt level branched turning w = tt
    row_solid (more_of-CoreStmt s rest) level branched turning w =
        all_joined (TouchMay (NotConst c)) (touches (pointing t) s) (row_touches (pointing t) rest) (stmt_solid s level branched turning w.0) (row_solid rest level branched turning w.1)

  pub body_solid : (body : List CoreStmt) (level : ℕ) (branched : Bool) (turning : List ℕ) → AllByRecursion (IsCoreStmt (scope_of c t) level branched turning) body → Solid (all_touches (pointing t) body)
  body_solid [] level branched turning w = tt
  body_solid (s ∷ rest) level branched turning w =
      all_joined (TouchMay (NotConst c)) (touches (pointing t) s) (all_touches (pointing t) rest) (stmt_solid s level branched turning w.0) (body_solid rest level branched turning w.1)

  -- what a region writes
  pub written_solid : (ts : List Touch) (q a : ℕ) → Solid ts → writes_in ts q a ≡ true → NotConst c a
  written_solid [] q a all there = absurd (cc there)
  written_solid (may_write x ∷ ts) zero a all there = by_test (x == a) refl (written_solid ts zero a all.1)
    where
      by_test : (b : Bool) → (x == a) ≡ b → (writes_in ts zero a ≡ true → NotConst c a) → NotConst c a
      by_test true is more = subst (NotConst c) (eqb-true x a is) all.0
      by_test false is more = more (sym (ap (λ b. b || writes_in ts zero a) is) ∙ there)
  written_solid (next_region ∷ ts) zero a all there = absurd (cc there)
  written_solid (may_write x ∷ ts) (suc q) a all there = written_solid ts (suc q) a all.1 there
  written_solid (next_region ∷ ts) (suc q) a all there = written_solid ts q a all.1 there
