-- The code of statements without sites does what the source says, within its steps.
use Rattle.std.specs.Prelude.{◌-◌}
use Rattle.std.proofs.Common.{◌≡◌, ℕ, ◌+◌, false, List, [], ◌∷◌, ◌++◌, length, refl, sym, ap, subst, arith, get_or}
use Rattle.task_ast.specs.declared.core_form.CoreStmt.{CoreStmt, Row_of-CoreStmt, end_of-CoreStmt, more_of-CoreStmt}
use Rattle.task_ast.specs.declared.core_form.CoreStmt.TheVariants as stmt
use Rattle.task_ast.specs.Pointing.{addresses, row_addresses}
use Rattle.task_ast.specs.WellFormed.{Scope}
use Rattle.walk_run.specs.Plain.{Ran, chosen, done, plain_done, row_done, trapped}
use Rattle.walk_run.specs.PlainSteps.{expr_steps, target_steps, found_steps, turns_steps, plain_steps, row_steps}
use Rattle.walk_run.specs.PlainWrites.{plain_writes, row_writes}
use Rattle.walk_run.specs.Store.{Store}
use Rattle.walk_run.specs.Value.{value_of, target_place}
use Rattle.line_laws.specs.GiveLaws.{gives_most}
use Rattle.io_depend.specs.Flow.{assigns, moves, row_assigns, row_moves}
use Rattle.io_depend.specs.Sets.{has}
use Rattle.io_flow.specs.Written.{AllWithin, Covers, Only, OnlyEnd, front_of, back_of, plain_only, row_only}
use Rattle.word_machine.specs.State.{Program}
use Rattle.line_code.specs.declared.line.Line.{Line}
use Rattle.line_code.specs.Areas.{area_at}
use Rattle.line_code.specs.Sizes.{expr_size, statement_size, row_size}
use Rattle.line_code.specs.declared.areas.Placed.{Placed}
use Rattle.line_code.specs.Lines.{bares}
use Rattle.line_code.specs.Statements.{unless_code, if_code, loop_code, statement_code, row_code}
use Rattle.word_isa.specs.declared.instr.Instr.TheVariants.{Adi, Jmp, Ld, Ldi, Ltu, St}
use Rattle.line_laws.specs.Gives.{Gives}
use Rattle.line_laws.specs.Goals.{run_goal}
use Rattle.line_laws.specs.Relation.{Layout}
use Rattle.line_laws.specs.Standing.{Lie, lie_front, lie_behind}
use Rattle.line_laws.specs.Works.{StmtWorks, RowWorks}
use Rattle.line_laws.proofs.Assigning.{assign_gives, point_gives}
use Rattle.line_laws.proofs.Branches.{if_gives}
use Rattle.line_laws.specs.CodeSizes.{expr_long, statement_long, row_long}
use Rattle.line_laws.proofs.Loops.{BodyKeeps, loop_gives}
use Rattle.line_laws.proofs.RunGoals.{run_more, run_there}

-- where statements end, only what they write has changed
ends_only : (scope : Scope) (arrays ptrs : List ℕ) (store after : Store) (r : Ran) → OnlyEnd scope.points arrays ptrs store r → r ≡ done after → Only scope.points arrays ptrs store after
ends_only scope arrays ptrs store after (done y) only is = subst (OnlyEnd scope.points arrays ptrs store) is only
ends_only scope arrays ptrs store after (trapped why y) only is = cc

within_after : (scope : Scope) (s : CoreStmt) → Covers scope.points (λ p. addresses p s) → (store after : Store) → AllWithin scope.points store → plain_done s store ≡ done after → AllWithin scope.points after
within_after scope s covers store after within is =
    (ends_only scope (assigns scope.points s) (moves s) store after (plain_done s store) (plain_only scope.points (assigns scope.points s) (moves s) s (λ n there. there) (λ n there. there) covers store within) is).within

-- a loop's body leaves the loop's variable
body_keeps : (scope : Scope) (i : ℕ) {n : _} (row : Row_of-CoreStmt n) → has (row_assigns scope.points row) i ≡ false → Covers scope.points (λ p. row_addresses p row) → BodyKeeps i (row_done row) (AllWithin scope.points)
body_keeps scope i row spared covers =
    let only : (store after : Store) → AllWithin scope.points store → row_done row store ≡ done after → Only scope.points (row_assigns scope.points row) (row_moves row) store after =
    λ store after within is. ends_only scope (row_assigns scope.points row) (row_moves row) store after (row_done row store) (row_only scope.points (row_assigns scope.points row) (row_moves row) row (λ n there. there) (λ n there. there) covers store within) is in
    record {
      spares = λ store after within is. ap (λ ws. get_or ws 0 0) ((only store after within is).words i spared);
      stays = λ store after within is. (only store after within is).within;
      sets_good = λ store number within. within;
    }

-- the parts of an `if` and of a loop
if_parts : (p : Program) (at u v other end : ℕ) (c a b : List Line) → length c ≡ u → length a ≡ v → Lie p at (if_code other end c a b) → other ≡ at + u + 3 + v + 1 → Lie p (at + u + 3) a × Lie p other b
if_parts p at u v other end c a b x y stands is =
    let last : List Line = bares (Jmp end ∷ []) ++ b in
    let behind : Lie p (at + u) (unless_code other ++ (a ++ last)) = lie_behind p at c (unless_code other ++ (a ++ last)) (at + u) stands (omega (arith, x)) in
    let first : Lie p (at + u + 3) (a ++ last) = lie_behind p (at + u) (unless_code other) (a ++ last) (at + u + 3) behind refl in
    let jump : Lie p (at + u + 3 + v) last = lie_behind p (at + u + 3) a last (at + u + 3 + v) first (omega (arith, y)) in
    (lie_front p (at + u + 3) a last first, subst (λ n. Lie p n b) (sym is) jump.1)

loop_part : (p : Program) (at v : ℕ) (i : Placed) (turns top end : ℕ) (body : List Line) → Lie p at (loop_code i turns top end body) → Lie p (at + 8) body
loop_part p at v i turns top end body stands =
    let tail : List Line = bares (Ld 1 i.base i.offset ∷ Adi 1 1 ∷ St 1 i.base i.offset ∷ Jmp top ∷ []) in
    let front : List Line = bares (Ldi 1 0 ∷ St 1 i.base i.offset ∷ Ld 1 i.base i.offset ∷ Ldi 2 turns ∷ Ltu 1 2 ∷ []) ++ unless_code end in
    lie_front p (at + 8) body tail (lie_behind p at front (body ++ tail) (at + 8) stands refl)

module _ (p : Program) (scope : Scope) (l : Layout) where
  mutual
    pub statement_works : (s : CoreStmt) → StmtWorks p scope l s
    statement_works (stmt.Assign x e) at t store here stands apart related suits covers within =
        gives_most p 0 (15 + (target_steps x + found_steps (target_place x store) (λ place. expr_steps e))) _ t _ (assign_gives p scope l store x e at t here stands apart related suits.0 suits.1 suits.2) (omega arith)
    statement_works (stmt.Point q array i) at t store here stands apart related suits covers within =
        gives_most p 0 (15 + expr_steps i) _ t _ (point_gives p scope l store q array i at t here stands related suits.0 suits.1 suits.2) (omega arith)
    statement_works (stmt.If' c m yes_row n no_row) at t store here stands apart related suits covers within =
        let yes_at : ℕ = at + expr_size c + 3 in
        let no_at : ℕ = yes_at + row_size yes_row + 1 in
        let yes_code : List Line = row_code l.areas yes_row yes_at in
        let no_code : List Line = row_code l.areas no_row no_at in
        let parts = if_parts p at (expr_size c) (row_size yes_row) no_at (no_at + row_size no_row) _ yes_code no_code (expr_long l.areas c 0 at) (row_long l.areas yes_row yes_at) stands refl in
        gives_most p 0 (15 + expr_steps c + found_steps (value_of c store) (λ word. chosen word (row_steps yes_row) (row_steps no_row) store)) _ t _
        (if_gives p scope l store c at (row_size yes_row) (row_size no_row) yes_code no_code t (row_steps yes_row) (row_steps no_row) (row_writes yes_row) (row_writes no_row) (row_done yes_row) (row_done no_row)
        (row_long l.areas yes_row yes_at) (row_long l.areas no_row no_at) here stands related suits.0.0 suits.0.1
        (λ u at_u related_u. row_works yes_row yes_at u store at_u parts.0 apart related_u suits.1 (λ q. front_of _ _ _ (covers q)) within)
        (λ u at_u related_u. row_works no_row no_at u store at_u parts.1 apart related_u suits.2 (λ q. back_of (row_addresses q yes_row) _ _ (covers q)) within))
        (omega arith)
    statement_works (stmt.Loop' i turns m row) at t store here stands apart related suits covers within =
        let code : List Line = row_code l.areas row (at + 8) in
        let body = loop_part p at (row_size row) (area_at l.areas i) turns (at + 2) (at + 8 + row_size row + 4) code stands in
        gives_most p 0 (23 + turns_steps (row_done row) (row_steps row) i 0 turns store) _ t _
        (loop_gives p l scope.pointers i turns at (row_size row) code (row_done row) (row_writes row) (row_steps row) (AllWithin scope.points) t store
        (row_long l.areas row (at + 8)) here stands apart related suits.0 suits.1 within
        (λ u after at_u related_u is_good. row_works row (at + 8) u after at_u body apart related_u suits.3 covers is_good)
        (body_keeps scope i row suits.2 covers))
        (omega arith)
    statement_works (stmt.Io site x q args) at t store here stands apart related suits covers within = run_there p 0 t l scope.pointers (at + 0) store (omega (arith, here)) related
    statement_works (stmt.Block' site m row) at t store here stands apart related suits covers within = run_there p 0 t l scope.pointers (at + 0) store (omega (arith, here)) related
    statement_works (stmt.Copy site to from n) at t store here stands apart related suits covers within = run_there p 0 t l scope.pointers (at + 0) store (omega (arith, here)) related

    pub row_works : {n : _} (row : Row_of-CoreStmt n) → RowWorks p scope l row
    row_works end_of-CoreStmt at t store here stands apart related suits covers within = run_there p 0 t l scope.pointers (at + 0) store (omega (arith, here)) related
    row_works (more_of-CoreStmt s rest) at t store here stands apart related suits covers within =
        let first : List Line = statement_code l.areas s at in
        let mid : ℕ = at + statement_size s in
        let second : List Line = row_code l.areas rest mid in
        let end : at + (statement_size s + row_size rest) ≡ mid + row_size rest = omega arith in
        let at_second : Lie p mid second = lie_behind p at first second mid stands (omega (arith, statement_long l.areas s at)) in
        subst (λ pc. Gives p 0 (row_steps (more_of-CoreStmt s rest) store) t (run_goal l scope.pointers pc (row_writes (more_of-CoreStmt s rest) store) (row_done (more_of-CoreStmt s rest) store))) (sym end)
        (run_more p (plain_steps s store) (row_steps rest) t l scope.pointers mid (mid + row_size rest) (plain_writes s store) (plain_done s store) (row_writes rest) (row_done rest)
        (gives_most p 0 (plain_steps s store - 1) (plain_steps s store) t _ (statement_works s at t store here (lie_front p at first second stands) apart related suits.0 (λ q. front_of _ _ _ (covers q)) within) (omega arith))
        (λ u after is at_u related_u. row_works rest mid u after at_u at_second apart related_u suits.1 (λ q. back_of (addresses q s) _ _ (covers q))
        (within_after scope s (λ q. front_of _ _ _ (covers q)) store after within is)))
