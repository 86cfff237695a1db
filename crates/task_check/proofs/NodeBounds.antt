-- The nodes of a task without a fault inside can be counted: its unrolled loops have at most 64 turns and nest at most
-- 15 deep.
use Rattle.std.proofs.Common.{◌≡◌, ℕ, zero, suc, ◌+◌, ◌*◌, ◌^◌, ◌≤◌, ◌<◌, Bool, true, false, List, [], ◌∷◌, ◌++◌, Option, Some, None, sum_by, refl, sym, ap, arith, true≢false}
use Rattle.std.proofs.Math.Nat.{suc-mul, mul-suc}
use Rattle.std.specs.List.{AllByRecursion}
use Rattle.std.proofs.lemmas.List.Sums.{sum_by-cons}
use Rattle.ease_base.specs.declared.place.Pos.{Pos}
use Rattle.task_ast.specs.declared.limits.TheConstants.{MOST_UNROLLED}
use Rattle.task_ast.specs.declared.tree.Expr.{Expr}
use Rattle.task_ast.specs.declared.tree.Expr.TheBlock.{hidden-the_row-Expr-0, shape-the_row-Expr-0}
use Rattle.task_ast.specs.declared.tree.Name.{Name}
use Rattle.task_ast.specs.declared.tree.Target.{Target}
use Rattle.task_ast.specs.declared.tree.Target.TheVariants as target
use Rattle.task_ast.specs.declared.tree.Place.{Place}
use Rattle.task_ast.specs.declared.tree.Place.TheVariants as place
use Rattle.task_ast.specs.declared.tree.Stmt.{Stmt, Row_of-Stmt, end_of-Stmt, more_of-Stmt}
use Rattle.task_ast.specs.declared.tree.Stmt.TheVariants as stmt
use Rattle.task_ast.specs.declared.tree.Exit.{Exit}
use Rattle.task_ast.specs.declared.tree.Exit.TheBlock.{hidden-the_row-Exit-0, shape-the_row-Exit-0}
use Rattle.task_ast.specs.declared.tree.Task.{Task}
use denote.Hole.Carrier.{hidden}
use Rattle.task_ast.specs.Expressions as expressions
use Rattle.task_ast.specs.Exits as exits
use Rattle.task_ast.specs.Readable.{IsReadableStmt, AreReadableStmts, IsReadableTask}
use Rattle.task_ast.specs.Sizes.{expr_size, target_size, reading_size, place_size, stmt_size, row_size, exit_size, task_size}
use Rattle.task_check.specs.declared.error.Limit.TheVariants.{Turns}
use Rattle.task_check.specs.Around.{Around, in_branch, in_loop}
use Rattle.task_check.specs.Names.{array_number}
use Rattle.task_check.specs.Limits.{turns_limit}
use Rattle.task_check.specs.Nodes.{nodes_of_expr, nodes_of_target, nodes_of_reading, nodes_of_place, nodes_of_loop, nodes_of_stmt, nodes_of_row, nodes_of_exit, nodes_of_task}
use Rattle.task_check.specs.Sites.{row_has_sites}
use Rattle.task_check.specs.Faults.{expr_faults, variable_faults, head_faults, stmt_faults, row_faults, body_faults}
use Rattle.task_check.proofs.FirstLemmas.{none-front, none-behind}
use Rattle.task_check.proofs.WellFormedForms.{within}

pub expr_counted : (e : Expr) → nodes_of_expr e ≤ expr_size e
unfolding hidden-the_row-Expr-0 shape-the_row-Expr-0 hidden
expr_counted = expressions.for_every (λ e. nodes_of_expr e ≤ expr_size e) (record {
  number = λ n at. let k : 1 ≤ 1 = omega arith in k;
  read = λ x. let k : 1 ≤ 1 = omega arith in k;
  index = λ x i h. let k : 1 + nodes_of_expr i ≤ 1 + expr_size i = omega (arith, h) in k;
  paren = λ e h. let k : nodes_of_expr e ≤ 1 + expr_size e = omega (arith, h) in k;
  one = λ op e h. let k : 1 + nodes_of_expr e ≤ 1 + expr_size e = omega (arith, h) in k;
  two = λ op a b p q. let k : 1 + nodes_of_expr a + nodes_of_expr b ≤ 1 + expr_size a + expr_size b = omega (arith, p, q) in k;
})

exprs_counted : (es : List Expr) → sum_by nodes_of_expr es ≤ sum_by expr_size es
exprs_counted [] = omega arith
exprs_counted (e ∷ es) = omega (arith, expr_counted e, exprs_counted es, sum_by-cons nodes_of_expr e es, sum_by-cons expr_size e es)

target_counted : (x : Target) → nodes_of_target x ≤ target_size x
target_counted (target.Scalar x) = omega arith
target_counted (target.Element x i) = omega (arith, expr_counted i)

reading_counted : (x : Option Target) → nodes_of_reading x ≤ reading_size x
reading_counted None = omega arith
reading_counted (Some x) = target_counted x

place_counted : (x : Place) → nodes_of_place x ≤ place_size x
place_counted (place.Bare x) = omega arith
place_counted (place.Scalar x) = omega arith
place_counted (place.Element x i) = omega (arith, expr_counted i)

exit_counted : (e : Exit) → nodes_of_exit e ≤ exit_size e
unfolding hidden-the_row-Exit-0 shape-the_row-Exit-0 hidden
exit_counted = exits.for_every (λ e. nodes_of_exit e ≤ exit_size e) (record {
  next = λ t. let k : 1 ≤ 1 = omega arith in k;
  stop = let k : 1 ≤ 1 = omega arith in k;
  choose = λ c a b p q. let k : 1 + nodes_of_expr c + nodes_of_exit a + nodes_of_exit b ≤ 1 + expr_size c + exit_size a + exit_size b = omega (arith, expr_counted c, p, q) in k;
})

-- how many nodes each part of a statement may be, where so many levels of nesting are left
abbrev pub share : ℕ → ℕ
share zero = 0
share (suc zero) = 1
share (suc (suc zero)) = 195
share (suc (suc (suc n))) = 64 * share (suc (suc n))

some_share : (n : ℕ) → 0 < share (suc n)
some_share zero = omega arith
some_share (suc zero) = omega arith
some_share (suc (suc n)) = let h = some_share (suc n) in omega (arith, h)

grows : (n : ℕ) → share n ≤ share (suc n)
grows zero = omega arith
grows (suc zero) = omega arith
grows (suc (suc n)) = let h = some_share (suc n) in omega (arith, h)

big : (n : ℕ) → 195 ≤ share (suc (suc n))
big zero = omega arith
big (suc n) = let h = big n in omega (arith, h)

times_sum : (c a b : ℕ) → c * (a + b) ≡ c * a + c * b
times_sum zero a b = omega arith
times_sum (suc c) a b = omega (arith, suc-mul c (a + b), suc-mul c a, suc-mul c b, times_sum c a b)

times_64 : (c r : ℕ) → (64 * c) * r ≡ 64 * (c * r)
times_64 c zero = let e : (64 * c) * 0 ≡ 0 = omega arith in let f : c * 0 ≡ 0 = omega arith in omega (arith, e, f)
times_64 c (suc r) = omega (arith, mul-suc (64 * c) r, mul-suc c r, times_64 c r)

at_least : (c a b : ℕ) → 0 < c → a ≤ b → a ≤ c * b
at_least zero a b some h = absurd (omega (arith, some))
at_least (suc c) a b some h = omega (arith, h, suc-mul c b)

monotone : (a b c : ℕ) → a ≤ b → a * c ≤ b * c
monotone a b zero h = let e : a * 0 ≡ 0 = omega arith in omega (arith, e)
monotone a b (suc c) h = omega (arith, h, monotone a b c h, mul-suc a c, mul-suc b c)

at_most : (t k : ℕ) → t ≤ 64 → t * k ≤ 64 * k
at_most t k h = monotone t 64 k h

-- a loop, by its body with one level less
loop_share : (u : Bool) (k turns body size : ℕ) → (u ≡ true → turns ≤ 64) → (k ≡ 0 → u ≡ false) → body ≤ share k * size → nodes_of_loop u turns body ≤ share (suc k) * (1 + size)
loop_share false k turns body size few some h =
    omega (arith, h, monotone (share k) (share (suc k)) size (grows k), times_sum (share (suc k)) 1 size, at_least (share (suc k)) 1 1 (some_share k) (omega arith))
loop_share true zero turns body size few some h = absurd (true≢false (some refl))
loop_share true (suc zero) turns body size few some h =
    let t = few refl in let one : 1 * size ≡ size = omega arith in omega (arith, h, one, at_most turns body t, t)
loop_share true (suc (suc k)) turns body size few some h =
    let t = few refl in
    let c = share (suc (suc k)) in
    let all : share (suc (suc (suc k))) * (1 + size) ≡ 64 * c * 1 + 64 * c * size = times_sum (64 * c) 1 size in
    let first : 64 * c * 1 ≡ 64 * c = omega arith in
    omega (arith, h, all, first, times_64 c size, at_most turns body t, t, big k)

over_nested : (level : ℕ) (s : Stmt) → 16 < level → IsReadableStmt level s → ⊥
over_nested level (stmt.Assign x e) over readable = omega (arith, over, readable.0)
over_nested level (stmt.Point p to) over readable = omega (arith, over, readable.0)
over_nested level (stmt.If' c m yes_row n no_row) over readable = omega (arith, over, readable.0)
over_nested level (stmt.For' i turns at m row word) over readable = omega (arith, over, readable.0)
over_nested level (stmt.Io x p a args word) over readable = omega (arith, over, readable.0)
over_nested level (stmt.Block' a m row word) over readable = omega (arith, over, readable.0)
over_nested level (stmt.Dma to from n word) over readable = omega (arith, over, readable.0)

no_room : (level : ℕ) {n : _} (row : Row_of-Stmt n) → 16 < level → AreReadableStmts level row → row_has_sites row ≡ false
no_room level end_of-Stmt over readable = refl
no_room level (more_of-Stmt s rest) over readable = absurd (over_nested level s over readable.0)

few_turns : (u : Bool) (a : Around) (i : Name) (turns : ℕ) (at word : Pos) → head_faults a u i turns at word ≡ [] → u ≡ true → turns ≤ 64
few_turns true a i turns at word none is = within Turns MOST_UNROLLED at turns (none-behind (variable_faults a i) (turns_limit true at turns) none)
few_turns false a i turns at word none is = absurd (true≢false (sym is))

-- a part that has at most as many nodes as parts
plain : (n nodes size : ℕ) → 0 < n → nodes ≤ size → nodes ≤ share n * size
plain zero nodes size some h = absurd (omega (arith, some))
plain (suc n) nodes size some h = at_least (share (suc n)) nodes size (some_share n) h

mutual
  stmt_bound : (level n : ℕ) (a : Around) (s : Stmt) → level + suc n ≡ 17 → IsReadableStmt level s → stmt_faults a s ≡ [] → nodes_of_stmt s ≤ share (suc n) * stmt_size s
  stmt_bound level n a (stmt.Assign x e) sum readable none = plain (suc n) _ _ (omega arith) (omega (arith, target_counted x, expr_counted e))
  stmt_bound level n a (stmt.Point p to) sum readable none = plain (suc n) _ _ (omega arith) (omega (arith, place_counted to))
  stmt_bound level n a (stmt.If' c m yes_row k no_row) sum readable none =
      let b = in_branch a in
      let front = none-front (expr_faults a.names c ++ row_faults b yes_row) (row_faults b no_row) none in
      let p = row_bound (1 + level) n b yes_row (omega (arith, sum)) readable.2 (none-behind (expr_faults a.names c) (row_faults b yes_row) front) in
      let q = row_bound (1 + level) n b no_row (omega (arith, sum)) readable.3 (none-behind (expr_faults a.names c ++ row_faults b yes_row) (row_faults b no_row) none) in
      let head = plain (suc n) (1 + nodes_of_expr c) (1 + expr_size c) (omega arith) (omega (arith, expr_counted c)) in
      omega (
        arith,
        p,
        q,
        head,
        monotone (share n) (share (suc n)) (row_size yes_row) (grows n),
        monotone (share n) (share (suc n)) (row_size no_row) (grows n),
        times_sum (share (suc n)) (1 + expr_size c + row_size yes_row) (row_size no_row),
        times_sum (share (suc n)) (1 + expr_size c) (row_size yes_row),
      )
  stmt_bound level n a (stmt.For' i turns at m row word) sum readable none =
      let u = row_has_sites row in
      let inside = in_loop a u (array_number (a.names i.text)) in
      let head = none-front (head_faults a u i turns at word) (row_faults inside row) none in
      loop_share u n turns (nodes_of_row row) (row_size row) (few_turns u a i turns at word head) (λ zero_left. no_room (1 + level) row (omega (arith, sum, zero_left)) readable.2)
      (row_bound (1 + level) n inside row (omega (arith, sum)) readable.2 (none-behind (head_faults a u i turns at word) (row_faults inside row) none))
  stmt_bound level n a (stmt.Io x p ann args word) sum readable none = plain (suc n) _ _ (omega arith) (omega (arith, reading_counted x, exprs_counted args))
  stmt_bound level n a (stmt.Block' ann m row word) sum readable none =
      let p = row_bound (1 + level) n a row (omega (arith, sum)) readable.2 none in
      omega (arith, p, monotone (share n) (share (suc n)) (row_size row) (grows n), times_sum (share (suc n)) 1 (row_size row), at_least (share (suc n)) 1 1 (some_share n) (omega arith))
  stmt_bound level n a (stmt.Dma to from k word) sum readable none = plain (suc n) _ _ (omega arith) (omega (arith, place_counted to, place_counted from, expr_counted k))

  row_bound : (level n : ℕ) (a : Around) {k : _} (row : Row_of-Stmt k) → level + n ≡ 17 → AreReadableStmts level row → row_faults a row ≡ [] → nodes_of_row row ≤ share n * row_size row
  row_bound level n a end_of-Stmt sum readable none = omega arith
  row_bound level zero a (more_of-Stmt s rest) sum readable none = absurd (over_nested level s (omega (arith, sum)) readable.0)
  row_bound level (suc n) a (more_of-Stmt s rest) sum readable none =
      let p = stmt_bound level n a s sum readable.0 (none-front (stmt_faults a s) (row_faults a rest) none) in
      let q = row_bound level (suc n) a rest sum readable.1 (none-behind (stmt_faults a s) (row_faults a rest) none) in
      omega (arith, p, q, times_sum (share (suc n)) (stmt_size s) (row_size rest))

body_bound : (a : Around) (body : List Stmt) → AllByRecursion (IsReadableStmt 1) body → body_faults a body ≡ [] → sum_by nodes_of_stmt body ≤ share 16 * sum_by stmt_size body
body_bound a [] readable none = omega arith
body_bound a (s ∷ body) readable none =
    let p = stmt_bound 1 15 a s refl readable.0 (none-front (stmt_faults a s) (body_faults a body) none) in
    let q = body_bound a body readable.1 (none-behind (stmt_faults a s) (body_faults a body) none) in
    omega (arith, p, q, times_sum (share 16) (stmt_size s) (sum_by stmt_size body), sum_by-cons nodes_of_stmt s body, sum_by-cons stmt_size s body)

share_is : share 16 ≡ 3771848557197643025083269120
share_is = refl

-- the nodes of a task whose statements have no fault
pub task_bound : (a : Around) (t : Task) → IsReadableTask t → body_faults a t.body ≡ [] → task_size t < 2 ^ 32 → nodes_of_task t < 2 ^ 127
task_bound a t readable none small =
    let p = body_bound a t.body readable.body none in
    let q = exit_counted t.exit in
    let r = ap (λ c. c * sum_by stmt_size t.body) share_is in
    omega (arith, p, q, r, small)
