-- The sites, the addresses and the nodes of what statements become.
use Rattle.std.proofs.Common.{◌≡◌, ◌∙◌, ℕ, zero, suc, ◌+◌, ◌*◌, ◌≤◌, ◌<◌, min, Bool, true, false, ◌==◌, cond, Option, None, Some, List, [], ◌∷◌, ◌++◌, length, map, refl, sym, ap, subst, arith, append_assoc}
use Rattle.std.proofs.Math.Nat.{suc-mul}
use Rattle.std.specs.Prelude.{sum_by, if◌then◌else◌}
use Rattle.std.specs.List.{AllByRecursion}
use Rattle.std.specs.Option.{option_map}
use Rattle.std.proofs.lemmas.List.{append-nil, map-append}
use Rattle.std.proofs.lemmas.List.Sums.{sum_by-cons, sum_by-append}
use Rattle.task_ast.specs.declared.tree.Expr.{Expr, end_of-Expr, more_of-Expr}
use Rattle.task_ast.specs.declared.tree.Expr.TheVariants as expr
use Rattle.task_ast.specs.declared.tree.Target.{Target}
use Rattle.task_ast.specs.declared.tree.Target.TheVariants as target
use Rattle.task_ast.specs.declared.tree.Place.{Place}
use Rattle.task_ast.specs.declared.tree.Place.TheVariants as place
use Rattle.task_ast.specs.declared.tree.Stmt.{Stmt, Row_of-Stmt, end_of-Stmt, more_of-Stmt}
use Rattle.task_ast.specs.declared.tree.Stmt.TheVariants as stmt
use Rattle.task_ast.specs.declared.tree.Exit.{Exit, end_of-Exit, more_of-Exit}
use Rattle.task_ast.specs.declared.tree.Exit.TheVariants as exit
use Rattle.task_ast.specs.declared.core_form.Array.{Array}
use Rattle.task_ast.specs.declared.core_form.CoreExpr.{CoreExpr}
use Rattle.task_ast.specs.declared.core_form.CoreExpr.TheBlock.{hidden-the_row-CoreExpr-0, shape-the_row-CoreExpr-0}
use Rattle.task_ast.specs.declared.core_form.CoreExit.TheBlock.{hidden-the_row-CoreExit-0, shape-the_row-CoreExit-0}
use Rattle.task_ast.specs.declared.core_form.CoreEnd.{CoreEnd}
use Rattle.task_ast.specs.declared.core_form.CoreEnd.TheVariants as end
use Rattle.task_ast.specs.declared.core_form.CoreStmt.{CoreStmt}
use Rattle.task_ast.specs.declared.core_form.CoreStmt.TheVariants as core
use Rattle.task_ast.specs.declared.core_form.Site.{Site}
use Rattle.task_ast.specs.CoreNodes.{is_zero, expr_nodes, index_nodes, target_nodes, reading_nodes, end_nodes, stmt_nodes, exit_nodes, nodes_if, nodes_loop, nodes_block}
use Rattle.task_ast.specs.CoreSites.{Standing, a_block, a_copy, standing_of, longest, standings, all_standings, standings_if, standings_loop, standings_block}
use Rattle.task_ast.specs.Pointing.{Pointing, end_arrays, addresses, all_addresses, addresses_if, addresses_loop, addresses_block}
use Rattle.task_ast.specs.Readable.{IsReadableStmt, AreReadableStmts}
use Rattle.task_ast.specs.WellFormed.{Scope, IsSite}
use Rattle.task_check.specs.declared.names.Meaning.{Meaning}
use Rattle.task_check.specs.declared.names.Meaning.TheVariants as meaning
use Rattle.task_check.specs.Names.{Meanings, array_number, array_of, pointer_of}
use Rattle.task_check.specs.Nodes.{nodes_of_expr, nodes_of_target, nodes_of_reading, nodes_of_place, nodes_of_loop, nodes_of_stmt, nodes_of_row, nodes_of_exit}
use Rattle.task_check.specs.Reach.{Reach, reach_of, end_words}
use Rattle.task_check.specs.Sites.{row_has_sites, repeated, stmt_sites, row_sites, body_sites}
use Rattle.task_check.specs.CheckedForm.{indexed, core_expr, indexed_target, target_of, place_name, place_index, bare_end, end_of, setting, turns_from, core_loop, pointed, core_stmts, core_row_stmts, core_body, core_exit, words_between}
use Rattle.task_check.proofs.AddressLemmas.{addresses_append}
use Rattle.task_check.proofs.NumberLemmas.{nothing_listed, row_none_listed}
use Rattle.task_check.proofs.WellFormedForms.{IsThereIfSome, get_within, all_append}
use denote.Hole.Carrier.{hidden}

standings_append : (arrays : List Array) (points : Pointing) (xs ys : List CoreStmt) → all_standings arrays points (xs ++ ys) ≡ all_standings arrays points xs ++ all_standings arrays points ys
standings_append arrays points [] ys = refl
standings_append arrays points (x ∷ xs) ys =
    ap (λ (l : List Standing). standings arrays points x ++ l) (standings_append arrays points xs ys) ∙ sym (append_assoc (standings arrays points x) (all_standings arrays points xs) (all_standings arrays points ys))

map_repeated : {A B : Type 0} (f : A → B) (n : ℕ) (xs : List A) → map f (repeated n xs) ≡ repeated n (map f xs)
map_repeated f zero xs = refl
map_repeated f (suc n) xs = map-append f xs (repeated n xs) ∙ ap (λ l. map f xs ++ l) (map_repeated f n xs)

-- what stands in the turns of an unrolled loop
standings_turns : (arrays : List Array) (points : Pointing) (v j n : ℕ) (body : List CoreStmt) → all_standings arrays points (turns_from v j n body) ≡ repeated n (all_standings arrays points body)
standings_turns arrays points v j zero body = refl
standings_turns arrays points v j (suc n) body =
    standings_append arrays points body (turns_from v (j + 1) n body) ∙ ap (λ l. all_standings arrays points body ++ l) (standings_turns arrays points v (j + 1) n body)

module _ (names : Meanings) (arrays : List Array) (points : Pointing) where
  abbrev reach : ℕ → Reach
  reach p = reach_of arrays (points p)

  abbrev pub words : Place → Place → ℕ
  words to from = words_between names arrays reach to from

  end_is : (x : CoreEnd) → end_words arrays reach x ≡ longest arrays (end_arrays points x)
  end_is (end.Cell a i) = refl
  end_is (end.Pointer p) = refl

  pointed_standing : (p a : Option ℕ) (i : CoreExpr) → [] ≡ all_standings arrays points (pointed p a i)
  pointed_standing None a i = refl
  pointed_standing (Some p) None i = refl
  pointed_standing (Some p) (Some a) i = refl

  loop_standing : (u : Bool) (v turns : ℕ) (body : List CoreStmt) (sites : List Site) → (u ≡ false → sites ≡ []) → map standing_of sites ≡ all_standings arrays points body
      → map standing_of (repeated turns sites) ≡ all_standings arrays points (core_loop u v turns body)
  loop_standing true v turns body sites none h = map_repeated standing_of turns sites ∙ ap (repeated turns) h ∙ sym (standings_turns arrays points v 0 turns body)
  loop_standing false v turns body sites none h =
      ap (map standing_of) (ap (repeated turns) (none refl) ∙ nothing_listed turns ∙ sym (none refl)) ∙ h ∙ sym (standings_loop arrays points v turns body)
      ∙ sym (append-nil (standings arrays points (core.Loop v turns body)))

  mutual
    -- what is listed of a statement's sites is what stands there
    stmt_standing : (s : Stmt) → map standing_of (stmt_sites words s) ≡ all_standings arrays points (core_stmts names s)
    stmt_standing (stmt.Assign x e) = refl
    stmt_standing (stmt.Point p to) = pointed_standing (pointer_of (names p.text)) (array_of (names (place_name to).text)) (place_index names to)
    stmt_standing (stmt.If' c m yes_row n no_row) =
        map-append standing_of (row_sites words yes_row) (row_sites words no_row) ∙ (λ i. row_standing yes_row i ++ row_standing no_row i)
        ∙ sym (standings_if arrays points (core_expr names c) (core_row_stmts names yes_row) (core_row_stmts names no_row))
        ∙ sym (append-nil (standings arrays points (core.If (core_expr names c) (core_row_stmts names yes_row) (core_row_stmts names no_row))))
    stmt_standing (stmt.For' i turns at m row word) =
        loop_standing (row_has_sites row) (array_number (names i.text)) turns (core_row_stmts names row) (row_sites words row) (row_none_listed words row) (row_standing row)
    stmt_standing (stmt.Io x p a args word) = refl
    stmt_standing (stmt.Block' a m row word) =
        ap (λ (l : List Standing). a_block ∷ l) (row_standing row) ∙ sym (standings_block arrays points 0 (core_row_stmts names row)) ∙ sym (append-nil (standings arrays points (core.Block 0 (core_row_stmts names row))))
    stmt_standing (stmt.Dma to from n word) = λ i. a_copy (min (end_is (end_of names to) i) (end_is (end_of names from) i)) ∷ []

    row_standing : {n : _} (row : Row_of-Stmt n) → map standing_of (row_sites words row) ≡ all_standings arrays points (core_row_stmts names row)
    row_standing end_of-Stmt = refl
    row_standing (more_of-Stmt s rest) =
        map-append standing_of (stmt_sites words s) (row_sites words rest) ∙ (λ i. stmt_standing s i ++ row_standing rest i) ∙ sym (standings_append arrays points (core_stmts names s) (core_row_stmts names rest))

  pub body_standing : (body : List Stmt) → map standing_of (body_sites words body) ≡ all_standings arrays points (core_body names body)
  body_standing [] = refl
  body_standing (s ∷ body) =
      map-append standing_of (stmt_sites words s) (body_sites words body) ∙ (λ i. stmt_standing s i ++ body_standing body i) ∙ sym (standings_append arrays points (core_stmts names s) (core_body names body))

all_repeated : {A : Type 0} (P : A → Type 0) (n : ℕ) (xs : List A) → AllByRecursion P xs → AllByRecursion P (repeated n xs)
all_repeated P zero xs h = tt
all_repeated P (suc n) xs h = all_append P xs (repeated n xs) h (all_repeated P n xs h)

module _ (words : Place → Place → ℕ) where
  mutual
    -- the times of annotations fit a word
    stmt_timed : (level : ℕ) (s : Stmt) → IsReadableStmt level s → AllByRecursion IsSite (stmt_sites words s)
    stmt_timed level (stmt.Assign x e) readable = tt
    stmt_timed level (stmt.Point p to) readable = tt
    stmt_timed level (stmt.If' c m yes_row n no_row) readable = all_append IsSite (row_sites words yes_row) (row_sites words no_row) (row_timed (1 + level) yes_row readable.2) (row_timed (1 + level) no_row readable.3)
    stmt_timed level (stmt.For' i turns at m row word) readable = all_repeated IsSite turns (row_sites words row) (row_timed (1 + level) row readable.2)
    stmt_timed level (stmt.Io x p a args word) readable = (readable.2, tt)
    stmt_timed level (stmt.Block' a m row word) readable = (readable.1, row_timed (1 + level) row readable.2)
    stmt_timed level (stmt.Dma to from n word) readable = (tt, tt)

    row_timed : (level : ℕ) {n : _} (row : Row_of-Stmt n) → AreReadableStmts level row → AllByRecursion IsSite (row_sites words row)
    row_timed level end_of-Stmt readable = tt
    row_timed level (more_of-Stmt s rest) readable = all_append IsSite (stmt_sites words s) (row_sites words rest) (stmt_timed level s readable.0) (row_timed level rest readable.1)

  pub body_timed : (body : List Stmt) → AllByRecursion (IsReadableStmt 1) body → AllByRecursion IsSite (body_sites words body)
  body_timed [] readable = tt
  body_timed (s ∷ body) readable = all_append IsSite (stmt_sites words s) (body_sites words body) (stmt_timed 1 s readable.0) (body_timed body readable.1)

-- The arrays whose addresses are given are there.
module _ (names : Meanings) (s : Scope) (tasks : ℕ) (there : (text : List ℕ) → IsThereIfSome s tasks (names text)) (p : ℕ) where
  abbrev Holds : List ℕ → Type 0
  Holds = AllByRecursion (λ a. a < length s.arrays)

  both : (xs ys : List CoreStmt) → Holds (all_addresses p xs) → Holds (all_addresses p ys) → Holds (all_addresses p (xs ++ ys))
  both xs ys h k = subst Holds (sym (addresses_append p xs ys)) (all_append (λ a. a < length s.arrays) (all_addresses p xs) (all_addresses p ys) h k)

  one : (x : CoreStmt) → Holds (addresses p x) → Holds (all_addresses p (x ∷ []))
  one x h = subst Holds (sym (append-nil (addresses p x))) h

  given : (b : Bool) (a : ℕ) → a < length s.arrays → Holds (cond b (a ∷ []) [])
  given true a h = (h, tt)
  given false a h = tt

  pointed_there : (m m' : Option Meaning) (i : CoreExpr) → IsThereIfSome s tasks m' → Holds (all_addresses p (pointed (pointer_of m) (array_of m') i))
  pointed_there None m' i h = tt
  pointed_there (Some (meaning.Scalar n kind)) m' i h = tt
  pointed_there (Some (meaning.Array n kind)) m' i h = tt
  pointed_there (Some (meaning.Peripheral q)) m' i h = tt
  pointed_there (Some (meaning.Task t)) m' i h = tt
  pointed_there (Some (meaning.Pointer q)) None i h = tt
  pointed_there (Some (meaning.Pointer q)) (Some (meaning.Scalar n kind)) i h = one (core.Point q n i) (given (q == p) n (get_within s.arrays n h.0 h.1))
  pointed_there (Some (meaning.Pointer q)) (Some (meaning.Array n kind)) i h = one (core.Point q n i) (given (q == p) n (get_within s.arrays n h.0 h.1))
  pointed_there (Some (meaning.Pointer q)) (Some (meaning.Pointer r)) i h = tt
  pointed_there (Some (meaning.Pointer q)) (Some (meaning.Peripheral r)) i h = tt
  pointed_there (Some (meaning.Pointer q)) (Some (meaning.Task t)) i h = tt

  turns_there : (v j n : ℕ) (body : List CoreStmt) → Holds (all_addresses p body) → Holds (all_addresses p (turns_from v j n body))
  turns_there v j zero body h = tt
  turns_there v j (suc n) body h = both body (turns_from v (j + 1) n body) h (turns_there v (j + 1) n body h)

  loop_there : (u : Bool) (v turns : ℕ) (body : List CoreStmt) → Holds (all_addresses p body) → Holds (all_addresses p (core_loop u v turns body))
  loop_there true v turns body h = turns_there v 0 turns body h
  loop_there false v turns body h = one (core.Loop v turns body) (subst Holds (sym (addresses_loop p v turns body)) h)

  mutual
    stmt_there : (x : Stmt) → Holds (all_addresses p (core_stmts names x))
    stmt_there (stmt.Assign x e) = tt
    stmt_there (stmt.Point x to) = pointed_there (names x.text) (names (place_name to).text) (place_index names to) (there (place_name to).text)
    stmt_there (stmt.If' c m yes_row n no_row) =
        one (core.If (core_expr names c) (core_row_stmts names yes_row) (core_row_stmts names no_row))
        (subst Holds (sym (addresses_if p (core_expr names c) (core_row_stmts names yes_row) (core_row_stmts names no_row)))
        (all_append (λ a. a < length s.arrays) (all_addresses p (core_row_stmts names yes_row)) (all_addresses p (core_row_stmts names no_row)) (row_there yes_row) (row_there no_row)))
    stmt_there (stmt.For' i turns at m row word) = loop_there (row_has_sites row) (array_number (names i.text)) turns (core_row_stmts names row) (row_there row)
    stmt_there (stmt.Io x q a args word) = tt
    stmt_there (stmt.Block' a m row word) = one (core.Block 0 (core_row_stmts names row)) (subst Holds (sym (addresses_block p 0 (core_row_stmts names row))) (row_there row))
    stmt_there (stmt.Dma to from n word) = tt

    row_there : {n : _} (row : Row_of-Stmt n) → Holds (all_addresses p (core_row_stmts names row))
    row_there end_of-Stmt = tt
    row_there (more_of-Stmt x rest) = both (core_stmts names x) (core_row_stmts names rest) (stmt_there x) (row_there rest)

  pub addresses_there : (body : List Stmt) → AllByRecursion (λ a. a < length s.arrays) (all_addresses p (core_body names body))
  addresses_there [] = tt
  addresses_there (x ∷ body) = both (core_stmts names x) (core_body names body) (stmt_there x) (addresses_there body)

-- What a task becomes has at most as many nodes.
module _ (names : Meanings) where
  cell_nodes : (b : Bool) (n m : ℕ) → n ≤ m → (if b then 1 else 1 + n) ≤ 1 + m
  cell_nodes true n m h = omega arith
  cell_nodes false n m h = omega (arith, h)

  indexed_nodes : (p : Option ℕ) (a : ℕ) (i : CoreExpr) (m : ℕ) → expr_nodes i ≤ m → expr_nodes (indexed p a i) ≤ 1 + m
  unfolding hidden-the_row-CoreExpr-0 shape-the_row-CoreExpr-0 hidden
  indexed_nodes None a i m h = cell_nodes (is_zero i) (expr_nodes i) m h
  indexed_nodes (Some p) a i m h = omega (arith, h)

  expr_counted : (e : Expr) → expr_nodes (core_expr names e) ≤ nodes_of_expr e
  unfolding hidden-the_row-CoreExpr-0 shape-the_row-CoreExpr-0 hidden
  expr_counted (expr.Number n at) = omega arith
  expr_counted (expr.Read x) = omega arith
  expr_counted (expr.Index' x u (more_of-Expr i end_of-Expr)) = indexed_nodes (pointer_of (names x.text)) (array_number (names x.text)) (core_expr names i) (nodes_of_expr i) (expr_counted i)
  expr_counted (expr.Paren' u (more_of-Expr e end_of-Expr)) = expr_counted e
  expr_counted (expr.One' op u (more_of-Expr e end_of-Expr)) = omega (arith, expr_counted e)
  expr_counted (expr.Two' op u (more_of-Expr a end_of-Expr) v (more_of-Expr b end_of-Expr)) = omega (arith, expr_counted a, expr_counted b)

  exprs_counted : (es : List Expr) → sum_by expr_nodes (map (core_expr names) es) ≤ sum_by nodes_of_expr es
  exprs_counted [] = omega arith
  exprs_counted (e ∷ es) = omega (arith, expr_counted e, exprs_counted es, sum_by-cons expr_nodes (core_expr names e) (map (core_expr names) es), sum_by-cons nodes_of_expr e es)

  at_most : (b : Bool) (n m : ℕ) → n ≤ m → (if b then 0 else n) ≤ m
  at_most true n m h = omega arith
  at_most false n m h = h

  index_counted : (i : Expr) → index_nodes (core_expr names i) ≤ nodes_of_expr i
  index_counted i = at_most (is_zero (core_expr names i)) (expr_nodes (core_expr names i)) (nodes_of_expr i) (expr_counted i)

  element_counted : (p : Option ℕ) (a : ℕ) (i : Expr) → target_nodes (indexed_target p a (core_expr names i)) ≤ 1 + nodes_of_expr i
  element_counted None a i = omega (arith, index_counted i)
  element_counted (Some p) a i = omega (arith, expr_counted i)

  target_counted : (x : Target) → target_nodes (target_of names x) ≤ nodes_of_target x
  target_counted (target.Scalar x) = omega arith
  target_counted (target.Element x i) = element_counted (pointer_of (names x.text)) (array_number (names x.text)) i

  reading_counted : (x : Option Target) → reading_nodes (option_map (target_of names) x) ≤ nodes_of_reading x
  reading_counted None = omega arith
  reading_counted (Some x) = target_counted x

  bare_counted : (p : Option ℕ) (a : ℕ) → end_nodes (bare_end p a) ≤ 1
  bare_counted None a = omega arith
  bare_counted (Some p) a = omega arith

  end_counted : (x : Place) → end_nodes (end_of names x) ≤ nodes_of_place x
  end_counted (place.Bare x) = bare_counted (pointer_of (names x.text)) (array_number (names x.text))
  end_counted (place.Scalar x) = omega arith
  end_counted (place.Element x i) = omega (arith, index_counted i)

  place_counted : (x : Place) → 1 + index_nodes (place_index names x) ≤ nodes_of_place x
  place_counted (place.Bare x) = omega arith
  place_counted (place.Scalar x) = omega arith
  place_counted (place.Element x i) = omega (arith, index_counted i)

  one_sum : (s : CoreStmt) → sum_by stmt_nodes (s ∷ []) ≡ stmt_nodes s
  one_sum s = omega (arith, sum_by-cons stmt_nodes s [])

  pointed_counted : (p a : Option ℕ) (i : CoreExpr) (m : ℕ) → 1 + index_nodes i ≤ m → sum_by stmt_nodes (pointed p a i) ≤ 1 + m
  pointed_counted None a i m h = omega arith
  pointed_counted (Some p) None i m h = omega arith
  pointed_counted (Some p) (Some a) i m h = omega (arith, one_sum (core.Point p a i), h)

  turns_counted : (v j n : ℕ) (body : List CoreStmt) → sum_by stmt_nodes (turns_from v j n body) ≡ n * sum_by stmt_nodes body + 3 * (n + 1)
  turns_counted v j zero body = let e : 0 * sum_by stmt_nodes body ≡ 0 = omega arith in omega (arith, one_sum (setting v j), e)
  turns_counted v j (suc n) body =
      omega (arith, sum_by-cons stmt_nodes (setting v j) (body ++ turns_from v (j + 1) n body), sum_by-append stmt_nodes body (turns_from v (j + 1) n body), turns_counted v (j + 1) n body, suc-mul n (sum_by stmt_nodes body))

  times_most : (n a b : ℕ) → a ≤ b → n * a ≤ n * b
  times_most zero a b h = let e : 0 * a ≡ 0 = omega arith in omega (arith, e)
  times_most (suc n) a b h = omega (arith, h, times_most n a b h, suc-mul n a, suc-mul n b)

  loop_counted : (u : Bool) (v turns : ℕ) (body : List CoreStmt) (m : ℕ) → sum_by stmt_nodes body ≤ m → sum_by stmt_nodes (core_loop u v turns body) ≤ nodes_of_loop u turns m
  loop_counted true v turns body m h = omega (arith, turns_counted v 0 turns body, times_most turns (sum_by stmt_nodes body) m h)
  loop_counted false v turns body m h = omega (arith, one_sum (core.Loop v turns body), nodes_loop v turns body, h)

  mutual
    stmt_counted : (s : Stmt) → sum_by stmt_nodes (core_stmts names s) ≤ nodes_of_stmt s
    stmt_counted (stmt.Assign x e) = omega (arith, one_sum (core.Assign (target_of names x) (core_expr names e)), target_counted x, expr_counted e)
    stmt_counted (stmt.Point p to) = pointed_counted (pointer_of (names p.text)) (array_of (names (place_name to).text)) (place_index names to) (nodes_of_place to) (place_counted to)
    stmt_counted (stmt.If' c m yes_row n no_row) =
        omega (
          arith,
          one_sum (core.If (core_expr names c) (core_row_stmts names yes_row) (core_row_stmts names no_row)),
          nodes_if (core_expr names c) (core_row_stmts names yes_row) (core_row_stmts names no_row),
          expr_counted c,
          row_counted yes_row,
          row_counted no_row,
        )
    stmt_counted (stmt.For' i turns at m row word) = loop_counted (row_has_sites row) (array_number (names i.text)) turns (core_row_stmts names row) (nodes_of_row row) (row_counted row)
    stmt_counted (stmt.Io x p a args word) = omega (arith, one_sum (core.Io 0 (option_map (target_of names) x) 0 (map (core_expr names) args)), reading_counted x, exprs_counted args)
    stmt_counted (stmt.Block' a m row word) = omega (arith, one_sum (core.Block 0 (core_row_stmts names row)), nodes_block 0 (core_row_stmts names row), row_counted row)
    stmt_counted (stmt.Dma to from n word) = omega (arith, one_sum (core.Copy 0 (end_of names to) (end_of names from) (core_expr names n)), end_counted to, end_counted from, expr_counted n)

    row_counted : {n : _} (row : Row_of-Stmt n) → sum_by stmt_nodes (core_row_stmts names row) ≤ nodes_of_row row
    row_counted end_of-Stmt = omega arith
    row_counted (more_of-Stmt s rest) = omega (arith, sum_by-append stmt_nodes (core_stmts names s) (core_row_stmts names rest), stmt_counted s, row_counted rest)

  pub body_counted : (body : List Stmt) → sum_by stmt_nodes (core_body names body) ≤ sum_by nodes_of_stmt body
  body_counted [] = omega arith
  body_counted (s ∷ body) =
      omega (arith, sum_by-append stmt_nodes (core_stmts names s) (core_body names body), sum_by-cons nodes_of_stmt s body, stmt_counted s, body_counted body)

  pub exit_counted : (e : Exit) → exit_nodes (core_exit names e) ≤ nodes_of_exit e
  unfolding hidden-the_row-CoreExit-0 shape-the_row-CoreExit-0 hidden
  exit_counted (exit.Next x) = omega arith
  exit_counted exit.Stop = omega arith
  exit_counted (exit.Choose' c u (more_of-Exit a end_of-Exit) v (more_of-Exit b end_of-Exit)) = omega (arith, expr_counted c, exit_counted a, exit_counted b)
