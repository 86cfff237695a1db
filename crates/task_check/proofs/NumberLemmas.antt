-- Sites that are numbered one after another.
use Rattle.std.proofs.Common.{◌≡◌, ◌∙◌, ℕ, zero, suc, ◌+◌, ◌*◌, Bool, true, false, List, [], ◌∷◌, ◌++◌, length, refl, sym, ap, arith, length-append, append_assoc, ◌||◌, Option, Some, None, true≢false}
use Rattle.std.proofs.Math.Nat.{suc-mul}
use Rattle.std.proofs.lemmas.List.{append-nil}
use Rattle.task_ast.specs.declared.tree.Place.{Place}
use Rattle.task_ast.specs.declared.tree.Stmt.{Stmt, Row_of-Stmt, end_of-Stmt, more_of-Stmt}
use Rattle.task_ast.specs.declared.tree.Stmt.TheVariants as stmt
use Rattle.task_ast.specs.declared.core_form.CoreExpr.{CoreExpr}
use Rattle.task_ast.specs.declared.core_form.CoreStmt.{CoreStmt}
use Rattle.task_ast.specs.declared.core_form.CoreStmt.TheVariants as core
use Rattle.task_ast.specs.CoreSites.{site_numbers, all_numbers, numbers_if, numbers_loop, numbers_block}
use Rattle.task_check.specs.CheckedForm.{core_stmts, core_row_stmts, core_body, core_expr, core_loop, turns_from, pointed, place_name, place_index}
use Rattle.task_check.specs.Names.{Meanings, array_number, array_of, pointer_of}
use Rattle.task_check.specs.Numbering.{numbered, all_numbered}
use Rattle.task_check.specs.Sites.{has_sites, row_has_sites, body_has_sites, repeated, stmt_sites, row_sites, body_sites}
use Rattle.task_check.proofs.CountLemmas.{length_repeated}

pub numbers_append : (xs ys : List CoreStmt) → all_numbers (xs ++ ys) ≡ all_numbers xs ++ all_numbers ys
numbers_append [] ys = refl
numbers_append (x ∷ xs) ys = ap (λ (l : List ℕ). site_numbers x ++ l) (numbers_append xs ys) ∙ sym (append_assoc (site_numbers x) (all_numbers xs) (all_numbers ys))

pub numbered_append : (k : ℕ) (xs ys : List CoreStmt) → all_numbered k (xs ++ ys) ≡ all_numbered k xs ++ all_numbered (k + length (all_numbers xs)) ys
numbered_append k [] ys = let e : k ≡ k + 0 = omega arith in ap (λ n. all_numbered n ys) e
numbered_append k (x ∷ xs) ys =
    let e : k + length (site_numbers x) + length (all_numbers xs) ≡ k + length (site_numbers x ++ all_numbers xs) = omega (arith, length-append (site_numbers x) (all_numbers xs)) in
    ap (λ (l : List CoreStmt). numbered k x ∷ l) (numbered_append (k + length (site_numbers x)) xs ys ∙ ap (λ n. all_numbered (k + length (site_numbers x)) xs ++ all_numbered n ys) e)

-- one statement's sites
numbers_one : (s : CoreStmt) → all_numbers (s ∷ []) ≡ site_numbers s
numbers_one s = append-nil (site_numbers s)

-- the turns of an unrolled loop have the sites of the body once each turn
turns_counted : (v j n : ℕ) (body : List CoreStmt) → length (all_numbers (turns_from v j n body)) ≡ n * length (all_numbers body)
turns_counted v j zero body = let e : 0 * length (all_numbers body) ≡ 0 = omega arith in sym e
turns_counted v j (suc n) body =
    omega (
      arith,
      ap length (numbers_append body (turns_from v (j + 1) n body)),
      length-append (all_numbers body) (all_numbers (turns_from v (j + 1) n body)),
      turns_counted v (j + 1) n body,
      suc-mul n (length (all_numbers body)),
    )

loop_counted : (b : Bool) (v n : ℕ) (body : List CoreStmt) (k : ℕ) → (b ≡ false → k ≡ 0) → k ≡ length (all_numbers body) → length (all_numbers (core_loop b v n body)) ≡ n * k
loop_counted true v n body k none is = turns_counted v 0 n body ∙ ap (λ m. n * m) (sym is)
loop_counted false v n body k none is =
    let e : n * k ≡ 0 = ap (λ m. n * m) (none refl) ∙ (let z : n * 0 ≡ 0 = omega arith in z) in
    ap length (numbers_one (core.Loop v n body) ∙ numbers_loop v n body) ∙ sym is ∙ none refl ∙ sym e

pointed_counted : (p a : Option ℕ) (i : CoreExpr) → length (all_numbers (pointed p a i)) ≡ 0
pointed_counted None a i = refl
pointed_counted (Some p) None i = refl
pointed_counted (Some p) (Some a) i = refl

pub nothing_listed : {A : Type 0} (n : ℕ) → repeated {A = A} n [] ≡ []
nothing_listed zero = refl
nothing_listed (suc n) = nothing_listed n

or_false : (a b : Bool) → (a || b) ≡ false → (a ≡ false) × (b ≡ false)
or_false true b h = absurd (true≢false h)
or_false false b h = (refl, h)

module _ (words : Place → Place → ℕ) where
  mutual
    -- a statement without sites lists none
    pub none_listed : (s : Stmt) → has_sites s ≡ false → stmt_sites words s ≡ []
    none_listed (stmt.Assign x e) none = refl
    none_listed (stmt.Point p to) none = refl
    none_listed (stmt.If' c m yes_row n no_row) none =
        let parts = or_false (row_has_sites yes_row) (row_has_sites no_row) none in λ i. row_none_listed yes_row parts.0 i ++ row_none_listed no_row parts.1 i
    none_listed (stmt.For' i turns at m row word) none = ap (repeated turns) (row_none_listed row none) ∙ nothing_listed turns
    none_listed (stmt.Io x p a args word) none = absurd (true≢false none)
    none_listed (stmt.Block' a m row word) none = absurd (true≢false none)
    none_listed (stmt.Dma to from n word) none = absurd (true≢false none)

    pub row_none_listed : {n : _} (row : Row_of-Stmt n) → row_has_sites row ≡ false → row_sites words row ≡ []
    row_none_listed end_of-Stmt none = refl
    row_none_listed (more_of-Stmt s rest) none = let parts = or_false (has_sites s) (row_has_sites rest) none in λ i. none_listed s parts.0 i ++ row_none_listed rest parts.1 i

  module _ (names : Meanings) where
    mutual
      -- the checked form of a statement has as many sites as are listed
      pub sites_counted : (s : Stmt) → length (all_numbers (core_stmts names s)) ≡ length (stmt_sites words s)
      sites_counted (stmt.Assign x e) = refl
      sites_counted (stmt.Point p to) = pointed_counted (pointer_of (names p.text)) (array_of (names (place_name to).text)) (place_index names to)
      sites_counted (stmt.If' c m yes_row n no_row) =
          ap length (numbers_one (core.If (core_expr names c) (core_row_stmts names yes_row) (core_row_stmts names no_row)) ∙ numbers_if (core_expr names c) (core_row_stmts names yes_row) (core_row_stmts names no_row))
          ∙ length-append (all_numbers (core_row_stmts names yes_row)) (all_numbers (core_row_stmts names no_row))
          ∙ (λ i. row_counted yes_row i + row_counted no_row i)
          ∙ sym (length-append (row_sites words yes_row) (row_sites words no_row))
      sites_counted (stmt.For' i turns at m row word) =
          loop_counted (row_has_sites row) (array_number (names i.text)) turns (core_row_stmts names row) (length (row_sites words row)) (λ none. ap length (row_none_listed row none)) (sym (row_counted row))
          ∙ sym (length_repeated turns (row_sites words row))
      sites_counted (stmt.Io x p a args word) = refl
      sites_counted (stmt.Block' a m row word) =
          ap length (numbers_one (core.Block 0 (core_row_stmts names row)) ∙ numbers_block 0 (core_row_stmts names row)) ∙ ap suc (row_counted row)
      sites_counted (stmt.Dma to from n word) = refl

      pub row_counted : {n : _} (row : Row_of-Stmt n) → length (all_numbers (core_row_stmts names row)) ≡ length (row_sites words row)
      row_counted end_of-Stmt = refl
      row_counted (more_of-Stmt s rest) =
          ap length (numbers_append (core_stmts names s) (core_row_stmts names rest)) ∙ length-append (all_numbers (core_stmts names s)) (all_numbers (core_row_stmts names rest))
          ∙ (λ i. sites_counted s i + row_counted rest i) ∙ sym (length-append (stmt_sites words s) (row_sites words rest))

    pub body_counted : (body : List Stmt) → length (all_numbers (core_body names body)) ≡ length (body_sites words body)
    body_counted [] = refl
    body_counted (s ∷ body) =
        ap length (numbers_append (core_stmts names s) (core_body names body)) ∙ length-append (all_numbers (core_stmts names s)) (all_numbers (core_body names body))
        ∙ (λ i. sites_counted s i + body_counted body i) ∙ sym (length-append (stmt_sites words s) (body_sites words body))

-- a body without sites lists none
pub none_listed_body : (words : Place → Place → ℕ) (body : List Stmt) → body_has_sites body ≡ false → body_sites words body ≡ []
none_listed_body words [] none = refl
none_listed_body words (s ∷ body) none =
    let parts = or_false (has_sites s) (body_has_sites body) none in λ i. none_listed words s parts.0 i ++ none_listed_body words body parts.1 i
