-- The turns of an unrolled loop, one after another.
use Rattle.std.proofs.Common.{◌≡◌, ◌∙◌, ℕ, zero, suc, ◌+◌, true, List, [], ◌∷◌, ◌++◌, sym, ap, arith, append_assoc}
use Rattle.std.specs.List.{flat_map, range_with_len}
use Rattle.ease_base.specs.declared.place.Pos.{Pos}
use Rattle.task_ast.specs.declared.tree.Name.{Name}
use Rattle.task_ast.specs.declared.tree.Stmt.{Stmt}
use Rattle.task_ast.specs.declared.tree.Stmt.TheVariants.{For}
use Rattle.task_ast.specs.declared.core_form.CoreStmt.{CoreStmt}
use Rattle.task_check.specs.CheckedForm.{core_body, core_stmts, core_loop, turns_from, setting, core_of_for}
use Rattle.task_check.specs.Names.{Meanings, array_number}
use Rattle.task_check.specs.Sites.{body_has_sites}

-- one turn, and the turns from number j on
abbrev turn : (variable : ℕ) → List CoreStmt → ℕ → List CoreStmt
turn variable body j = setting variable j ∷ body

turns_are : (v j n : ℕ) (body : List CoreStmt) → turns_from v j n body ≡ flat_map (turn v body) (range_with_len j n) ++ setting v (j + n) ∷ []
turns_are v j zero body = let e : j ≡ j + zero = omega arith in ap (λ k. setting v k ∷ []) e
turns_are v j (suc n) body =
    let e : j + 1 + n ≡ j + suc n = omega arith in
    ap (λ l. turn v body j ++ l) (turns_are v (j + 1) n body ∙ ap (λ k. flat_map (turn v body) (range_with_len (j + 1) n) ++ setting v k ∷ []) e)
    ∙ sym (append_assoc (turn v body j) (flat_map (turn v body) (range_with_len (j + 1) n)) (setting v (j + suc n) ∷ []))

-- a loop with sites
pub unrolled_is : (names : Meanings) (i : Name) (turns : ℕ) (at : Pos) (body : List Stmt) (word : Pos) → body_has_sites body ≡ true
    → core_stmts names (For i turns at body word)
    ≡ flat_map (λ j. setting (array_number (names i.text)) j ∷ core_body names body) (range_with_len 0 turns) ++ setting (array_number (names i.text)) turns ∷ []
unrolled_is names i turns at body word has =
    let e : 0 + turns ≡ turns = omega arith in
    core_of_for names i turns at body word ∙ ap (λ u. core_loop u (array_number (names i.text)) turns (core_body names body)) has
    ∙ turns_are (array_number (names i.text)) 0 turns (core_body names body)
    ∙ ap (λ k. flat_map (turn (array_number (names i.text)) (core_body names body)) (range_with_len 0 turns) ++ setting (array_number (names i.text)) k ∷ []) e
