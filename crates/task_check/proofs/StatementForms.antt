-- The checked forms of statements and their sites, put behind one another.
use Rattle.std.proofs.Common.{◌≡◌, ◌∙◌, ℕ, suc, ◌+◌, ◌-◌, ◌<◌, ◌≤◌, Bool, true, false, List, [], ◌∷◌, ◌++◌, length, drop, get_or, sym, ap, arith, length-append, append_assoc}
use Rattle.std.proofs.lemmas.List.{append-nil}
use Rattle.ease_base.specs.declared.place.Pos.{Pos}
use Rattle.task_ast.specs.declared.tree.Ann.{Ann}
use Rattle.task_ast.specs.declared.tree.Name.{Name}
use Rattle.task_ast.specs.declared.tree.Expr.{Expr}
use Rattle.task_ast.specs.declared.tree.Place.{Place}
use Rattle.task_ast.specs.declared.tree.Stmt.{Stmt}
use Rattle.task_ast.specs.declared.tree.Stmt.TheVariants as stmt
use Rattle.task_ast.specs.declared.core_form.CoreExpr.{CoreExpr}
use Rattle.task_ast.specs.declared.core_form.CoreStmt.{CoreStmt}
use Rattle.task_ast.specs.declared.core_form.CoreStmt.TheVariants as core
use Rattle.task_ast.specs.declared.core_form.Site.{Site}
use Rattle.task_ast.specs.declared.core_form.Site.TheVariants as site
use Rattle.task_ast.specs.CoreSites.{all_numbers}
use Rattle.task_check.specs.CheckedForm.{core_stmts, core_body, core_expr, core_loop, turns_from, setting, core_of_if, core_of_for, core_of_block}
use Rattle.task_check.specs.Names.{Meanings, array_number}
use Rattle.task_check.specs.Numbering.{all_numbered, numbered_if, numbered_loop, numbered_block}
use Rattle.task_check.specs.Sites.{body_has_sites, repeated, stmt_sites, body_sites, sites_if, sites_for, sites_block}
use Rattle.task_check.proofs.ListLemmas.{rest_is, drop_past}
use Rattle.task_check.proofs.NumberLemmas.{numbered_append, body_counted, sites_counted as one_counted, none_listed_body, nothing_listed}

-- a statement's forms and sites are put behind others
abbrev pub IsPut : (List Site) → (List Site) → List Site → (List CoreStmt) → (List CoreStmt) → List CoreStmt → Type 0
IsPut before after sites done more forms = (after ≡ before ++ sites) × (more ≡ done ++ all_numbered (length before + 1) forms)

-- the number behind a body's sites
next_number : (names : Meanings) (words : Place → Place → ℕ) (before after : List Site) (body : List Stmt) → after ≡ before ++ body_sites words body
    → length after + 1 ≡ length before + 1 + length (all_numbers (core_body names body))
next_number names words before after body is = omega (arith, ap length is, length-append before (body_sites words body), body_counted words names body)

module _ (names : Meanings) (words : Place → Place → ℕ) (s : Stmt) where
  -- an `if`
  pub put_if : (c : Expr) (ys ns ys' ns' : List Stmt) (k : CoreExpr) (s0 s1 s2 : List Site) (y0 y1 n0 n1 d0 d1 : List CoreStmt) → s ≡ stmt.If c ys ns → ys' ≡ ys → ns' ≡ ns → k ≡ core_expr names c
      → y0 ≡ [] → s1 ≡ s0 ++ body_sites words ys' → y1 ≡ y0 ++ all_numbered (length s0 + 1) (core_body names ys')
      → n0 ≡ [] → s2 ≡ s1 ++ body_sites words ns' → n1 ≡ n0 ++ all_numbered (length s1 + 1) (core_body names ns')
      → d1 ≡ d0 ++ core.If k y1 n1 ∷ [] → IsPut s0 s2 (stmt_sites words s) d0 d1 (core_stmts names s)
  put_if c ys ns ys' ns' k s0 s1 s2 y0 y1 n0 n1 d0 d1 is at_ys at_ns at_k no_y first yes_forms no_n second no_forms made =
      let first' : s1 ≡ s0 ++ body_sites words ys = first ∙ ap (λ l. s0 ++ body_sites words l) at_ys in
      let at_y : y1 ≡ all_numbered (length s0 + 1) (core_body names ys) = yes_forms ∙ (λ i. no_y i ++ all_numbered (length s0 + 1) (core_body names (at_ys i))) in
      let at_n : n1 ≡ all_numbered (length s0 + 1 + length (all_numbers (core_body names ys))) (core_body names ns) =
      no_forms ∙ (λ i. no_n i ++ all_numbered (next_number names words s0 s1 ys first' i) (core_body names (at_ns i))) in (
        second ∙ (λ i. first' i ++ body_sites words (at_ns i)) ∙ append_assoc s0 (body_sites words ys) (body_sites words ns)
            ∙ ap (λ l. s0 ++ l) (sym (ap (stmt_sites words) is ∙ sites_if words c ys ns)),
        made ∙ (λ i. d0 ++ core.If (at_k i) (at_y i) (at_n i) ∷ [])
            ∙ ap (λ z. d0 ++ z ∷ []) (sym (numbered_if (length s0 + 1) (core_expr names c) (core_body names ys) (core_body names ns)))
            ∙ ap (λ cs. d0 ++ all_numbered (length s0 + 1) cs) (sym (ap (core_stmts names) is ∙ core_of_if names c ys ns)),
      )

  -- a block
  pub put_block : (a : Ann) (body body' : List Stmt) (word : Pos) (n : ℕ) (s0 s1 s2 : List Site) (b0 b1 d0 d1 : List CoreStmt) → s ≡ stmt.Block a body word → body' ≡ body
      → n ≡ length s0 + 1 → s1 ≡ s0 ++ site.Block a ∷ [] → b0 ≡ [] → s2 ≡ s1 ++ body_sites words body' → b1 ≡ b0 ++ all_numbered (length s1 + 1) (core_body names body')
      → d1 ≡ d0 ++ core.Block n b1 ∷ [] → IsPut s0 s2 (stmt_sites words s) d0 d1 (core_stmts names s)
  put_block a body body' word n s0 s1 s2 b0 b1 d0 d1 is same at_n own no_b inner forms made =
      let next : length s1 + 1 ≡ length s0 + 1 + 1 = omega (arith, ap length own, length-append s0 (site.Block a ∷ [])) in
      let at_b : b1 ≡ all_numbered (length s0 + 1 + 1) (core_body names body) = forms ∙ (λ i. no_b i ++ all_numbered (next i) (core_body names (same i))) in (
        inner ∙ (λ i. own i ++ body_sites words (same i)) ∙ append_assoc s0 (site.Block a ∷ []) (body_sites words body)
            ∙ ap (λ l. s0 ++ l) (sym (ap (stmt_sites words) is ∙ sites_block words a body word)),
        made ∙ (λ i. d0 ++ core.Block (at_n i) (at_b i) ∷ [])
            ∙ ap (λ z. d0 ++ z ∷ []) (sym (numbered_block (length s0 + 1) 0 (core_body names body)))
            ∙ ap (λ cs. d0 ++ all_numbered (length s0 + 1) cs) (sym (ap (core_stmts names) is ∙ core_of_block names a body word)),
      )

  module _ (x : Name) (turns : ℕ) (at : Pos) (body : List Stmt) (word : Pos) (is : s ≡ stmt.For x turns at body word) where
    loop_is : core_stmts names s ≡ core_loop (body_has_sites body) (array_number (names x.text)) turns (core_body names body)
    loop_is = ap (core_stmts names) is ∙ core_of_for names x turns at body word

    listed : stmt_sites words s ≡ repeated turns (body_sites words body)
    listed = ap (stmt_sites words) is ∙ sites_for words x turns at body word

    -- a pure loop
    pub put_pure : (here there : List Stmt) (b : Bool) (v : ℕ) (s0 s1 : List Site) (b0 b1 d0 d1 : List CoreStmt) → here ≡ body → b ≡ body_has_sites here → b ≡ false → there ≡ body
        → v ≡ array_number (names x.text) → b0 ≡ [] → s1 ≡ s0 ++ body_sites words there → b1 ≡ b0 ++ all_numbered (length s0 + 1) (core_body names there)
        → d1 ≡ d0 ++ core.Loop v turns b1 ∷ [] → IsPut s0 s1 (stmt_sites words s) d0 d1 (core_stmts names s)
    put_pure here there b v s0 s1 b0 b1 d0 d1 at_here at_b none at_there at_v no_b sites forms made =
        let pure : body_has_sites body ≡ false = sym (at_b ∙ ap body_has_sites at_here) ∙ none in
        let empty : body_sites words body ≡ [] = none_listed_body words body pure in (
          sites ∙ ap (λ l. s0 ++ body_sites words l) at_there ∙ ap (λ l. s0 ++ l) (empty ∙ sym (ap (repeated turns) empty ∙ nothing_listed turns) ∙ sym listed),
          made ∙ (λ i. d0 ++ core.Loop (at_v i) turns ((forms ∙ (λ j. no_b j ++ all_numbered (length s0 + 1) (core_body names (at_there j)))) i) ∷ [])
              ∙ ap (λ z. d0 ++ z ∷ []) (sym (numbered_loop (length s0 + 1) (array_number (names x.text)) turns (core_body names body)))
              ∙ ap (λ cs. d0 ++ all_numbered (length s0 + 1) cs) (sym (loop_is ∙ ap (λ c. core_loop c (array_number (names x.text)) turns (core_body names body)) pure)),
        )

    -- an unrolled loop, its turns done
    pub put_turns : (here : List Stmt) (b : Bool) (v : ℕ) (s0 s1 : List Site) (d0 d1 : List CoreStmt) → here ≡ body → b ≡ body_has_sites here → b ≡ true
        → v ≡ array_number (names x.text) → s0 ++ repeated turns (body_sites words body) ≡ s1
        → d0 ++ all_numbered (length s0 + 1) (turns_from v 0 turns (core_body names body)) ≡ d1 → IsPut s0 s1 (stmt_sites words s) d0 d1 (core_stmts names s)
    put_turns here b v s0 s1 d0 d1 at_here at_b has at_v sites forms =
        let unrolled : body_has_sites body ≡ true = sym (at_b ∙ ap body_has_sites at_here) ∙ has in (
          sym sites ∙ ap (λ l. s0 ++ l) (sym listed),
          sym forms ∙ ap (λ w. d0 ++ all_numbered (length s0 + 1) (turns_from w 0 turns (core_body names body))) at_v
              ∙ ap (λ cs. d0 ++ all_numbered (length s0 + 1) cs) (sym (loop_is ∙ ap (λ c. core_loop c (array_number (names x.text)) turns (core_body names body)) unrolled)),
        )

-- One turn of an unrolled loop: what is left of the turns goes behind what is done.
module _ (names : Meanings) (words : Place → Place → ℕ) (v j m : ℕ) (body here : List Stmt) (same : here ≡ body) (s0 s1 : List Site) (after : s1 ≡ s0 ++ body_sites words here) where
  pub turn_sites : s0 ++ repeated (suc m) (body_sites words body) ≡ s1 ++ repeated m (body_sites words body)
  turn_sites = sym (append_assoc s0 (body_sites words body) (repeated m (body_sites words body))) ∙ ap (λ l. l ++ repeated m (body_sites words body)) (sym (after ∙ ap (λ l. s0 ++ body_sites words l) same))

  pub turn_forms : (d0 d1 d2 : List CoreStmt) → d1 ≡ d0 ++ setting v j ∷ [] → d2 ≡ d1 ++ all_numbered (length s0 + 1) (core_body names here)
      → d0 ++ all_numbered (length s0 + 1) (turns_from v j (suc m) (core_body names body)) ≡ d2 ++ all_numbered (length s1 + 1) (turns_from v (j + 1) m (core_body names body))
  turn_forms d0 d1 d2 first second =
      let k = length s0 + 1 in
      let cs = core_body names body in
      let rest = turns_from v (j + 1) m cs in
      let zero_more : k + 0 ≡ k = omega arith in
      let next : k + length (all_numbers cs) ≡ length s1 + 1 = sym (next_number names words s0 s1 body (after ∙ ap (λ l. s0 ++ body_sites words l) same)) in
      ap (λ (n : ℕ). d0 ++ setting v j ∷ all_numbered n (cs ++ rest)) zero_more
      ∙ ap (λ l. d0 ++ setting v j ∷ l) (numbered_append k cs rest ∙ ap (λ n. all_numbered k cs ++ all_numbered n rest) next)
      ∙ sym (append_assoc d0 (setting v j ∷ []) (all_numbered k cs ++ all_numbered (length s1 + 1) rest))
      ∙ sym (append_assoc (d0 ++ setting v j ∷ []) (all_numbered k cs) (all_numbered (length s1 + 1) rest))
      ∙ ap (λ l. l ++ all_numbered (length s1 + 1) rest) (sym (second ∙ (λ i. first i ++ all_numbered k (core_body names (same i)))))

-- the statements of a body, one after another
module _ (names : Meanings) (words : Place → Place → ℕ) (all : List Stmt) (i : ℕ) (s : Stmt) (within : i < length all) (is : s ≡ get_or all i s) (s1 s2 : List Site) (after : s2 ≡ s1 ++ stmt_sites words s) where
  pub body_sites_step : s1 ++ body_sites words (drop i all) ≡ s2 ++ body_sites words (drop (i + 1) all)
  body_sites_step =
      ap (λ l. s1 ++ body_sites words l) (rest_is all i s within is) ∙ sym (append_assoc s1 (stmt_sites words s) (body_sites words (drop (i + 1) all)))
      ∙ ap (λ l. l ++ body_sites words (drop (i + 1) all)) (sym after)

  pub body_forms_step : (d1 d2 : List CoreStmt) → d2 ≡ d1 ++ all_numbered (length s1 + 1) (core_stmts names s)
      → d1 ++ all_numbered (length s1 + 1) (core_body names (drop i all)) ≡ d2 ++ all_numbered (length s2 + 1) (core_body names (drop (i + 1) all))
  body_forms_step d1 d2 made =
      let rest = core_body names (drop (i + 1) all) in
      let next : length s1 + 1 + length (all_numbers (core_stmts names s)) ≡ length s2 + 1 = omega (arith, ap length after, length-append s1 (stmt_sites words s), one_counted words names s) in
      ap (λ l. d1 ++ all_numbered (length s1 + 1) (core_body names l)) (rest_is all i s within is)
      ∙ ap (λ l. d1 ++ l) (numbered_append (length s1 + 1) (core_stmts names s) rest ∙ ap (λ n. all_numbered (length s1 + 1) (core_stmts names s) ++ all_numbered n rest) next)
      ∙ sym (append_assoc d1 (all_numbered (length s1 + 1) (core_stmts names s)) (all_numbered (length s2 + 1) rest))
      ∙ ap (λ l. l ++ all_numbered (length s2 + 1) rest) (sym made)

-- behind the last statement nothing is left
pub body_end : (names : Meanings) (words : Place → Place → ℕ) (all : List Stmt) (i : ℕ) (s0 s1 : List Site) (d0 d1 : List CoreStmt) → length all ≤ i
    → s0 ++ body_sites words all ≡ s1 ++ body_sites words (drop i all)
    → d0 ++ all_numbered (length s0 + 1) (core_body names all) ≡ d1 ++ all_numbered (length s1 + 1) (core_body names (drop i all))
    → IsPut s0 s1 (body_sites words all) d0 d1 (core_body names all)
body_end names words all i s0 s1 d0 d1 past sites forms = (
  sym (sites ∙ ap (λ l. s1 ++ body_sites words l) (drop_past all i past) ∙ append-nil s1),
  sym (forms ∙ ap (λ l. d1 ++ all_numbered (length s1 + 1) (core_body names l)) (drop_past all i past) ∙ append-nil d1),
)

-- Behind the last turn the variable is set once more.
pub last_setting : (names : Meanings) (words : Place → Place → ℕ) (turns j v : ℕ) (body : List Stmt) (s0 s1 : List Site) (d0 d1 d2 : List CoreStmt) → turns ≤ j → j ≤ turns
    → s0 ++ repeated turns (body_sites words body) ≡ s1 ++ repeated (turns - j) (body_sites words body)
    → d0 ++ all_numbered (length s0 + 1) (turns_from v 0 turns (core_body names body)) ≡ d1 ++ all_numbered (length s1 + 1) (turns_from v j (turns - j) (core_body names body))
    → (s0 ++ repeated turns (body_sites words body) ≡ s1)
    × (d2 ≡ d1 ++ setting v turns ∷ [] → d0 ++ all_numbered (length s0 + 1) (turns_from v 0 turns (core_body names body)) ≡ d2)
last_setting names words turns j v body s0 s1 d0 d1 d2 over within sites forms =
    let none : turns - j ≡ 0 = omega (arith, over) in
    let same : j ≡ turns = omega (arith, over, within) in (
      sites ∙ ap (λ n. s1 ++ repeated n (body_sites words body)) none ∙ append-nil s1,
      λ made. forms ∙ (λ i. d1 ++ all_numbered (length s1 + 1) (turns_from v (same i) (none i) (core_body names body))) ∙ sym made,
    )
