-- The addresses that the checked form of a statement gives, as what pointers may point to.
use Rattle.std.proofs.Common.{◌≡◌, ◌∙◌, ℕ, zero, suc, ◌+◌, Bool, true, false, cond, ◌||◌, ◌&&◌, ◌==◌, List, [], ◌∷◌, ◌++◌, Option, Some, None, refl, sym, ap, arith, append_assoc, true≢false, length, drop, get_or, ◌<◌, ◌≤◌}
use Rattle.std.proofs.Math.Path.{fun_ext}
use Rattle.std.proofs.lemmas.List.Folds.{list_any-append}
use Rattle.ease_base.specs.declared.place.Pos.{Pos}
use Rattle.task_ast.specs.declared.tree.Ann.{Ann}
use Rattle.task_ast.specs.declared.tree.Name.{Name}
use Rattle.task_ast.specs.declared.tree.Expr.{Expr}
use Rattle.task_ast.specs.declared.tree.Place.{Place}
use Rattle.task_ast.specs.declared.tree.Stmt.{Stmt}
use Rattle.task_ast.specs.declared.tree.Stmt.TheVariants as stmt
use Rattle.task_ast.specs.declared.core_form.CoreExpr.{CoreExpr}
use Rattle.task_ast.specs.declared.core_form.CoreStmt.{CoreStmt}
use Rattle.task_ast.specs.declared.core_form.CoreStmt.TheVariants as core
use Rattle.task_ast.specs.Pointing.{addresses, all_addresses, addresses_if, addresses_loop, addresses_block}
use Rattle.task_ast.specs.WellFormed.{is_turning}
use Rattle.task_check.specs.CheckedForm.{core_expr, core_stmts, core_body, core_of_if, core_of_for, core_of_block, core_loop, turns_from, pointed, place_name, place_index}
use Rattle.task_check.specs.Names.{Meanings, array_of, pointer_of, array_number}
use Rattle.task_check.specs.Sites.{body_has_sites}
use Rattle.task_check.proofs.ListLemmas.{rest_is, drop_past}
use Rattle.task_check.specs.Table.{Held, with_given, with_addresses}

or_false : (b : Bool) → (b || false) ≡ b
or_false true = refl
or_false false = refl

or_same : (b : Bool) → (b || b) ≡ b
or_same true = refl
or_same false = refl

or_assoc : (a b c : Bool) → ((a || b) || c) ≡ (a || (b || c))
or_assoc true b c = refl
or_assoc false b c = refl

and_both : (a b : Bool) → (a && b) ≡ true → (a ≡ true) × (b ≡ true)
and_both true b h = (refl, h)
and_both false b h = absurd (true≢false (sym h))

-- whether checked statements give a pointer the address of an array
abbrev pub gives : List CoreStmt → Held
gives cs p a = is_turning (all_addresses p cs) a

pub addresses_append : (p : ℕ) (xs ys : List CoreStmt) → all_addresses p (xs ++ ys) ≡ all_addresses p xs ++ all_addresses p ys
addresses_append p [] ys = refl
addresses_append p (x ∷ xs) ys = ap (λ (l : List ℕ). addresses p x ++ l) (addresses_append p xs ys) ∙ sym (append_assoc (addresses p x) (all_addresses p xs) (all_addresses p ys))

pub gives_append : (xs ys : List CoreStmt) (p a : ℕ) → gives (xs ++ ys) p a ≡ (gives xs p a || gives ys p a)
gives_append xs ys p a = ap (λ (l : List ℕ). is_turning l a) (addresses_append p xs ys) ∙ list_any-append (λ x. x == a) (all_addresses p xs) (all_addresses p ys)

-- one statement gives what is among its addresses
gives_one : (s : CoreStmt) (p a : ℕ) → gives (s ∷ []) p a ≡ is_turning (addresses p s) a
gives_one s p a = list_any-append (λ x. x == a) (addresses p s) [] ∙ or_false (is_turning (addresses p s) a)

gives_if : (c : CoreExpr) (ys ns : List CoreStmt) (p a : ℕ) → gives (core.If c ys ns ∷ []) p a ≡ (gives ys p a || gives ns p a)
gives_if c ys ns p a =
    gives_one (core.If c ys ns) p a ∙ ap (λ (l : List ℕ). is_turning l a) (addresses_if p c ys ns) ∙ list_any-append (λ x. x == a) (all_addresses p ys) (all_addresses p ns)

-- the turns of an unrolled loop give what its body gives, if there is a turn
gives_turns : (v j n : ℕ) (body : List CoreStmt) (p a : ℕ) → gives (turns_from v j (suc n) body) p a ≡ gives body p a
gives_turns v j zero body p a = gives_append body (turns_from v (j + 1) 0 body) p a ∙ or_false (gives body p a)
gives_turns v j (suc n) body p a =
    gives_append body (turns_from v (j + 1) (suc n) body) p a ∙ ap (λ b. gives body p a || b) (gives_turns v (j + 1) n body p a) ∙ or_same (gives body p a)

-- addresses that are noted one after another
noted_twice : (h : Held) (xs ys : List CoreStmt) → with_addresses (with_addresses h xs) ys ≡ with_addresses h (xs ++ ys)
noted_twice h xs ys = fun_ext (λ p. fun_ext (λ a. or_assoc (h p a) (gives xs p a) (gives ys p a) ∙ ap (λ b. h p a || b) (sym (gives_append xs ys p a))))

same_gives : (h : Held) (xs ys : List CoreStmt) → ((p a : ℕ) → gives xs p a ≡ gives ys p a) → with_addresses h xs ≡ with_addresses h ys
same_gives h xs ys same = fun_ext (λ p. fun_ext (λ a. ap (λ b. h p a || b) (same p a)))

-- statements that give no address
pub gives_nothing : (h : Held) (cs : List CoreStmt) → ((p a : ℕ) → gives cs p a ≡ false) → h ≡ with_addresses h cs
gives_nothing h cs none = fun_ext (λ p. fun_ext (λ a. sym (ap (λ b. h p a || b) (none p a) ∙ or_false (h p a))))

-- an address that is given to a pointer, or not
pub given_is : (h : Held) (pointer array : Option ℕ) (i : CoreExpr) → with_given h pointer array ≡ with_addresses h (pointed pointer array i)
given_is h None array i = gives_nothing h [] (λ p a. refl)
given_is h (Some pointer) None i = gives_nothing h [] (λ p a. refl)
given_is h (Some pointer) (Some array) i = fun_ext (λ p. fun_ext (λ a. ap (λ b. h p a || b) (by (pointer == p) p a)))
  where
    by : (b : Bool) (p a : ℕ) → (b && (array == a)) ≡ is_turning (cond b (array ∷ []) [] ++ []) a
    by true p a = sym (or_false (array == a))
    by false p a = refl

module _ (names : Meanings) (h0 h1 h2 : Held) (s : Stmt) where
  -- what an address statement notes
  pub note_point : (x : Name) (to : Place) (pointer array : Option ℕ) (text text' : List ℕ) → s ≡ stmt.Point x to → text ≡ x.text → text' ≡ (place_name to).text
      → pointer ≡ pointer_of (names text) → array ≡ array_of (names text') → h1 ≡ with_given h0 pointer array → h1 ≡ with_addresses h0 (core_stmts names s)
  note_point x to pointer array text text' is at_text at_text' at_pointer at_array made =
      made ∙ (λ i. with_given h0 ((at_pointer ∙ ap (λ t. pointer_of (names t)) at_text) i) ((at_array ∙ ap (λ t. array_of (names t)) at_text') i))
      ∙ given_is h0 (pointer_of (names x.text)) (array_of (names (place_name to).text)) (place_index names to)
      ∙ ap (λ z. with_addresses h0 (core_stmts names z)) (sym is)

  -- what an `if` notes
  pub note_if : (c : Expr) (ys ns ys' ns' : List Stmt) → s ≡ stmt.If c ys ns → ys' ≡ ys → ns' ≡ ns
      → h1 ≡ with_addresses h0 (core_body names ys') → h2 ≡ with_addresses h1 (core_body names ns') → h2 ≡ with_addresses h0 (core_stmts names s)
  note_if c ys ns ys' ns' is at_ys at_ns first second =
      second ∙ (λ i. with_addresses ((first ∙ ap (λ b. with_addresses h0 (core_body names b)) at_ys) i) (core_body names (at_ns i)))
      ∙ noted_twice h0 (core_body names ys) (core_body names ns)
      ∙ same_gives h0 (core_body names ys ++ core_body names ns) (core_stmts names s) (λ p a.
      gives_append (core_body names ys) (core_body names ns) p a ∙ sym (gives_if (core_expr names c) (core_body names ys) (core_body names ns) p a)
      ∙ ap (λ cs. gives cs p a) (sym (ap (core_stmts names) is ∙ core_of_if names c ys ns)))

  -- what a block notes
  pub note_block : (n : Ann) (body body' : List Stmt) (word : Pos) → s ≡ stmt.Block n body word → body' ≡ body
      → h1 ≡ with_addresses h0 (core_body names body') → h1 ≡ with_addresses h0 (core_stmts names s)
  note_block n body body' word is same made =
      made ∙ ap (λ b. with_addresses h0 (core_body names b)) same
      ∙ same_gives h0 (core_body names body) (core_stmts names s) (λ p a.
      ap (λ (l : List ℕ). is_turning l a) (sym (addresses_block p 0 (core_body names body))) ∙ sym (gives_one (core.Block 0 (core_body names body)) p a)
      ∙ ap (λ cs. gives cs p a) (sym (ap (core_stmts names) is ∙ core_of_block names n body word)))

  module _ (i : Name) (turns : ℕ) (at : Pos) (body : List Stmt) (word : Pos) (is : s ≡ stmt.For i turns at body word) where
    loop_is : core_stmts names s ≡ core_loop (body_has_sites body) (array_number (names i.text)) turns (core_body names body)
    loop_is = ap (core_stmts names) is ∙ core_of_for names i turns at body word

    -- a loop that is unrolled to no turn notes nothing
    pub note_none : (body' : List Stmt) (b : Bool) → b ≡ true → body' ≡ body → b ≡ ((turns == 0) && body_has_sites body') → h0 ≡ with_addresses h0 (core_stmts names s)
    note_none body' b holds same at_b =
        let both : ((turns == 0) && body_has_sites body) ≡ true = ap (λ l. (turns == 0) && body_has_sites l) (sym same) ∙ sym at_b ∙ holds in
        let parts = and_both (turns == 0) (body_has_sites body) both in
        let none : turns ≡ 0 = let e = parts.0 in grind arith in
        gives_nothing h0 [] (λ p a. refl)
        ∙ same_gives h0 [] (core_stmts names s) (λ p a. ap (λ cs. gives cs p a) (sym (loop_is ∙ (λ j. core_loop (parts.1 j) (array_number (names i.text)) (none j) (core_body names body)))))

    gives_loop : (b : Bool) (n : ℕ) (p a : ℕ) → (b ≡ true → n ≡ 0 → ⊥) → gives (core_body names body) p a ≡ gives (core_loop b (array_number (names i.text)) n (core_body names body)) p a
    gives_loop true zero p a some = absurd (some refl refl)
    gives_loop true (suc n) p a some = sym (gives_turns (array_number (names i.text)) 0 n (core_body names body) p a)
    gives_loop false n p a some =
        ap (λ (l : List ℕ). is_turning l a) (sym (addresses_loop p (array_number (names i.text)) n (core_body names body)))
        ∙ sym (gives_one (core.Loop (array_number (names i.text)) n (core_body names body)) p a)

    -- another notes what its body does
    pub note_loop : (body' body'' : List Stmt) (b : Bool) → b ≡ false → body' ≡ body → b ≡ ((turns == 0) && body_has_sites body') → body'' ≡ body
        → h1 ≡ with_addresses h0 (core_body names body'') → h1 ≡ with_addresses h0 (core_stmts names s)
    note_loop body' body'' b holds same at_b same' made =
        let not_both : ((turns == 0) && body_has_sites body) ≡ false = ap (λ l. (turns == 0) && body_has_sites l) (sym same) ∙ sym at_b ∙ holds in
        made ∙ ap (λ b. with_addresses h0 (core_body names b)) same'
        ∙ same_gives h0 (core_body names body) (core_stmts names s) (λ p a.
        gives_loop (body_has_sites body) turns p a (λ has none. true≢false (sym (λ j. (none j == 0) && has j) ∙ not_both)) ∙ ap (λ cs. gives cs p a) (sym loop_is))

-- the statements of a body, one after another
module _ (names : Meanings) (all : List Stmt) (i : ℕ) (h0 h1 : Held) (left : with_addresses h0 (core_body names all) ≡ with_addresses h1 (core_body names (drop i all))) where
  pub noted_one : (s : Stmt) (h2 : Held) → i < length all → s ≡ get_or all i s → h2 ≡ with_addresses h1 (core_stmts names s)
      → with_addresses h0 (core_body names all) ≡ with_addresses h2 (core_body names (drop (i + 1) all))
  noted_one s h2 within is made =
      left ∙ ap (λ l. with_addresses h1 (core_body names l)) (rest_is all i s within is)
      ∙ sym (noted_twice h1 (core_stmts names s) (core_body names (drop (i + 1) all)))
      ∙ ap (λ h. with_addresses h (core_body names (drop (i + 1) all))) (sym made)

  pub noted_all : length all ≤ i → h1 ≡ with_addresses h0 (core_body names all)
  noted_all past = gives_nothing h1 [] (λ p a. refl) ∙ ap (λ l. with_addresses h1 (core_body names l)) (sym (drop_past all i past)) ∙ sym left
