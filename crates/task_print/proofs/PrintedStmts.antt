-- The tokens of a printed statement are that statement, up to places.
use Rattle.std.proofs.Common.{◌≡◌, ◌∙◌, ℕ, zero, suc, List, [], ◌∷◌, ◌++◌, Option, Some, None, refl, sym, ap, subst, inl, inr}
use Rattle.task_ast.specs.declared.tree.Ann.TheVariants as ann
use Rattle.task_ast.specs.declared.tree.Name.{Name}
use Rattle.task_ast.specs.declared.tree.Expr.{Expr}
use Rattle.task_ast.specs.declared.tree.Target.{Target}
use Rattle.task_ast.specs.declared.tree.Target.TheVariants as target
use Rattle.task_ast.specs.declared.tree.Place.{Place}
use Rattle.task_ast.specs.declared.tree.Place.TheVariants as place
use Rattle.task_ast.specs.declared.tree.Stmt.{Stmt}
use Rattle.task_ast.specs.declared.tree.Stmt.TheVariants as stmt
use Rattle.task_tokens.specs.declared.token.Keyword.TheVariants as keyword
use Rattle.task_tokens.specs.declared.token.Sign.TheVariants as sign
use Rattle.task_tokens.specs.declared.token.Lexeme.{Lexeme}
use Rattle.task_tokens.specs.declared.token.Lexeme.TheVariants as lexeme
use Rattle.task_tokens.specs.declared.token.Token.{Token}
use Rattle.task_text.specs.declared.cursor.Numeral.{Numeral}
use Rattle.task_text.specs.declared.loop_head.Start.{Start}
use Rattle.task_text.specs.declared.loop_head.Head.{Head}
use Rattle.task_text.specs.Forms.{reserved, Form}
use Rattle.task_text.specs.Grammar.{IsIndex, IsTarget, IsAddress, IsPlace, IsAnn, IsArgument, IsTest, IsStart, IsBound, IsStep, IsHead, IsCall, IsSetting, IsGiving, IsAssigning, IsCopy, IsBody, IsBlock, IsElse, IsIf, IsLoop, IsStmt}
use Rattle.task_print.specs.Printed.{word, mark, named, numbered, bracketed, parenthesized, braced, expr_tokens, target_tokens, address_tokens, place_tokens, ann_tokens, reading_tokens, argument_tokens, setting, head_tokens, else_tokens, stmt_tokens, body_tokens, tokens_if, tokens_for, tokens_block}
use Rattle.task_print.specs.Unplaced.{somewhere, bare_name, bare_expr, bare_target, bare_place, bare_reading, bare_stmt, bare_body, bare_if, bare_for, bare_block}
use Rattle.task_print.proofs.Fairs.{AreFair, fair_back}
use Rattle.task_print.proofs.Lexemes.{first_of, none_of}
use Rattle.task_print.proofs.Prints.{PrintsTo, IsPrinted, PrintsFrom, word-printed, mark-printed, named-printed, numbered-printed, zero-printed, same-printed, done-printed, then-printed, last-printed, either-printed, rule-printed, enclosed-printed, all-printed}
use Rattle.task_print.proofs.PrintedExprs.{value-printed}
use Rattle.task_print.proofs.PrintedDecls.{itself}

-- ---- parts

index-printed : IsPrinted (λ e. bracketed (expr_tokens e)) bare_expr IsIndex IsIndex
index-printed = enclosed-printed value-printed

target-printed : IsPrinted target_tokens bare_target IsTarget IsTarget
target-printed =
    rule-printed (then-printed named-printed (λ x y d. either-printed (then-printed index-printed (λ i j e. done-printed (target.Element x i) (target.Element y j) refl (λ k. target.Element (d k) (e k))))
    (done-printed (target.Scalar x) (target.Scalar y) refl (ap target.Scalar d))))

-- an address, behind tokens that are printed
address-from : (front : List Lexeme) (f : Place → List Lexeme) → ((x : Name) (i : Expr) → f (place.Element x i) ≡ front ++ named x ++ bracketed (expr_tokens i)) → ((x : Name) → f (place.Scalar x) ≡ front ++ named x) → PrintsFrom front f bare_place IsAddress IsAddress
address-from front f element scalar =
    then-printed named-printed (λ x y d. either-printed (then-printed index-printed (λ i j e. done-printed (place.Element x i) (place.Element y j) (element x i) (λ k. place.Element (d k) (e k))))
    (done-printed (place.Scalar x) (place.Scalar y) (scalar x) (ap place.Scalar d)))

address-printed : IsPrinted address_tokens bare_place IsAddress IsAddress
address-printed = rule-printed (address-from [] address_tokens (λ x i. refl) (λ x. refl))

place-printed : IsPrinted place_tokens bare_place IsPlace IsPlace
place-printed =
    rule-printed (either-printed (then-printed mark-printed (λ _ _ _. address-from (mark sign.Ampersand) place_tokens (λ x i. refl) (λ x. refl)))
    (then-printed named-printed (λ x y d. done-printed (place.Bare x) (place.Bare y) refl (ap place.Bare d))))

ann-printed : IsPrinted ann_tokens itself IsAnn IsAnn
ann-printed =
    rule-printed (either-printed (then-printed word-printed (λ _ _ _. done-printed ann.Single ann.Single refl refl)) (either-printed (then-printed word-printed (λ _ _ _. done-printed ann.Always ann.Always refl refl))
    (then-printed word-printed (λ _ _ _. then-printed (enclosed-printed numbered-printed) (λ n m e. done-printed (ann.Timely n.value) (ann.Timely m.value) refl (ap (λ k. ann.Timely k.value) e))))))

argument-printed : IsPrinted argument_tokens bare_expr IsArgument IsArgument
argument-printed = rule-printed (then-printed mark-printed (λ _ _ _. last-printed value-printed (λ e. refl)))

pub test-printed : IsPrinted (λ c. word keyword.If ++ parenthesized (expr_tokens c)) bare_expr IsTest IsTest
test-printed = rule-printed (then-printed word-printed (λ _ _ _. last-printed (enclosed-printed value-printed) (λ e. refl)))

-- ---- the head of a loop

abbrev bare_start : Start → Start
bare_start s = record { variable = bare_name s.variable; word = somewhere }

abbrev bare_numeral : Numeral → Numeral
bare_numeral n = record { value = n.value; at = somewhere }

abbrev bare_head : Head → Head
bare_head h = record { variable = bare_name h.variable; turns = bare_numeral h.turns; word = somewhere }

start-printed : IsPrinted (λ (s : Start). setting s.variable) bare_start IsStart IsStart
start-printed =
    rule-printed (then-printed word-printed (λ w v _. then-printed mark-printed (λ _ _ _. then-printed named-printed (λ x y d. then-printed mark-printed (λ _ _ _. then-printed zero-printed (λ _ _ _. then-printed mark-printed
    (λ _ _ _. done-printed (record { variable = x; word = w }) (record { variable = y; word = v }) refl (λ i. record { variable = d i; word = somewhere }))))))))

bound-printed : {text other : List ℕ} → other ≡ text → IsPrinted (λ (n : Numeral). (lexeme.Name text ∷ []) ++ mark sign.Less ++ numbered n.value ++ mark sign.Semicolon) bare_numeral (IsBound text) (IsBound other)
bound-printed t = rule-printed (then-printed (same-printed t) (λ _ _ _. then-printed mark-printed (λ _ _ _. then-printed numbered-printed (λ n m e. then-printed mark-printed (λ _ _ _. done-printed n m refl e)))))

step-printed : {text other : List ℕ} → other ≡ text → IsPrinted (λ at. (lexeme.Name text ∷ []) ++ mark sign.PlusPlus ++ mark sign.ParenClose) (λ at. somewhere) (IsStep text) (IsStep other)
step-printed t = rule-printed (then-printed (same-printed t) (λ _ _ _. then-printed mark-printed (λ _ _ _. last-printed mark-printed (λ at. refl))))

head-printed : IsPrinted (λ (h : Head). head_tokens h.variable h.turns.value) bare_head IsHead IsHead
head-printed =
    rule-printed (then-printed start-printed (λ s r d. then-printed (bound-printed (ap (λ (x : Start). x.variable.text) d)) (λ n m e. then-printed (step-printed (ap (λ (x : Start). x.variable.text) d))
    (λ _ _ _. done-printed (record { variable = s.variable; turns = n; word = s.word }) (record { variable = r.variable; turns = m; word = r.word }) refl (λ i. record { variable = (d i).variable; turns = e i; word = somewhere })))))

-- ---- statements without statements inside

call-printed : (x y : Option Target) → bare_reading y ≡ bare_reading x → PrintsFrom (reading_tokens x) stmt_tokens bare_stmt (IsCall x) (IsCall y)
call-printed x y t =
    then-printed word-printed (λ w v _. then-printed mark-printed (λ _ _ _. then-printed named-printed (λ p q d. then-printed mark-printed (λ _ _ _. then-printed ann-printed (λ a b e. then-printed (all-printed argument-printed)
    (λ xs ys h. then-printed mark-printed (λ _ _ _. then-printed mark-printed (λ _ _ _. done-printed (stmt.Io x p a xs w) (stmt.Io y q b ys v) refl (λ i. stmt.Io (t i) (d i) (e i) (h i) somewhere)))))))))

setting-printed : (x y : Target) → bare_target y ≡ bare_target x → PrintsFrom (target_tokens x ++ mark sign.Equal) stmt_tokens bare_stmt (IsSetting x) (IsSetting y)
setting-printed (target.Scalar p) (target.Scalar q) t = record { prints = λ s old h fair. set.prints s old h fair }
  where
    names : bare_name q ≡ bare_name p
    names = cc

    set : PrintsFrom (named p ++ mark sign.Equal) stmt_tokens bare_stmt (λ s tokens. IsSetting (target.Scalar p) s tokens) (λ s tokens. IsSetting (target.Scalar q) s tokens)
    set = then-printed mark-printed (λ _ _ _. then-printed address-printed (λ to up e. then-printed mark-printed (λ _ _ _. done-printed (stmt.Point p to) (stmt.Point q up) refl (λ i. stmt.Point (names i) (e i)))))
setting-printed (target.Scalar p) (target.Element y j) t = absurd (let k : ⊥ = cc in k)
setting-printed (target.Element x i) y t = record { prints = λ s old h fair. absurd h }

giving-printed : (x y : Target) → bare_target y ≡ bare_target x → PrintsFrom (target_tokens x ++ mark sign.Equal) stmt_tokens bare_stmt (IsGiving x) (IsGiving y)
giving-printed x y t = then-printed value-printed (λ e f d. then-printed mark-printed (λ _ _ _. done-printed (stmt.Assign x e) (stmt.Assign y f) refl (λ i. stmt.Assign (t i) (d i))))

assigning-printed : PrintsFrom [] stmt_tokens bare_stmt IsAssigning IsAssigning
assigning-printed = then-printed target-printed (λ x y t. then-printed mark-printed (λ _ _ _. either-printed (call-printed (Some x) (Some y) (ap Some t)) (either-printed (setting-printed x y t) (giving-printed x y t))))

copy-printed : PrintsFrom [] stmt_tokens bare_stmt IsCopy IsCopy
copy-printed =
    then-printed word-printed (λ w v _. then-printed mark-printed (λ _ _ _. then-printed place-printed (λ to up d. then-printed mark-printed (λ _ _ _. then-printed place-printed (λ from of e. then-printed mark-printed
    (λ _ _ _. then-printed value-printed (λ n m h. then-printed mark-printed (λ _ _ _. then-printed mark-printed (λ _ _ _. done-printed (stmt.Dma to from n w) (stmt.Dma up of m v) refl (λ i. stmt.Dma (d i) (e i) (h i) somewhere))))))))))

-- ---- statements with statements inside

module _ {P : Form Stmt} (each : IsPrinted stmt_tokens bare_stmt P P) where
  body-printed : IsPrinted (λ body. braced (body_tokens body)) bare_body (IsBody P) (IsBody P)
  body-printed = enclosed-printed (all-printed each)

  block-printed : PrintsFrom [] stmt_tokens bare_stmt (IsBlock P) (IsBlock P)
  block-printed =
      then-printed word-printed (λ w v _. then-printed (enclosed-printed ann-printed) (λ a b d. then-printed body-printed (λ xs ys e. done-printed (stmt.Block a xs w) (stmt.Block b ys v) (tokens_block a xs w)
      (bare_block b ys v ∙ (λ i. stmt.Block (d i) (e i) somewhere) ∙ sym (bare_block a xs w)))))

  -- no statements have no `else`
  else-part : (xs : List Stmt) (old : List Token) → IsElse P xs old → AreFair old → PrintsTo bare_body xs (IsElse P) (else_tokens xs)
  else-part [] old h fair = record { printable = tt; again = λ tokens is. ([], inr (refl, none_of tokens is), refl) }
  else-part (s ∷ xs) old (inl h) fair =
      let p = body-printed.part (s ∷ xs) h.2 h.5 (fair_back h.1 h.2 (subst AreFair h.3 fair)) in
      record {
        printable = (tt, p.printable);
        again = λ tokens is.
            let f = first_of tokens (lexeme.Reserved keyword.Else) (braced (body_tokens (s ∷ xs))) is in
            let y = p.again f.behind f.back in
            (y.0, inl (f.at, reserved keyword.Else f.at ∷ [], f.behind, f.whole, refl, y.1), y.2);
      }
  else-part (s ∷ xs) old (inr h) fair = absurd (let e = h.0 in let k : ⊥ = cc in k)

  else-printed : IsPrinted else_tokens bare_body (IsElse P) (IsElse P)
  else-printed = record { part = else-part }

  if-printed : PrintsFrom [] stmt_tokens bare_stmt (IsIf P) (IsIf P)
  if-printed =
      then-printed test-printed (λ c b d. then-printed body-printed (λ xs vs e. then-printed else-printed (λ ys ws h. done-printed (stmt.If c xs ys) (stmt.If b vs ws) (tokens_if c xs ys)
      (bare_if b vs ws ∙ (λ i. stmt.If (d i) (e i) (h i)) ∙ sym (bare_if c xs ys)))))

  loop-printed : PrintsFrom [] stmt_tokens bare_stmt (IsLoop P) (IsLoop P)
  loop-printed =
      then-printed head-printed (λ h g d. then-printed body-printed (λ xs ys e. done-printed (stmt.For h.variable h.turns.value h.turns.at xs h.word) (stmt.For g.variable g.turns.value g.turns.at ys g.word) (tokens_for h.variable h.turns.value h.turns.at xs h.word)
      (bare_for g.variable g.turns.value g.turns.at ys g.word ∙ (λ i. stmt.For (d i).variable (d i).turns.value somewhere (e i) somewhere) ∙ sym (bare_for h.variable h.turns.value h.turns.at xs h.word))))

pub stmt-printed : (n : ℕ) → IsPrinted stmt_tokens bare_stmt (IsStmt n) (IsStmt n)
unfolding IsStmt
stmt-printed zero = record { part = λ s old h fair. absurd h }
stmt-printed (suc n) =
    let each = stmt-printed n in
    rule-printed (either-printed assigning-printed (either-printed (call-printed None None refl) (either-printed copy-printed (either-printed (block-printed each) (either-printed (if-printed each) (loop-printed each))))))
