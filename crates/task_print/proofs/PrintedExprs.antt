-- The tokens of a printed expression, target or exit are that expression, target or exit, up to places.
use Rattle.std.proofs.Common.{◌≡◌, ◌∙◌, ℕ, ◌+◌, ◌≤◌, max, List, [], ◌∷◌, ◌++◌, refl, sym, ap, subst}
use Rattle.ease_base.specs.declared.place.Pos.{Pos}
use Rattle.task_ast.specs.declared.tree.Name.{Name}
use Rattle.task_ast.specs.declared.tree.Op1.{Op1}
use Rattle.task_ast.specs.declared.tree.Op2.{Op2}
use Rattle.task_ast.specs.declared.tree.Expr.{Expr, end_of-Expr, more_of-Expr}
use Rattle.task_ast.specs.declared.tree.Expr.TheVariants as expr
use Rattle.task_ast.specs.declared.tree.Expr.TheBlock.{hidden-the_row-Expr-0, shape-the_row-Expr-0}
use Rattle.task_ast.specs.Readable.{depth, deepest}
use Rattle.task_tokens.specs.declared.token.Sign.{Sign}
use Rattle.task_tokens.specs.declared.token.Sign.TheVariants as sign
use Rattle.task_tokens.specs.declared.token.Lexeme.{Lexeme}
use Rattle.task_tokens.specs.declared.token.Lexeme.TheVariants as lexeme
use Rattle.task_tokens.specs.declared.token.Token.{Token}
use Rattle.task_text.specs.Forms.{IsBetween}
use Rattle.task_text.specs.Grammar.{sign_of, prefix_of, prefix_binds, binds, IsExpr, IsValue}
use Rattle.task_print.specs.Printed.{expr_tokens}
use Rattle.task_print.specs.Unplaced.{bare_name, bare_expr}
use Rattle.task_tokens.specs.Spaced.{lexemes}
use Rattle.task_print.proofs.Lexemes.{First, first_of, Parts, parts_of, one_of, Inside, inside_of}
use Rattle.task_print.proofs.Fairs.{AreFair, fair_front, fair_back, fair_inside}
use Rattle.task_print.proofs.Prints.{ArePrintable, both, wrapped, IsPrinted}
use denote.Hole.Carrier.{hidden}

-- the tokens are an expression that is the same up to places, and as deep
pub record ExprAgain (e : Expr) (level : ℕ) (tokens : List Token) : Type 0 where
  pub tree : Expr
  pub is : IsExpr tree level tokens
  pub same : bare_expr tree ≡ bare_expr e
  pub deep : depth tree ≡ depth e

-- what stands between signs again
pub between_again : (first last : Sign) (P : List Token → Type 0) (tokens : List Token) (xs : List Lexeme) (i : Inside tokens first last xs) → P i.inner → IsBetween first last P tokens
between_again first last P tokens xs i h = record { at_first = i.at_first; at_last = i.at_last; inner = i.inner; whole = i.whole; inside = h }

number_again : (n level : ℕ) (at : Pos) (tokens : List Token) → lexemes tokens ≡ lexeme.Number n ∷ [] → ExprAgain (expr.Number n at) level tokens
number_again n level at tokens is = let one = one_of tokens (lexeme.Number n) is in record { tree = expr.Number n one.0; is = one.1; same = refl; deep = refl }

read_again : (x : Name) (level : ℕ) (tokens : List Token) → lexemes tokens ≡ lexeme.Name x.text ∷ [] → ExprAgain (expr.Read x) level tokens
read_again x level tokens is =
    let one = one_of tokens (lexeme.Name x.text) is in record { tree = expr.Read (record { text = x.text; at = one.0 }); is = one.1; same = refl; deep = refl }

index_again : (x : Name) (i : Expr) (level : ℕ) (tokens : List Token) (f : First tokens (lexeme.Name x.text) (lexeme.Symbol sign.BracketOpen ∷ (expr_tokens i ++ lexeme.Symbol sign.BracketClose ∷ [])))
    (b : Inside f.behind sign.BracketOpen sign.BracketClose (expr_tokens i)) → ExprAgain i 0 b.inner → ExprAgain (expr.Index x i) level tokens
unfolding hidden-the_row-Expr-0 shape-the_row-Expr-0 hidden
index_again x i level tokens f b again = record {
  tree = expr.Index (record { text = x.text; at = f.at }) again.tree;
  is = (f.behind, f.whole, between_again _ _ _ f.behind _ b again.is);
  same = ap (expr.Index (bare_name x)) again.same;
  deep = ap (λ d. 1 + d) again.deep;
}

paren_again : (e : Expr) (level : ℕ) (tokens : List Token) (b : Inside tokens sign.ParenOpen sign.ParenClose (expr_tokens e)) → ExprAgain e 0 b.inner → ExprAgain (expr.Paren e) level tokens
unfolding hidden-the_row-Expr-0 shape-the_row-Expr-0 hidden
paren_again e level tokens b again = record {
  tree = expr.Paren again.tree;
  is = between_again _ _ _ tokens _ b again.is;
  same = ap expr.Paren again.same;
  deep = ap (λ d. 1 + d) again.deep;
}

one_again : (o : Op1) (e : Expr) (level : ℕ) (tokens : List Token) → level ≤ prefix_binds → (f : First tokens (lexeme.Symbol (prefix_of o)) (expr_tokens e)) → ExprAgain e prefix_binds f.behind → ExprAgain (expr.One o e) level tokens
unfolding hidden-the_row-Expr-0 shape-the_row-Expr-0 hidden
one_again o e level tokens low f again = record {
  tree = expr.One o again.tree;
  is = (f.at, f.behind, f.whole, low, again.is);
  same = ap (expr.One o) again.same;
  deep = ap (λ d. 1 + d) again.deep;
}

two_again : (o : Op2) (a b : Expr) (level : ℕ) (tokens : List Token) → level ≤ binds o → (p : Parts tokens (expr_tokens a) (lexeme.Symbol (sign_of o) ∷ expr_tokens b))
    → (f : First p.back (lexeme.Symbol (sign_of o)) (expr_tokens b)) → ExprAgain a (binds o) p.front → ExprAgain b (binds o + 1) f.behind → ExprAgain (expr.Two o a b) level tokens
unfolding hidden-the_row-Expr-0 shape-the_row-Expr-0 hidden
two_again o a b level tokens low p f left right = record {
  tree = expr.Two o left.tree right.tree;
  is = (f.at, p.front, f.behind, p.whole ∙ ap (λ ts. p.front ++ ts) f.whole, low, left.is, right.is);
  same = λ i. expr.Two o (left.same i) (right.same i);
  deep = λ i. 1 + max (left.deep i) (right.deep i);
}

pub append_over : {A : Type 0} (xs : List A) (y : A) (ys : List A) → (xs ++ y ∷ []) ++ ys ≡ xs ++ y ∷ ys
append_over [] y ys = refl
append_over (x ∷ xs) y ys = ap (λ zs. x ∷ zs) (append_over xs y ys)

-- the tokens of a printed expression
pub expr_again : (e : Expr) (level : ℕ) (old tokens : List Token) → IsExpr e level old → lexemes tokens ≡ expr_tokens e → ExprAgain e level tokens
unfolding hidden-the_row-Expr-0 shape-the_row-Expr-0 hidden
expr_again (expr.Number n at) level old tokens was is = number_again n level at tokens is
expr_again (expr.Read x) level old tokens was is = read_again x level tokens is
expr_again (expr.Index' x u (more_of-Expr i end_of-Expr)) level old tokens was is =
    let f = first_of tokens (lexeme.Name x.text) _ is in
    let b = inside_of f.behind sign.BracketOpen sign.BracketClose (expr_tokens i) f.back in
    index_again x i level tokens f b (expr_again i 0 was.2.inner b.inner was.2.inside b.inside)
expr_again (expr.Paren' u (more_of-Expr e end_of-Expr)) level old tokens was is =
    let b = inside_of tokens sign.ParenOpen sign.ParenClose (expr_tokens e) is in
    paren_again e level tokens b (expr_again e 0 was.inner b.inner was.inside b.inside)
expr_again (expr.One' o u (more_of-Expr e end_of-Expr)) level old tokens was is =
    let f = first_of tokens (lexeme.Symbol (prefix_of o)) (expr_tokens e) is in
    one_again o e level tokens was.3 f (expr_again e prefix_binds was.1 f.behind was.4 f.back)
expr_again (expr.Two' o u (more_of-Expr a end_of-Expr) v (more_of-Expr b end_of-Expr)) level old tokens was is =
    let p = parts_of tokens (expr_tokens a) (lexeme.Symbol (sign_of o) ∷ expr_tokens b) (is ∙ append_over (expr_tokens a) (lexeme.Symbol (sign_of o)) (expr_tokens b)) in
    let f = first_of p.back (lexeme.Symbol (sign_of o)) (expr_tokens b) p.others in
    two_again o a b level tokens was.4 p f (expr_again a (binds o) was.1 p.front was.5 p.firsts) (expr_again b (binds o + 1) was.2 f.behind was.6 f.back)

-- the names and numbers of an expression are those of its tokens
expr_printable : (e : Expr) (level : ℕ) (tokens : List Token) → IsExpr e level tokens → AreFair tokens → ArePrintable (expr_tokens e)
expr_printable (expr.Number n at) level tokens is fair = ((subst AreFair is fair).0, tt)
expr_printable (expr.Read x) level tokens is fair = ((subst AreFair is fair).0, tt)
expr_printable (expr.Index' x u (more_of-Expr i end_of-Expr)) level tokens is fair =
    let all = subst AreFair is.1 fair in
    (all.0, wrapped sign.BracketOpen sign.BracketClose (expr_tokens i) (expr_printable i 0 is.2.inner is.2.inside (fair_inside _ _ _ is.0 is.2 all.1)))
expr_printable (expr.Paren' u (more_of-Expr e end_of-Expr)) level tokens is fair =
    wrapped sign.ParenOpen sign.ParenClose (expr_tokens e) (expr_printable e 0 is.inner is.inside (fair_inside _ _ _ tokens is fair))
expr_printable (expr.One' o u (more_of-Expr e end_of-Expr)) level tokens is fair = (tt, expr_printable e _ is.1 is.4 (subst AreFair is.2 fair).1)
expr_printable (expr.Two' o u (more_of-Expr a end_of-Expr) v (more_of-Expr b end_of-Expr)) level tokens is fair =
    let all = subst AreFair is.3 fair in
    both _ (expr_tokens b) (both (expr_tokens a) _ (expr_printable a _ is.1 is.5 (fair_front is.1 _ all)) (tt, tt)) (expr_printable b _ is.2 is.6 (fair_back is.1 _ all).1)

-- an expression of allowed depth
pub value-printed : IsPrinted expr_tokens bare_expr IsValue IsValue
value-printed = record {
  part = λ e old h fair. record {
    printable = expr_printable e 0 old h.0 fair;
    again = λ tokens is.
        let y = expr_again e 0 old tokens h.0 is in
        (y.tree, (y.is, subst (λ d. d ≤ deepest) (sym y.deep) h.1), y.same);
  };
}
