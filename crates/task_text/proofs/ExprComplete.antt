-- An expression of the grammar is read, where no operator goes on with it.
use Rattle.std.proofs.Common.{◌≡◌, ℕ, suc, ◌+◌, ◌-◌, ◌<◌, ◌≤◌, max, false, List, [], ◌∷◌, ◌++◌, refl, sym, ap, subst, ◌∙◌, arith, append_assoc}
use Rattle.std.proofs.lemmas.Bool.{cond-true, cond-false}
use Rattle.ease_base.specs.declared.place.Pos.{Pos}
use Rattle.task_ast.specs.declared.tree.Name.{Name}
use Rattle.task_ast.specs.declared.tree.Op1.{Op1}
use Rattle.task_ast.specs.declared.tree.Op2.{Op2}
use Rattle.task_ast.specs.declared.tree.Op2.TheVariants as op
use Rattle.task_ast.specs.declared.tree.Expr.{Expr, end_of-Expr, more_of-Expr}
use Rattle.task_ast.specs.declared.tree.Expr.TheVariants as expr
use Rattle.task_ast.specs.declared.tree.Expr.TheBlock.{hidden-the_row-Expr-0, shape-the_row-Expr-0}
use denote.Hole.Carrier.{hidden}
use Rattle.task_ast.specs.Expressions.{HoldsByParts, for_every}
use Rattle.task_ast.specs.Readable.{depth, deepest}
use Rattle.task_tokens.specs.declared.token.Sign.TheVariants as sign
use Rattle.task_tokens.specs.declared.token.Token.{Token}
use Rattle.task_text.specs.declared.expr.Deep.{Deep}
use Rattle.task_text.specs.Forms.{symbol, number, name}
use Rattle.task_text.specs.Grammar.{sign_of, binds, prefix_of, prefix_binds, IsParenthesized, IsBracketed, IsExpr, IsValue}
use Rattle.task_text.specs.Reading.{Outcome, found, between, begins_sign, name_at, number_at}
use Rattle.task_text.specs.ReadingExpr.{joined, begins_prefix, begins_operator, literal_at, behind_name, named_of, paren_of, prefixed_of, part_of, expr_at, value_at, is_there}
use Rattle.task_text.proofs.Starts.{Starts, IsReadBefore}
use Rattle.task_text.proofs.Offs.{bind-at, between-complete}
use Rattle.task_text.proofs.OperatorLaws.{sign-unary, operator-complete, prefix-complete, begins-tight, begins-loose, begins-looser, begins-none, binds-below}
use Rattle.task_text.proofs.Terms.{Terms, Terms-none, Terms-more, Terms-all}
use Rattle.task_text.proofs.ExprSound.{depth-index, depth-paren, depth-one, depth-two}

-- an expression and its depth
abbrev pub measured : Expr → Deep
measured e = record { expr = e; depth = depth e }

-- the expression is read as the left end of whatever no tighter operator and no index goes on with
abbrev IsRead : Expr → Type 0
IsRead e = (n low level : ℕ) (tokens rest : List Token) → IsExpr e level tokens → low ≤ level → level ≤ prefix_binds → depth e ≤ n → begins_operator (suc level) rest ≡ false → begins_sign sign.BracketOpen rest ≡ false → Terms n low (tokens ++ rest) (measured e) rest

-- so it is read whole where no operator goes on with it
whole-read : (e : Expr) → IsRead e → (n level : ℕ) (tokens rest : List Token) → IsExpr e level tokens → level ≤ prefix_binds → depth e ≤ n → begins_operator level rest ≡ false → begins_sign sign.BracketOpen rest ≡ false → expr_at n level (tokens ++ rest) ≡ found (measured e) rest
whole-read e r n level tokens rest h low deep stops ends =
    Terms-all n level (tokens ++ rest) (measured e) rest (r n level level tokens rest h (omega arith) low deep (begins-looser level (suc level) rest (omega arith) stops) ends) stops

-- there is room for a part that is some deep
no-zero : (n m : ℕ) → suc m ≤ n → n ≡ 0 → ⊥
no-zero n m h e = let k : ⊥ = omega arith in k

-- a part is read as the left end
part-read : (e : Expr) (m n low : ℕ) (ts rest : List Token) → suc m ≤ n → part_of (expr_at (n - 1)) ts ≡ found (measured e) rest → Terms n low ts (measured e) rest
part-read e m n low ts rest room h = Terms-none n low ts (measured e) rest (no-zero n m room) h

-- ---- which part it is

literal-part : (inner : ℕ → List Token → Outcome Deep) (m : ℕ) (at : Pos) (rest : List Token) → part_of inner (number m at ∷ rest) ≡ found (measured (expr.Number m at)) rest
unfolding part_of literal_at number_at
literal-part inner m at rest = refl

named-part : (inner : ℕ → List Token → Outcome Deep) (x : Name) (rest : List Token) → part_of inner (name x ∷ rest) ≡ behind_name (inner 0) x rest
unfolding part_of named_of name_at
named-part inner x rest = refl

paren-part : (inner : ℕ → List Token → Outcome Deep) (at : Pos) (rest : List Token) → part_of inner (symbol sign.ParenOpen at ∷ rest) ≡ paren_of (inner 0) (symbol sign.ParenOpen at ∷ rest)
unfolding part_of
paren-part inner at rest = refl

prefix-part : (inner : ℕ → List Token → Outcome Deep) (o : Op1) (at : Pos) (rest : List Token) → part_of inner (symbol (prefix_of o) at ∷ rest) ≡ prefixed_of (inner prefix_binds) (symbol (prefix_of o) at ∷ rest)
unfolding part_of
prefix-part inner o at rest = cond-true (begins_prefix (symbol (prefix_of o) at ∷ rest)) _ _ (ap is_there (sign-unary o))

scalar-part : (inner : List Token → Outcome Deep) (x : Name) (rest : List Token) → begins_sign sign.BracketOpen rest ≡ false → behind_name inner x rest ≡ found (measured (expr.Read x)) rest
unfolding behind_name
scalar-part inner x rest h = cond-false (begins_sign sign.BracketOpen rest) _ _ h

-- ---- what the trees of the grammar are made of

record Index (x : Name) (i : Expr) (tokens : List Token) : Type 0 where
  index : List Token
  whole : tokens ≡ name x ∷ index
  bracketed : IsBracketed (IsExpr i 0) index

index-parts : (x : Name) (i : Expr) (level : ℕ) (tokens : List Token) → IsExpr (expr.Index x i) level tokens → Index x i tokens
unfolding hidden-the_row-Expr-0 shape-the_row-Expr-0 hidden
index-parts x i level tokens h = record { index = h.0; whole = h.1; bracketed = h.2 }

paren-parts : (e : Expr) (level : ℕ) (tokens : List Token) → IsExpr (expr.Paren e) level tokens → IsParenthesized (IsExpr e 0) tokens
unfolding hidden-the_row-Expr-0 shape-the_row-Expr-0 hidden
paren-parts e level tokens h = h

record Prefixed (o : Op1) (e : Expr) (tokens : List Token) : Type 0 where
  at : Pos
  inner : List Token
  whole : tokens ≡ symbol (prefix_of o) at ∷ inner
  inside : IsExpr e prefix_binds inner

one-parts : (o : Op1) (e : Expr) (level : ℕ) (tokens : List Token) → IsExpr (expr.One o e) level tokens → Prefixed o e tokens
unfolding hidden-the_row-Expr-0 shape-the_row-Expr-0 hidden
one-parts o e level tokens h = record { at = h.0; inner = h.1; whole = h.2; inside = h.4 }

record Joined (o : Op2) (e f : Expr) (level : ℕ) (tokens : List Token) : Type 0 where
  at : Pos
  left : List Token
  right : List Token
  whole : tokens ≡ left ++ symbol (sign_of o) at ∷ right
  low : level ≤ binds o
  first : IsExpr e (binds o) left
  second : IsExpr f (binds o + 1) right

two-parts : (o : Op2) (e f : Expr) (level : ℕ) (tokens : List Token) → IsExpr (expr.Two o e f) level tokens → Joined o e f level tokens
unfolding hidden-the_row-Expr-0 shape-the_row-Expr-0 hidden
two-parts o e f level tokens h = record { at = h.0; left = h.1; right = h.2; whole = h.3; low = h.4; first = h.5; second = h.6 }

-- ---- each is read

deeper : (e f : Expr) → depth f ≡ 1 + depth e → depth e + 1 ≡ depth f
deeper e f h = omega arith

index-body : (inner : List Token → Outcome Deep) (x : Name) (i : Expr) (index rest : List Token) → ((mid back : List Token) → IsExpr i 0 mid → begins_operator 0 back ≡ false → begins_sign sign.BracketOpen back ≡ false → inner (mid ++ back) ≡ found (measured i) back) → IsBracketed (IsExpr i 0) index → behind_name inner x (index ++ rest) ≡ found (measured (expr.Index x i)) rest
unfolding behind_name
index-body inner x i index rest reads b =
    let closing = symbol sign.BracketClose b.at_last in
    let opened = symbol sign.BracketOpen b.at_first ∷ (b.inner ++ closing ∷ []) in
    ap (λ ts. behind_name inner x (ts ++ rest)) b.whole
    ∙ bind-at (between sign.BracketOpen sign.BracketClose inner (opened ++ rest)) _ (measured i) rest (between-complete sign.BracketOpen sign.BracketClose inner (measured i) b.at_first b.at_last b.inner rest (reads b.inner (closing ∷ rest) b.inside refl refl))
    ∙ ap (λ k. found (record { expr = expr.Index x i; depth = k }) rest) (deeper i (expr.Index x i) (depth-index x i))

paren-body : (inner : List Token → Outcome Deep) (e : Expr) (tokens rest : List Token) → ((mid back : List Token) → IsExpr e 0 mid → begins_operator 0 back ≡ false → begins_sign sign.BracketOpen back ≡ false → inner (mid ++ back) ≡ found (measured e) back) → IsParenthesized (IsExpr e 0) tokens → paren_of inner (tokens ++ rest) ≡ found (measured (expr.Paren e)) rest
unfolding paren_of
paren-body inner e tokens rest reads b =
    let closing = symbol sign.ParenClose b.at_last in
    ap (λ ts. paren_of inner (ts ++ rest)) b.whole
    ∙ bind-at (between sign.ParenOpen sign.ParenClose inner ((symbol sign.ParenOpen b.at_first ∷ (b.inner ++ closing ∷ [])) ++ rest)) _ (measured e) rest (between-complete sign.ParenOpen sign.ParenClose inner (measured e) b.at_first b.at_last b.inner rest (reads b.inner (closing ∷ rest) b.inside refl refl))
    ∙ ap (λ k. found (record { expr = expr.Paren e; depth = k }) rest) (deeper e (expr.Paren e) (depth-paren e))

prefix-body : (inner : List Token → Outcome Deep) (o : Op1) (e : Expr) (at : Pos) (mid rest : List Token) → inner (mid ++ rest) ≡ found (measured e) rest → prefixed_of inner (symbol (prefix_of o) at ∷ (mid ++ rest)) ≡ found (measured (expr.One o e)) rest
unfolding prefixed_of
prefix-body inner o e at mid rest h =
    bind-at _ _ o (mid ++ rest) (prefix-complete o at (mid ++ rest))
    ∙ bind-at _ _ (measured e) rest h
    ∙ ap (λ k. found (record { expr = expr.One o e; depth = k }) rest) (deeper e (expr.One o e) (depth-one o e))

number-read : (m : ℕ) (at : Pos) → IsRead (expr.Number m at)
number-read m at n low level tokens rest h a b deep stops ends =
    part-read (expr.Number m at) 0 n low (tokens ++ rest) rest deep (ap (λ ts. part_of (expr_at (n - 1)) (ts ++ rest)) h ∙ literal-part (expr_at (n - 1)) m at rest)

index-read : (x : Name) (i : Expr) → IsRead i → IsRead (expr.Index x i)
index-read x i r n low level tokens rest h a b deep stops ends =
    let p = index-parts x i level tokens h in
    let d = depth-index x i in
    let reads = λ (mid back : List Token) (k : IsExpr i 0 mid) (e : begins_operator 0 back ≡ false) (f : begins_sign sign.BracketOpen back ≡ false). whole-read i r (n - 1) 0 mid back k (omega arith) (omega arith) e f in
    part-read (expr.Index x i) (depth i) n low (tokens ++ rest) rest (omega arith)
    (ap (λ ts. part_of (expr_at (n - 1)) (ts ++ rest)) p.whole ∙ named-part (expr_at (n - 1)) x (p.index ++ rest) ∙ index-body (expr_at (n - 1) 0) x i p.index rest reads p.bracketed)

paren-read : (e : Expr) → IsRead e → IsRead (expr.Paren e)
paren-read e r n low level tokens rest h a b deep stops ends =
    let p = paren-parts e level tokens h in
    let d = depth-paren e in
    let reads = λ (mid back : List Token) (k : IsExpr e 0 mid) (s : begins_operator 0 back ≡ false) (f : begins_sign sign.BracketOpen back ≡ false). whole-read e r (n - 1) 0 mid back k (omega arith) (omega arith) s f in
    part-read (expr.Paren e) (depth e) n low (tokens ++ rest) rest (omega arith)
    (ap (λ ts. part_of (expr_at (n - 1)) (ts ++ rest)) p.whole
    ∙ paren-part (expr_at (n - 1)) p.at_first ((p.inner ++ symbol sign.ParenClose p.at_last ∷ []) ++ rest)
    ∙ ap (λ ts. paren_of (expr_at (n - 1) 0) (ts ++ rest)) (sym p.whole)
    ∙ paren-body (expr_at (n - 1) 0) e tokens rest reads p)

one-read : (o : Op1) (e : Expr) → IsRead e → IsRead (expr.One o e)
one-read o e r n low level tokens rest h a b deep stops ends =
    let p = one-parts o e level tokens h in
    let d = depth-one o e in
    let inner = whole-read e r (n - 1) prefix_binds p.inner rest p.inside (omega arith) (omega arith) (begins-none rest prefix_binds (omega arith)) ends in
    part-read (expr.One o e) (depth e) n low (tokens ++ rest) rest (omega arith)
    (ap (λ ts. part_of (expr_at (n - 1)) (ts ++ rest)) p.whole ∙ prefix-part (expr_at (n - 1)) o p.at (p.inner ++ rest) ∙ prefix-body (expr_at (n - 1) prefix_binds) o e p.at p.inner rest inner)

scalar-read : (x : Name) → IsRead (expr.Read x)
scalar-read x n low level tokens rest h a b deep stops ends =
    part-read (expr.Read x) 0 n low (tokens ++ rest) rest deep (ap (λ ts. part_of (expr_at (n - 1)) (ts ++ rest)) h ∙ named-part (expr_at (n - 1)) x rest ∙ scalar-part (expr_at (n - 1) 0) x rest ends)

no-bracket : (o : Op2) (at : Pos) (rest : List Token) → begins_sign sign.BracketOpen (symbol (sign_of o) at ∷ rest) ≡ false
no-bracket op.Add at rest = refl
no-bracket _ at rest = refl

joined-measured : (o : Op2) (e f : Expr) → joined o (measured e) (measured f) ≡ measured (expr.Two o e f)
joined-measured o e f = ap (λ k. record { expr = expr.Two o e f; depth = k }) (let k : max (depth e) (depth f) + 1 ≡ depth (expr.Two o e f) = omega (arith, depth-two o e f) in k)

two-read : (o : Op2) (e f : Expr) → IsRead e → IsRead f → IsRead (expr.Two o e f)
two-read o e f r s n low level tokens rest h a b deep stops ends =
    let p = two-parts o e f level tokens h in
    let d = depth-two o e f in
    let under = binds-below o in
    let at_level = p.low in
    let back = symbol (sign_of o) p.at ∷ (p.right ++ rest) in
    let whole : tokens ++ rest ≡ p.left ++ back = ap (λ ts. ts ++ rest) p.whole ∙ append_assoc p.left (symbol (sign_of o) p.at ∷ p.right) rest in
    let left = r n low (binds o) p.left back p.first (omega arith) (omega arith) (omega arith) (begins-loose (suc (binds o)) o p.at (p.right ++ rest) (omega arith)) (no-bracket o p.at (p.right ++ rest)) in
    let loose = begins-looser (suc level) (binds o + 1) rest (omega arith) stops in
    let right = whole-read f s (n - 1) (binds o + 1) p.right rest p.second (omega arith) (omega arith) loose ends in
    let less : depth e < n = omega arith in
    subst (λ (x : Deep). Terms n low (tokens ++ rest) x rest) (joined-measured o e f)
    (subst (λ ts. Terms n low ts (joined o (measured e) (measured f)) rest) (sym whole)
    (Terms-more n low (p.left ++ back) (measured e) back left (begins-tight low o p.at (p.right ++ rest) (omega arith)) o (measured f) (p.right ++ rest) rest less (operator-complete o p.at (p.right ++ rest)) right))

read-by-parts : HoldsByParts IsRead
read-by-parts = record { number = number-read; read = scalar-read; index = index-read; paren = paren-read; one = one-read; two = two-read }

-- what an expression begins with
pub record Heads (G : List Token → Type 0) : Type 0 where
  pub number : (n : ℕ) (at : Pos) (us : List Token) → G (number n at ∷ us)
  pub named : (x : Name) (us : List Token) → G (name x ∷ us)
  pub paren : (at : Pos) (us : List Token) → G (symbol sign.ParenOpen at ∷ us)
  pub prefix : (o : Op1) (at : Pos) (us : List Token) → G (symbol (prefix_of o) at ∷ us)

expr-starts : (G : List Token → Type 0) → Heads G → (e : Expr) (level : ℕ) (front rest : List Token) → IsExpr e level front → G (front ++ rest)
expr-starts G h (expr.Number n at) level front rest is = subst (λ ts. G (ts ++ rest)) (sym is) (h.number n at rest)
expr-starts G h (expr.Read x) level front rest is = subst (λ ts. G (ts ++ rest)) (sym is) (h.named x rest)
expr-starts G h (expr.Index' x u (more_of-Expr i end_of-Expr)) level front rest is = subst (λ ts. G (ts ++ rest)) (sym is.1) (h.named x (is.0 ++ rest))
expr-starts G h (expr.Paren' u (more_of-Expr e end_of-Expr)) level front rest is = subst (λ ts. G (ts ++ rest)) (sym is.whole) (h.paren is.at_first _)
expr-starts G h (expr.One' o u (more_of-Expr e end_of-Expr)) level front rest is = subst (λ ts. G (ts ++ rest)) (sym is.2) (h.prefix o is.0 (is.1 ++ rest))
expr-starts G h (expr.Two' o u (more_of-Expr a end_of-Expr) v (more_of-Expr b end_of-Expr)) level front rest is =
    let right = symbol (sign_of o) is.0 ∷ is.2 in
    subst G (sym (ap (λ ts. ts ++ rest) is.3 ∙ append_assoc is.1 right rest)) (expr-starts G h a (binds o) is.1 (right ++ rest) is.5)

pub value-starts : {G : List Token → Type 0} → Heads G → Starts G IsValue
value-starts {G} h = record { so = λ e front rest is. expr-starts G h e 0 front rest is.0 }

-- no operator goes on here, and no index
abbrev pub NoOperator : List Token → Type 0
NoOperator rest = (begins_operator 0 rest ≡ false) × (begins_sign sign.BracketOpen rest ≡ false)

-- an expression of allowed depth is read, where none does
pub value-complete : IsReadBefore NoOperator IsValue value_at
unfolding value_at
value-complete = record {
  reads = λ e front rest h safe. bind-at _ _ (measured e) rest (whole-read e (for_every IsRead read-by-parts e) deepest 0 front rest h.0 (omega arith) h.1 safe.0 safe.1);
}
