-- How expressions are read off the tokens.
use Rattle.std.specs.Prelude.{ℕ, zero, suc, ◌+◌, max, nat_lt, nat_le, Bool, true, false, if◌then◌else◌, List, [], ◌∷◌, Option, Some, None, Err}
use Rattle.task_ast.specs.declared.tree.Op1.{Op1}
use Rattle.task_ast.specs.declared.tree.Op1.TheVariants as op1
use Rattle.task_ast.specs.declared.tree.Op2.{Op2}
use Rattle.task_ast.specs.declared.tree.Op2.TheVariants as op
use Rattle.task_ast.specs.declared.tree.Name.{Name}
use Rattle.task_ast.specs.declared.tree.Expr.{Expr}
use Rattle.task_ast.specs.declared.tree.Expr.TheVariants as expr
use Rattle.task_ast.specs.Readable.{deepest}
use Rattle.task_tokens.specs.declared.token.Sign.{Sign}
use Rattle.task_tokens.specs.declared.token.Sign.TheVariants as sign
use Rattle.task_tokens.specs.declared.token.Lexeme.{Lexeme}
use Rattle.task_tokens.specs.declared.token.Lexeme.TheVariants as lexeme
use Rattle.task_tokens.specs.declared.token.Token.{Token}
use Rattle.task_text.specs.declared.cursor.Numeral.{Numeral}
use Rattle.task_text.specs.declared.expr.Deep.{Deep}
use Rattle.task_text.specs.Grammar.{binds, prefix_binds}
use Rattle.task_text.specs.Reading.{Outcome, between, found, ◌>>=◌, begins_sign, begins_name, taken, name_at, number_at}

-- the binary operator that a sign is
abbrev pub binary : Sign → Option Op2
binary sign.BarBar = Some op.Either
binary sign.AmpersandAmpersand = Some op.Both
binary sign.Bar = Some op.Or
binary sign.Caret = Some op.Xor
binary sign.Ampersand = Some op.And
binary sign.EqualEqual = Some op.Eq
binary sign.BangEqual = Some op.Ne
binary sign.Less = Some op.Lt
binary sign.LessEqual = Some op.Le
binary sign.Greater = Some op.Gt
binary sign.GreaterEqual = Some op.Ge
binary sign.LessLess = Some op.Shl
binary sign.GreaterGreater = Some op.Shr
binary sign.Plus = Some op.Add
binary sign.Minus = Some op.Sub
binary sign.Star = Some op.Mul
binary sign.Slash = Some op.Div
binary sign.Percent = Some op.Rem
binary _ = None

-- the prefix that a sign is
abbrev pub unary : Sign → Option Op1
unary sign.Bang = Some op1.Not
unary sign.Tilde = Some op1.Inv
unary sign.Minus = Some op1.Neg
unary _ = None

abbrev pub binary_of : Lexeme → Option Op2
binary_of (lexeme.Symbol s) = binary s
binary_of _ = None

abbrev pub unary_of : Lexeme → Option Op1
unary_of (lexeme.Symbol s) = unary s
unary_of _ = None

-- whether there is an operator, and it binds at least so tightly
abbrev pub is_tight : ℕ → Option Op2 → Bool
is_tight level None = false
is_tight level (Some o) = nat_le level (binds o)

abbrev pub begins_operator : ℕ → List Token → Bool
begins_operator level [] = false
begins_operator level (t ∷ ts) = is_tight level (binary_of t.lexeme)

abbrev pub is_there : {T : Type 0} → Option T → Bool
is_there None = false
is_there (Some x) = true

abbrev pub begins_prefix : List Token → Bool
begins_prefix [] = false
begins_prefix (t ∷ ts) = is_there (unary_of t.lexeme)

unfoldable pub operator_at : List Token → Outcome Op2
operator_at [] = Err []
operator_at (t ∷ ts) = taken (binary_of t.lexeme) t ts

unfoldable pub prefix_at : List Token → Outcome Op1
prefix_at [] = Err []
prefix_at (t ∷ ts) = taken (unary_of t.lexeme) t ts

abbrev pub scalar : Name → Deep
scalar x = record { expr = expr.Read x; depth = 1 }

abbrev pub literal : Numeral → Deep
literal n = record { expr = expr.Number n.value n.at; depth = 1 }

abbrev pub indexed : Name → Deep → Deep
indexed x d = record { expr = expr.Index x d.expr; depth = d.depth + 1 }

abbrev pub parenthesized : Deep → Deep
parenthesized d = record { expr = expr.Paren d.expr; depth = d.depth + 1 }

abbrev pub prefixed : Op1 → Deep → Deep
prefixed o d = record { expr = expr.One o d.expr; depth = d.depth + 1 }

abbrev pub joined : Op2 → Deep → Deep → Deep
joined o a b = record { expr = expr.Two o a.expr b.expr; depth = max a.depth b.depth + 1 }

unfoldable pub literal_at : List Token → Outcome Deep
literal_at ts = number_at ts >>= λ n. found (literal n.value) n.rest

-- an index or nothing behind a name
unfoldable pub behind_name : (List Token → Outcome Deep) → Name → List Token → Outcome Deep
behind_name inner x ts = if begins_sign sign.BracketOpen ts then (between sign.BracketOpen sign.BracketClose inner ts >>= λ i. found (indexed x i.value) i.rest) else found (scalar x) ts

-- a scalar or a word of an array, `( expr )`, and a prefix with what it stands before
unfoldable pub named_of : (List Token → Outcome Deep) → List Token → Outcome Deep
named_of inner ts = name_at ts >>= λ x. behind_name inner x.value x.rest

unfoldable pub paren_of : (List Token → Outcome Deep) → List Token → Outcome Deep
paren_of inner ts = between sign.ParenOpen sign.ParenClose inner ts >>= λ e. found (parenthesized e.value) e.rest

unfoldable pub prefixed_of : (List Token → Outcome Deep) → List Token → Outcome Deep
prefixed_of inner ts = do
  o ← prefix_at ts
  e ← inner o.rest
  found (prefixed o.value e.value) e.rest

-- an expression without a binary operator outside parentheses, by the reading of expressions at each level
unfoldable pub part_of : (ℕ → List Token → Outcome Deep) → List Token → Outcome Deep
part_of inner ts =
    if begins_prefix ts then prefixed_of (inner prefix_binds) ts
    else (if begins_sign sign.ParenOpen ts then paren_of (inner 0) ts else (if begins_name ts then named_of (inner 0) ts else literal_at ts))

-- What goes on behind the left part, by so many more operators at most that bind so tightly. The whole is at most so deep; what stands right of an operator binds tighter than it.
unfoldable pub joined_from : ℕ → ℕ → ℕ → (ℕ → List Token → Outcome Deep) → Deep → List Token → Outcome Deep
joined_from zero allowed level inner left ts = if begins_operator level ts then Err ts else found left ts
joined_from (suc more) allowed level inner left ts =
    if begins_operator level ts then
    (if nat_lt left.depth allowed then
    (operator_at ts >>= λ o. inner (binds o.value + 1) o.rest >>= λ right. joined_from more allowed level inner (joined o.value left right.value) right.rest)
    else Err ts)
    else found left ts

-- an expression that is at most so deep, of operators that bind at least so tightly
unfoldable pub expr_at : ℕ → ℕ → List Token → Outcome Deep
expr_at zero level ts = Err ts
expr_at (suc n) level ts = part_of (expr_at n) ts >>= λ left. joined_from (suc n) (suc n) level (expr_at n) left.value left.rest

-- an expression of allowed depth
unfoldable pub value_at : List Token → Outcome Expr
value_at ts = expr_at deepest 0 ts >>= λ d. found d.value.expr d.rest
