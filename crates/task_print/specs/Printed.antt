-- The printed text of a program: its tokens with a space between any two, and a line feed at the end
-- (docs/LANGUAGE.md, "The printed form").
use Rattle.std.specs.Prelude.{◌≡◌, ℕ, ◌-◌, List, [], ◌∷◌, ◌++◌, length, take, Option, Some, None}
use Rattle.std.specs.List.{flat_map}
use Rattle.std.proofs.Common.{refl, ap, ◌∙◌}
use Rattle.ease_base.specs.declared.place.Pos.{Pos}
use Rattle.task_ast.specs.declared.tree.Kind.{Kind}
use Rattle.task_ast.specs.declared.tree.Kind.TheVariants as kind
use Rattle.task_ast.specs.declared.tree.Name.{Name}
use Rattle.task_ast.specs.declared.tree.Expr.{Expr, end_of-Expr, more_of-Expr}
use Rattle.task_ast.specs.declared.tree.Expr.TheVariants as expr
use Rattle.task_ast.specs.declared.tree.Target.{Target}
use Rattle.task_ast.specs.declared.tree.Target.TheVariants as target
use Rattle.task_ast.specs.declared.tree.Ann.{Ann}
use Rattle.task_ast.specs.declared.tree.Ann.TheVariants as ann
use Rattle.task_ast.specs.declared.tree.Place.{Place}
use Rattle.task_ast.specs.declared.tree.Place.TheVariants as place
use Rattle.task_ast.specs.declared.tree.Stmt.{Stmt, Row_of-Stmt, end_of-Stmt, more_of-Stmt, items-the_row-Stmt}
use Rattle.task_ast.specs.declared.tree.Stmt.TheVariants as stmt
use Rattle.task_ast.specs.declared.tree.Exit.{Exit, end_of-Exit, more_of-Exit}
use Rattle.task_ast.specs.declared.tree.Exit.TheVariants as exit
use Rattle.task_ast.specs.declared.tree.Decl.{Decl}
use Rattle.task_ast.specs.declared.tree.Decl.TheVariants as decl
use Rattle.task_ast.specs.declared.tree.Task.{Task}
use Rattle.task_ast.specs.declared.tree.Program.{Program}
use Rattle.task_ast.specs.Rows.{row_of, row_shows}
use Rattle.task_tokens.specs.declared.token.Keyword.{Keyword}
use Rattle.task_tokens.specs.declared.token.Keyword.TheVariants as keyword
use Rattle.task_tokens.specs.declared.token.Sign.{Sign}
use Rattle.task_tokens.specs.declared.token.Sign.TheVariants as sign
use Rattle.task_tokens.specs.declared.token.Lexeme.{Lexeme}
use Rattle.task_tokens.specs.declared.token.Lexeme.TheVariants as lexeme
use Rattle.task_tokens.specs.Spaced.{spelling, spaced}
use Rattle.task_text.specs.Grammar.{sign_of, prefix_of}

-- a reserved word and a sign, as the one token of a list
abbrev pub word : Keyword → List Lexeme
word k = lexeme.Reserved k ∷ []

abbrev pub mark : Sign → List Lexeme
mark s = lexeme.Symbol s ∷ []

-- a name and a number
abbrev pub named : Name → List Lexeme
named x = lexeme.Name x.text ∷ []

abbrev pub numbered : ℕ → List Lexeme
numbered n = lexeme.Number n ∷ []

-- tokens in `( )`, `[ ]` and `{ }`
abbrev pub parenthesized : List Lexeme → List Lexeme
parenthesized inner = mark sign.ParenOpen ++ inner ++ mark sign.ParenClose

abbrev pub bracketed : List Lexeme → List Lexeme
bracketed inner = mark sign.BracketOpen ++ inner ++ mark sign.BracketClose

abbrev pub braced : List Lexeme → List Lexeme
braced inner = mark sign.BraceOpen ++ inner ++ mark sign.BraceClose

-- the tokens of an expression
abbrev pub expr_tokens : Expr → List Lexeme
expr_tokens (expr.Number n at) = numbered n
expr_tokens (expr.Read x) = named x
expr_tokens (expr.Index' x u (more_of-Expr i end_of-Expr)) = named x ++ bracketed (expr_tokens i)
expr_tokens (expr.Paren' u (more_of-Expr e end_of-Expr)) = parenthesized (expr_tokens e)
expr_tokens (expr.One' o u (more_of-Expr e end_of-Expr)) = mark (prefix_of o) ++ expr_tokens e
expr_tokens (expr.Two' o u (more_of-Expr a end_of-Expr) v (more_of-Expr b end_of-Expr)) = expr_tokens a ++ mark (sign_of o) ++ expr_tokens b

-- the tokens of a target
abbrev pub target_tokens : Target → List Lexeme
target_tokens (target.Scalar x) = named x
target_tokens (target.Element x i) = named x ++ bracketed (expr_tokens i)

-- the tokens of what an address is taken of
abbrev pub address_tokens : Place → List Lexeme
address_tokens (place.Bare x) = named x
address_tokens (place.Scalar x) = named x
address_tokens (place.Element x i) = named x ++ bracketed (expr_tokens i)

-- the tokens of an end of a copy
abbrev pub place_tokens : Place → List Lexeme
place_tokens (place.Bare x) = named x
place_tokens (place.Scalar x) = mark sign.Ampersand ++ named x
place_tokens (place.Element x i) = mark sign.Ampersand ++ named x ++ bracketed (expr_tokens i)

-- the tokens of an annotation
abbrev pub ann_tokens : Ann → List Lexeme
ann_tokens ann.Single = word keyword.Single
ann_tokens ann.Always = word keyword.Always
ann_tokens (ann.Timely n) = word keyword.Timely ++ parenthesized (numbered n)

-- `x =` before a reading that sets a target, and nothing before another
abbrev pub reading_tokens : Option Target → List Lexeme
reading_tokens None = []
reading_tokens (Some x) = target_tokens x ++ mark sign.Equal

-- `, expr`
abbrev pub argument_tokens : Expr → List Lexeme
argument_tokens e = mark sign.Comma ++ expr_tokens e

-- `for ( i = 0 ;`, `i < turns ;` and `i ++ )`
abbrev pub setting : Name → List Lexeme
setting i = word keyword.For ++ mark sign.ParenOpen ++ named i ++ mark sign.Equal ++ numbered 0 ++ mark sign.Semicolon

abbrev pub testing : Name → ℕ → List Lexeme
testing i turns = named i ++ mark sign.Less ++ numbered turns ++ mark sign.Semicolon

abbrev pub stepping : Name → List Lexeme
stepping i = named i ++ mark sign.PlusPlus ++ mark sign.ParenClose

-- the head of a loop
abbrev pub head_tokens : Name → ℕ → List Lexeme
head_tokens i turns = setting i ++ testing i turns ++ stepping i

abbrev mutual
  -- the tokens of a statement
  pub stmt_tokens : Stmt → List Lexeme
  stmt_tokens (stmt.Assign x e) = target_tokens x ++ mark sign.Equal ++ expr_tokens e ++ mark sign.Semicolon
  stmt_tokens (stmt.If' c m yes_row n no_row) = word keyword.If ++ parenthesized (expr_tokens c) ++ braced (row_tokens yes_row) ++ else_row no_row
  stmt_tokens (stmt.For' i turns at m row word_at) = head_tokens i turns ++ braced (row_tokens row)
  stmt_tokens (stmt.Point p to) = named p ++ mark sign.Equal ++ mark sign.Ampersand ++ address_tokens to ++ mark sign.Semicolon
  stmt_tokens (stmt.Io x p a args at) =
      reading_tokens x ++ word keyword.Io ++ mark sign.ParenOpen ++ named p ++ mark sign.Comma ++ ann_tokens a ++ flat_map argument_tokens args ++ mark sign.ParenClose ++ mark sign.Semicolon
  stmt_tokens (stmt.Block' a m row at) = word keyword.IoBlock ++ parenthesized (ann_tokens a) ++ braced (row_tokens row)
  stmt_tokens (stmt.Dma to from n at) =
      word keyword.Dma ++ mark sign.ParenOpen ++ place_tokens to ++ mark sign.Comma ++ place_tokens from ++ mark sign.Comma ++ expr_tokens n ++ mark sign.ParenClose ++ mark sign.Semicolon

  -- the tokens of a row's statements
  pub row_tokens : {n : _} → Row_of-Stmt n → List Lexeme
  row_tokens end_of-Stmt = []
  row_tokens (more_of-Stmt s rest) = stmt_tokens s ++ row_tokens rest

  -- nothing for no statements, else `else { statements }`
  pub else_row : {n : _} → Row_of-Stmt n → List Lexeme
  else_row end_of-Stmt = []
  else_row (more_of-Stmt s rest) = word keyword.Else ++ braced (stmt_tokens s ++ row_tokens rest)

-- the tokens of statements, one after another
abbrev pub body_tokens : List Stmt → List Lexeme
body_tokens body = flat_map stmt_tokens body

-- nothing for no statements, else `else { statements }`
abbrev pub else_tokens : List Stmt → List Lexeme
else_tokens [] = []
else_tokens (s ∷ body) = word keyword.Else ++ braced (body_tokens (s ∷ body))

-- the tokens of an exit
abbrev pub exit_tokens : Exit → List Lexeme
exit_tokens (exit.Next x) = word keyword.Next ++ parenthesized (named x) ++ mark sign.Semicolon
exit_tokens exit.Stop = word keyword.Stop ++ mark sign.Semicolon
exit_tokens (exit.Choose' c u (more_of-Exit a end_of-Exit) v (more_of-Exit b end_of-Exit)) =
    word keyword.If ++ parenthesized (expr_tokens c) ++ exit_tokens a ++ word keyword.Else ++ exit_tokens b

-- `const nv`, `nv`, or nothing where the words are volatile
abbrev pub kind_tokens : Kind → List Lexeme
kind_tokens kind.Const = word keyword.Const ++ word keyword.Nv
kind_tokens kind.Nv = word keyword.Nv
kind_tokens kind.Vol = []

-- `[ NUM ]`, or nothing
abbrev pub size_tokens : Option ℕ → List Lexeme
size_tokens None = []
size_tokens (Some n) = bracketed (numbered n)

-- `, NUM`
abbrev pub next_tokens : ℕ → List Lexeme
next_tokens n = mark sign.Comma ++ numbered n

-- nothing, `= NUM`, or `= { NUM , .. }` for several
abbrev pub init_tokens : List ℕ → List Lexeme
init_tokens [] = []
init_tokens (n ∷ []) = mark sign.Equal ++ numbered n
init_tokens (n ∷ m ∷ ns) = mark sign.Equal ++ braced (numbered n ++ flat_map next_tokens (m ∷ ns))

-- a declaration
abbrev pub decl_tokens : Decl → List Lexeme
decl_tokens (decl.Words k x size values) = kind_tokens k ++ word keyword.Word ++ named x ++ size_tokens size ++ init_tokens values ++ mark sign.Semicolon
decl_tokens (decl.Pointer x) = word keyword.Word ++ mark sign.Star ++ named x ++ mark sign.Semicolon
decl_tokens (decl.Peripheral x n) = word keyword.Peripheral ++ named x ++ numbered n ++ mark sign.Semicolon

-- `task NAME { statements exit }`
abbrev pub task_tokens : Task → List Lexeme
task_tokens t = word keyword.Task ++ named t.name ++ braced (body_tokens t.body ++ exit_tokens t.exit)

-- declarations, then tasks
abbrev pub program_tokens : Program → List Lexeme
program_tokens p = flat_map decl_tokens p.decls ++ flat_map task_tokens p.tasks

-- tokens with a space behind each
abbrev pub trailed : List Lexeme → List ℕ
trailed xs = flat_map (λ x. spelling x ++ 32 ∷ []) xs

-- the text with tokens put behind it
abbrev pub Puts : List ℕ → List Lexeme → List ℕ → Type 0
Puts before xs after = after ≡ before ++ trailed xs

-- a text with a line feed in place of its last byte
abbrev pub with_end : List ℕ → List ℕ
with_end text = take (length text - 1) text ++ 10 ∷ []

-- the printed text of a program
unfoldable pub printed : Program → List ℕ
printed p = spaced (program_tokens p)

-- the tokens of a row are those of the statements that it shows
row_is : (n : _) (row : Row_of-Stmt n) → row_tokens row ≡ body_tokens (items-the_row-Stmt n row)
row_is n end_of-Stmt = refl
row_is n (more_of-Stmt s rest) = ap (λ (ts : List Lexeme). stmt_tokens s ++ ts) (row_is _ rest)

body_is : (body : List Stmt) → row_tokens (row_of body).1 ≡ body_tokens body
body_is body = row_is (row_of body).0 (row_of body).1 ∙ ap body_tokens (row_shows body)

else_is : (n : _) (row : Row_of-Stmt n) → else_row row ≡ else_tokens (items-the_row-Stmt n row)
else_is n end_of-Stmt = refl
else_is n (more_of-Stmt s rest) = ap (λ (ts : List Lexeme). word keyword.Else ++ braced (stmt_tokens s ++ ts)) (row_is _ rest)

else_body_is : (body : List Stmt) → else_row (row_of body).1 ≡ else_tokens body
else_body_is body = else_is (row_of body).0 (row_of body).1 ∙ ap else_tokens (row_shows body)

-- the tokens of an `if`
pub tokens_if : (c : Expr) (yes_part no_part : List Stmt) → stmt_tokens (stmt.If c yes_part no_part)
    ≡ word keyword.If ++ parenthesized (expr_tokens c) ++ braced (body_tokens yes_part) ++ else_tokens no_part
tokens_if c yes_part no_part = λ i. word keyword.If ++ parenthesized (expr_tokens c) ++ braced (body_is yes_part i) ++ else_body_is no_part i

-- the tokens of a loop
pub tokens_for : (i : Name) (turns : ℕ) (at : Pos) (body : List Stmt) (word_at : Pos) → stmt_tokens (stmt.For i turns at body word_at) ≡ head_tokens i turns ++ braced (body_tokens body)
tokens_for i turns at body word_at = λ j. head_tokens i turns ++ braced (body_is body j)

-- the tokens of a block
pub tokens_block : (a : Ann) (body : List Stmt) (at : Pos) → stmt_tokens (stmt.Block a body at) ≡ word keyword.IoBlock ++ parenthesized (ann_tokens a) ++ braced (body_tokens body)
tokens_block a body at = λ i. word keyword.IoBlock ++ parenthesized (ann_tokens a) ++ braced (body_is body i)
