-- The grammar: which tokens are which tree (docs/LANGUAGE.md, "Grammar").
use Rattle.std.specs.Prelude.{◌≡◌, ℕ, zero, suc, ◌+◌, ◌<◌, ◌≤◌, List, [], ◌∷◌, ◌++◌, length, Option, Some, None}
use Rattle.ease_base.specs.declared.place.Pos.{Pos}
use Rattle.task_ast.specs.declared.tree.Op1.{Op1}
use Rattle.task_ast.specs.declared.tree.Op1.TheVariants as op1
use Rattle.task_ast.specs.declared.tree.Op2.{Op2}
use Rattle.task_ast.specs.declared.tree.Op2.TheVariants as op
use Rattle.task_ast.specs.declared.tree.Kind.{Kind}
use Rattle.task_ast.specs.declared.tree.Kind.TheVariants as kind
use Rattle.task_ast.specs.declared.tree.Ann.{Ann}
use Rattle.task_ast.specs.declared.tree.Ann.TheVariants as ann
use Rattle.task_ast.specs.declared.tree.Expr.{Expr, end_of-Expr, more_of-Expr}
use Rattle.task_ast.specs.declared.tree.Expr.TheVariants as expr
use Rattle.task_ast.specs.declared.tree.Target.{Target}
use Rattle.task_ast.specs.declared.tree.Target.TheVariants as target
use Rattle.task_ast.specs.declared.tree.Place.{Place}
use Rattle.task_ast.specs.declared.tree.Place.TheVariants as place
use Rattle.task_ast.specs.declared.tree.Stmt.{Stmt}
use Rattle.task_ast.specs.declared.tree.Stmt.TheVariants as stmt
use Rattle.task_ast.specs.declared.tree.Exit.{Exit}
use Rattle.task_ast.specs.declared.tree.Exit.TheVariants as exit
use Rattle.task_ast.specs.declared.tree.Decl.{Decl}
use Rattle.task_ast.specs.declared.tree.Decl.TheVariants as decl
use Rattle.task_ast.specs.declared.tree.Task.{Task}
use Rattle.task_ast.specs.declared.tree.Program.{Program}
use Rattle.task_ast.specs.Readable.{depth, deepest, most_nested}
use Rattle.task_tokens.specs.declared.token.Keyword.TheVariants as keyword
use Rattle.task_tokens.specs.declared.token.Sign.{Sign}
use Rattle.task_tokens.specs.declared.token.Sign.TheVariants as sign
use Rattle.task_tokens.specs.declared.token.Token.{Token}
use Rattle.task_text.specs.declared.cursor.Numeral.{Numeral}
use Rattle.task_text.specs.declared.loop_head.Start.{Start}
use Rattle.task_text.specs.declared.loop_head.Head.{Head}
use Rattle.task_text.specs.declared.task.Body.{Body}
use Rattle.task_text.specs.Forms.{symbol, number, name, Form, Word, Mark, Named, Numbered, Zero, Same, Done, Then, ◌▸◌, Either, AreAll, IsBetween, Enclosed}

-- the sign of each binary operator, and how tightly it binds, from 0
abbrev pub operator : Op2 → Sign × ℕ
operator op.Either = (sign.BarBar, 0)
operator op.Both = (sign.AmpersandAmpersand, 1)
operator op.Or = (sign.Bar, 2)
operator op.Xor = (sign.Caret, 3)
operator op.And = (sign.Ampersand, 4)
operator op.Eq = (sign.EqualEqual, 5)
operator op.Ne = (sign.BangEqual, 5)
operator op.Lt = (sign.Less, 6)
operator op.Le = (sign.LessEqual, 6)
operator op.Gt = (sign.Greater, 6)
operator op.Ge = (sign.GreaterEqual, 6)
operator op.Shl = (sign.LessLess, 7)
operator op.Shr = (sign.GreaterGreater, 7)
operator op.Add = (sign.Plus, 8)
operator op.Sub = (sign.Minus, 8)
operator op.Mul = (sign.Star, 9)
operator op.Div = (sign.Slash, 9)
operator op.Rem = (sign.Percent, 9)

abbrev pub sign_of : Op2 → Sign
sign_of o = (operator o).0

abbrev pub binds : Op2 → ℕ
binds o = (operator o).1

-- the sign of each prefix
abbrev pub prefix_of : Op1 → Sign
prefix_of op1.Not = sign.Bang
prefix_of op1.Inv = sign.Tilde
prefix_of op1.Neg = sign.Minus

-- prefixes bind tighter than every binary operator
abbrev pub prefix_binds : ℕ
prefix_binds = 10

-- such tokens in `( )`, `[ ]` and `{ }`
abbrev pub IsParenthesized : (List Token → Type 0) → List Token → Type 0
IsParenthesized P tokens = IsBetween sign.ParenOpen sign.ParenClose P tokens

abbrev pub IsBracketed : (List Token → Type 0) → List Token → Type 0
IsBracketed P tokens = IsBetween sign.BracketOpen sign.BracketClose P tokens

abbrev pub IsBraced : (List Token → Type 0) → List Token → Type 0
IsBraced P tokens = IsBetween sign.BraceOpen sign.BraceClose P tokens

-- An expression of operators that bind at least so tightly. A binary operator joins to the left.
abbrev pub IsExpr : Expr → ℕ → List Token → Type 0
IsExpr (expr.Number n at) level tokens = tokens ≡ number n at ∷ []
IsExpr (expr.Read x) level tokens = tokens ≡ name x ∷ []
IsExpr (expr.Index' x u (more_of-Expr i end_of-Expr)) level tokens = (index : List Token) × (tokens ≡ name x ∷ index) × IsBracketed (IsExpr i 0) index
IsExpr (expr.Paren' u (more_of-Expr e end_of-Expr)) level tokens = IsParenthesized (IsExpr e 0) tokens
IsExpr (expr.One' o u (more_of-Expr e end_of-Expr)) level tokens = (at : Pos) × (inner : List Token) × (tokens ≡ symbol (prefix_of o) at ∷ inner) × (level ≤ prefix_binds) × IsExpr e prefix_binds inner
IsExpr (expr.Two' o u (more_of-Expr a end_of-Expr) v (more_of-Expr b end_of-Expr)) level tokens = (at : Pos) × (left right : List Token) × (tokens ≡ left ++ symbol (sign_of o) at ∷ right) × (level ≤ binds o) × IsExpr a (binds o) left × IsExpr b (binds o + 1) right

-- an expression of allowed depth
abbrev pub IsValue : Form Expr
IsValue e tokens = IsExpr e 0 tokens × (depth e ≤ deepest)

-- `[ expr ]`
abbrev pub IsIndex : Form Expr
IsIndex = Enclosed sign.BracketOpen sign.BracketClose IsValue

-- ---- declarations

-- `const nv`, `nv`, or nothing where the words are volatile
abbrev pub IsKind : Form Kind
IsKind = Either (Word keyword.Const ▸ Word keyword.Nv ▸ Done kind.Const) (Either (Word keyword.Nv ▸ Done kind.Nv) (Done kind.Vol))

-- `[ NUM ]`, or nothing
abbrev pub IsSize : Form (Option ℕ)
IsSize = Either (Then (Enclosed sign.BracketOpen sign.BracketClose Numbered) (λ n. Done (Some n.value))) (Done None)

-- `, NUM`
abbrev pub IsNextValue : Form ℕ
IsNextValue = Mark sign.Comma ▸ Then Numbered (λ n. Done n.value)

-- `NUM { , NUM }`
abbrev pub AreValues : Form (List ℕ)
AreValues = Then Numbered (λ n. Then (AreAll IsNextValue) (λ ns. Done (n.value ∷ ns)))

-- values in braces, or one alone
abbrev pub IsList : Form (List ℕ)
IsList = Either (Enclosed sign.BraceOpen sign.BraceClose AreValues) (Then Numbered (λ n. Done (n.value ∷ [])))

-- `=` and values, or nothing
abbrev pub IsInit : Form (List ℕ)
IsInit = Either (Mark sign.Equal ▸ IsList) (Done [])

-- `NAME size init ;`, behind `word`
abbrev pub IsDeclared : Kind → Form Decl
IsDeclared k = Then Named (λ x. Then IsSize (λ n. Then IsInit (λ values. Mark sign.Semicolon ▸ Done (decl.Words k x n values))))

-- `* NAME ;`, behind `word`
abbrev pub IsPointer : Form Decl
IsPointer = Mark sign.Star ▸ Then Named (λ x. Mark sign.Semicolon ▸ Done (decl.Pointer x))

-- what may stand behind `word`: a pointer is volatile
abbrev pub IsWorded : Kind → Form Decl
IsWorded kind.Const = IsDeclared kind.Const
IsWorded kind.Nv = IsDeclared kind.Nv
IsWorded kind.Vol = Either IsPointer (IsDeclared kind.Vol)

-- `peripheral NAME NUM ;`
abbrev pub IsPeripheral : Form Decl
IsPeripheral = Word keyword.Peripheral ▸ Then Named (λ x. Then Numbered (λ n. Mark sign.Semicolon ▸ Done (decl.Peripheral x n.value)))

-- a declaration
abbrev pub IsDecl : Form Decl
IsDecl = Either IsPeripheral (Then IsKind (λ k. Word keyword.Word ▸ IsWorded k))

-- ---- parts of statements

-- `NAME` or `NAME [ expr ]`, which is assigned
abbrev pub IsTarget : Form Target
IsTarget = Then Named (λ x. Either (Then IsIndex (λ i. Done (target.Element x i))) (Done (target.Scalar x)))

-- the same, whose address is taken
abbrev pub IsAddress : Form Place
IsAddress = Then Named (λ x. Either (Then IsIndex (λ i. Done (place.Element x i))) (Done (place.Scalar x)))

-- an end of a copy: `NAME`, `& NAME` or `& NAME [ expr ]`
abbrev pub IsPlace : Form Place
IsPlace = Either (Mark sign.Ampersand ▸ IsAddress) (Then Named (λ x. Done (place.Bare x)))

-- `SINGLE`, `ALWAYS` or `TIMELY ( NUM )`
abbrev pub IsAnn : Form Ann
IsAnn =
    Either (Word keyword.Single ▸ Done ann.Single) (Either (Word keyword.Always ▸ Done ann.Always)
    (Word keyword.Timely ▸ Then (Enclosed sign.ParenOpen sign.ParenClose Numbered) (λ n. Done (ann.Timely n.value))))

-- `, expr`
abbrev pub IsArgument : Form Expr
IsArgument = Mark sign.Comma ▸ IsValue

-- `if ( expr )`
abbrev pub IsTest : Form Expr
IsTest = Word keyword.If ▸ Enclosed sign.ParenOpen sign.ParenClose IsValue

-- `for ( NAME = 0 ;`
abbrev pub IsStart : Form Start
IsStart = Then (Word keyword.For) (λ word. Mark sign.ParenOpen ▸ Then Named (λ i. Mark sign.Equal ▸ Zero ▸ Mark sign.Semicolon ▸ Done (record { variable = i; word = word })))

-- `NAME < NUM ;` and `NAME ++ )`, with this name again
abbrev pub IsBound : List ℕ → Form Numeral
IsBound text = Same text ▸ Mark sign.Less ▸ Then Numbered (λ n. Mark sign.Semicolon ▸ Done n)

abbrev pub IsStep : List ℕ → Form Pos
IsStep text = Same text ▸ Mark sign.PlusPlus ▸ Mark sign.ParenClose

-- the three together
abbrev pub IsHead : Form Head
IsHead = Then IsStart (λ s. Then (IsBound s.variable.text) (λ n. IsStep s.variable.text ▸ Done (record { variable = s.variable; turns = n; word = s.word })))

-- ---- statements

-- `IO ( NAME , annotation { , expr } ) ;`, which may set a target
abbrev pub IsCall : Option Target → Form Stmt
IsCall x =
    Then (Word keyword.Io) (λ at. Mark sign.ParenOpen ▸ Then Named (λ p. Mark sign.Comma ▸ Then IsAnn (λ a. Then (AreAll IsArgument)
    (λ args. Mark sign.ParenClose ▸ Mark sign.Semicolon ▸ Done (stmt.Io x p a args at)))))

-- `& NAME ;` or `& NAME [ expr ] ;`, to which a pointer is set
abbrev pub IsSetting : Target → Form Stmt
IsSetting (target.Scalar p) y tokens = (Mark sign.Ampersand ▸ Then IsAddress (λ to. Mark sign.Semicolon ▸ Done (stmt.Point p to))) y tokens
IsSetting (target.Element x i) y tokens = ⊥

-- `expr ;`, which a target is set to
abbrev pub IsGiving : Target → Form Stmt
IsGiving x = Then IsValue (λ e. Mark sign.Semicolon ▸ Done (stmt.Assign x e))

-- a target, `=`, and what it is set to
abbrev pub IsAssigning : Form Stmt
IsAssigning = Then IsTarget (λ x. Mark sign.Equal ▸ Either (IsCall (Some x)) (Either (IsSetting x) (IsGiving x)))

-- `DMA ( place , place , expr ) ;`
abbrev pub IsCopy : Form Stmt
IsCopy =
    Then (Word keyword.Dma) (λ at. Mark sign.ParenOpen ▸ Then IsPlace (λ to. Mark sign.Comma ▸ Then IsPlace (λ from. Mark sign.Comma ▸ Then IsValue
    (λ n. Mark sign.ParenClose ▸ Mark sign.Semicolon ▸ Done (stmt.Dma to from n at)))))

-- statements in braces, of this form each
abbrev pub IsBody : Form Stmt → Form (List Stmt)
IsBody P = Enclosed sign.BraceOpen sign.BraceClose (AreAll P)

-- `IO_BLOCK ( annotation ) { statements }`
abbrev pub IsBlock : Form Stmt → Form Stmt
IsBlock P = Then (Word keyword.IoBlock) (λ at. Then (Enclosed sign.ParenOpen sign.ParenClose IsAnn) (λ a. Then (IsBody P) (λ body. Done (stmt.Block a body at))))

-- `else { statements }`, or nothing
abbrev pub IsElse : Form Stmt → Form (List Stmt)
IsElse P = Either (Word keyword.Else ▸ IsBody P) (Done [])

-- the bodies of an `if`, behind its condition
abbrev pub IsChoice : Form Stmt → Expr → Form Stmt
IsChoice P c = Then (IsBody P) (λ yes_part. Then (IsElse P) (λ no_part. Done (stmt.If c yes_part no_part)))

-- `if ( expr ) { statements }`, and `else`
abbrev pub IsIf : Form Stmt → Form Stmt
IsIf P = Then IsTest (IsChoice P)

-- `for (..) { statements }`
abbrev pub IsLoop : Form Stmt → Form Stmt
IsLoop P = Then IsHead (λ h. Then (IsBody P) (λ body. Done (stmt.For h.variable h.turns.value h.turns.at body h.word)))

-- a statement that may nest so deep, which is 1 where it has no statements inside
unfoldable pub IsStmt : ℕ → Form Stmt
IsStmt zero s tokens = ⊥
IsStmt (suc n) s tokens = Either IsAssigning (Either (IsCall None) (Either IsCopy (Either (IsBlock (IsStmt n)) (Either (IsIf (IsStmt n)) (IsLoop (IsStmt n)))))) s tokens

-- ---- exits, tasks and programs

-- `NEXT ( NAME ) ;` or `STOP ;`
abbrev pub IsLeave : Form Exit
IsLeave =
    Either (Word keyword.Next ▸ Mark sign.ParenOpen ▸ Then Named (λ x. Mark sign.ParenClose ▸ Mark sign.Semicolon ▸ Done (exit.Next x)))
    (Word keyword.Stop ▸ Mark sign.Semicolon ▸ Done exit.Stop)

-- `exit else exit`, behind a condition
abbrev pub IsChosen : Form Exit → Expr → Form Exit
IsChosen P c = Then P (λ a. Word keyword.Else ▸ Then P (λ b. Done (exit.Choose c a b)))

-- an exit with at most so many `if`s on each path
unfoldable pub IsExit : ℕ → Form Exit
IsExit zero e tokens = IsLeave e tokens
IsExit (suc n) e tokens = Either (Then IsTest (IsChosen (IsExit n))) IsLeave e tokens

-- the statements of a task and its exit
abbrev pub IsWork : Form Body
IsWork = Then (AreAll (IsStmt most_nested)) (λ stmts. Then (IsExit most_nested) (λ e. Done (record { stmts = stmts; exit = e })))

-- `task NAME { statements exit }`
abbrev pub IsTask : Form Task
IsTask = Word keyword.Task ▸ Then Named (λ x. Mark sign.BraceOpen ▸ Then IsWork (λ b. Then (Mark sign.BraceClose) (λ close. Done (record { name = x; body = b.stmts; exit = b.exit; close = close }))))

-- declarations, then one or more tasks
pub record IsProgram (p : Program) (tokens : List Token) : Type 0 where
  pub front : List Token
  pub back : List Token
  pub whole : tokens ≡ front ++ back
  pub decls : AreAll IsDecl p.decls front
  pub tasks : AreAll IsTask p.tasks back
  pub some : 0 < length p.tasks
