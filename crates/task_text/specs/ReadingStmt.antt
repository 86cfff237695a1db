-- How statements are read off the tokens.
use Rattle.std.specs.Prelude.{ℕ, zero, suc, if◌then◌else◌, List, [], length, Option, Some, None, Err}
use Rattle.ease_base.specs.declared.place.Pos.{Pos}
use Rattle.task_ast.specs.declared.tree.Ann.{Ann}
use Rattle.task_ast.specs.declared.tree.Ann.TheVariants as ann
use Rattle.task_ast.specs.declared.tree.Name.{Name}
use Rattle.task_ast.specs.declared.tree.Expr.{Expr}
use Rattle.task_ast.specs.declared.tree.Target.{Target}
use Rattle.task_ast.specs.declared.tree.Target.TheVariants as target
use Rattle.task_ast.specs.declared.tree.Place.{Place}
use Rattle.task_ast.specs.declared.tree.Place.TheVariants as place
use Rattle.task_ast.specs.declared.tree.Stmt.{Stmt}
use Rattle.task_ast.specs.declared.tree.Stmt.TheVariants as stmt
use Rattle.task_tokens.specs.declared.token.Keyword.TheVariants as keyword
use Rattle.task_tokens.specs.declared.token.Sign.TheVariants as sign
use Rattle.task_text.specs.declared.cursor.Numeral.{Numeral}
use Rattle.task_text.specs.declared.cursor.Opening.{Opening}
use Rattle.task_text.specs.declared.cursor.Opening.TheVariants as opening
use Rattle.task_text.specs.declared.loop_head.Start.{Start}
use Rattle.task_text.specs.declared.loop_head.Head.{Head}
use Rattle.task_text.specs.Reading.{Reader, chain, ◌▹◌, done, between, begins_sign, begins_reserved, begins_stmt, next_opening, sign_at, reserved_at, name_at, number_at, same_at, zero_at, many}
use Rattle.task_text.specs.ReadingExpr.{value_at}

-- ---- parts

abbrev pub index_at : Reader Expr
index_at ts = between sign.BracketOpen sign.BracketClose value_at ts

-- an index or nothing behind the name of a target, and of an address
unfoldable pub target_of : Name → Reader Target
target_of x ts = if begins_sign sign.BracketOpen ts then chain index_at (λ i. done (target.Element x i)) ts else done (target.Scalar x) ts

unfoldable pub target_at : Reader Target
target_at ts = chain name_at target_of ts

unfoldable pub address_of : Name → Reader Place
address_of x ts = if begins_sign sign.BracketOpen ts then chain index_at (λ i. done (place.Element x i)) ts else done (place.Scalar x) ts

unfoldable pub address_at : Reader Place
address_at ts = chain name_at address_of ts

unfoldable pub place_at : Reader Place
place_at ts = if begins_sign sign.Ampersand ts then (sign_at sign.Ampersand ▹ address_at) ts else chain name_at (λ x. done (place.Bare x)) ts

unfoldable pub timely_at : Reader Ann
timely_at ts = (reserved_at keyword.Timely ▹ chain (between sign.ParenOpen sign.ParenClose number_at) (λ n. done (ann.Timely n.value))) ts

unfoldable pub ann_at : Reader Ann
ann_at ts =
    if begins_reserved keyword.Single ts then (reserved_at keyword.Single ▹ done ann.Single) ts
    else (if begins_reserved keyword.Always ts then (reserved_at keyword.Always ▹ done ann.Always) ts else timely_at ts)

unfoldable pub argument_at : Reader Expr
argument_at ts = (sign_at sign.Comma ▹ value_at) ts

abbrev pub arguments_at : Reader (List Expr)
arguments_at ts = many (length ts) (begins_sign sign.Comma) argument_at ts

-- `if ( expr )`
unfoldable pub test_at : Reader Expr
test_at ts = (reserved_at keyword.If ▹ between sign.ParenOpen sign.ParenClose value_at) ts

-- `for ( NAME = 0 ;`
unfoldable pub start_at : Reader Start
start_at ts = chain (reserved_at keyword.For) (λ word. sign_at sign.ParenOpen ▹ chain name_at (λ i. sign_at sign.Equal ▹ zero_at ▹ sign_at sign.Semicolon ▹ done (record { variable = i; word = word }))) ts

-- `NAME < NUM ;` and `NAME ++ )`, with this name
unfoldable pub bound_at : List ℕ → Reader Numeral
bound_at text ts = (same_at text ▹ sign_at sign.Less ▹ chain number_at (λ n. sign_at sign.Semicolon ▹ done n)) ts

unfoldable pub step_at : List ℕ → Reader Pos
step_at text ts = (same_at text ▹ sign_at sign.PlusPlus ▹ sign_at sign.ParenClose) ts

unfoldable pub head_at : Reader Head
head_at ts = chain start_at (λ s. chain (bound_at s.variable.text) (λ n. step_at s.variable.text ▹ done (record { variable = s.variable; turns = n; word = s.word }))) ts

-- ---- statements

unfoldable pub call_at : Option Target → Reader Stmt
call_at x ts =
    chain (reserved_at keyword.Io) (λ at. sign_at sign.ParenOpen ▹ chain name_at (λ p. sign_at sign.Comma ▹ chain ann_at (λ a. chain arguments_at
    (λ args. sign_at sign.ParenClose ▹ sign_at sign.Semicolon ▹ done (stmt.Io x p a args at))))) ts

-- what a target is set to: an address, for a pointer, or a value
unfoldable pub setting_of : Target → Reader Stmt
setting_of (target.Scalar p) ts = (sign_at sign.Ampersand ▹ chain address_at (λ to. sign_at sign.Semicolon ▹ done (stmt.Point p to))) ts
setting_of (target.Element x i) ts = Err ts

unfoldable pub giving_of : Target → Reader Stmt
giving_of x ts = chain value_at (λ e. sign_at sign.Semicolon ▹ done (stmt.Assign x e)) ts

unfoldable pub assigned_of : Target → Reader Stmt
assigned_of x ts = if begins_reserved keyword.Io ts then call_at (Some x) ts else (if begins_sign sign.Ampersand ts then setting_of x ts else giving_of x ts)

unfoldable pub assigning_at : Reader Stmt
assigning_at ts = chain target_at (λ x. sign_at sign.Equal ▹ assigned_of x) ts

unfoldable pub copy_at : Reader Stmt
copy_at ts =
    chain (reserved_at keyword.Dma) (λ at. sign_at sign.ParenOpen ▹ chain place_at (λ to. sign_at sign.Comma ▹ chain place_at (λ from. sign_at sign.Comma ▹ chain value_at
    (λ n. sign_at sign.ParenClose ▹ sign_at sign.Semicolon ▹ done (stmt.Dma to from n at))))) ts

-- `{ statements }`, by the reading of one
abbrev pub stmts_of : Reader Stmt → Reader (List Stmt)
stmts_of item ts = many (length ts) begins_stmt item ts

abbrev pub body_of : Reader Stmt → Reader (List Stmt)
body_of item ts = between sign.BraceOpen sign.BraceClose (stmts_of item) ts

unfoldable pub block_of : Reader Stmt → Reader Stmt
block_of item ts = chain (reserved_at keyword.IoBlock) (λ at. chain (between sign.ParenOpen sign.ParenClose ann_at) (λ a. chain (body_of item) (λ body. done (stmt.Block a body at)))) ts

-- `else` and a body, or nothing
unfoldable pub else_of : Reader Stmt → Reader (List Stmt)
else_of item ts = if begins_reserved keyword.Else ts then (reserved_at keyword.Else ▹ body_of item) ts else done [] ts

-- the bodies of an `if`, behind its condition
unfoldable pub choice_of : Reader Stmt → Expr → Reader Stmt
choice_of item c ts = chain (body_of item) (λ yes_part. chain (else_of item) (λ no_part. done (stmt.If c yes_part no_part))) ts

unfoldable pub if_of : Reader Stmt → Reader Stmt
if_of item ts = chain test_at (choice_of item) ts

unfoldable pub loop_of : Reader Stmt → Reader Stmt
loop_of item ts = chain head_at (λ h. chain (body_of item) (λ body. done (stmt.For h.variable h.turns.value h.turns.at body h.word))) ts

-- the statement that begins so, by the reading of those inside
abbrev pub stmt_of : Opening → Reader Stmt → Reader Stmt
stmt_of opening.Assignment item ts = assigning_at ts
stmt_of opening.Call item ts = call_at None ts
stmt_of opening.Copy item ts = copy_at ts
stmt_of opening.Block item ts = block_of item ts
stmt_of opening.If item ts = if_of item ts
stmt_of opening.Loop item ts = loop_of item ts
stmt_of opening.Nothing item ts = Err ts

-- a statement where so many levels of nesting are left, its own among them
unfoldable pub stmt_at : ℕ → Reader Stmt
stmt_at zero ts = Err ts
stmt_at (suc n) ts = stmt_of (next_opening ts) (stmt_at n) ts
