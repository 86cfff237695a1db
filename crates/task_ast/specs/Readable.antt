-- What every tree meets that some text has: names are name tokens, numbers fit a word, and no part is too deep
-- (docs/LANGUAGE.md, "Grammar").
use Rattle.std.specs.Prelude.{◌≡◌, ◌+◌, ◌^◌, ◌<◌, ◌≤◌, ℕ, max, List, length}
use Rattle.std.specs.List.{AllByRecursion}
use Rattle.std.specs.Option.{ForSome}
use Rattle.std.proofs.Common.{refl, ap, ◌∙◌}
use Rattle.ease_base.specs.declared.place.Pos.{Pos}
use Rattle.task_ast.specs.declared.limits.TheConstants.{DEEPEST, MOST_NESTED}
use Rattle.task_ast.specs.declared.tree.Ann.{Ann}
use Rattle.task_ast.specs.declared.tree.Ann.TheVariants.{Single, Timely, Always}
use Rattle.task_ast.specs.declared.tree.Name.{Name}
use Rattle.task_ast.specs.declared.tree.Expr.{Expr, end_of-Expr, more_of-Expr}
use Rattle.task_ast.specs.declared.tree.Expr.TheVariants as expr
use Rattle.task_ast.specs.declared.tree.Target.{Target}
use Rattle.task_ast.specs.declared.tree.Target.TheVariants as target
use Rattle.task_ast.specs.declared.tree.Place.{Place}
use Rattle.task_ast.specs.declared.tree.Place.TheVariants as place
use Rattle.task_ast.specs.declared.tree.Stmt.{Stmt, Row_of-Stmt, end_of-Stmt, more_of-Stmt, items-the_row-Stmt}
use Rattle.task_ast.specs.declared.tree.Stmt.TheVariants as stmt
use Rattle.task_ast.specs.declared.tree.Exit.{Exit, end_of-Exit, more_of-Exit}
use Rattle.task_ast.specs.declared.tree.Exit.TheVariants as exit
use Rattle.task_ast.specs.declared.tree.Decl.{Decl}
use Rattle.task_ast.specs.declared.tree.Decl.TheVariants as decl
use Rattle.task_ast.specs.declared.tree.Task.{Task}
use Rattle.task_ast.specs.declared.tree.Program.{Program}
use Rattle.task_ast.specs.NameToken.{IsNameToken}
use Rattle.task_ast.specs.Rows.{row_of, row_shows}
use Rattle.task_ast.specs.Sizes.{program_size}

-- a number that fits a word
abbrev pub IsWord : ℕ → Type 0
IsWord n = n < 2 ^ 32

-- A number or a scalar is 1 deep, anything else one deeper than its deepest part.
abbrev pub depth : Expr → ℕ
depth (expr.Number n at) = 1
depth (expr.Read x) = 1
depth (expr.Index' x u (more_of-Expr i end_of-Expr)) = 1 + depth i
depth (expr.Paren' u (more_of-Expr e end_of-Expr)) = 1 + depth e
depth (expr.One' op u (more_of-Expr e end_of-Expr)) = 1 + depth e
depth (expr.Two' op u (more_of-Expr a end_of-Expr) v (more_of-Expr b end_of-Expr)) = 1 + max (depth a) (depth b)

-- how deep an expression may be
abbrev pub deepest : ℕ
deepest = DEEPEST

-- how deep statements may nest, and the `if`s of an exit
abbrev pub most_nested : ℕ
most_nested = MOST_NESTED

-- every number in an expression fits a word
abbrev pub HasWords : Expr → Type 0
HasWords (expr.Number n at) = IsWord n
HasWords (expr.Read x) = Unit {0}
HasWords (expr.Index' x u (more_of-Expr i end_of-Expr)) = HasWords i
HasWords (expr.Paren' u (more_of-Expr e end_of-Expr)) = HasWords e
HasWords (expr.One' op u (more_of-Expr e end_of-Expr)) = HasWords e
HasWords (expr.Two' op u (more_of-Expr a end_of-Expr) v (more_of-Expr b end_of-Expr)) = HasWords a × HasWords b

-- an expression that some text has
abbrev pub IsReadableExpr : Expr → Type 0
IsReadableExpr e = (depth e ≤ deepest) × HasWords e

-- a target, whose index is an expression of its own
abbrev pub IsReadableTarget : Target → Type 0
IsReadableTarget (target.Scalar x) = Unit {0}
IsReadableTarget (target.Element x i) = IsReadableExpr i

-- an end of a copy
abbrev pub IsReadablePlace : Place → Type 0
IsReadablePlace (place.Bare x) = Unit {0}
IsReadablePlace (place.Scalar x) = Unit {0}
IsReadablePlace (place.Element x i) = IsReadableExpr i

-- what a pointer is set to: the address of a scalar or of an element
abbrev pub IsReadableAddress : Place → Type 0
IsReadableAddress (place.Bare x) = ⊥
IsReadableAddress (place.Scalar x) = Unit {0}
IsReadableAddress (place.Element x i) = IsReadableExpr i

-- an annotation, whose time fits a word
abbrev pub IsReadableAnn : Ann → Type 0
IsReadableAnn Single = Unit {0}
IsReadableAnn (Timely ticks) = IsWord ticks
IsReadableAnn Always = Unit {0}

abbrev mutual
  -- a statement at this nesting, which is 1 directly in the task
  pub IsReadableStmt : ℕ → Stmt → Type 0
  IsReadableStmt level (stmt.Assign x e) = (level ≤ most_nested) × IsReadableTarget x × IsReadableExpr e
  IsReadableStmt level (stmt.Point p to) = (level ≤ most_nested) × IsReadableAddress to
  IsReadableStmt level (stmt.If' c m yes_row n no_row) =
      (level ≤ most_nested) × IsReadableExpr c × AreReadableStmts (1 + level) yes_row × AreReadableStmts (1 + level) no_row
  IsReadableStmt level (stmt.For' i turns at m row word) = (level ≤ most_nested) × IsWord turns × AreReadableStmts (1 + level) row
  IsReadableStmt level (stmt.Io x p a args word) = (level ≤ most_nested) × ForSome x IsReadableTarget × IsReadableAnn a × AllByRecursion IsReadableExpr args
  IsReadableStmt level (stmt.Block' a m row word) = (level ≤ most_nested) × IsReadableAnn a × AreReadableStmts (1 + level) row
  IsReadableStmt level (stmt.Dma to from n word) = (level ≤ most_nested) × IsReadablePlace to × IsReadablePlace from × IsReadableExpr n

  -- the same of each statement of a row
  pub AreReadableStmts : ℕ → {n : _} → Row_of-Stmt n → Type 0
  AreReadableStmts level end_of-Stmt = Unit {0}
  AreReadableStmts level (more_of-Stmt s rest) = IsReadableStmt level s × AreReadableStmts level rest

-- an exit whose outermost `if` is the one of this number on its path
abbrev pub IsReadableExit : ℕ → Exit → Type 0
IsReadableExit level (exit.Next x) = Unit {0}
IsReadableExit level exit.Stop = Unit {0}
IsReadableExit level (exit.Choose' c u (more_of-Exit a end_of-Exit) v (more_of-Exit b end_of-Exit)) =
    (level ≤ most_nested) × IsReadableExpr c × IsReadableExit (1 + level) a × IsReadableExit (1 + level) b

-- a declaration
abbrev pub IsReadableDecl : Decl → Type 0
IsReadableDecl (decl.Words kind x size values) = IsNameToken x.text × ForSome size IsWord × AllByRecursion IsWord values
IsReadableDecl (decl.Pointer x) = IsNameToken x.text
IsReadableDecl (decl.Peripheral x number) = IsNameToken x.text × IsWord number

-- a task, its statements and its exit
pub record IsReadableTask (t : Task) : Type 0 where
  pub name : IsNameToken t.name.text
  pub body : AllByRecursion (IsReadableStmt 1) t.body
  pub exit : IsReadableExit 1 t.exit

-- A program that some text has: at least one task, and fewer than 2 ^ 32 parts.
pub record IsReadable (p : Program) : Type 0 where
  pub decls : AllByRecursion IsReadableDecl p.decls
  pub tasks : AllByRecursion IsReadableTask p.tasks
  pub some : 0 < length p.tasks
  pub size : program_size p < 2 ^ 32

-- what is said of a row is said of the statements that it shows
readable_row : (level : ℕ) (n : _) (row : Row_of-Stmt n) → AreReadableStmts level row ≡ AllByRecursion (IsReadableStmt level) (items-the_row-Stmt n row)
readable_row level n end_of-Stmt = refl
readable_row level n (more_of-Stmt s rest) = ap (λ t. IsReadableStmt level s × t) (readable_row level _ rest)

readable_body : (level : ℕ) (body : List Stmt) → AreReadableStmts level (row_of body).1 ≡ AllByRecursion (IsReadableStmt level) body
readable_body level body = readable_row level (row_of body).0 (row_of body).1 ∙ ap (AllByRecursion (IsReadableStmt level)) (row_shows body)

-- an `if` is readable where its condition and its two bodies are
pub readable_if : (level : ℕ) (c : Expr) (yes_part no_part : List Stmt) → IsReadableStmt level (stmt.If c yes_part no_part)
    ≡ ((level ≤ most_nested) × IsReadableExpr c × AllByRecursion (IsReadableStmt (1 + level)) yes_part × AllByRecursion (IsReadableStmt (1 + level)) no_part)
readable_if level c yes_part no_part =
    ap (λ t. (level ≤ most_nested) × IsReadableExpr c × t × AreReadableStmts (1 + level) (row_of no_part).1) (readable_body (1 + level) yes_part)
    ∙ ap (λ t. (level ≤ most_nested) × IsReadableExpr c × AllByRecursion (IsReadableStmt (1 + level)) yes_part × t) (readable_body (1 + level) no_part)

-- a loop is readable where its number of turns and its body are
pub readable_loop : (level : ℕ) (i : Name) (turns : ℕ) (at : Pos) (body : List Stmt) (word : Pos) → IsReadableStmt level (stmt.For i turns at body word)
    ≡ ((level ≤ most_nested) × IsWord turns × AllByRecursion (IsReadableStmt (1 + level)) body)
readable_loop level i turns at body word = ap (λ t. (level ≤ most_nested) × IsWord turns × t) (readable_body (1 + level) body)

-- a block is readable where its annotation and its body are
pub readable_block : (level : ℕ) (a : Ann) (body : List Stmt) (word : Pos) → IsReadableStmt level (stmt.Block a body word)
    ≡ ((level ≤ most_nested) × IsReadableAnn a × AllByRecursion (IsReadableStmt (1 + level)) body)
readable_block level a body word = ap (λ t. (level ≤ most_nested) × IsReadableAnn a × t) (readable_body (1 + level) body)
