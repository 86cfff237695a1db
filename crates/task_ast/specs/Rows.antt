-- The row that a body has inside a statement, for definitions by recursion on statements.
use Rattle.std.specs.Prelude.{◌≡◌, List}
use Rattle.task_ast.specs.declared.tree.Ann.TheVariants.{Single}
use Rattle.task_ast.specs.declared.tree.Stmt.{Stmt, Row_of-Stmt, end_of-Stmt, items-the_row-Stmt, items_hidden-the_row-Stmt-0}
use Rattle.task_ast.specs.declared.tree.Stmt.TheVariants.{Block, Block'}
use Rattle.task_ast.specs.declared.core_form.CoreStmt.{CoreStmt, Row_of-CoreStmt, end_of-CoreStmt, items-the_row-CoreStmt, items_hidden-the_row-CoreStmt-0}
use Rattle.task_ast.specs.declared.core_form.CoreStmt.TheVariants as core

-- the row of a block
abbrev block_row : Stmt → (n : _) × Row_of-Stmt n
block_row (Block' a m row word) = (_, row)
block_row _ = (_, end_of-Stmt)

-- the row that a body has inside a statement
abbrev pub row_of : List Stmt → (n : _) × Row_of-Stmt n
row_of body = block_row (Block Single body (record { line = 1; column = 1 }))

-- it shows the body
pub row_shows : (body : List Stmt) → items-the_row-Stmt (row_of body).0 (row_of body).1 ≡ body
row_shows body = items_hidden-the_row-Stmt-0 body

-- the row of a checked block
abbrev core_block_row : CoreStmt → (n : _) × Row_of-CoreStmt n
core_block_row (core.Block' site m row) = (_, row)
core_block_row _ = (_, end_of-CoreStmt)

-- the row that a checked body has inside a statement
abbrev pub core_row_of : List CoreStmt → (n : _) × Row_of-CoreStmt n
core_row_of body = core_block_row (core.Block 0 body)

-- it shows the body
pub core_row_shows : (body : List CoreStmt) → items-the_row-CoreStmt (core_row_of body).0 (core_row_of body).1 ≡ body
core_row_shows body = items_hidden-the_row-CoreStmt-0 body
