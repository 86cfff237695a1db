-- How exits, tasks and programs are read off the tokens.
use Rattle.std.specs.Prelude.{ℕ, zero, suc, ◌-◌, if◌then◌else◌, List, [], ◌∷◌, length, Err}
use Rattle.task_ast.specs.declared.tree.Expr.{Expr}
use Rattle.task_ast.specs.declared.tree.Stmt.{Stmt}
use Rattle.task_ast.specs.declared.tree.Exit.{Exit}
use Rattle.task_ast.specs.declared.tree.Exit.TheVariants as exit
use Rattle.task_ast.specs.declared.tree.Decl.{Decl}
use Rattle.task_ast.specs.declared.tree.Task.{Task}
use Rattle.task_ast.specs.declared.tree.Program.{Program}
use Rattle.task_ast.specs.Readable.{most_nested}
use Rattle.task_tokens.specs.declared.token.Keyword.TheVariants as keyword
use Rattle.task_tokens.specs.declared.token.Sign.TheVariants as sign
use Rattle.task_tokens.specs.declared.token.Token.{Token}
use Rattle.task_text.specs.declared.cursor.Opening.{Opening}
use Rattle.task_text.specs.declared.cursor.Opening.TheVariants as opening
use Rattle.task_text.specs.declared.task.Turn.{Turn}
use Rattle.task_text.specs.declared.task.Turn.TheVariants as turn
use Rattle.task_text.specs.declared.task.Body.{Body}
use Rattle.task_text.specs.Reading.{Outcome, Reader, chain, ◌▹◌, done, found, ◌>>=◌, is_empty, begins_sign, begins_reserved, begins_decl, next_opening, sign_at, reserved_at, name_at, many}
use Rattle.task_text.specs.ReadingDecl.{decl_at}
use Rattle.task_text.specs.ReadingStmt.{test_at, choice_of, stmt_at}

-- ---- exits

unfoldable pub next_at : Reader Exit
next_at ts = (reserved_at keyword.Next ▹ sign_at sign.ParenOpen ▹ chain name_at (λ x. sign_at sign.ParenClose ▹ sign_at sign.Semicolon ▹ done (exit.Next x))) ts

unfoldable pub stop_at : Reader Exit
stop_at ts = (reserved_at keyword.Stop ▹ sign_at sign.Semicolon ▹ done exit.Stop) ts

unfoldable pub leave_at : Reader Exit
leave_at ts = if begins_reserved keyword.Next ts then next_at ts else stop_at ts

-- the two exits of an `if`, behind its condition
unfoldable pub chosen_of : Reader Exit → Expr → Reader Exit
chosen_of inner c ts = chain inner (λ a. reserved_at keyword.Else ▹ chain inner (λ b. done (exit.Choose c a b))) ts

unfoldable pub choose_of : Reader Exit → Reader Exit
choose_of inner ts = chain test_at (chosen_of inner) ts

-- an exit, on whose paths so many `if`s may stand
unfoldable pub exit_at : ℕ → Reader Exit
exit_at zero ts = leave_at ts
exit_at (suc n) ts = if begins_reserved keyword.If ts then choose_of (exit_at n) ts else leave_at ts

-- ---- tasks

abbrev pub acting : Reader Stmt → Reader Turn
acting read ts = chain read (λ s. done (turn.Act s)) ts

abbrev pub leaving : Reader Exit → Reader Turn
leaving read ts = chain read (λ e. done (turn.Leave e)) ts

-- Behind the condition of an `if` in a task a brace makes it a statement; else it is the exit.
unfoldable pub branch_of : Expr → Reader Turn
branch_of c ts = if begins_sign sign.BraceOpen ts then acting (choice_of (stmt_at (most_nested - 1)) c) ts else leaving (chosen_of (exit_at (most_nested - 1)) c) ts

unfoldable pub choosing_at : Reader Turn
choosing_at ts = chain test_at branch_of ts

unfoldable pub acting_at : Reader Turn
acting_at ts = acting (stmt_at most_nested) ts

unfoldable pub leaving_at : Reader Turn
leaving_at ts = leaving leave_at ts

-- the next statement of a task, or its exit, by what begins
abbrev pub turn_of : Opening → Reader Turn
turn_of opening.If ts = choosing_at ts
turn_of opening.Nothing ts = leaving_at ts
turn_of opening.Assignment ts = acting_at ts
turn_of opening.Call ts = acting_at ts
turn_of opening.Copy ts = acting_at ts
turn_of opening.Block ts = acting_at ts
turn_of opening.Loop ts = acting_at ts

unfoldable pub turn_at : Reader Turn
turn_at ts = turn_of (next_opening ts) ts

-- what goes on behind such a turn
abbrev pub after_turn : (List Token → Outcome Body) → Turn → List Token → Outcome Body
after_turn later (turn.Act s) ts = later ts >>= λ b. found (record { stmts = s ∷ b.value.stmts; exit = b.value.exit }) b.rest
after_turn later (turn.Leave e) ts = found (record { stmts = []; exit = e }) ts

-- the statements of a task and its exit, in so many turns at most
unfoldable pub work_in : ℕ → List Token → Outcome Body
work_in zero ts = Err ts
work_in (suc n) ts = turn_at ts >>= λ t. after_turn (work_in n) t.value t.rest

abbrev pub work_at : Reader Body
work_at ts = work_in (length ts) ts

unfoldable pub task_at : Reader Task
task_at ts = (reserved_at keyword.Task ▹ chain name_at (λ x. sign_at sign.BraceOpen ▹ chain work_at (λ b. chain (sign_at sign.BraceClose) (λ close. done (record { name = x; body = b.stmts; exit = b.exit; close = close }))))) ts

-- ---- programs

abbrev pub decls_at : List Token → Outcome (List Decl)
decls_at ts = many (length ts) begins_decl decl_at ts

abbrev pub tasks_at : List Token → Outcome (List Task)
tasks_at ts = many (length ts) (begins_reserved keyword.Task) task_at ts

-- a program, if it has a task and no token is left
abbrev pub whole : Program → List Token → Outcome Program
whole p ts = if is_empty p.tasks then Err ts else (if is_empty ts then found p ts else Err ts)

unfoldable pub program_at : List Token → Outcome Program
program_at ts = decls_at ts >>= λ decls. tasks_at decls.rest >>= λ tasks. whole (record { decls = decls.value; tasks = tasks.value }) tasks.rest
