-- The tokens of a printed program are that program, up to places.
use Rattle.std.proofs.Common.{◌≡◌, ◌∙◌, ℕ, zero, suc, List, [], ◌++◌, length, refl, sym, ap, subst, arith}
use Rattle.std.specs.List.{flat_map}
use Rattle.std.proofs.lemmas.List.{length-map}
use Rattle.task_ast.specs.declared.tree.Expr.{Expr}
use Rattle.task_ast.specs.declared.tree.Exit.{Exit}
use Rattle.task_ast.specs.declared.tree.Exit.TheVariants as exit
use Rattle.task_ast.specs.declared.tree.Exit.TheBlock.{hidden-the_row-Exit-0, shape-the_row-Exit-0}
use denote.Hole.Carrier.{hidden}
use Rattle.task_ast.specs.declared.tree.Program.{Program}
use Rattle.task_ast.specs.Readable.{most_nested}
use Rattle.task_tokens.specs.declared.token.Keyword.TheVariants as keyword
use Rattle.task_tokens.specs.declared.token.Lexeme.{Lexeme}
use Rattle.task_tokens.specs.declared.token.Token.{Token}
use Rattle.task_tokens.specs.Spaced.{lexemes}
use Rattle.task_text.specs.declared.task.Body.{Body}
use Rattle.task_text.specs.Grammar.{IsLeave, IsExit, IsWork, IsTask, IsProgram}
use Rattle.task_print.specs.Printed.{word, parenthesized, expr_tokens, decl_tokens, body_tokens, exit_tokens, task_tokens, program_tokens}
use Rattle.task_print.specs.Unplaced.{somewhere, bare_expr, bare_body, bare_exit, bare_task, unplaced}
use Rattle.task_print.proofs.Fairs.{AreFair, fair_front, fair_back}
use Rattle.task_print.proofs.Lexemes.{parts_of}
use Rattle.task_print.proofs.Prints.{ArePrintable, both, IsPrinted, PrintsFrom, word-printed, mark-printed, named-printed, done-printed, then-printed, either-printed, rule-printed, all-printed}
use Rattle.task_print.proofs.PrintedDecls.{decl-printed}
use Rattle.task_print.proofs.PrintedStmts.{test-printed, stmt-printed}

-- ---- exits

choose-tokens : (c : Expr) (a b : Exit) → exit_tokens (exit.Choose c a b) ≡ word keyword.If ++ parenthesized (expr_tokens c) ++ exit_tokens a ++ word keyword.Else ++ exit_tokens b
unfolding hidden-the_row-Exit-0 shape-the_row-Exit-0 hidden
choose-tokens c a b = refl

bare-choose : (c : Expr) (a b : Exit) → bare_exit (exit.Choose c a b) ≡ exit.Choose (bare_expr c) (bare_exit a) (bare_exit b)
unfolding hidden-the_row-Exit-0 shape-the_row-Exit-0 hidden
bare-choose c a b = refl

leave-printed : PrintsFrom [] exit_tokens bare_exit IsLeave IsLeave
leave-printed =
    either-printed (then-printed word-printed (λ _ _ _. then-printed mark-printed (λ _ _ _. then-printed named-printed (λ x y d. then-printed mark-printed (λ _ _ _. then-printed mark-printed (λ _ _ _. done-printed (exit.Next x) (exit.Next y) refl (ap exit.Next d)))))))
    (then-printed word-printed (λ _ _ _. then-printed mark-printed (λ _ _ _. done-printed exit.Stop exit.Stop refl refl)))

exit-printed : (n : ℕ) → IsPrinted exit_tokens bare_exit (IsExit n) (IsExit n)
unfolding IsExit
exit-printed zero = rule-printed leave-printed
exit-printed (suc n) =
    let each = exit-printed n in
    rule-printed (either-printed (then-printed test-printed (λ c d e. then-printed each (λ a p h. then-printed word-printed (λ _ _ _. then-printed each (λ b q k. done-printed (exit.Choose c a b) (exit.Choose d p q) (choose-tokens c a b)
    (bare-choose d p q ∙ (λ i. exit.Choose (e i) (h i) (k i)) ∙ sym (bare-choose c a b))))))) leave-printed)

-- ---- tasks

abbrev work_tokens : Body → List Lexeme
work_tokens b = body_tokens b.stmts ++ exit_tokens b.exit

abbrev bare_work : Body → Body
bare_work b = record { stmts = bare_body b.stmts; exit = bare_exit b.exit }

work-printed : IsPrinted work_tokens bare_work IsWork IsWork
work-printed =
    rule-printed (then-printed (all-printed (stmt-printed most_nested)) (λ xs ys d. then-printed (exit-printed most_nested) (λ e f h. done-printed (record { stmts = xs; exit = e }) (record { stmts = ys; exit = f }) refl (λ i. record { stmts = d i; exit = h i }))))

task-printed : IsPrinted task_tokens bare_task IsTask IsTask
task-printed =
    rule-printed (then-printed word-printed (λ _ _ _. then-printed named-printed (λ x y d. then-printed mark-printed (λ _ _ _. then-printed work-printed (λ b c e. then-printed mark-printed (λ close shut _. done-printed _ _ refl
    (λ i. record { name = d i; body = (e i).stmts; exit = (e i).exit; close = somewhere })))))))

-- ---- programs

-- the tokens of a program that fair tokens have can be printed, and whatever tokens have them are the program again
pub record ProgramAgain (p : Program) : Type 0 where
  pub printable : ArePrintable (program_tokens p)
  pub again : (tokens : List Token) → lexemes tokens ≡ program_tokens p → (q : Program) × IsProgram q tokens × (unplaced q ≡ unplaced p)

pub program-again : (p : Program) (old : List Token) → IsProgram p old → AreFair old → ProgramAgain p
program-again p old was fair =
    let all = subst AreFair was.whole fair in
    let decls = (all-printed decl-printed).part p.decls was.front was.decls (fair_front was.front was.back all) in
    let tasks = (all-printed task-printed).part p.tasks was.back was.tasks (fair_back was.front was.back all) in
    record {
      printable = both (flat_map decl_tokens p.decls) (flat_map task_tokens p.tasks) decls.printable tasks.printable;
      again = λ tokens is.
          let a = parts_of tokens (flat_map decl_tokens p.decls) (flat_map task_tokens p.tasks) is in
          let ds = decls.again a.front a.firsts in
          let ts = tasks.again a.back a.others in (
            record { decls = ds.0; tasks = ts.0 },
            record { front = a.front; back = a.back; whole = a.whole; decls = ds.1; tasks = ts.1; some = omega (arith, was.some, length-map ts.0 bare_task, length-map p.tasks bare_task, ap length ts.2) },
            λ i. record { decls = ds.2 i; tasks = ts.2 i },
          );
    }
