-- What is put, with its end, is the printed text, which is read again.
use Rattle.std.proofs.Common.{◌≡◌, ◌∙◌, [], ◌++◌, ap}
use Rattle.std.proofs.lemmas.Result.{IfOk-weaker}
use Rattle.task_ast.specs.declared.tree.Program.{Program as Tree}
use Rattle.task_print.specs.Printed.{Puts, program_tokens, trailed, with_end, printed}
use Rattle.task_text.specs.Reads.{Reads}
use Rattle.task_print.specs.Unplaced.{unplaced}
use Rattle.task_print.proofs.PrintSteps.{printed_whole}
use Rattle.task_print.proofs.PrintedLaw.{read_printed}
use Rattle.task_print.proofs.print.print_program.Goals as goal

pub returns-clause-text : goal.returns-clause-text
returns-clause-text c =
    let p = c.args.p.now in
    let text = c.as_slice.result.now in
    let put : Puts [] (program_tokens p) text = c.as_slice.ensures ∙ c.in_ok-put_program.ensures ∙ ap (λ t. t ++ trailed (program_tokens p)) c.new-out.ensures in
    IfOk-weaker c.with_end.result (λ t. t ≡ with_end text) (λ t. t ≡ printed p) (λ t is. printed_whole p text t c.requires.read put is) c.with_end.ensures

pub returns-clause-again : goal.returns-clause-again
returns-clause-again c =
    let p = c.args.p.now in
    let text = c.as_slice.result.now in
    let put : Puts [] (program_tokens p) text = c.as_slice.ensures ∙ c.in_ok-put_program.ensures ∙ ap (λ t. t ++ trailed (program_tokens p)) c.new-out.ensures in
    IfOk-weaker c.with_end.result (λ t. t ≡ with_end text) (λ t. (q : Tree) × Reads t q × (unplaced q ≡ unplaced p))
    (λ t is. read_printed c.tokens_are_fair.ensures.fair c.spaced_tokens_divide.ensures p t c.requires.read (printed_whole p text t c.requires.read put is)) c.with_end.ensures
