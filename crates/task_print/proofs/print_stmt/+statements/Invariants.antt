-- What is put so far, with what is left to put, is the whole.
use Rattle.std.proofs.Common.{◌≡◌, ◌++◌, drop}
use Rattle.task_print.specs.Printed.{trailed, body_tokens}
use Rattle.task_print.proofs.print_stmt.+statements.Given as goal

abbrev pub invariant-put_body-body : goal.invariant-put_body-body
invariant-put_body-body l = l.out ++ trailed (body_tokens (drop l.s-index l.body)) ≡ l.initial.out ++ trailed (body_tokens l.body)
