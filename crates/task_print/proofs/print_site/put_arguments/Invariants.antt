-- What is put so far, with what is left to put, is the whole.
use Rattle.std.proofs.Common.{◌≡◌, ◌++◌, drop}
use Rattle.std.specs.List.{flat_map}
use Rattle.task_print.specs.Printed.{trailed, argument_tokens}
use Rattle.task_print.proofs.print_site.put_arguments.Given as goal

abbrev pub invariant-arguments : goal.invariant-arguments
invariant-arguments l = l.out ++ trailed (flat_map argument_tokens (drop l.e-index l.args)) ≡ l.initial.out ++ trailed (flat_map argument_tokens l.args)
