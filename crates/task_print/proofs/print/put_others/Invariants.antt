-- What is put so far, with what is left to put, is the whole.
use Rattle.std.proofs.Common.{◌≡◌, ◌++◌, drop}
use Rattle.std.specs.List.{flat_map}
use Rattle.task_print.specs.Printed.{trailed, next_tokens}
use Rattle.task_print.proofs.print.put_others.Given as goal

abbrev pub invariant-others : goal.invariant-others
invariant-others l = l.out ++ trailed (flat_map next_tokens (drop l.n-index l.others)) ≡ l.initial.out ++ trailed (flat_map next_tokens l.others)
