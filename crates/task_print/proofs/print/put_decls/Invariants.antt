-- What is put so far, with what is left to put, is the whole.
use Rattle.std.proofs.Common.{◌≡◌, ◌++◌, drop}
use Rattle.std.specs.List.{flat_map}
use Rattle.task_print.specs.Printed.{trailed, decl_tokens}
use Rattle.task_print.proofs.print.put_decls.Given as goal

abbrev pub invariant-decls : goal.invariant-decls
invariant-decls l = l.out ++ trailed (flat_map decl_tokens (drop l.d-index l.decls)) ≡ l.initial.out ++ trailed (flat_map decl_tokens l.decls)
