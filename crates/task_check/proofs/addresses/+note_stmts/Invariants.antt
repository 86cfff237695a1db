use Rattle.std.proofs.Common.{◌≡◌, drop}
use Rattle.task_check.specs.CheckedForm.{core_body}
use Rattle.task_check.specs.Table.{held, meanings, with_addresses}
use Rattle.task_check.proofs.addresses.+note_stmts.Given as goal

abbrev pub invariant-note_body-loop-s : goal.invariant-note_body-loop-s
invariant-note_body-loop-s l =
    with_addresses (held l.initial.points) (core_body (meanings l.names) l.body)
    ≡ with_addresses (held l.points) (core_body (meanings l.names) (drop l.s-index l.body))
