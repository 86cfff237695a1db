use Rattle.std.proofs.Common.{◌≡◌, ◌+◌, ◌-◌, ◌++◌, length, drop}
use Rattle.task_check.specs.CheckedForm.{core_body, turns_from}
use Rattle.task_check.specs.Numbering.{all_numbered}
use Rattle.task_check.specs.Sites.{body_sites, repeated}
use Rattle.task_check.specs.Table.{copied, meanings}
use Rattle.task_check.proofs.form_stmt.+form_stmts.Given as goal

abbrev pub invariant-form_body-loop-s : goal.invariant-form_body-loop-s
invariant-form_body-loop-s l = record {
  sites : l.initial.sites ++ body_sites (copied l.around) l.body ≡ l.sites ++ body_sites (copied l.around) (drop l.s-index l.body);
  forms : l.initial.done ++ all_numbered (length l.initial.sites + 1) (core_body (meanings l.around.names.now) l.body)
      ≡ l.done ++ all_numbered (length l.sites + 1) (core_body (meanings l.around.names.now) (drop l.s-index l.body));
}

abbrev pub invariant-form_stmt-loop-turn : goal.invariant-form_stmt-loop-turn
invariant-form_stmt-loop-turn l = record {
  sites : l.initial.sites ++ repeated l.turns (body_sites (copied l.around) l.body) ≡ l.sites ++ repeated (l.turns - l.turn) (body_sites (copied l.around) l.body);
  forms : l.initial.done ++ all_numbered (length l.initial.sites + 1) (turns_from l.variable 0 l.turns (core_body (meanings l.around.names.now) l.body))
      ≡ l.done ++ all_numbered (length l.sites + 1) (turns_from l.variable l.turn (l.turns - l.turn) (core_body (meanings l.around.names.now) l.body));
}
