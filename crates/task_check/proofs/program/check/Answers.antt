use Rattle.std.proofs.Common.{◌∙◌, refl, sym, subst}
use Rattle.std.specs.List.{AllByRecursion}
use Rattle.std.proofs.lemmas.Result.{err_from_is_err_and}
use Rattle.task_ast.specs.WellFormed.{IsWellFormed}
use Rattle.task_check.specs.Limits.{IsSmall}
use Rattle.task_check.specs.Table.{meanings}
use Rattle.task_check.proofs.ProgramLemmas.{table_is, tasks_refused, all_accepted, core_is}
use Rattle.task_check.proofs.WellFormed.{accepted_is_well_formed}
use Rattle.task_check.proofs.WellFormedCounts.{arrays_small}
use Rattle.task_check.proofs.program.check.Goals as goal

pub check_tasks-requires-clause-arrays : goal.check_tasks-requires-clause-arrays
check_tasks-requires-clause-arrays c = subst (AllByRecursion IsSmall) (sym (c.as_slice-2.ensures ∙ c.in_ok-arrays.ensures)) (arrays_small c.as_slice-decls.result.now c.in_ok-names.ensures.0)

pub returns-in_err-check_tasks-clause-refused : goal.returns-in_err-check_tasks-clause-refused
returns-in_err-check_tasks-clause-refused c =
    let p = err_from_is_err_and c.from_residual-in_err-check_tasks.result c.from_residual-in_err-check_tasks.ensures.1 in
    let names = table_is c.args.p.now _ _ _ (meanings c.declare_tasks.new.names) c.as_slice-decls.ensures c.as_slice.ensures c.in_ok-names.ensures.1.0 c.in_ok-declare_tasks.ensures in
    rw (p.1, p.2) (λ apart. tasks_refused c.args.p.now _ _ _ c.in_ok-arrays.arrays _ c.as_slice-decls.ensures c.as_slice-3.ensures names c.as_slice-2.ensures c.in_ok-arrays.ensures _ refl _ c.in_ok-names.ensures.0 (c.in_err-check_tasks.ensures apart))

pub returns-clause-accepted : goal.returns-clause-accepted
returns-clause-accepted c =
    let names = table_is c.args.p.now _ _ _ (meanings c.declare_tasks.new.names) c.as_slice-decls.ensures c.as_slice.ensures c.in_ok-names.ensures.1.0 c.in_ok-declare_tasks.ensures in (
      all_accepted c.args.p.now _ _ _ c.in_ok-arrays.arrays _ c.as_slice-decls.ensures c.as_slice-3.ensures names c.as_slice-2.ensures c.in_ok-arrays.ensures _ refl c.in_ok-names.ensures.0 c.in_ok-check_tasks.ensures.0,
      core_is c.args.p.now _ _ _ c.in_ok-arrays.arrays _ c.as_slice-decls.ensures c.as_slice-3.ensures names c.as_slice-2.ensures c.in_ok-arrays.ensures _ refl _ _ _ _ _ c.as_slice-4.ensures c.as_slice-5.ensures c.in_ok-tasks.ensures
          c.in_ok-pointers.ensures c.in_ok-peripherals.ensures,
    )

pub returns-clause-well_formed : goal.returns-clause-well_formed
returns-clause-well_formed c =
    let h = returns-clause-accepted c in
    subst IsWellFormed (sym h.1) (accepted_is_well_formed c.args.p.now c.requires.readable h.0)
