use Rattle.task_check_tests.proofs.SampleLemmas.{built_readable}
use Rattle.task_check_tests.proofs.tests.program.Goals as goal

pub returns : goal.returns
returns c =
    built_readable _ _ _ _ _ _ _ _ _ _ _ _ _ _ c.in_ok-name.ensures c.in_ok-name-4.ensures c.new-decls.ensures c.new-values.ensures c.in_ok-push.ensures.ok
    c.new-body.ensures c.in_ok-push-2.ensures.ok c.body-2.view_is c.new-tasks.ensures c.in_ok-push-3.ensures.ok
