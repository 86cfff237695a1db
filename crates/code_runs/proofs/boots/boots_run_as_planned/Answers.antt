-- The head, and then what is restored and attempts.
use Rattle.code_runs.proofs.Booting.{plan_runs}
use Rattle.code_runs.proofs.boots.boots_run_as_planned.Goals as goal

pub returns : goal.returns
returns c = λ p place_of x well boots stops. plan_runs c.a_boot_finds_its_task.ensures c.same_fram_keeps_cells.ensures p place_of x well boots stops
