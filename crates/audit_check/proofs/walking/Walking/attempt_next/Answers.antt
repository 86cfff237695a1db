-- The next task is there, or it isn't.
use Rattle.std.proofs.Common.{ap}
use Rattle.audit_check.specs.Walking.{Walking}
use Rattle.audit_check.proofs.AttemptCode.{stores_at, next_tried, next_missing}
use Rattle.audit_check.proofs.walking.Walking.attempt_next.Goals as goal

pub attempt-requires : goal.attempt-requires
attempt-requires c = stores_at c.args.tasks.now c.args.self.now _ _ c.requires c.in-Some.ensures

pub returns-in-Some : goal.returns-in-Some
returns-in-Some c =
    next_tried c.args.tasks.now c.args.self.now _ _ _ _ (ap (λ (w : Walking). w.next) c.self.view_is) c.in-Some.ensures c.attempt.ensures

pub returns-in-None : goal.returns-in-None
returns-in-None c = next_missing c.args.tasks.now c.args.self.now _ (ap (λ (w : Walking). w.next) c.self.view_is) c.in-None.ensures
