-- Attempts that stopped leave the stores the program's.
use Rattle.std.proofs.Common.{ap}
use Rattle.audit_check.specs.Booted.{with_rest}
use Rattle.audit_check.proofs.AttemptCode.{boot_done, boot_stopped}
use Rattle.audit_check.proofs.walking.Walking.boot.Goals as goal

pub returns-in-Ok-clause-stores : goal.returns-in-Ok-clause-stores
returns-in-Ok-clause-stores c = boot_done c.args.tasks.now _ c.as_slice-self-inside.result.now c.args.self.now _ _ _ c.requires (ap (with_rest c.as_slice-self-inside.result.now) c.self.view_is) c.in-Ok.ensures

pub returns-in-Err-Parted-clause-stores : goal.returns-in-Err-Parted-clause-stores
returns-in-Err-Parted-clause-stores c =
    boot_stopped c.args.tasks.now _ c.as_slice-self-inside.result.now c.args.self.now _ _ _ c.requires (ap (with_rest c.as_slice-self-inside.result.now) c.self.view_is) c.in-Err-Parted.field-0-is c.in-Err-Parted.ensures
