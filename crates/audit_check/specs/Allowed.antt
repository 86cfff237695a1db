-- When the boots of a journal, whole or cut short, are ones that the rules allow in a world.
use Rattle.std.specs.Prelude.{List}
use Rattle.task_ast.specs.declared.core_form.Core.{Core}
use Rattle.devices.specs.declared.world.World.{World}
use Rattle.devices.specs.Journal.{Boot}
use Rattle.task_attempts.specs.Boots.{rules_of}
use Rattle.task_attempts.specs.Sound.{IsLegal}
use Rattle.audit_check.specs.Journal.{journal_of}
use Rattle.audit_check.specs.Fits.{BootsFit}

-- Each boot has the events that the rules give for as many events and for the looks of these boots; each look has its time;
-- and the steps fit the world's power.
pub record IsAllowed (c : Core) (world : World) (boots : List Boot) : Type 0 where
  pub legal : IsLegal (rules_of c world) (journal_of boots)
  pub steps : BootsFit 0 world.power boots
