-- What an audit asks of a journal beside a program and a world.
use Rattle.task_ast.specs.declared.core_form.Core.{Core}
use Rattle.devices.specs.Journal.{Journal}
use Rattle.devices.specs.declared.world.World.{World}
use Rattle.report_text.specs.Events.{style_of}
use Rattle.report_text.specs.Written.{IsJournal}
use Rattle.task_attempts.specs.Boots.{rules_of}
use Rattle.task_attempts.specs.Sound.{IsLegal}
use Rattle.audit_check.specs.Ended.{EndFits}
use Rattle.audit_check.specs.Fits.{BootsFit}
use Rattle.audit_laws.specs.Answers.{BootsAreNamed}

-- It can be written with the program's names; these are the names in its events; the rules allow it, with the clock's times; and its
-- steps and its end fit the world's power.
pub record IsRight (c : Core) (world : World) (j : Journal) : Type 0 where
  pub written : IsJournal (style_of c) j
  pub named : BootsAreNamed c j.boots
  pub legal : IsLegal (rules_of c world) j
  pub steps : BootsFit 0 world.power j.boots
  pub ends : EndFits world.power j.boots j.steps j.ending
