-- What is known of the lines of a report before the answer is told, and what the answer is.
use Rattle.std.specs.Prelude.{◌≡◌, ◌≤◌, ℕ, false, List, length}
use Rattle.std.specs.List.{flat_map}
use Rattle.task_ast.specs.declared.core_form.Core.{Core}
use Rattle.devices.specs.declared.world.World.{World}
use Rattle.report_text.specs.declared.line.ReportLine.{ReportLine}
use Rattle.report_text.specs.Grammar.{AreLines, row}
use Rattle.audit_check.specs.declared.around.Around.{Around}
use Rattle.audit_check.specs.declared.journal.ReportBoot.{ReportBoot}
use Rattle.audit_check.specs.Allowed.{IsAllowed}
use Rattle.audit_check.specs.Booted.{journal_walked}
use Rattle.audit_check.specs.Ended.{end_fits}
use Rattle.audit_check.specs.Journal.{boots_of}
use Rattle.audit_check.specs.Lines.{Reaches, lines_of}
use Rattle.audit_laws.specs.Answers.{Answer, IsAnswer, IsAnswerOn}
use Rattle.audit_laws.specs.Gathered.{gathered, right_lines}
use Rattle.audit_laws.specs.Right.{AreAround}
use Rattle.audit_laws.specs.Verdict.{answer_by}
use Rattle.audit_gather.specs.declared.lines.Told.{Told}
use Rattle.audit_gather.specs.declared.answer.Verdict.{Verdict}
use Rattle.audit_gather.specs.Told.{answer_of}

-- they are the boots and the end that the lines tell
pub record IsTold (c : Core) (lines : List ReportLine) (told : Told) : Type 0 where
  pub boots : boots_of told.boots ≡ (gathered c false 1 lines).boots
  pub ending : told.ending ≡ (gathered c false 1 lines).ending

-- so many first lines of boots go along the rules, by what the tasks go by
pub record AreAlong (c : Core) (world : World) (boots : List ReportBoot) (n : ℕ) : Type 0 where
  pub tasks : List Around
  pub around : AreAround c tasks
  pub walked : n ≡ (journal_walked tasks c world.feeds boots).lines

-- boots are those that the lines tell, and so many of their lines are allowed
pub record AreAllowed (c : Core) (world : World) (lines : List ReportLine) (boots : List ReportBoot) (n : ℕ) : Type 0 where
  pub told : boots_of boots ≡ (gathered c false 1 lines).boots
  pub reach : Reaches (IsAllowed c world) (boots_of boots) n

-- so many lines are then right, those of the boots and perhaps that of the end
abbrev pub right_of : Core → World → List ReportLine → List ReportBoot → (allowed : ℕ) → ℕ
right_of c world lines boots n = right_lines n (lines_of (boots_of boots)) (gathered c false 1 lines).ending (λ e. end_fits world.power boots e.0 e.1)

-- By how many are right the answer is told, and no other; they are no more than there are.
pub record AreTelling (c : Core) (world : World) (lines : List ReportLine) (boots : List ReportBoot) (n : ℕ) : Type 0 where
  pub right : IsAnswer c world (flat_map row lines) (answer_by (right_of c world lines boots n) (length lines))
  pub only : (a : Answer) → IsAnswerOn c world lines a → a ≡ answer_by (right_of c world lines boots n) (length lines)
  pub within : right_of c world lines boots n ≤ length lines

-- what is answered on the report of lines, and nothing else
pub record IsVerdict (c : Core) (world : World) (lines : List ReportLine) (v : Verdict) : Type 0 where
  pub right : IsAnswer c world (flat_map row lines) (answer_of v)
  pub only : (a : Answer) → IsAnswerOn c world lines a → a ≡ answer_of v
