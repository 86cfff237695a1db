-- The answer by how many first lines of a report are right.
use Rattle.std.specs.Prelude.{ℕ, suc, ◌<◌, ◌≤◌, ◌==◌, if◌then◌else◌, List, length}
use Rattle.task_ast.specs.declared.core_form.Core.{Core}
use Rattle.devices.specs.declared.world.World.{World}
use Rattle.report_text.specs.declared.line.ReportLine.{ReportLine}
use Rattle.audit_laws.specs.Answers.{IsFront, Answer, legal, illegal}

-- so many first lines are right, and so are fewer of them; more aren't
pub record Fronts (c : Core) (world : World) (lines : List ReportLine) (n : ℕ) : Type 0 where
  pub within : n ≤ length lines
  pub holds : (m : ℕ) → m ≤ n → IsFront c world lines m
  pub ends : (m : ℕ) → n < m → m ≤ length lines → IsFront c world lines m → ⊥

-- the answer where so many are right of so many
abbrev pub answer_by : (right all : ℕ) → Answer
answer_by right all = if right == all then legal else illegal (suc right)
