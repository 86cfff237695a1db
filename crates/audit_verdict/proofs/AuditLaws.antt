-- What the walk is given, and the only answer on bytes of which lines were read.
use Rattle.std.proofs.Common.{◌≡◌, ℕ, false, Option, Some, None, IfSome, List, slice_get, sym, subst}
use Rattle.task_ast.specs.declared.core_form.CoreTask.{CoreTask}
use Rattle.task_ast.specs.declared.core_form.Core.{Core}
use Rattle.devices.specs.declared.world.World.{World}
use Rattle.report_text.specs.declared.line.ReportLine.{ReportLine}
use Rattle.report_text.specs.Grammar.{IsRefused, IsReport}
use Rattle.audit_check.specs.declared.around.Around.{Around}
use Rattle.audit_check.specs.Fit.{AreTasksOf}
use Rattle.audit_laws.specs.Answers.{Answer, legal, illegal, no_report, IsAnswer, IsAnswerOn}
use Rattle.audit_laws.specs.Right.{IsAround, AreAround}
use Rattle.audit_gather.specs.declared.answer.Verdict.{Verdict}
use Rattle.audit_gather.specs.Told.{answer_of}
use Rattle.audit_verdict.specs.Judged.{IsVerdict}

-- what the walk goes by in a task is of the program, if it is there
of_one : (c : Core) (t : Option CoreTask) (a : Option Around) → IsAround c t a → IfSome a (λ a. a.core.now ≡ c)
of_one c None None is = tt
of_one c None (Some a) is = absurd is
of_one c (Some t) None is = tt
of_one c (Some t) (Some a) is = is.core

pub tasks_of : (c : Core) (tasks : List Around) → AreAround c tasks → AreTasksOf c tasks
tasks_of c tasks around n = of_one c (slice_get c.tasks n) (slice_get tasks n) (around n)

-- It is that on these lines, where they alone are read and no line is refused.
pub read_only : (c : Core) (world : World) (bytes : List ℕ) (read : List ReportLine) (v : Verdict) → IsVerdict c world read v
    → ((lines : List ReportLine) → IsReport bytes lines → read ≡ lines) → ((before : ℕ) → IsRefused false bytes before → ⊥)
    → (a : Answer) → IsAnswer c world bytes a → answer_of v ≡ a
read_only c world bytes read v verdict only told legal (lines, is, on) = sym (verdict.only legal (subst (λ lines. IsAnswerOn c world lines legal) (sym (only lines is)) on))
read_only c world bytes read v verdict only told (illegal n) (lines, is, on) =
    sym (verdict.only (illegal n) (subst (λ lines. IsAnswerOn c world lines (illegal n)) (sym (only lines is)) on))
read_only c world bytes read v verdict only told (no_report n) (before, at, refused) = absurd (told before refused)
