-- The answer that the result of an audit is.
use Rattle.std.specs.Prelude.{⊤, Option, Some, None, Result, Ok, Err}
use Rattle.audit_laws.specs.Answers.{Answer, no_report}
use Rattle.report_text.specs.declared.error.ReportError.{ReportError}
use Rattle.report_text.specs.declared.error.ReportError.TheVariants as report
use Rattle.audit_gather.specs.declared.answer.Verdict.{Verdict}
use Rattle.audit_gather.specs.Told.{answer_of}
use Rattle.audit_verdict.specs.declared.error.AuditError.{AuditError}
use Rattle.audit_verdict.specs.declared.error.AuditError.TheVariants as audit

-- an error as an answer, and a result; want of memory is none
abbrev pub refusal_in : AuditError → Option Answer
refusal_in (audit.Line n) = Some (no_report n)
refusal_in audit.NoMemory = None

abbrev pub answer_in : Result Verdict AuditError → Option Answer
answer_in (Ok v) = Some (answer_of v)
answer_in (Err e) = refusal_in e

-- bytes aren't refused
abbrev pub IsJudged : Result Verdict AuditError → Type 0
IsJudged (Ok v) = ⊤
IsJudged (Err (audit.Line n)) = ⊥
IsJudged (Err audit.NoMemory) = ⊤

-- why the lines of a report weren't read, told by the audit
abbrev pub unread : ReportError → AuditError
unread (report.Line n) = audit.Line n
unread report.NoMemory = audit.NoMemory
