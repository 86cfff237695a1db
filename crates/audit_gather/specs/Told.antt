-- A verdict as an answer.
use Rattle.audit_laws.specs.Answers.{Answer, legal, illegal}
use Rattle.audit_gather.specs.declared.answer.Verdict.{Verdict}
use Rattle.audit_gather.specs.declared.answer.Verdict.TheVariants.{Legal, Illegal}

abbrev pub answer_of : Verdict → Answer
answer_of Legal = legal
answer_of (Illegal line) = illegal line
