-- The line that an answer is written as.
use Rattle.std.specs.Prelude.{ℕ, List, ◌++◌, codes, decimal}
use Rattle.ease_base.specs.Lines.{line}
use Rattle.audit_laws.specs.Answers.{Answer, legal, illegal, no_report}

abbrev pub answer_text : Answer → List ℕ
answer_text legal = line (codes "legal")
answer_text (illegal n) = line (codes "illegal " ++ decimal n)
answer_text (no_report n) = line (codes "report line " ++ decimal n)
